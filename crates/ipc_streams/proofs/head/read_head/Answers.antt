use Rattle.std.proofs.Common.{◌≡◌, Err}
use Rattle.schema_reader.specs.Messages.{message_in}
use Rattle.ipc_files.proofs.Errors.{is_err}
use Rattle.ipc_streams.proofs.HeadsRead.{head_given, head_refused}
use Rattle.ipc_streams.proofs.head.read_head.Goals as goal

pub returns-in_err-message : goal.returns-in_err-message
returns-in_err-message c =
    let e : c.from_residual.result ≡ Err c.in_err-message.field-0.0 = is_err _ _ _ c.from_residual.ensures.0 c.from_residual.ensures.1 (λ f h. h) in
    record { gives = head_refused c.args.bytes.now c.expected_in.result c.from_residual.result c.in_err-message.field-0.0 e c.expected_in.ensures c.in_err-message.ensures.message }

pub returns : goal.returns
returns c = record { gives = head_given c.args.bytes.now c.expected_in.result (message_in c.in_ok-message.message) c.expected_in.ensures c.in_ok-message.ensures.message }
