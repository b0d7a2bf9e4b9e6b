use Rattle.std.proofs.Common.{◌≡◌, ℕ, List, Vec, Global, Err}
use Rattle.ipc_schema.specs.Views.{message_of}
use Rattle.ipc_files.proofs.BlockMessages.{header_of_metadata, header_without_metadata}
use Rattle.ipc_files.proofs.Errors.{is_err}
use Rattle.ipc_files.proofs.PlainRefusals.{plain_cause, record_plain}
use Rattle.ipc_files.proofs.block.read_block_header.Goals as goal

abbrev view : Vec ℕ Global → List ℕ
view v = v.items

pub returns-in_err-bytes-clause-header : goal.returns-in_err-bytes-clause-header
returns-in_err-bytes-clause-header g c =
    let e : c.from_residual.result ≡ Err c.in_err-bytes.field-0.0 = is_err _ _ _ c.from_residual.ensures.0 c.from_residual.ensures.1 (λ f h. h) in
    header_without_metadata (g.S.Source.content c.args.source.now) c.args.block.now view c.from_residual.result c.in_err-bytes.field-0.0 e c.in_err-bytes.ensures.metadata

pub returns-clause-header : goal.returns-clause-header
returns-clause-header g c = header_of_metadata (g.S.Source.content c.args.source.now) c.args.block.now view c.in_ok-bytes.bytes c.deref.result.now c.read_record_message.result c.in_ok-bytes.ensures.metadata c.deref.ensures.value c.read_record_message.ensures.gives

pub returns-clause-cause : goal.returns-clause-cause
returns-clause-cause g c = plain_cause message_of c.read_record_message.result _ _ _ (record_plain _) c.read_record_message.ensures.gives
