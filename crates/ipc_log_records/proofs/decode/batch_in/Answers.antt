use Rattle.std.proofs.Common.{◌≡◌, List, subst}
use Rattle.std.proofs.lemmas.Result.{IfOk-weaker}
use Rattle.arrow_types.specs.Schemas.{Keyed, fields_in}
use Rattle.ipc_read_laws.specs.PlainKinds.{plain_fields}
use Rattle.ipc_log_records.proofs.Decoding.{none_one, not_one, one_kinds, one_read}
use Rattle.ipc_log_records.proofs.Writing.{handed, if_err}
use Rattle.ipc_log_records.proofs.decode.batch_in.Goals as goal

pub returns-in_err-stream-clause-err : goal.returns-in_err-stream-clause-err
returns-in_err-stream-clause-err c = handed _ c.from_residual.result c.in_err-stream.field-0.0 c.from_residual.ensures.1 (not_one c.in_err-stream.field-0.0 c.args.bytes.items c.in_err-stream.ensures.err)

pub returns-clause-batch : goal.returns-clause-batch
returns-clause-batch c =
    IfOk-weaker c.last_of.result _ _ (λ x l fields y r. one_read c.args.bytes.items c.in_ok-stream.stream l.0 x fields y c.in_ok-stream.ensures.whole l.1 r) c.last_of.ensures.last

pub returns-clause-err : goal.returns-clause-err
returns-clause-err c = if_err c.last_of.result _ _ (λ e h. none_one e c.args.bytes.items c.in_ok-stream.stream c.in_ok-stream.ensures.whole h) c.last_of.ensures.none

pub returns-clause-kinds : goal.returns-clause-kinds
returns-clause-kinds c =
    let s = c.in_ok-stream.stream in
    let plain = subst (λ (k : List Keyed). plain_fields (fields_in k) ≡ fields_in k) c.deref.ensures c.types_have_no_ids.ensures in
    IfOk-weaker c.last_of.result _ _ (λ x l fields y k r others log. one_kinds c.args.bytes.items s l.0 x fields y k c.in_ok-stream.ensures.whole c.in_ok-stream.ensures.fields l.1 r plain others log) c.last_of.ensures.last
