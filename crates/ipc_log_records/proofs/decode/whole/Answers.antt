use Rattle.std.proofs.Common.{subst}
use Rattle.std.proofs.lemmas.Result.{IfOk-weaker}
use Rattle.arrow_spec.specs.Laws.{AreBytes}
use Rattle.ipc_log_records.proofs.Decoding.{whole_fields, whole_refused, whole_regular, whole_said}
use Rattle.ipc_log_records.proofs.decode.whole.Goals as goal

pub returns-clause-fields : goal.returns-clause-fields
returns-clause-fields c =
    let bytes = subst AreBytes c.deref.ensures.value c.are_bytes.ensures in
    IfOk-weaker c.read_whole.result _ _ (λ s w. whole_fields c.args.bytes.items s bytes w) c.read_whole.ensures.whole

pub returns-clause-is_regular : goal.returns-clause-is_regular
returns-clause-is_regular c =
    let bytes = subst AreBytes c.deref.ensures.value c.are_bytes.ensures in
    IfOk-weaker c.read_whole.result _ _ (λ s w. whole_regular c.args.bytes.items s bytes w) c.read_whole.ensures.whole

pub returns-clause-said : goal.returns-clause-said
returns-clause-said c =
    let bytes = subst AreBytes c.deref.ensures.value c.are_bytes.ensures in
    IfOk-weaker c.read_whole.result _ _ (λ s w. whole_said c.args.bytes.items s bytes w) c.read_whole.ensures.whole

pub returns-clause-err : goal.returns-clause-err
returns-clause-err c = whole_refused _ _ c.read_whole.result c.args.bytes.items c.read_whole.ensures.refused c.read_whole.ensures.cause
