use Rattle.std.proofs.Common.{[], ◌∷◌, List, ℕ, inl, inr, Some, refl, sym, subst, true, false, ◌≡◌, ◌∙◌}
use Rattle.arrow_spec.specs.Regular.{regular}
use Rattle.arrow_types.specs.Schemas.{fields_in}
use Rattle.ipc_log_disk.specs.Below.{IsOfDisk}
use Rattle.ipc_log_records.specs.Below.{cells_of}
use Rattle.laws_logs.specs.Tables.{IsRecordOf}
use Rattle.ipc_log_records.specs.LogSchemas.{log_fields}
use Rattle.ipc_log_records.proofs.Writing.{handed}
use Rattle.ipc_tablelog.proofs.Logs.{acknowledged, append_causes, crashed, on_ok, untouched}
use Rattle.ipc_tablelog.proofs.table_log.TableLog.append.Goals as goal

pub returns-in_err-bytes-clause-any_moment : goal.returns-in_err-bytes-clause-any_moment
returns-in_err-bytes-clause-any_moment g c = λ ready x t h since.
    let l = c.args.self.now.log in
    untouched (g.D.LogDisk.content l.disk) (g.D.LogDisk.images l.disk) c.args.self.now.schema t l.spans.items l.end x (cells_of c.args.batch.now) h (λ b told. l.ready ready b told) (g.met.D.LogDisk.only_now l.disk x since)

pub returns-in_err-bytes-clause-err : goal.returns-in_err-bytes-clause-err
returns-in_err-bytes-clause-err g c =
    let sound : c.args.self.now.log.is_failed ≡ false = sym c.is_failed.ensures ∙ c.if-is_failed.false in
    handed _ c.from_residual.result c.in_err-bytes.field-0.0 c.from_residual.ensures.1 (inl (inr (sound, c.in_err-bytes.ensures.err), refl, refl, refl, refl))

pub returns-clause-acknowledged : goal.returns-clause-acknowledged
returns-clause-acknowledged g c =
    let d = g.D.LogDisk in
    let l = c.args.self.now.log in
    let s = c.args.self.now.schema in
    let x = cells_of c.args.batch.now in
    let r = subst (λ (b : List ℕ). regular (fields_in s) [] ≡ true → IsRecordOf (log_fields s) (x ∷ []) b) (sym c.deref.ensures.value) c.in_ok-bytes.ensures.is_record in
    on_ok c.append.result _ _ (λ holds t h. acknowledged (d.content l.disk) (d.content c.append.new.self.disk) (d.images c.append.new.self.disk) s t c.deref.result.now x h r holds) c.append.ensures.acknowledged

pub returns-clause-any_moment : goal.returns-clause-any_moment
returns-clause-any_moment g c = λ ready y t h since.
    let d = g.D.LogDisk in
    let l = c.args.self.now.log in
    let s = c.args.self.now.schema in
    let x = cells_of c.args.batch.now in
    let r = subst (λ (b : List ℕ). regular (fields_in s) [] ≡ true → IsRecordOf (log_fields s) (x ∷ []) b) (sym c.deref.ensures.value) c.in_ok-bytes.ensures.is_record in
    crashed (d.content l.disk) s t c.deref.result.now y x h r (λ b told. c.append.ensures.any_moment ready b y told since)

pub returns-clause-err : goal.returns-clause-err
returns-clause-err g c =
    let d = g.D.LogDisk in
    let l = c.args.self.now.log in
    let n = c.append.new.self in
    append_causes c.append.result c.args.self.now.schema (Some c.args.batch.now) l.is_failed n.is_failed l.disk n.disk l.spans.items n.spans.items l.end n.end (λ e. IsOfDisk e (d.faults l.disk) (d.faults n.disk) (d.wants l.disk) (d.wants n.disk)) c.append.ensures.err (sym c.is_failed.ensures ∙ c.if-is_failed.false)
