use Rattle.std.proofs.Common.{◌∙◌, ap, length, sym, subst}
use Rattle.ipc_log_records.specs.LogSchemas.{log_fields}
use Rattle.ipc_log_records.proofs.Writing.{handed}
use Rattle.ipc_record_log.proofs.ReadOn.{reads_on}
use Rattle.ipc_tablelog.specs.Opened.{AreOnes, IsFirst}
use Rattle.ipc_tablelog.proofs.Opening.{refused_behind, same_on}
use Rattle.ipc_tablelog.proofs.open.schema_in.Goals as goal

pub returns-in_err-schema-clause-err : goal.returns-in_err-schema-clause-err
returns-in_err-schema-clause-err g c = handed _ c.from_residual.result c.in_err-schema.field-0.0 c.from_residual.ensures.1 c.in_err-schema.ensures.err

pub check_records-requires-clause-ready : goal.check_records-requires-clause-ready
check_records-requires-clause-ready g c = c.in_ok-schema.ensures.same.2 ∙ c.requires.ready

pub check_records-requires-clause-first : goal.check_records-requires-clause-first
check_records-requires-clause-first g c = subst (λ o. IsFirst o (log_fields c.in_ok-schema.schema)) (sym c.in_ok-schema.ensures.kept.content) c.in_ok-schema.ensures.first

pub returns-in_err-check_records-clause-kept : goal.returns-in_err-check_records-clause-kept
returns-in_err-check_records-clause-kept g c = reads_on c.in_ok-schema.ensures.kept c.check_records.ensures.kept

pub returns-in_err-check_records-clause-err : goal.returns-in_err-check_records-clause-err
returns-in_err-check_records-clause-err g c =
    let k = c.in_ok-schema.ensures.kept in
    handed _ c.from_residual-in_err-check_records.result c.in_err-check_records.field-0.0 c.from_residual-in_err-check_records.ensures.1 (refused_behind c.in_err-check_records.field-0.0 _ _ _ _ _ k.content k.faults c.in_err-check_records.ensures.err)

pub returns-clause-ones : goal.returns-clause-ones
returns-clause-ones g c =
    let s = c.in_ok-schema.schema in
    let k = c.in_ok-schema.ensures in
    subst (λ n. AreOnes (g.D.LogDisk.content c.args.log.now.disk) (log_fields s) n) (ap length k.same.0)
    (subst (λ o. AreOnes o (log_fields s) (length c.first_schema.new.log.spans.items)) k.kept.content c.in_ok-check_records.ensures.ones)

pub returns-clause-kept : goal.returns-clause-kept
returns-clause-kept g c = reads_on c.in_ok-schema.ensures.kept c.check_records.ensures.kept

pub returns-in_err-check_records-clause-same : goal.returns-in_err-check_records-clause-same
returns-in_err-check_records-clause-same g c =
    same_on c.check_records.ensures.same c.in_ok-schema.ensures.same

pub returns-clause-same : goal.returns-clause-same
returns-clause-same g c =
    same_on c.check_records.ensures.same c.in_ok-schema.ensures.same
