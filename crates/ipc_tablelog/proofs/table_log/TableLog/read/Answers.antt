use Rattle.std.proofs.Common.{◌≡◌, ◌∙◌, false, inl, inr, List, sym, subst}
use Rattle.arrow_types.specs.Schemas.{Keyed, fields_in}
use Rattle.ipc_log_records.specs.Below.{is_of}
use Rattle.ipc_log_records.specs.Below.{cells_of}
use Rattle.ipc_log_records.specs.Below.{plain_fields}
use Rattle.ipc_log_records.proofs.Writing.{handed}
use Rattle.ipc_tablelog.proofs.Logs.{batch_not_read, batch_read, bytes_not_read, not_suited, other_kinds, suited}
use Rattle.ipc_tablelog.proofs.table_log.TableLog.read.Goals as goal

pub returns-in_err-bytes-clause-err : goal.returns-in_err-bytes-clause-err
returns-in_err-bytes-clause-err g c =
    let l = c.args.self.now.log in
    handed _ c.from_residual.result c.in_err-bytes.field-0.0 c.from_residual.ensures.1 (bytes_not_read c.in_err-bytes.field-0.0 l.is_failed (g.D.LogDisk.content l.disk) c.args.self.now.schema _ _ c.in_err-bytes.ensures.err)

pub returns-in_err-batch-clause-err : goal.returns-in_err-batch-clause-err
returns-in_err-batch-clause-err g c =
    let l = c.args.self.now.log in
    handed _ c.from_residual-in_err-batch.result c.in_err-batch.field-0.0 c.from_residual-in_err-batch.ensures.1
    (batch_not_read c.in_err-batch.field-0.0 l.is_failed (g.D.LogDisk.content l.disk) c.args.self.now.schema _ _ c.args.i c.in_ok-bytes.bytes.items c.in_ok-bytes.ensures.bytes c.in_err-batch.ensures.err)

pub returns-then-not-is_of_schema-clause-err : goal.returns-then-not-is_of_schema-clause-err
returns-then-not-is_of_schema-clause-err g c =
    let l = c.args.self.now.log in
    let s = c.args.self.now.schema in
    let x = c.in_ok-batch.batch in
    inr (inr (inr (
      tt,
      other_kinds (g.D.LogDisk.content l.disk) s c.args.i c.in_ok-bytes.bytes.items (is_of (fields_in s) x) (not_suited s _ x c.is_of_schema.ensures c.if-not-is_of_schema.true) c.in_ok-bytes.ensures.bytes
          (λ fields y r log. c.in_ok-batch.ensures.kinds fields y s r c.types_have_no_ids.ensures log),
    )))

pub returns-clause-batch : goal.returns-clause-batch
returns-clause-batch g c = λ t h.
    let l = c.args.self.now.log in
    batch_read (g.D.LogDisk.content l.disk) c.args.self.now.schema t c.args.i c.in_ok-bytes.bytes.items (cells_of c.in_ok-batch.batch) h c.in_ok-bytes.ensures.bytes c.in_ok-batch.ensures.batch

pub returns-clause-kinds : goal.returns-clause-kinds
returns-clause-kinds g c = suited c.args.self.now.schema _ c.in_ok-batch.batch c.is_of_schema.ensures c.if-not-is_of_schema.false
