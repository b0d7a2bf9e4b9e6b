use Rattle.ipc_write.specs.Records.{batch_of, fields_of}
use Rattle.ipc_write.proofs.SameRecords.{told_fields, told_batch}
use Rattle.ipc_write.proofs.record.RecordPartialEq.eq.Goals as goal

pub returns-then-eq-clause-eq : goal.returns-then-eq-clause-eq
returns-then-eq-clause-eq c =
    told_fields c.may_be_same_fields.result (batch_of c.args.self.now) (batch_of c.args.other.now) c.columns.result.now c.columns-2.result.now _ _ (fields_of c.args.self.now) (fields_of c.args.other.now) c.columns.ensures c.columns-2.ensures c.fields.ensures c.fields-then-eq.ensures
    (c.eq.ensures.same.0 c.if-eq.true) c.may_be_same_fields.ensures

pub returns-else-eq-clause-eq : goal.returns-else-eq-clause-eq
returns-else-eq-clause-eq c =
    told_batch c.eq.result (batch_of c.args.self.now) (batch_of c.args.other.now) c.columns.result.now c.columns-2.result.now (fields_of c.args.self.now) (fields_of c.args.other.now) c.columns.ensures c.columns-2.ensures c.if-eq.false c.eq.ensures.same
