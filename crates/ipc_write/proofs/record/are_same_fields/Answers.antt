use Rattle.ipc_write.proofs.SameRecords.{fields_same}
use Rattle.ipc_write.proofs.record.are_same_fields.Goals as goal

pub returns : goal.returns
returns c = fields_same c.eq.result c.args.a.now c.args.b.now c.eq.ensures
