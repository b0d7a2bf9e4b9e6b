use Rattle.ipc_messages.proofs.GivenFields.{ids_same}
use Rattle.ipc_messages.proofs.fields.are_same.Goals as goal

pub returns : goal.returns
returns c = ids_same c.eq.result c.args.a.now c.args.b.now c.eq.ensures
