use Rattle.ipc_fields.specs.IpcFields.{tree_of}
use Rattle.ipc_fields.specs.IpcFieldCode.{tree_eq_told}
use Rattle.ipc_fields.proofs.ipc_field.IpcFieldPartialEq.eq.Goals as goal

pub returns-clause-eq : goal.returns-clause-eq
returns-clause-eq c = tree_eq_told c.is_same_field.result (tree_of c.args.self.now) (tree_of c.args.other.now) c.is_same_field.ensures
