use Rattle.ipc_fields.specs.IpcFields.{ids_of}
use Rattle.ipc_fields.specs.IpcFieldCode.{schema_tree_told}
use Rattle.ipc_fields.proofs.ipc_field.IpcSchemaPartialEq.eq.Goals as goal

pub returns-clause-eq : goal.returns-clause-eq
returns-clause-eq c = schema_tree_told c.is_same_schema.result (ids_of c.args.self.now.fields.items) (ids_of c.args.other.now.fields.items) c.args.self.now.is_little_endian c.args.other.now.is_little_endian c.is_same_schema.ensures
