use Rattle.arrow_types.specs.Schemas.{fields_in}
use Rattle.ipc_fields.specs.IpcFields.{ids_of, metadata_in}
use Rattle.arrow_spec.specs.Flat.{little}
use Rattle.schema_writer.proofs.Serializing.{given_table, given_keeps}
use Rattle.schema_writer.proofs.write.serialize_schema.Goals as goal

pub returns-clause-root : goal.returns-clause-root
returns-clause-root c = given_table little (fields_in c.args.schema.now) (ids_of c.args.ipc_fields.now) (metadata_in c.args.custom_metadata) c.table.result c.table.ensures.gives

pub returns-clause-slot_limit : goal.returns-clause-slot_limit
returns-clause-slot_limit c = given_keeps little (fields_in c.args.schema.now) (ids_of c.args.ipc_fields.now) (metadata_in c.args.custom_metadata) c.table.result c.table.ensures.gives
