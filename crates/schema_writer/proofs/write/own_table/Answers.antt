use Rattle.std.proofs.Common.{sym, ◌∙◌}
use Rattle.arrow_types.specs.Schemas.{fields_in}
use Rattle.ipc_fields.specs.IpcFields.{ids_of, metadata_in}
use Rattle.arrow_spec.specs.Flat.{order_by}
use Rattle.schema_writer.proofs.Serializing.{not_said, made}
use Rattle.schema_writer.proofs.write.own_table.Goals as goal

pub returns-then-not-is_sayable-clause-gives : goal.returns-then-not-is_sayable-clause-gives
returns-then-not-is_sayable-clause-gives c = not_said (order_by c.args.is_little_endian) (fields_in c.args.schema.now) (ids_of c.args.ipc_fields.now) (metadata_in c.args.metadata) c.requires (sym c.is_sayable.ensures ∙ c.if-not-is_sayable.true)

pub returns-clause-gives : goal.returns-clause-gives
returns-clause-gives c = made (order_by c.args.is_little_endian) (fields_in c.args.schema.now) (ids_of c.args.ipc_fields.now) (metadata_in c.args.metadata) _ c.requires (sym c.is_sayable.ensures ∙ c.if-not-is_sayable.false) c.in_ok-schema_node.ensures.node
