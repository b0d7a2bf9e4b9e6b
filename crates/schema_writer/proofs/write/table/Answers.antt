use Rattle.std.proofs.Common.{sym, ◌∙◌, false}
use Rattle.arrow_types.specs.Schemas.{fields_in}
use Rattle.ipc_fields.specs.IpcFields.{ids_of, metadata_in}
use Rattle.arrow_spec.specs.Flat.{order_by}
use Rattle.schema_writer.proofs.Serializing.{not_own, not_shaped, shaped}
use Rattle.schema_writer.proofs.write.table.Goals as goal

pub returns-then-not-have_shapes-clause-gives : goal.returns-then-not-have_shapes-clause-gives
returns-then-not-have_shapes-clause-gives c = not_own (order_by c.args.is_little_endian) (fields_in c.args.schema.now) (ids_of c.args.ipc_fields.now) (metadata_in c.args.metadata) (not_shaped (fields_in c.args.schema.now) (ids_of c.args.ipc_fields.now) (sym c.have_shapes.ensures ∙ c.if-not-have_shapes.true))

pub returns-then-not-agree-clause-gives : goal.returns-then-not-agree-clause-gives
returns-then-not-agree-clause-gives c = not_own (order_by c.args.is_little_endian) (fields_in c.args.schema.now) (ids_of c.args.ipc_fields.now) (metadata_in c.args.metadata) (shaped (fields_in c.args.schema.now) (ids_of c.args.ipc_fields.now) false (sym c.have_shapes.ensures ∙ c.if-not-have_shapes.false) (sym c.if-not-agree.true ∙ c.in_ok-agree.ensures))
