use Rattle.arrow_flat.specs.Nodes.{node_of}
use Rattle.arrow_types.specs.Schemas.{fields_in}
use Rattle.ipc_fields.specs.IpcFields.{ids_of, metadata_in}
use Rattle.arrow_spec.specs.Flat.{order_by}
use Rattle.std.proofs.Common.{◌≡◌, ℕ, ap, Err, Vec, Global}
use Rattle.ipc_fields.proofs.Steps.{is_err}
use Rattle.schema_writer.proofs.Serializing.{handed_on, refused_first, made_is, made_keeps, bytes_made, bytes_large}
use Rattle.schema_writer.proofs.write.bytes.Goals as goal

pub returns-in_err-header-clause-gives : goal.returns-in_err-header-clause-gives
returns-in_err-header-clause-gives c =
    let e : c.from_residual.result ≡ Err c.in_err-header.field-0.0 = is_err _ _ _ c.from_residual.ensures.0 c.from_residual.ensures.1 (λ f h. h) in
    handed_on (λ (v : Vec ℕ Global). v.items) c.from_residual.result _ c.in_err-header.field-0.0 e
    (refused_first (order_by c.args.is_little_endian) (fields_in c.args.schema.now) (ids_of c.args.ipc_fields.now) (metadata_in c.args.metadata) (metadata_in c.args.custom) c.in_err-header.field-0.0 c.in_err-header.ensures.gives)

pub message-requires : goal.message-requires
message-requires c = made_keeps (order_by c.args.is_little_endian) (fields_in c.args.schema.now) (ids_of c.args.ipc_fields.now) (metadata_in c.args.metadata) (node_of c.in_ok-header.header) (made_is (order_by c.args.is_little_endian) (fields_in c.args.schema.now) (ids_of c.args.ipc_fields.now) (metadata_in c.args.metadata) (node_of c.in_ok-header.header) c.in_ok-header.ensures.gives)

pub returns-in-Ok-clause-gives : goal.returns-in-Ok-clause-gives
returns-in-Ok-clause-gives c = bytes_made (order_by c.args.is_little_endian) (fields_in c.args.schema.now) (ids_of c.args.ipc_fields.now) (metadata_in c.args.metadata) (metadata_in c.args.custom) (node_of c.in_ok-header.header) _ c.in_ok-header.ensures.gives c.in-Ok.ensures.small c.in-Ok.ensures.bytes

pub returns-in-Err-TooLarge-clause-gives : goal.returns-in-Err-TooLarge-clause-gives
returns-in-Err-TooLarge-clause-gives c = bytes_large (order_by c.args.is_little_endian) (fields_in c.args.schema.now) (ids_of c.args.ipc_fields.now) (metadata_in c.args.metadata) (metadata_in c.args.custom) (node_of c.in_ok-header.header) c.in_ok-header.ensures.gives (c.in-Err-TooLarge.ensures.large (ap Err c.in-Err-TooLarge.field-0-is))
