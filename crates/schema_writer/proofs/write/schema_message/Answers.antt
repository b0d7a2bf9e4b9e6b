use Rattle.std.proofs.Common.{subst}
use Rattle.arrow_spec.specs.Flat.{order_by}
use Rattle.arrow_spec.specs.Readings.{Gives}
use Rattle.arrow_types.specs.Schemas.{fields_in}
use Rattle.ipc_fields.specs.IpcFields.{ids_of, metadata_in}
use Rattle.schema_writer.specs.Serialized.{written}
use Rattle.schema_writer.proofs.RoundTrip.{given_back}
use Rattle.schema_writer.proofs.write.schema_message.Goals as goal

pub returns-clause-read_back : goal.returns-clause-read_back
returns-clause-read_back c =
    let order = order_by c.args.ipc_schema.now.is_little_endian in
    let fs = fields_in c.args.schema.now in
    let pairs = metadata_in c.args.custom_schema_metadata in
    let custom = metadata_in c.args.custom_metadata in
    given_back order fs (ids_of c.args.ipc_schema.now.fields.items) pairs custom c.bytes.result
    (subst (λ xs. Gives (λ v. v.items) c.bytes.result (written order fs (ids_of xs) pairs custom)) c.as_slice-fields.ensures.value c.bytes.ensures.gives) c.bytes.ensures.texts
