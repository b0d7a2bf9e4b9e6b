-- What a schema message says, part by part.
use Rattle.std.proofs.Common.{◌≡◌, ◌∙◌, ℕ, List, true, Result, Ok, Err, sym, subst}
use Rattle.std.specs.Prelude.{Bool, nat_eq}
use Rattle.std.specs.Rc.{rc_value}
use Rattle.arrow_spec.specs.declared.error.IpcError.{IpcError}
use Rattle.arrow_spec.specs.declared.message.MetadataVersion.{MetadataVersion}
use Rattle.arrow_spec.specs.Flat.{Table}
use Rattle.arrow_spec.specs.Kinds.{Metadata}
use Rattle.arrow_spec.specs.Laws.{AreBytes}
use Rattle.arrow_spec.specs.Messages.{Message, message_of, message_pairs, version_of}
use Rattle.arrow_spec.specs.Readings.{Reading, bind, refusals}
use Rattle.arrow_spec.specs.Schema.{Schema, schema_of}
use Rattle.arrow_spec.specs.Streams.{stream_head}
use Rattle.arrow_spec.specs.WrittenSchemas.{CustomMayBeWritten}
use Rattle.arrow_spec.proofs.Projection.{on}
use Rattle.arrow_spec.proofs.ReadSchemas.{read_may}
use Rattle.arrow_types.specs.Schemas.{Keyed, fields_in}
use Rattle.ipc_fields.specs.Causes.{Decodes, RefusesBytes}
use Rattle.ipc_fields.specs.IpcFields.{have_shapes, ids_of, metadata_of, schema_view}
use Rattle.ipc_files.proofs.BlockMessages.{bind_ok, bind_twice}
use Rattle.ipc_files.proofs.ReadColumns.{fields_column}
use Rattle.schema_reader.specs.Messages.{version_at}
use Rattle.ipc_streams.specs.Starts.{IsReadable, MayBeWritten, Start, head_in, head_view}
use Rattle.ipc_streams.specs.declared.metadata.Beginning.{Beginning}
use Rattle.ipc_streams.specs.declared.metadata.StreamMetadata.{StreamMetadata}
use Rattle.ipc_streams.proofs.Handed.{bytes_first}

abbrev is_schema : ℕ → Bool
is_schema tag = nat_eq tag 1

abbrev said : Message → MetadataVersion → Metadata → Schema → MetadataVersion → Reading (Start × ℕ)
said m version custom schema again = Ok (record { schema = schema; custom = custom; version = again }, m.body)

head_by : (b : List ℕ) → head_in b ≡ bind (message_of b is_schema) (λ m. bind (version_of b m) (λ version. bind (message_pairs b) (λ custom. bind (schema_of b m.header) (λ schema. bind (version_of b m) (λ again. said m version custom schema again)))))
unfolding head_in stream_head
head_by b = simp (bind_twice, bind_ok)

module _ (b : List ℕ) (r : Result Beginning IpcError) (e : IpcError) (is : r ≡ Err e) where
  handed : RefusesBytes e (refusals (head_in b)) → Decodes head_view r (head_in b)
  handed h = subst (λ q. Decodes head_view q (head_in b)) (sym is) h

  pub no_message : RefusesBytes e (refusals (message_of b is_schema)) → Decodes head_view r (head_in b)
  no_message h = handed (subst (λ w. RefusesBytes e (refusals w)) (sym (head_by b)) (bytes_first e (message_of b is_schema) _ h))

  pub no_version : (m : Message) → message_of b is_schema ≡ Ok m → RefusesBytes e (refusals (version_at b m.table)) → Decodes head_view r (head_in b)
  unfolding version_of
  no_version m found h = handed (subst (λ w. RefusesBytes e (refusals w)) (sym (head_by b ∙ on (message_of b is_schema) _ m found)) (bytes_first e (version_at b m.table) _ h))

  pub no_pairs : (m : Message) (v : MetadataVersion) → message_of b is_schema ≡ Ok m → version_at b m.table ≡ Ok v → RefusesBytes e (refusals (message_pairs b)) → Decodes head_view r (head_in b)
  unfolding version_of
  no_pairs m v found version h = handed (subst (λ w. RefusesBytes e (refusals w)) (sym (head_by b ∙ on (message_of b is_schema) _ m found ∙ on (version_at b m.table) _ v version)) (bytes_first e (message_pairs b) _ h))

  pub no_schema : (m : Message) (v : MetadataVersion) (custom : Metadata) → message_of b is_schema ≡ Ok m → version_at b m.table ≡ Ok v → message_pairs b ≡ Ok custom → RefusesBytes e (refusals (schema_of b m.header)) → Decodes head_view r (head_in b)
  unfolding version_of
  no_schema m v custom found version pairs h =
      handed (subst (λ w. RefusesBytes e (refusals w)) (sym (head_by b ∙ on (message_of b is_schema) _ m found ∙ on (version_at b m.table) _ v version ∙ on (message_pairs b) _ custom pairs)) (bytes_first e (schema_of b m.header) _ h))

pub head_said : (b : List ℕ) (m : Message) (v : MetadataVersion) (custom : Metadata) (schema : Schema) → message_of b is_schema ≡ Ok m → version_at b m.table ≡ Ok v → message_pairs b ≡ Ok custom → schema_of b m.header ≡ Ok schema → head_in b ≡ Ok (record { schema = schema; custom = custom; version = v }, m.body)
unfolding version_of
head_said b m v custom schema found version pairs read =
    head_by b ∙ on (message_of b is_schema) _ m found ∙ on (version_at b m.table) _ v version ∙ on (message_pairs b) _ custom pairs ∙ on (schema_of b m.header) _ schema read ∙ on (version_at b m.table) _ v version

-- a schema that was read may be read by
pub readable_read : (m : StreamMetadata) (k : List Keyed) (b : List ℕ) (t : Table) → AreBytes b → rc_value m.schema ≡ k → have_shapes (fields_in k) (ids_of m.ipc_schema.fields.items) ≡ true → schema_of b t ≡ Ok (schema_view (k, m.ipc_schema, m.custom_schema_metadata)) → IsReadable m
readable_read m k b t bytes is shapes read =
    let may = read_may b t (schema_view (k, m.ipc_schema, m.custom_schema_metadata)) bytes read in
    rw is (record { shapes = shapes; columns = fields_column 64 (schema_view (k, m.ipc_schema, m.custom_schema_metadata)).fields may.0.fit; agree = may.1.agree })

-- and may be written
pub written_read : (m : StreamMetadata) (k : List Keyed) (b : List ℕ) (t : Table) → AreBytes b → rc_value m.schema ≡ k → schema_of b t ≡ Ok (schema_view (k, m.ipc_schema, m.custom_schema_metadata)) → CustomMayBeWritten (metadata_of m.custom_metadata) → MayBeWritten m
written_read m k b t bytes is read custom =
    let may = read_may b t (schema_view (k, m.ipc_schema, m.custom_schema_metadata)) bytes read in
    rw is (record { schema = may.0; ids = may.1; custom = custom })
