-- What the schema message of a stream says. (Arrow Columnar Format, "IPC Streaming Format", "Schema message".)
use Rattle.std.specs.Prelude.{◌≡◌, ℕ, List, [], drop, true, ⊤, Option, Some, None, Result, Ok, Err, ℤ}
use Rattle.std.specs.Rc.{rc_value}
use Rattle.arrow_spec.specs.declared.error.IpcError.{IpcError}
use Rattle.arrow_spec.specs.declared.message.MetadataVersion.{MetadataVersion}
use Rattle.arrow_spec.specs.Kinds.{Metadata, uses_in}
use Rattle.arrow_spec.specs.Messages.{version_of}
use Rattle.arrow_spec.specs.Readings.{◌>>=◌, Reading, Refuses, refusals}
use Rattle.arrow_spec.specs.Schema.{Schema, uses_agree}
use Rattle.arrow_spec.specs.Streams.{body_in, first_message, next_message, stream_head}
use Rattle.arrow_spec.specs.WrittenSchemas.{CustomMayBeWritten, IdsMayBeWritten, SchemaMayBeWritten}
use Rattle.arrow_types.specs.Schemas.{fields_in}
use Rattle.ipc_fields.specs.IpcFields.{have_shapes, ids_of, metadata_of, schema_view}
use Rattle.ipc_files.specs.Below.{are_column_fields, HasKindOf, Held}
use Rattle.std.specs.declared.alloc.Global.{Global}
use Rattle.std.specs.declared.vec.Vec.{Vec}
use Rattle.ipc_streams.specs.declared.metadata.Beginning.{Beginning}
use Rattle.ipc_streams.specs.declared.metadata.StreamMetadata.{StreamMetadata}

-- a schema, the pairs of its message, and the message's version
pub record Start : Type 0 where
  pub schema : Schema
  pub custom : Metadata
  pub version : MetadataVersion

-- what a schema message's metadata says, and how long its body is
unfoldable pub head_in : List ℕ → Reading (Start × ℕ)
head_in metadata = do
  first ← stream_head metadata
  version ← version_of metadata first.0
  Ok (record { schema = first.2; custom = first.1; version = version }, first.0.body)

-- what a stream begins with, and the bytes behind it
unfoldable pub start_in : List ℕ → Reading (Start × List ℕ)
start_in b = do
  f ← next_message b >>= first_message
  first ← stream_head f.metadata
  version ← version_of f.metadata first.0
  body ← body_in f first.0
  Ok (record { schema = first.2; custom = first.1; version = version }, drop first.0.body f.behind)

abbrev pub stream_schema : StreamMetadata → Schema
stream_schema m = schema_view (rc_value m.schema, m.ipc_schema, m.custom_schema_metadata)

abbrev pub start_view : StreamMetadata → Start
start_view m = record { schema = stream_schema m; custom = metadata_of m.custom_metadata; version = m.version }

abbrev pub head_view : Beginning → Start × ℕ
head_view x = (start_view x.metadata, x.body)

-- metadata by which batches are read: the IPC fields are those of its schema, its columns may be read, and the uses of each dictionary agree
pub record IsReadable (m : StreamMetadata) : Type 0 where
  pub shapes : have_shapes (fields_in (rc_value m.schema)) (ids_of m.ipc_schema.fields.items) ≡ true
  pub columns : are_column_fields (stream_schema m).fields ≡ true
  pub agree : uses_agree [] (uses_in (stream_schema m).fields) ≡ Ok tt

-- metadata that was read of bytes: its schema, the ids of its dictionaries and its message's pairs may be written too
pub record MayBeWritten (m : StreamMetadata) : Type 0 where
  pub schema : SchemaMayBeWritten (stream_schema m).fields (stream_schema m).metadata
  pub ids : IdsMayBeWritten (stream_schema m).fields
  pub custom : CustomMayBeWritten (metadata_of m.custom_metadata)

-- under each id of a schema the parts are of the kind of its values
abbrev pub HoldsValues : Schema → Held → Type 0
HoldsValues s h = (id : ℤ) → HasKindOf s.fields h id

-- a call gives the metadata of the first message, and leaves the bytes behind it
abbrev pub GivesFirst : Option (List ℕ) → Option (List ℕ) → Result (Vec ℕ Global) IpcError → Type 0
GivesFirst None rest' result = ⊤
GivesFirst (Some b) rest' (Ok metadata) = (behind : List ℕ)
    × ((next_message b >>= first_message) ≡ Ok (record { metadata = metadata.items; behind = behind })) × (rest' ≡ Some behind)
GivesFirst (Some b) rest' (Err e) = Refuses e (refusals (next_message b >>= first_message))

-- a call gives what a stream begins with, and leaves the bytes behind it
abbrev pub GivesStart : Option (List ℕ) → Option (List ℕ) → Result StreamMetadata IpcError → Type 0
GivesStart None rest' result = ⊤
GivesStart (Some b) rest' (Ok m) = (rest : List ℕ) × (start_in b ≡ Ok (start_view m, rest)) × (rest' ≡ Some rest)
GivesStart (Some b) rest' (Err e) = Refuses e (refusals (start_in b))
