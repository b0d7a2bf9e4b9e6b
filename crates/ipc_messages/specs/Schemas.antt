-- The message of a stream's schema. (Arrow Columnar Format, "Schema message".)
use Rattle.std.specs.Prelude.{◌≡◌, ◌⊎◌, List, [], length, min, nat_le, true, Result, Ok, Err, Option, ℕ}
use Rattle.std.specs.declared.alloc.Global.{Global}
use Rattle.std.specs.declared.vec.Vec.{Vec}
use Rattle.arrow_spec.specs.declared.error.IpcError.{IpcError}
use Rattle.arrow_spec.specs.declared.error.IpcError.TheVariants.{Memory, TooLarge, Unsupported}
use Rattle.arrow_spec.specs.declared.error.Feature.TheVariants.{Compression}
use Rattle.arrow_spec.specs.Features.{floats_in}
use Rattle.arrow_spec.specs.Flat.{little}
use Rattle.arrow_spec.specs.Framing.{message_bytes}
use Rattle.arrow_spec.specs.Kinds.{Fields, Metadata}
use Rattle.arrow_spec.specs.Layout.{up_to}
use Rattle.arrow_spec.specs.Readings.{◌>>=◌, Reading, IsAmong, free_of, is_absent, refusals, unless}
use Rattle.arrow_spec.specs.Regular.{regular}
use Rattle.arrow_spec.specs.Sent.{SentMessage, schema_message}
use Rattle.arrow_spec.specs.WrittenSchemas.{CustomMayBeWritten, IdsMayBeWritten, SchemaMayBeWritten, own_fields}
use Rattle.arrow_types.specs.Schemas.{Keyed, fields_in}
use Rattle.ipc_fields.specs.IpcFields.{Ids, fields_with, ids_of, metadata_of}
use Rattle.ipc_write.specs.Below.{written}
use Rattle.ipc_write.specs.declared.options.WriteOptions.{WriteOptions}
use Rattle.ipc_messages.specs.Fields.{AreIdsFor}
use Rattle.ipc_messages.specs.declared.pairs.StreamPairs.{StreamPairs}
use Rattle.ipc_messages.specs.declared.schema.StreamStart.{StreamStart}

-- no compression is asked for, and none of these stands in the fields
abbrev pub features_checked : WriteOptions → List IpcError → Reading (Unit {0})
features_checked options floats = unless (is_absent options.compression) (Unsupported Compression) >>= λ plain. free_of floats

-- a call gives what a reading says, or one of its refusals, or memory was wanted
abbrev pub IsRefusedAs : {A : Type 0} → IpcError → Reading A → Type 0
IsRefusedAs e reading = (e ≡ Memory) ⊎ IsAmong (refusals reading) e

abbrev pub ChecksFeatures : Result (Unit {0}) IpcError → WriteOptions → List IpcError → Type 0
ChecksFeatures (Ok u) options floats = features_checked options floats ≡ Ok tt
ChecksFeatures (Err e) options floats = IsAmong (refusals (features_checked options floats)) e

-- the message of a schema under the ids of its IPC fields, with the pairs of both
abbrev pub begun_message : Fields → Ids → StreamPairs → SentMessage
begun_message fs below pairs = schema_message little (fields_with fs below) (metadata_of pairs.schema) (metadata_of pairs.message)

-- its flatbuffer
abbrev pub begun_metadata : Fields → Ids → StreamPairs → Reading (List ℕ)
begun_metadata fs below pairs = written little fs below (metadata_of pairs.schema) (metadata_of pairs.message)

-- its bytes
unfoldable pub stream_text : WriteOptions → Fields → Ids → StreamPairs → Reading (List ℕ)
stream_text options fs below pairs = do
  plain ← features_checked options (floats_in fs)
  metadata ← begun_metadata fs below pairs
  small ← unless (nat_le (up_to 8 (length metadata)) (min options.metadata_limit 2147483647)) TooLarge
  Ok (message_bytes (begun_message fs below pairs).node [])

abbrev pub GivesText : Result (Vec ℕ Global) IpcError → Reading (List ℕ) → Type 0
GivesText (Ok v) reading = reading ≡ Ok v.items
GivesText (Err e) reading = IsRefusedAs e reading

-- a schema may be written, with its ids and its own pairs alone: those of a field whose keys are reserved are said by its type
pub record SchemaIsSaid (fs : Fields) (pairs : Metadata) : Type 0 where
  pub schema : SchemaMayBeWritten (own_fields fs) pairs
  pub ids : IdsMayBeWritten (own_fields fs)

-- it may where it is regular, and so may the pairs of its message
pub record StartMayBeWritten (fs : Fields) (pairs : StreamPairs) : Type 0 where
  pub said : regular fs (metadata_of pairs.schema) ≡ true → SchemaIsSaid fs (metadata_of pairs.schema)
  pub message : CustomMayBeWritten (metadata_of pairs.message)

-- what a stream is begun with, under the ids that are given or under others
pub record IsStart (options : WriteOptions) (s : List Keyed) (given : Option Ids) (pairs : StreamPairs) (start : StreamStart) : Type 0 where
  pub schema : start.schema ≡ s
  pub ids : AreIdsFor (fields_in s) given (ids_of start.fields.items)
  pub text : stream_text options (fields_in s) (ids_of start.fields.items) pairs ≡ Ok start.message.items
  pub may : StartMayBeWritten (fields_with (fields_in s) (ids_of start.fields.items)) pairs

-- a schema is refused, under the ids that are given or under others
pub record IsNoStart (e : IpcError) (options : WriteOptions) (s : List Keyed) (given : Option Ids) (pairs : StreamPairs) : Type 0 where
  pub below : Ids
  pub ids : AreIdsFor (fields_in s) given below
  pub refused : IsAmong (refusals (stream_text options (fields_in s) below pairs)) e

-- a stream may be begun so, or a schema is refused, or memory was wanted
abbrev pub Begins : Result StreamStart IpcError → WriteOptions → List Keyed → Option Ids → StreamPairs → Type 0
Begins (Ok start) options s given pairs = IsStart options s given pairs start
Begins (Err e) options s given pairs = (e ≡ Memory) ⊎ IsNoStart e options s given pairs
