-- What holds of the schema of a stream that a file's columns are sent as. Each statement is the contract of a public function without a body (src/lib.rt).
use Rattle.std.specs.Prelude.{◌≡◌, ℕ, List, [], Option, Ok, None}
use Rattle.std.specs.Rc.{rc_value}
use Rattle.arrow_spec.specs.declared.error.IpcError.{IpcError}
use Rattle.arrow_spec.specs.declared.error.IpcError.TheVariants.{TooLarge}
use Rattle.arrow_spec.specs.Features.{chosen_floats}
use Rattle.arrow_spec.specs.Files.{Request, columns_right}
use Rattle.arrow_spec.specs.Framing.{message_bytes}
use Rattle.arrow_spec.specs.Kinds.{width}
use Rattle.arrow_spec.specs.Meaning.{may}
use Rattle.arrow_spec.specs.Readings.{◌>>=◌, IsAmong, Reading, refusals, unless}
use Rattle.arrow_spec.specs.Sent.{SentMessage, may_be_sent, stream_schema}
use Rattle.arrow_types.specs.Schemas.{Keyed, fields_in}
use Rattle.ipc_fields.specs.IpcFields.{Ids, metadata_of}
use Rattle.laws_writers.specs.Below.{IsNumbered, stream_text, StreamPairs}
use Rattle.laws_transcode.specs.Files.{AreAsked, IsSentFile}
use Rattle.ipc_files.specs.Below.{WriteOptions}
use Rattle.ipc_files.specs.FileViews.{FileSays, WasRead, file_custom, meta_view}
use Rattle.ipc_files.specs.declared.metadata.FileMetadata.{FileMetadata}
use Rattle.laws_sent.specs.SentFields.{AreReadable, AreSentFields, fields_of}

-- The columns that are asked for are right and can be read, and a schema of them has ids that count from 0 where they can: then it is what is sent of them.
abbrev pub FieldsAreSent : Type 0
FieldsAreSent = (file : FileMetadata) (columns : Option (List ℕ)) (s : List Keyed) (own : Ids) → WasRead file
    → columns_right columns (width (meta_view file).schema.fields) ≡ Ok tt
    → AreReadable (meta_view file) columns → AreAsked (rc_value file.schema) columns s → IsNumbered (fields_in s) own → AreSentFields file columns s own

-- the bytes of a message without a body, if it may be sent
abbrev pub text_if_sent : SentMessage → Reading (List ℕ)
text_if_sent m = unless (may_be_sent m) TooLarge >>= λ small. Ok (message_bytes m.node [])

-- the message of a file's columns, with the pairs of its schema and of its footer
abbrev pub file_message : FileMetadata → Option (List ℕ) → SentMessage
file_message file columns = stream_schema (fields_of file columns) (meta_view file).schema.metadata (file_custom file)

-- The stream is begun with that message under such pairs, where nothing is compressed and metadata is as long as it may be.
abbrev pub MessageIsSent : Type 0
MessageIsSent = (options : WriteOptions) (file : FileMetadata) (columns : Option (List ℕ)) (s : List Keyed) (own : Ids) (pairs : StreamPairs)
    → options.compression ≡ None → options.metadata_limit ≡ 2147483647 → WasRead file → columns_right columns (width (meta_view file).schema.fields) ≡ Ok tt
    → AreReadable (meta_view file) columns → AreAsked (rc_value file.schema) columns s → IsNumbered (fields_in s) own
    → metadata_of pairs.schema ≡ (meta_view file).schema.metadata → metadata_of pairs.message ≡ file_custom file
    → stream_text options (fields_in s) own pairs ≡ text_if_sent (file_message file columns)

-- A stream of columns is begun only where they can be read.
abbrev pub BegunAreReadable : Type 0
BegunAreReadable = (options : WriteOptions) (file : FileMetadata) (columns : Option (List ℕ)) (s : List Keyed) (own : Ids) (pairs : StreamPairs)
    (bytes : List ℕ)
    → AreAsked (rc_value file.schema) columns s → stream_text options (fields_in s) own pairs ≡ Ok bytes → AreReadable (meta_view file) columns

-- Where they cannot, it is refused for a kind in them that is never read.
abbrev pub UnreadAreRefused : Type 0
UnreadAreRefused = (options : WriteOptions) (file : FileMetadata) (columns : Option (List ℕ)) (s : List Keyed) (own : Ids) (pairs : StreamPairs) (e : IpcError)
    → options.compression ≡ None → AreAsked (rc_value file.schema) columns s → (AreReadable (meta_view file) columns → ⊥)
    → IsAmong (refusals (stream_text options (fields_in s) own pairs)) e → IsAmong (chosen_floats columns (meta_view file).schema.fields 0) e

-- how a file's columns are sent: nothing is compressed and metadata is as long as it may be, the columns are right, and a schema of them has ids that count from 0, and such pairs
pub record AreStarted (options : WriteOptions) (file : FileMetadata) (columns : Option (List ℕ)) (s : List Keyed) (own : Ids)
    (pairs : StreamPairs) : Type 0 where
  pub plain : options.compression ≡ None
  pub most : options.metadata_limit ≡ 2147483647
  pub read : WasRead file
  pub right : columns_right columns (width (meta_view file).schema.fields) ≡ Ok tt
  pub asked : AreAsked (rc_value file.schema) columns s
  pub ids : IsNumbered (fields_in s) own
  pub schema : metadata_of pairs.schema ≡ (meta_view file).schema.metadata
  pub message : metadata_of pairs.message ≡ file_custom file

-- Where they are begun, the file's schema may be sent, and its message was.
abbrev pub BegunIsSent : Type 0
BegunIsSent = (b : List ℕ) (r : Request) (options : WriteOptions) (file : FileMetadata) (s : List Keyed) (own : Ids) (pairs : StreamPairs) (bytes : List ℕ)
    → FileSays b (meta_view file) (file_custom file) → AreStarted options file r.columns s own pairs → stream_text options (fields_in s) own pairs ≡ Ok bytes
    → IsSentFile b r (meta_view file) (file_custom file) × (bytes ≡ message_bytes (file_message file r.columns).node [])

-- Where they are not, the file is refused so.
abbrev pub RefusedAsFile : Type 0
RefusedAsFile = (b : List ℕ) (r : Request) (options : WriteOptions) (file : FileMetadata) (s : List Keyed) (own : Ids) (pairs : StreamPairs) (e : IpcError)
    → FileSays b (meta_view file) (file_custom file) → AreStarted options file r.columns s own pairs
    → IsAmong (refusals (stream_text options (fields_in s) own pairs)) e → may b r e
