-- What reading a file's record batches one after another, and writing each to a stream, comes to. (Arrow Columnar Format, "IPC File Format", "IPC Streaming Format".)
use Rattle.std.specs.Prelude.{◌≡◌, ℕ, ◌≤◌, List, length, true, Option, None, Some, Result, Ok, Err}
use Rattle.std.specs.Rc.{rc_value}
use Rattle.arrow_spec.specs.declared.error.IpcError.{IpcError}
use Rattle.arrow_spec.specs.Files.{Request, TableBatch, columns_right, file_reading, to_send}
use Rattle.arrow_spec.specs.Kinds.{width}
use Rattle.arrow_spec.specs.Readings.{Refuses, refusals}
use Rattle.arrow_spec.specs.Sent.{may_be_sent, stream_schema}
use Rattle.ipc_bodies.specs.Encodings.{text_of}
use Rattle.ipc_bodies.specs.declared.encoding.Encoding.{Encoding}
use Rattle.ipc_reader.specs.Below.{MayProject, WasRead, file_custom, meta_view}
use Rattle.ipc_reader.specs.declared.cursor.FileCursor.{FileCursor}
use Rattle.ipc_stream_writer.specs.declared.stream.StreamCore.{StreamCore}
use Rattle.laws_walk.specs.Places.{IsReadBy, Sending, fields_in_request, meta_in, place_of, walking}
use Rattle.laws_walk.specs.Sends.{Refused, SendsOne, SentRows, SentSoFar}
use Rattle.ipc_transcode.specs.Transcode.{AddsPart, Transcodes}
use Rattle.laws_walk.specs.declared.summary.Summary.{Summary}

-- a reader of columns of a file, whose metadata was read
pub record IsReader (c : FileCursor) : Type 0 where
  pub columns : Option (List ℕ)
  pub projects : MayProject (rc_value c.metadata.schema) columns c.projection
  pub right : columns_right columns (width (meta_view c.metadata).schema.fields) ≡ Ok tt
  pub read : WasRead c.metadata

-- a reader reads a file, whose schema may be sent
pub record IsSentBy (c : FileCursor) (x : Sending) : Type 0 where
  pub by : IsReadBy c x
  pub small : may_be_sent (stream_schema (fields_in_request x) (meta_in x).schema.metadata (file_custom x.file)) ≡ true

-- what was sent of it so far
abbrev pub FileSoFar : Sending → FileCursor → StreamCore → Option (List ℕ) → List ℕ → List TableBatch → Type 0
FileSoFar x c w now bytes bs = SentSoFar (walking x) (place_of c) w now bytes bs

-- so many batches of so many rows
abbrev pub FileRows : Sending → FileCursor → StreamCore → Option (List ℕ) → ℕ → ℕ → Type 0
FileRows x c w now batches rows = SentRows (walking x) (place_of c) w now batches rows

-- what a refusal says of the bytes of a file, and what was added then
pub record FileRefused (e : IpcError) (b : List ℕ) (r : Request) (encoding : Encoding) (old new : Option (List ℕ)) (wants wants' : ℕ) : Type 0 where
  pub refused : Refuses e (refusals (file_reading to_send b r None))
  pub part : AddsPart e wants wants' b r (text_of encoding) old new

-- the next batch was read and written, or there is none, or it is refused
abbrev pub SendsNext : Result (Option ℕ) IpcError → Sending → FileCursor → StreamCore → Option (List ℕ) → List ℕ → List TableBatch → ℕ → ℕ → Type 0
SendsNext (Ok None) x c' w' now' bytes bs wants wants' = FileSoFar x c' w' now' bytes bs × (length (meta_in x).blocks ≤ c'.block)
SendsNext (Ok (Some rows)) x c' w' now' bytes bs wants wants' = SendsOne (walking x) (place_of c') w' now' bytes bs rows
SendsNext (Err e) x c' w' now' bytes bs wants wants' = Refused e (walking x) now' wants wants'

-- all were, or one is refused
abbrev pub SendsAll : Result Summary IpcError → Sending → FileCursor → StreamCore → Option (List ℕ) → ℕ → ℕ → Type 0
SendsAll (Ok s) x c' w' now' wants wants' = FileRows x c' w' now' s.batches s.rows × (length (meta_in x).blocks ≤ c'.block)
SendsAll (Err e) x c' w' now' wants wants' = Refused e (walking x) now' wants wants'

-- a stream was begun, of a file that may be sent, or not
abbrev pub BeginsStream : Result StreamCore IpcError → Sending → FileCursor → Option (List ℕ) → ℕ → ℕ → Type 0
BeginsStream (Ok w) x c now' wants wants' = IsSentBy c x × FileRows x c w now' 0 0
BeginsStream (Err e) x c now' wants wants' = Refused e (walking x) now' wants wants'

-- a file was sent, or a part of its stream
abbrev pub SendsFile : Result Summary IpcError → List ℕ → Request → Encoding → Option (List ℕ) → Option (List ℕ) → ℕ → ℕ → Type 0
SendsFile (Ok s) b r encoding old new wants wants' = Transcodes s b r (text_of encoding) old new
SendsFile (Err e) b r encoding old new wants wants' = FileRefused e b r encoding old new wants wants'
