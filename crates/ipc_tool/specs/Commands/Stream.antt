-- stream [--columns LIST] [--limit N] [--raw] [NAME]: a file as one stream that means the same.
use Rattle.std.specs.Prelude.{◌≡◌, ◌⊎◌, ◌≤◌, ℕ, Bool, true, false, List, Option, IfSome, IsSome}
use Rattle.arrow_spec.specs.declared.error.IpcError.{IpcError}
use Rattle.arrow_spec.specs.declared.error.IpcError.TheVariants as errors
use Rattle.arrow_spec.specs.Files.{Request}
use Rattle.arrow_spec.specs.Meaning.{file_table, may}
use Rattle.arrow_spec.specs.Words.{shown}
use Rattle.ipc_io.specs.Outside.{Rose}
use Rattle.ipc_bodies.specs.declared.encoding.Encoding.{Encoding}
use Rattle.ipc_bodies.specs.declared.encoding.Encoding.TheVariants.{Bytes, HexText}
use Rattle.ipc_bodies.specs.Encodings.{text_of}
use Rattle.ipc_round_trip.specs.Below.{AddsFrontOrNone, AddsPiece, AddsStream}
use Rattle.ipc_words.specs.Requests.{Stream}
use Rattle.ipc_tool.specs.FileTasks.{FileJob, file_task}
use Rattle.ipc_tool.specs.Tasks.{Task}

-- the columns and the rows asked for
abbrev pub table_asked : Stream → Request
table_asked s = record { columns = s.columns; limit = s.limit }

-- the encoding of a stream
abbrev pub encoding_of : Bool → Encoding
encoding_of true = Bytes
encoding_of false = HexText

-- a stream as it is put: raw, or as hex text and a line feed
abbrev pub shown_as : Bool → List ℕ → List ℕ
shown_as raw x = shown x raw

-- what a stream that was refused added: nothing or a front; after a put that failed or wanted memory a part of a stream
abbrev pub AddsStreamPart : IpcError → ℕ → ℕ → List ℕ → Request → Bool → Option (List ℕ) → Option (List ℕ) → Type 0
AddsStreamPart errors.WriteFault wants wants' b r raw old new = AddsPiece b r (shown_as raw) (text_of (encoding_of raw)) old new
AddsStreamPart errors.Memory wants wants' b r raw old new =
    AddsFrontOrNone errors.Memory b r (text_of (encoding_of raw)) old new
    ⊎ (Rose wants wants' × AddsPiece b r (shown_as raw) (text_of (encoding_of raw)) old new)
AddsStreamPart e wants wants' b r raw old new = AddsFrontOrNone e b r (text_of (encoding_of raw)) old new

-- One whole stream is added, shown as asked, that means what the bytes mean. Where they mean a table, only a message of it that is too large is refused.
abbrev pub stream_job : Stream → FileJob
stream_job s = record {
  done = λ b old new. AddsStream b (table_asked s) (shown_as s.raw) old new;
  may = λ e b. may b (table_asked s) e;
  left = λ e content old new wants wants'. IfSome content (λ b. AddsStreamPart e wants wants' b (table_asked s) s.raw old new);
  must = λ b. IsSome (file_table b (table_asked s));
  still = λ e b. (e ≡ errors.TooLarge) × may b (table_asked s) errors.TooLarge;
  statuses = λ status. status ≤ 6;
}

abbrev pub stream_task : Stream → Task
stream_task s = file_task (stream_job s) s.name
