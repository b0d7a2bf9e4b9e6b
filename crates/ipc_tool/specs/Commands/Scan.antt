-- scan FILTER [--columns LIST] [--raw] [NAME]: the rows of a file that meet a filter, as one stream.
use Rattle.std.specs.Prelude.{◌≡◌, ◌⊎◌, ◌≤◌, ℕ, Bool, List, Option, IfSome, IsSome}
use Rattle.arrow_spec.specs.declared.error.IpcError.{IpcError}
use Rattle.arrow_spec.specs.declared.error.IpcError.TheVariants as errors
use Rattle.ipc_io.specs.Outside.{Rose}
use Rattle.ipc_bodies.specs.Encodings.{text_of}
use Rattle.ipc_scan.specs.Below.{AddsFrontOrNone, AddsPiece, AddsStream, Scanned, scan_may, scan_table, scanned}
use Rattle.ipc_words.specs.Requests.{Scan}
use Rattle.ipc_tool.specs.Commands.Stream.{encoding_of, shown_as}
use Rattle.ipc_tool.specs.FileTasks.{FileJob, file_task}
use Rattle.ipc_tool.specs.Tasks.{Task}

-- the filter and the columns asked for
abbrev pub scan_asked : Scan → Scanned
scan_asked s = scanned s.filter s.columns

-- what a scan that was refused added: nothing or a front; after a put that failed or wanted memory a part of a stream
abbrev pub AddsScanPart : IpcError → ℕ → ℕ → List ℕ → Scanned → Bool → Option (List ℕ) → Option (List ℕ) → Type 0
AddsScanPart errors.WriteFault wants wants' b q raw old new = AddsPiece b q (shown_as raw) (text_of (encoding_of raw)) old new
AddsScanPart errors.Memory wants wants' b q raw old new =
    AddsFrontOrNone errors.Memory b q (text_of (encoding_of raw)) old new
    ⊎ (Rose wants wants' × AddsPiece b q (shown_as raw) (text_of (encoding_of raw)) old new)
AddsScanPart e wants wants' b q raw old new = AddsFrontOrNone e b q (text_of (encoding_of raw)) old new

-- One whole stream is added, shown as asked, that means the table of the scan. Where there is one, only a message of it that is too large is refused.
abbrev pub scan_job : Scan → FileJob
scan_job s = record {
  done = λ b old new. AddsStream b (scan_asked s) (shown_as s.raw) old new;
  may = λ e b. scan_may b s.filter s.columns e;
  left = λ e content old new wants wants'. IfSome content (λ b. AddsScanPart e wants wants' b (scan_asked s) s.raw old new);
  must = λ b. IsSome (scan_table b s.filter s.columns);
  still = λ e b. (e ≡ errors.TooLarge) × scan_may b s.filter s.columns errors.TooLarge;
  statuses = λ status. status ≤ 6;
}

abbrev pub scan_task : Scan → Task
scan_task s = file_task (scan_job s) s.name
