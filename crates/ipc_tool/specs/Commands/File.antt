-- file [--raw] [NAME]: a stream as one file that means the same.
use Rattle.std.specs.Prelude.{◌≡◌, ◌⊎◌, ◌≤◌, ℕ, Bool, List, Option, None, Some, IsSome}
use Rattle.std.specs.Io.KnownBytes.{Appends}
use Rattle.arrow_spec.specs.declared.error.IpcError.TheVariants as errors
use Rattle.arrow_spec.specs.Files.{ArrowTable, «all»}
use Rattle.arrow_spec.specs.Meaning.{file_table}
use Rattle.arrow_spec.specs.Streams.{stream_table}
use Rattle.ipc_to_file.specs.Files.{IsFileRefusal, LeavesNone, RefusesFile}
use Rattle.ipc_words.specs.Requests.{File}
use Rattle.ipc_tool.specs.Commands.Stream.{shown_as}
use Rattle.ipc_tool.specs.FileTasks.{FileJob, file_task}
use Rattle.ipc_tool.specs.Tasks.{Task}

-- A whole file was added, shown as asked, which means the table that the stream means.
pub record AddsFile (b : List ℕ) (raw : Bool) (old new : Option (List ℕ)) : Type 0 where
  pub bytes : List ℕ
  pub table : ArrowTable
  pub stream : stream_table b None ≡ Some table
  pub file : file_table bytes «all» ≡ Some table
  pub added : Appends old new (shown_as raw bytes)

-- All is read before anything is put, so only what is too large, want of memory and a failed write leave anything. Where the stream means a table, only what a file cannot hold refuses it.
abbrev pub file_job : File → FileJob
file_job s = record {
  done = λ b old new. AddsFile b s.raw old new;
  may = λ e b. RefusesFile e b;
  left = λ e content old new wants wants'. LeavesNone e old new;
  must = λ b. IsSome (stream_table b None);
  still = λ e b. IsFileRefusal e b;
  statuses = λ status. (status ≤ 4) ⊎ ((status ≡ 6) ⊎ (status ≡ 9));
}

abbrev pub made_file_task : File → Task
made_file_task s = file_task (file_job s) s.name
