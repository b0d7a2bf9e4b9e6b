-- csv [--columns LIST] [--limit N] [NAME]: a file's table as text of comma-separated fields.
use Rattle.std.specs.Prelude.{◌≡◌, ◌≤◌, Option, None, Ok, IfSome, IsSome}
use Rattle.arrow_spec.specs.Files.{Request}
use Rattle.arrow_spec.specs.Meaning.{file_table}
use Rattle.arrow_spec.specs.Readings.{IsAmong, refusals}
use Rattle.csv_texts.specs.Texts.{printable, printed}
use Rattle.ipc_csv.specs.Prints.{AddsPart, AddsTable}
use Rattle.ipc_words.specs.Requests.{Csv}
use Rattle.ipc_tool.specs.FileTasks.{FileJob, file_task}
use Rattle.ipc_tool.specs.Tasks.{Task}

-- the columns and the rows asked for
abbrev pub rows_asked : Csv → Request
rows_asked s = record { columns = s.columns; limit = s.limit }

-- The text of the file's table is added. Where it means one, in columns of which none is nested, nothing but want of memory refuses it.
abbrev pub csv_job : Csv → FileJob
csv_job s = record {
  done = λ b old new. AddsTable b (rows_asked s) old new;
  may = λ e b. IsAmong (refusals (printed b (rows_asked s) None)) e;
  left = λ e content old new wants wants'. IfSome content (λ b. AddsPart e b (rows_asked s) old new);
  must = λ b. IsSome (file_table b (rows_asked s)) × (printable b (rows_asked s) ≡ Ok tt);
  still = λ e b. ⊥;
  statuses = λ status. status ≤ 5;
}

abbrev pub csv_task : Csv → Task
csv_task s = file_task (csv_job s) s.name
