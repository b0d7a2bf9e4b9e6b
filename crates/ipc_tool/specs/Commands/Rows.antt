-- rows [NAME]: how many rows a file has, in decimal digits, and a line feed.
use Rattle.std.specs.Prelude.{ℕ, ℤ, List, [], ◌∷◌, ◌++◌, Option, Ok}
use Rattle.std.specs.Fmt.{signed_decimal}
use Rattle.arrow_spec.specs.Readings.{Reading, ◌>>=◌}
use Rattle.ipc_round_trip.specs.Below.{file_row_count}
use Rattle.ipc_tool.specs.FileTasks.{FileJob, file_task}
use Rattle.ipc_tool.specs.Tasks.{Task}
use Rattle.ipc_tool.specs.Texts.{text_job}

abbrev pub row_count_text : ℤ → List ℕ
row_count_text rows = signed_decimal rows ++ 10 ∷ []

-- the rows that the messages of the file's record blocks state
unfoldable pub rows_text_of : List ℕ → Reading (List ℕ)
rows_text_of b = file_row_count b >>= λ rows. Ok (row_count_text rows)

-- they are counted without a look at the schema, so that it is not too deep and has not too many fields or pairs
abbrev pub rows_job : FileJob
rows_job = text_job rows_text_of 2

abbrev pub rows_task : Option (List ℕ) → Task
rows_task name = file_task rows_job name
