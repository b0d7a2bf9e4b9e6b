-- What each request is held to.
pub mod Append
pub mod Cat
pub mod Csv
pub mod File
pub mod Gen
pub mod Log
pub mod Rows
pub mod Scan
pub mod Schema
pub mod Stream
use Rattle.std.specs.Prelude.{⊤}
use Rattle.ipc_log_disk.specs.Crashes.{Images}
use Rattle.ipc_words.specs.Requests.{Request, append, cat, csv, file, gen, log, rows, scan, schema, stream}
use Rattle.ipc_tool.specs.Commands.Append.{append_task}
use Rattle.ipc_tool.specs.Commands.Cat.{cat_task}
use Rattle.ipc_tool.specs.Commands.Csv.{csv_task}
use Rattle.ipc_tool.specs.Commands.File.{made_file_task}
use Rattle.ipc_tool.specs.Commands.Gen.{generated_task}
use Rattle.ipc_tool.specs.Commands.Log.{Survives, log_task}
use Rattle.ipc_tool.specs.Commands.Rows.{rows_task}
use Rattle.ipc_tool.specs.Commands.Scan.{scan_task}
use Rattle.ipc_tool.specs.Commands.Schema.{schema_task}
use Rattle.ipc_tool.specs.Commands.Stream.{stream_task}
use Rattle.ipc_tool.specs.Outside.{Outside}
use Rattle.ipc_tool.specs.Tasks.{Task}

abbrev pub task_of : Request → Task
task_of (stream s) = stream_task s
task_of (schema name) = schema_task name
task_of (rows name) = rows_task name
task_of (append target) = append_task target
task_of (gen seed) = generated_task seed
task_of (cat s) = cat_task s
task_of (csv s) = csv_task s
task_of (file s) = made_file_task s
task_of (scan s) = scan_task s
task_of (log s) = log_task s

-- what a crash might have left of the log that a request is of
abbrev pub LogSurvives : Request → Outside → Images → Images → Type 0
LogSurvives (log s) old left left' = Survives s old left left'
LogSurvives r old left left' = ⊤
