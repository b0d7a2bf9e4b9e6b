-- schema [NAME]: the text of a file's schema, of any types and in either byte order.
use Rattle.std.specs.Prelude.{ℕ, List, Option}
use Rattle.arrow_spec.specs.SchemaText.{schema_text_of}
use Rattle.ipc_tool.specs.FileTasks.{FileJob, file_task}
use Rattle.ipc_tool.specs.Tasks.{Task}
use Rattle.ipc_tool.specs.Texts.{text_job}

abbrev pub schema_job : FileJob
schema_job = text_job schema_text_of 4

abbrev pub schema_task : Option (List ℕ) → Task
schema_task name = file_task schema_job name
