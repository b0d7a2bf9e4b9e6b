-- The messages of a stream in memory, passed over one after another. (Arrow Columnar Format, "IPC Streaming Format".)
use Rattle.std.specs.Prelude.{◌+◌, List, ℕ, take, drop}
use Rattle.arrow_spec.specs.declared.error.IpcError.{IpcError}
use Rattle.arrow_spec.specs.declared.error.IpcError.TheVariants as errors
use Rattle.arrow_spec.specs.Streams.{Framed}
use Rattle.ipc_record_log.specs.Logs.{invalid_log}
use Rattle.laws_logs.specs.Tables.{Passed}
use Rattle.ipc_log_records.specs.declared.passes.Frame.{Frame}
use Rattle.ipc_log_records.specs.declared.passes.Pass.{Pass}

-- a message by its metadata's place in bytes
abbrev pub framed_in : List ℕ → Frame → Framed
framed_in b f = record { metadata = take f.length (drop f.at b); behind = drop (f.at + f.length) b }

-- what stands behind a message that ends at a place of bytes
abbrev pub passed_in : List ℕ → Pass → Passed
passed_in b p = record { rest = drop p.end b; is_dictionary = p.is_dictionary }

-- what is told of a record that is refused
abbrev pub told_as : IpcError → IpcError
told_as errors.Memory = errors.Memory
told_as e = invalid_log
