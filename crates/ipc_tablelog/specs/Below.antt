-- What crates below say, handed on to those above.
pub use Rattle.ipc_log_records.specs.LogSchemas.{log_fields, WasSaid}
pub use Rattle.ipc_log_records.specs.Written.{HasBegunRecord, RecordCause, StreamCause}
pub use Rattle.ipc_log_records.specs.Below.{are_of, is_of, table_read, WholeStream}
