-- What crates below say, handed on to those above.
pub use Rattle.ipc_write_laws.specs.Columns.{Means, WrittenColumn}
pub use Rattle.ipc_write_laws.specs.Messages.{BatchMayBeWritten, IsKnown, Known}
pub use Rattle.ipc_write_laws.specs.Streams.{WrittenBatch, table_batch, written_batch, written_of}
