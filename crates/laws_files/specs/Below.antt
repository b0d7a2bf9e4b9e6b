-- What crates below say, handed on to those above.
pub use Rattle.ipc_write_laws.specs.Messages.{AllMayBeWritten, BatchMayBeWritten, IsKnown, Known, MessagesMayBeWritten, ValuesMayBeWritten}
pub use Rattle.ipc_write_laws.specs.Messages.{WrittenMessage, WrittenValues, batch, batch_in, bytes_of, message_of_values, none_known, stream_so_far}
pub use Rattle.ipc_write_laws.specs.Messages.{values, values_bytes, values_message, with_message, with_messages, with_values}
pub use Rattle.ipc_write_laws.specs.Streams.{WrittenBatch, batch_bytes, body_for, pieces_of, table_batch, written_batch, written_of}
