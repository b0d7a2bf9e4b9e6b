-- What crates below say, handed on to those above.
pub use Rattle.ipc_append.specs.Columns.{are_of, is_of}
pub use Rattle.ipc_append.specs.Wholes.{table_read}
pub use Rattle.ipc_append.specs.declared.stream.WholeStream.{WholeStream}
pub use Rattle.ipc_stream_writer.specs.Below.{cells_of, Suits}
pub use Rattle.ipc_read_laws.specs.PlainKinds.{plain_fields}
