-- What crates below say, handed on to those above.
pub use Rattle.ipc_messages.specs.Below.{Absent, allowed, are_same_cells, array_sent, arrays_sent, begun, by_cells, columns_fault, columns_of}
pub use Rattle.ipc_messages.specs.Below.{columns_sent, delta_start, dictionary_sent, DictionaryTracker, fixing, held_by, holding, is_indexed, Moved}
pub use Rattle.ipc_messages.specs.Below.{Options, options_of, parts_sent, PutsPart, rows_from, Same, scoped, Sending, sending, standing, then_by}
pub use Rattle.ipc_messages.specs.Below.{ToSend, unless_fault, WriteOptions}
pub use Rattle.ipc_messages.specs.Chunks.{found, IsOfBatch, IsRefused, IsSentBy, MayBeSent, RefusesChunk, Stops}
pub use Rattle.ipc_messages.specs.Encoded.{AreMessagesOf, IsMessageOf}
pub use Rattle.ipc_messages.specs.Framed.{given_sizes, given_text}
pub use Rattle.ipc_messages.specs.Messages.{chunk_text, message_of, Sizes, sizes_of, values_text}
pub use Rattle.ipc_messages.specs.Puts.{Untouched}
pub use Rattle.ipc_messages.specs.Schemas.{IsRefusedAs, SchemaIsSaid}
pub use Rattle.ipc_messages.specs.States.{is_new, is_started}
pub use Rattle.ipc_messages.specs.declared.state.WriterState.TheVariants.{New, Started}
pub use Rattle.laws_writers.specs.Chunks.{chunk_of, MayFollow, values_of}
pub use Rattle.laws_writers.specs.Firsts.{AreFirst}
pub use Rattle.laws_writers.specs.Heard.{cells_held}
pub use Rattle.laws_writers.specs.Written.{cells_of, said_fields}
pub use Rattle.schema_writer.specs.Serialized.{belong_to, has_meaning}
unfoldable pub use Rattle.schema_writer.specs.Serialized.{serialized}
unfoldable pub use Rattle.ipc_messages.specs.Schemas.{stream_text}
