-- What crates below say, handed on to those above.
pub use Rattle.ipc_messages.specs.Below.{all_representable, arrays_sent, begun, columns_fault, columns_of, DictionaryTracker, held_by, is_indexed}
pub use Rattle.ipc_messages.specs.Below.{Options, options_of, Sending, ToSend, unless_fault, values_in}
pub use Rattle.ipc_messages.specs.Chunks.{found, MayBeSent, RefusesChunk, Stops}
pub use Rattle.ipc_messages.specs.Encoded.{all_fit, fits, Refuses, RefusesOne}
pub use Rattle.ipc_messages.specs.Messages.{chunk_text}
pub use Rattle.ipc_messages.specs.Puts.{counted}
pub use Rattle.ipc_messages.specs.Schemas.{IsNoStart, SchemaIsSaid}
pub use Rattle.ipc_messages.specs.States.{is_new, is_started}
pub use Rattle.ipc_messages.specs.declared.pairs.StreamPairs.{StreamPairs}
pub use Rattle.ipc_messages.specs.declared.state.WriterState.TheVariants.{New, Started}
pub use Rattle.laws_writers.specs.Chunks.{chunk_of}
pub use Rattle.laws_writers.specs.Written.{cells_of, said_fields}
unfoldable pub use Rattle.ipc_messages.specs.Schemas.{stream_text}
pub use Rattle.ipc_messages.specs.Batches.{Suits}
