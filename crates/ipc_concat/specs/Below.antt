-- What crates below say, handed on to those above.
pub use Rattle.laws_walk.specs.Sends.{IsOfPut, IsWriter, send_options}
pub use Rattle.laws_walk.specs.Below.{cells_of, chunk_text, Finishes, found_before, HasBegun, HasFinished, HasWritten, is_new, is_started, IsFresh}
pub use Rattle.laws_walk.specs.Below.{IsNoStart, IsWritten, plain_fields, RefusesChunk, said_fields, SchemaIsSaid, StartCause, Starts, StreamCore}
pub use Rattle.laws_walk.specs.Below.{StreamPairs, table_with, Writes}
unfoldable pub use Rattle.laws_walk.specs.Below.{stream_text}
pub use Rattle.ipc_dictionaries.specs.NewDictionaries.{Options, Sending}
pub use Rattle.ipc_dictionaries.specs.Tracker.{held_by}
pub use Rattle.ipc_dictionaries.specs.Walks.{options_of}
