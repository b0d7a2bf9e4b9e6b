-- What crates below say, handed on to those above.
pub use Rattle.ipc_streams.specs.Below.{FileCause, WriteOptions}
pub use Rattle.ipc_file_writer.specs.Below.{Absent, allowed, are_same_cells, array_sent, arrays_sent, begun, by_cells, columns_fault, delta_start}
pub use Rattle.ipc_file_writer.specs.Below.{dictionary_sent, DictionaryTracker, fixing, held_by, holding, is_indexed, Options, options_of, parts_sent}
pub use Rattle.ipc_file_writer.specs.Below.{rows_from, Same, scoped, Sending, sending, standing, then_by, unless_fault}
pub use Rattle.ipc_file_writer.specs.Calls as Calls
pub use Rattle.ipc_file_writer.specs.Calls.{ending_of, file_ids, file_schema, Finishes, found_before, IsFresh, RefusesMore, SendCause, start_of}
pub use Rattle.ipc_file_writer.specs.Calls.{Starts, Stays, SuitsFile, takes_pairs, Writes}
pub use Rattle.ipc_file_writer.specs.Written.{cells_by, HasNothing, IsFile, table_by}
pub use Rattle.ipc_file_writer.specs.declared.file.FileCore.{FileCore}
unfoldable pub use Rattle.ipc_file_writer.specs.Ends.{file_ending, file_start}
pub use Rattle.ipc_file_writer.specs.declared.blocks.FileBlocks.{FileBlocks}
pub use Rattle.ipc_file_writer.specs.declared.pairs.FilePairs.{FilePairs}
pub use Rattle.ipc_file_writer.specs.Ends.{no_pairs}
pub use Rattle.ipc_streams.specs.declared.metadata.StreamMetadata.{StreamMetadata}
pub use Rattle.ipc_streams.specs.Starts.{IsReadable, MayBeWritten, Start, start_view, stream_schema}
pub use Rattle.ipc_streams.specs.Arrays.{arrays_of}
pub use Rattle.ipc_streams.specs.Below.{plain_fields, plain_kind}
pub use Rattle.ipc_streams.specs.Feeds.{FeedKept}
pub use Rattle.ipc_streams.specs.Readers.{IsReader}
pub use Rattle.ipc_file_writer.specs.BelowNewDictionaries.{message_of}
unfoldable pub use Rattle.ipc_streams.specs.Starts.{start_in}
pub use Rattle.ipc_streams.specs.Steps.{a_batch, batch_or, ended, most_dictionaries, Next, no_message, waiting}
unfoldable pub use Rattle.ipc_streams.specs.Steps.{has_room, next_in, step_within}
pub use Rattle.ipc_streams.specs.Frames.{prefix_length}
