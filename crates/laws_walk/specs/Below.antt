-- What crates that stand on this one have of those below.
pub use Rattle.laws_sent.specs.Below.{columns_of, IsNumbered, plain_fields}
pub use Rattle.laws_sent.specs.SchemaLaws.{AreStarted}
pub use Rattle.laws_sent.specs.SentFields.{AreSentFields}
pub use Rattle.laws_reading.specs.Reads.{IsOpened}
pub use Rattle.ipc_reader.specs.declared.cursor.FileCursor.{FileCursor}
pub use Rattle.ipc_reader.specs.Below.{asked, file_block, file_custom, FileCause, FileMetadata, FileSays, FooterFetched, HasFields, IsReadable}
pub use Rattle.ipc_reader.specs.Below.{IsRefusal, kinds_of, MayProject, meta_view, numbers_in, Plans, ProjectionInfo, schema_shown, table_of, WasRead}
pub use Rattle.ipc_reader.specs.Below.{WriteOptions}
pub use Rattle.ipc_reader.specs.declared.kept.KeptDictionaries.TheVariants.{NotRead}
pub use Rattle.ipc_reader.specs.Reads.{NextBatch}
pub use Rattle.ipc_stream_writer.specs.Below.{cells_of, chunk_text, counted, is_new, is_started, IsNoStart, RefusesChunk, RefusesOne, said_fields}
pub use Rattle.ipc_stream_writer.specs.Below.{SchemaIsSaid, Stops, StreamPairs}
pub use Rattle.ipc_stream_writer.specs.Calls.{Finishes, found_before, HasBegun, HasFinished, HasWritten, IsFresh, LeavesAll, StartCause, StartFailed}
pub use Rattle.ipc_stream_writer.specs.Calls.{Starts, Stays, SuitsStream, WriteCause, WriteFailed, Writes}
unfoldable pub use Rattle.ipc_stream_writer.specs.Below.{stream_text}
pub use Rattle.ipc_stream_writer.specs.Written.{IsWritten, table_with}
pub use Rattle.ipc_stream_writer.specs.declared.stream.StreamCore.{StreamCore}
