-- What crates below say, handed on to those above.
pub use Rattle.ipc_files.specs.Below.{IsRefusal, MayProject, Plans, ProjectionInfo, WriteOptions, held_in, kinds_of, numbers_in, table_of, written_batch_of}
pub use Rattle.ipc_files.specs.Blocks.{BlockRead}
pub use Rattle.ipc_files.specs.Fetching.{BlockFetched, FooterFetched, block_cost}
pub use Rattle.ipc_files.specs.FileBlocks.{block_by, file_block}
pub use Rattle.ipc_files.specs.FileDictionaries.{FirstFetched, HoldsUses, dictionaries_cost, dictionary_cost}
pub use Rattle.ipc_files.specs.FileViews.{FileCause, FileSays, HasNaturalNumbers, IsReadable, WasRead, file_custom, meta_view}
pub use Rattle.ipc_files.specs.Requests.{asked}
pub use Rattle.ipc_files.specs.RowCounts.{CountCause}
pub use Rattle.ipc_files.specs.Selections.{HasFields, schema_shown}
pub use Rattle.ipc_files.specs.declared.metadata.FileMetadata.{FileMetadata}
unfoldable pub use Rattle.ipc_files.specs.Below.{batch_message, is_within}
unfoldable pub use Rattle.ipc_files.specs.Blocks.{batch_given, batch_in}
unfoldable pub use Rattle.ipc_files.specs.FileBlocks.{block_record}
unfoldable pub use Rattle.ipc_files.specs.RowCounts.{file_row_count}
