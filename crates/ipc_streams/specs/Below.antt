-- What crates below say, handed on to those above.
pub use Rattle.ipc_files.specs.Below.{AllMean, Answers, batch_body, batch_under, block_by, columns_pieces, columns_under, EncodedData, file_block, Held}
pub use Rattle.ipc_files.specs.Below.{held_in, HoldsCells, IsNatural, IsRefusal, MayProject, none_held, pieces_in, plain_fields, plain_kind}
pub use Rattle.ipc_files.specs.Below.{ProjectionInfo, table_of, WriteOptions, written_batch_of}
pub use Rattle.ipc_files.specs.FileDictionaries.{HoldsUses, ReadsDictionaries}
pub use Rattle.ipc_files.specs.FileViews.{file_custom, FileCause, FileSays, IsReadable, meta_view, WasRead}
pub use Rattle.ipc_files.specs.Selections.{HasFields, schema_shown}
pub use Rattle.ipc_files.specs.declared.metadata.FileMetadata.{FileMetadata}
unfoldable pub use Rattle.ipc_files.specs.Below.{batch_message, message_frame}
pub use Rattle.ipc_files.specs.FileDictionaries as FileDictionaries
