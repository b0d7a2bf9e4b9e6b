-- What crates below say, handed on to those above.
pub use Rattle.ipc_append.specs.Appended.{IsAppended, IsNotAppended, RefusalSays}
pub use Rattle.ipc_append.specs.Below.{WriteOptions}
pub use Rattle.ipc_append.specs.Targets.{HasOtherFields}
pub use Rattle.ipc_append.specs.Wholes.{IsWhole, RefusesStream}
pub use Rattle.ipc_append.specs.declared.stream.WholeStream.{WholeStream}
pub use Rattle.ipc_transcode.specs.Below.{CountCause, FileCause, FileMetadata, Summary, file_row_count, meta_view}
pub use Rattle.ipc_transcode.specs.Transcode.{AddsFrontOrNone, AddsPart, AddsPiece, AddsStream, IsSmallRefusal, TranscodeCause, Transcodes}
