-- What crates below say, handed on to those above.
pub use Rattle.laws_walk.specs.Summaries.{IsSummary}
pub use Rattle.laws_walk.specs.declared.summary.Summary.{Summary}
pub use Rattle.ipc_reader.specs.Below.{CountCause, FileCause, FileMetadata, meta_view}
unfoldable pub use Rattle.ipc_reader.specs.Below.{file_row_count}
