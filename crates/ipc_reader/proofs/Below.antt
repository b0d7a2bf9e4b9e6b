-- What crates below say, handed on to those above.
pub use Rattle.ipc_files.proofs.Below.{beyond_is_not_sent, plain_fields_with, read_batch_sent, same_message, short_is_sent, short_then_sent}
pub use Rattle.ipc_files.proofs.Below.{within_is_sent}
pub use Rattle.ipc_files.proofs.BlockMessages.{batch_by_record}
pub use Rattle.ipc_files.proofs.Errors.{file_cause, is_err}
pub use Rattle.ipc_files.proofs.FetchedFiles.{batch_parts}
pub use Rattle.ipc_files.proofs.FileDictionaries.{given_in_file}
pub use Rattle.ipc_files.proofs.Fetching.{answer_or, block_fetched}
pub use Rattle.ipc_files.proofs.GivenBlocks.{GivenAt, natural_at}
pub use Rattle.ipc_files.proofs.Picked.{picked_from}
pub use Rattle.ipc_files.proofs.ReadBlocks.{block_refuses, follows}
pub use Rattle.ipc_files.proofs.ReadFiles.{file_width, told}
pub use Rattle.ipc_files.proofs.Selected.{asked_below, right_of_file}
