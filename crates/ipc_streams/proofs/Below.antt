-- What crates below say, handed on to those above.
pub use Rattle.ipc_files.proofs.Below.{aligned_pieces, cells_under, chosen_floats_with, framed_is_batch, framed_whole, holds_none, plain_fields_with}
pub use Rattle.ipc_files.proofs.Below.{plain_of, same_message}
pub use Rattle.ipc_files.proofs.BlockMessages.{refused_first}
pub use Rattle.ipc_files.proofs.Errors.{none_refused}
pub use Rattle.ipc_files.proofs.FileDictionaries.{refused_in_file}
