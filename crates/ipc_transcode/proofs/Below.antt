-- What crates below say, handed on to those above.
pub use Rattle.ipc_reader.proofs.Below.{file_cause, told}
