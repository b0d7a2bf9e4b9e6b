-- What crates below say, handed on to those above.
pub use Rattle.ipc_transcode.proofs.Below.{file_cause, told}
pub use Rattle.ipc_transcode.proofs.Refusing.{stood}
