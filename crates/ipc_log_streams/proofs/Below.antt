-- What crates below say, handed on to those above.
pub use Rattle.ipc_tablelog.proofs.Below.{whole_said}
