-- What crates below say, handed on to those above.
pub use Rattle.ipc_log_records.proofs.Decoding.{whole_said}
pub use Rattle.ipc_log_records.proofs.Schemas.{read_own, read_regular, said_are}
pub use Rattle.ipc_log_records.proofs.Writing.{handed, if_err}
