-- What crates below say, handed on to those above.
pub use Rattle.ipc_write_laws.proofs.SentBatches.{batch_same, written_of_cons, written_of_one}
