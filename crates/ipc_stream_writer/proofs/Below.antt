-- What crates below say, handed on to those above.
pub use Rattle.ipc_messages.proofs.Lengths.{length-batch, length-message}
pub use Rattle.laws_writers.proofs.Causes.{batch_refused, IsOfChunk}
pub use Rattle.laws_writers.proofs.OwnFields.{floats_own, with_own}
pub use Rattle.laws_writers.proofs.Refusals.{refused_chosen}
pub use Rattle.laws_writers.proofs.Written.{chunk_is_put, schema_is_put}
pub use Rattle.laws_writers.proofs.Uses.{all_floats}
