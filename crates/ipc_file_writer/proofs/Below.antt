-- What crates below say, handed on to those above.
pub use Rattle.ipc_messages.proofs.Below.{handed}
pub use Rattle.ipc_messages.proofs.ChunkSteps.{may_be_sent}
pub use Rattle.laws_writers.proofs.Apart.{agreeing_are_apart, children_under, columns_of_kinds, PartsUnder, same_dictionary, Under, values_under_them}
pub use Rattle.laws_writers.proofs.Causes.{batch_refused, IsOfChunk}
pub use Rattle.laws_writers.proofs.Chunks.{may_follow, message_under, pieces_under}
pub use Rattle.laws_writers.proofs.Firsts.{arrays_firsts}
pub use Rattle.laws_writers.proofs.OwnFields.{kinds_own, with_own}
pub use Rattle.laws_writers.proofs.Refusals.{refused_behind, refused_chosen, refused_of, refused_unless}
pub use Rattle.laws_writers.proofs.Uses.{all_floats}
