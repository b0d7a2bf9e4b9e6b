-- What crates below say, handed on to those above.
pub use Rattle.laws_sent.proofs.NextParts.{held_parts}
