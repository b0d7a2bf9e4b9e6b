-- What crates below say, handed on to those above.
pub use Rattle.laws_writers.proofs.Below.{each_use, held_fields}
