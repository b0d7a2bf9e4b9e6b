-- What crates below say, handed on to those above.
pub use Rattle.laws_unify.specs.Over.{is_same_cell, place_in, values_of}
pub use Rattle.laws_unify.specs.United.{held_in, with_parts}
