-- What crates below say, handed on to those above.
pub use Rattle.laws_unify.specs.Over.{AreOver, IsOver, Lists, PartsAreOver, over, values_of}
pub use Rattle.laws_unify.specs.United.{are_of, has_large_keys, unified, united}
