-- What crates below say under names that others have, handed on.
pub use Rattle.laws_columns.specs.Below.{columns_of}
