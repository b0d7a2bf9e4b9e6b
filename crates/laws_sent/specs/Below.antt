-- What crates below say, handed on to those above.
pub use Rattle.ipc_files.specs.Below.{Held, HoldsCells, Moved, moved, NoneFalls, PutsPart}
pub use Rattle.laws_writers.specs.Below.{HoldsFields, IsNumbered, parts_or_empty, plain_fields}
pub use Rattle.laws_writers.specs.BelowProjection.{columns_of}
