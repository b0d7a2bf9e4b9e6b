-- What crates below say, handed on to those above.
pub use Rattle.ipc_read_laws.specs.Batches.{columns_read}
pub use Rattle.ipc_read_laws.specs.Faults.{stated_of}
pub use Rattle.ipc_read_laws.specs.Held.{HasKind, HasKindOf, Held, HoldsCells, none_held, values_of_id}
pub use Rattle.ipc_read_laws.specs.PartsRead.{parts_read}
pub use Rattle.ipc_read_laws.specs.Projection.{are_below, are_columns, are_rising, chosen, columns_of, kept}
