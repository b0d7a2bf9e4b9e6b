-- What crates below say, handed on to those above.
pub use Rattle.ipc_read_laws.specs.Batches.{columns_read}
pub use Rattle.ipc_read_laws.specs.Held.{AreValuesOf, HasFields, HasKinds, Held, HoldsCells, HoldsFields, HoldsKinds, none_held, values_of_id}
pub use Rattle.ipc_read_laws.specs.LayoutFaults.{contents_of}
pub use Rattle.ipc_read_laws.specs.PartsRead.{forest_read, listed_read, parts_in, parts_or_empty, parts_read, parts_under, validity_read, views_read}
pub use Rattle.ipc_read_laws.specs.PlainKinds.{plain_fields, plain_kind}
pub use Rattle.ipc_read_laws.specs.WrittenParts.{head_lengths, head_written, leaf_lengths_in, offset_bytes, places_length, validity_bytes}
pub use Rattle.ipc_read_laws.specs.WrittenParts.{variable_lengths, width_bytes, written_each, written_in, written_on}
pub use Rattle.ipc_write_laws.specs.Columns.{Means, WrittenColumn}
pub use Rattle.ipc_write_laws.specs.Messages.{message_of_values}
pub use Rattle.ipc_write_laws.specs.Streams.{AreOf, batch_bytes, body_for, pieces_of, written_batch, written_of, WrittenBatch}
pub use Rattle.ipc_read_laws.specs.WrittenParts as WrittenParts
pub use Rattle.ipc_read_laws.specs.Projection.{columns_of}
