-- What crates below say, handed on to those above.
pub use Rattle.ipc_read.proofs.ColumnIds.{chosen_floats_with}
pub use Rattle.ipc_read.proofs.ColumnKinds.{column_carried}
pub use Rattle.ipc_read.proofs.DictionaryReads.{holds_more}
pub use Rattle.ipc_read.proofs.Refusals.{among_left, among_right, among_split}
pub use Rattle.ipc_schema.proofs.Items.{signed-front}
pub use Rattle.laws_columns.proofs.Below.{aligned_pieces, beyond_is_not_sent, first_rows, framed_is_batch, framed_whole, holds_none, may_little}
pub use Rattle.laws_columns.proofs.Below.{means_under, plain_fields_with, plain_of, same_message, short_is_sent, short_then_sent, within_is_sent}
pub use Rattle.laws_columns.proofs.CarriedFields.{fields_carried}
pub use Rattle.laws_columns.proofs.ReadBatches.{read_batch_sent}
pub use Rattle.laws_columns.proofs.ReadColumns.{cells_under}
pub use Rattle.laws_columns.proofs.ReadValues.{read_values_at}
pub use Rattle.laws_columns.proofs.RisingBatches.{rising_asked, rising_refuses}
pub use Rattle.laws_columns.proofs.TreeLengths.{column_written}
pub use Rattle.ipc_projection.proofs.Projected.{applicable, applied_arrays, applied_schema}
pub use Rattle.arrow_arrays.proofs.EmptyParts.{cells-empty, kind-empty, rows-empty, sound-empty}
pub use Rattle.arrow_arrays.proofs.Sliced.{length-cells, neither, top_sound}
pub use Rattle.ipc_projection.proofs.Below.{chosen_with, each_use, each_value, held_fields}
