-- What crates below say, handed on to those above.
pub use Rattle.arrow_arrays.specs.Batches.{Batch}
pub use Rattle.arrow_arrays.specs.Carried.{are_carried, is_carried}
pub use Rattle.arrow_arrays.specs.EmptyParts.{empty_leaf, empty_under}
pub use Rattle.arrow_arrays.specs.Heads.{Cut, Head, head_part, head_rows, head_validity, indexed, indexed_part, joined, listed, mapped, Reaches, run}
pub use Rattle.arrow_arrays.specs.Heads.{sized, structured, tagged, tagged_cut, whole}
pub use Rattle.arrow_arrays.specs.LeafKinds.{is_leaf_kind, is_leaf_layout}
pub use Rattle.arrow_arrays.specs.LeafParts.{are_numbers, binary, binary_views, bits, fixed, leaf_cells_in, leaf_fault_in, leaf_part_of, LeafParts}
pub use Rattle.arrow_arrays.specs.LeafParts.{nulls, number_size, numbers, text, text_views}
pub use Rattle.arrow_arrays.specs.Nodes.{counts_each, counts_in, leaf_counts_in, node_in}
pub use Rattle.arrow_arrays.specs.Parts.{also, cells_each, cells_in, fault_each, fault_in, Forest, kind_in, leaf, nested, none, Parts, rows_each}
pub use Rattle.arrow_arrays.specs.Parts.{rows_in}
pub use Rattle.arrow_buffers.specs.Layouts.{binary_size, is_variable, is_variable_any, is_view}
pub use Rattle.arrow_buffers.specs.Rows.{is_valid, null_rows, part}
pub use Rattle.arrow_buffers.specs.Variable.{are_offsets, place_at, Variable, variable_fault, variable_rows}
pub use Rattle.arrow_buffers.specs.Views.{view_at, view_fault, view_rows, Views}
pub use Rattle.ipc_bodies.specs.Encodings.{made_width, text_of}
pub use Rattle.ipc_bodies.specs.Fitting.{offset_limit}
pub use Rattle.ipc_bodies.specs.Pieces.{offset_bytes}
pub use Rattle.ipc_bodies.specs.Puts.{Moved, moved, NoneFalls, PutsPart, PutsText}
pub use Rattle.ipc_bodies.specs.declared.encoding.Encoding.{Encoding}
pub use Rattle.ipc_bodies.specs.declared.encoding.Encoding.TheVariants.{Bytes, HexText}
pub use Rattle.ipc_io.specs.Outside.{Rose}
pub use Rattle.ipc_schema.specs.Footers.{file_block, IsNatural}
pub use Rattle.ipc_write_arrays.specs.Below.{AreValuesOf, batch_bytes, body_for, columns_of, columns_read, contents_of, forest_read, HasFields}
pub use Rattle.ipc_write_arrays.specs.Below.{HasKinds, head_lengths, head_written, Held, HoldsCells, HoldsFields, HoldsKinds, leaf_lengths_in}
pub use Rattle.ipc_write_arrays.specs.Below.{listed_read, none_held, parts_in, parts_or_empty, parts_read, parts_under, places_length, plain_fields}
pub use Rattle.ipc_write_arrays.specs.Below.{plain_kind, validity_bytes, validity_read, values_of_id, variable_lengths, views_read, width_bytes}
pub use Rattle.ipc_write_arrays.specs.Below.{written_batch, written_each, written_in, written_on}
pub use Rattle.ipc_write_arrays.specs.Dictionaries.{Begins, dictionary_id, first_kind, HoldsEachAt, HoldsValuesAt, is_alike, other_fields}
pub use Rattle.ipc_write_arrays.specs.Outputs.{LeafMayHaveOrder, MayHaveOrder}
pub use Rattle.ipc_write_arrays.specs.Pieces.{bytes_between, column_in, Fit, FitEach, head_pieces, HeadFit, layout_in_order, leaf_pieces, nodes_in}
pub use Rattle.ipc_write_arrays.specs.Pieces.{pieces_in, place_pieces, tree_nodes, tree_pieces, trees_nodes, trees_pieces, variable_pieces}
pub use Rattle.ipc_write_arrays.specs.Pieces.{width_of_kind, with_kind}
pub use Rattle.ipc_write_arrays.specs.Trims.{counted_from, has_no_children, head_trim, held_by, sent, trim, trim_each}
pub use Rattle.ipc_schema.specs.Below.{all_fit, belong_to, fits_below, IsNumbered, IsOfMessage, PairsAscend, ReadsBackAs}
unfoldable pub use Rattle.ipc_schema.specs.Below.{serialized, written}
pub use Rattle.ipc_write_arrays.specs.Below.WrittenParts as WrittenParts
pub use Rattle.ipc_schema.specs.Below.Defaults as Defaults
