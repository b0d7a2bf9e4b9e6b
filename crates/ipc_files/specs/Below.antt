-- What crates below say, handed on to those above.
pub use Rattle.ipc_projection.specs.Below.{are_columns, are_rising, chosen, columns_of, columns_read, HasKind, HasKindOf, Held, HoldsCells, none_held}
pub use Rattle.ipc_projection.specs.Below.{values_of_id}
pub use Rattle.ipc_projection.specs.Projections.{IsProjection, IsReordered, MayProject, numbers_in}
pub use Rattle.ipc_projection.specs.declared.projection.ProjectionInfo.{ProjectionInfo}
pub use Rattle.ipc_read.specs.Batches.{are_column_fields, are_column_kinds, batch_reading, chosen_read, columns_asked, is_column_kind, kinds_of}
pub use Rattle.ipc_read.specs.Batches.{table_of}
pub use Rattle.ipc_read.specs.DictionaryBatches.{AddsDictionary, dictionary_reading, HoldsPart, message_of, parts_before, with_part}
pub use Rattle.ipc_read.specs.Held.{held_in}
pub use Rattle.ipc_read.specs.Sources.{Answers, bytes_in, IsRefusal}
pub use Rattle.ipc_read.specs.declared.body.Body.{Body}
pub use Rattle.ipc_schema.specs.Footers.{block_by, file_block, IsNatural}
pub use Rattle.ipc_schema.specs.Headers.{dictionary_message_of, DictionaryTables}
pub use Rattle.ipc_schema.specs.Views.{header_of}
pub use Rattle.ipc_schema.specs.declared.message.DictionaryMessage.{DictionaryMessage}
pub use Rattle.ipc_schema.specs.declared.message.RecordMessage.{RecordMessage}
pub use Rattle.laws_columns.specs.Below.{AllMean, AreAsked, ArePicked, batch_body, Begins, column_in, columns_pieces, columns_under, dictionary_id}
pub use Rattle.laws_columns.specs.Below.{EncodedData, first_kind, Fit, FitEach, HasFields, HasKinds, head_pieces, HeadFit, HoldsEachAt, HoldsValuesAt}
pub use Rattle.laws_columns.specs.Below.{is_alike, Moved, moved, nodes_in, NoneFalls, offset_bytes, offset_limit, other_fields, pieces_in}
pub use Rattle.laws_columns.specs.Below.{plain_fields, plain_kind, Plans, PutsPart, sent, tree_nodes, tree_pieces, trees_nodes, trees_pieces, trim}
pub use Rattle.laws_columns.specs.Below.{trim_each, values_message, width_of_kind, with_kind, WriteOptions, written_batch_of}
pub use Rattle.laws_columns.specs.Laws.{batch_under}
unfoldable pub use Rattle.ipc_schema.specs.Headers.{dictionary_message}
unfoldable pub use Rattle.laws_columns.specs.Below.{batch_message, is_within, message_frame}
pub use Rattle.ipc_projection.specs.Places.{IsPermutation, StandAt}
pub use Rattle.arrow_arrays.specs.Heads.{are_of, child_fields, each_of, Head, indexed, Indexed, is_dictionary, joined, list_size, listed, mapped, run}
pub use Rattle.arrow_arrays.specs.Heads.{sized, structured, suits, tagged, values_kind, whole}
pub use Rattle.arrow_arrays.specs.Parts.{also, cells_each, cells_in, fault_each, fault_in, Forest, forest, kind_in, kinds_each, leaf, nested, none}
pub use Rattle.arrow_arrays.specs.Parts.{Parts, rows_each, rows_in}
pub use Rattle.arrow_arrays.specs.Carried.{are_carried, is_carried}
pub use Rattle.arrow_arrays.specs.EmptyParts.{empty_forest, empty_leaf, empty_parts, empty_under}
pub use Rattle.arrow_arrays.specs.LeafParts.{binary, fixed, leaf_cells_in, leaf_part_of, LeafParts, numbers, text}
pub use Rattle.arrow_arrays.specs.Nodes.{counts_each, counts_in, node_in}
pub use Rattle.arrow_arrays.specs.Parts as Parts
unfoldable pub use Rattle.arrow_arrays.specs.CellCode.{content_eq}
pub use Rattle.arrow_arrays.specs.CellCode.{content_to}
