-- What crates below say, handed on to those above.
pub use Rattle.arrow_types.specs.KindCode.{by_tree_sound, kind_eq_is}
pub use Rattle.ipc_write.specs.Batches.{batch_body, columns_pieces, columns_written, top_column, written_batch_of}
pub use Rattle.ipc_write.specs.Below.{all_fit, AreValuesOf, Begins, column_in, columns_of, columns_read, dictionary_id, first_kind, Fit, FitEach}
pub use Rattle.ipc_write.specs.Below.{fits_below, forest_read, HasFields, HasKinds, head_pieces, HeadFit, HoldsEachAt, HoldsFields, HoldsKinds}
pub use Rattle.ipc_write.specs.Below.{HoldsValuesAt, is_alike, IsNumbered, listed_read, Moved, moved, nodes_in, none_held, NoneFalls, offset_bytes}
pub use Rattle.ipc_write.specs.Below.{offset_limit, other_fields, parts_or_empty, parts_read, parts_under, pieces_in, plain_fields, plain_kind}
pub use Rattle.ipc_write.specs.Below.{PutsPart, sent, tree_nodes, tree_pieces, trees_nodes, trees_pieces, trim, trim_each, width_of_kind, with_kind}
pub use Rattle.ipc_write.specs.Encoding.{AllMean, AreAlike, columns_under, HoldAllValues}
pub use Rattle.ipc_write.specs.Outcomes.{Plans}
pub use Rattle.ipc_write.specs.Planned.{is_short, NodesFit}
pub use Rattle.ipc_write.specs.Values.{MayBeValues, PlansValues, values_message}
pub use Rattle.ipc_write.specs.declared.encoded.EncodedData.{EncodedData}
pub use Rattle.ipc_write.specs.declared.options.WriteOptions.{WriteOptions}
pub use Rattle.laws_transcode.specs.Files.{AreAsked, ArePicked, HeaderFits, with_columns}
unfoldable pub use Rattle.arrow_types.specs.KindCode.{kind_eq}
unfoldable pub use Rattle.ipc_write.specs.Batches.{batch_message, is_within}
unfoldable pub use Rattle.ipc_write.specs.Outcomes.{message_frame}
pub use Rattle.ipc_write.specs.Below.Defaults as Defaults
unfoldable pub use Rattle.ipc_write.specs.Below.{serialized, written}
