-- What crates below say, handed on to those above.
pub use Rattle.arrow_arrays.specs.Batches.{Batch}
pub use Rattle.arrow_arrays.specs.CellCode.{Content, content_from, content_from-content_to, content_to}
pub use Rattle.arrow_arrays.specs.Heads.{are_of, child_fields, Cut, each_of, Indexed, indexed, is_dictionary, joined, list_size, listed, mapped, run}
pub use Rattle.arrow_arrays.specs.Heads.{sized, structured, suits, tagged, tagged_cut, values_kind, whole}
pub use Rattle.arrow_arrays.specs.Parts.{also, cells_each, cells_in, cut, fault_each, fault_in, Forest, forest, kind_in, kinds_each, leaf, nested}
pub use Rattle.arrow_arrays.specs.Parts.{none, part_of, Parts, rows_in}
pub use Rattle.ipc_dictionaries.specs.Batches.{begun, Sends}
pub use Rattle.ipc_dictionaries.specs.Changes.{undone}
pub use Rattle.arrow_arrays.specs.Columns.{columns_of}
pub use Rattle.ipc_dictionaries.specs.Columns.{columns_fault, columns_sent, unless_fault}
pub use Rattle.ipc_dictionaries.specs.NewDictionaries.{array_sent, arrays_sent, dictionary_sent, fixing, has_several, holding, message_of, Options}
pub use Rattle.ipc_dictionaries.specs.NewDictionaries.{parts_sent, rows_from, scoped, Sending, sending, then_by, ToSend}
pub use Rattle.ipc_fields.specs.Representable.{all_representable, is_representable}
pub use Rattle.ipc_dictionaries.specs.Shapes.{agree}
pub use Rattle.ipc_dictionaries.specs.Standing.{allowed, are_same_cells, by_cells, delta_start, standing}
pub use Rattle.ipc_dictionaries.specs.Tracker.{Held, held_by, is_indexed, IsKept, values_in}
pub use Rattle.ipc_dictionaries.specs.Walks.{options_of, to_send}
pub use Rattle.ipc_dictionaries.specs.declared.comparison.Standing.{Standing}
pub use Rattle.ipc_dictionaries.specs.declared.comparison.Standing.TheVariants.{Absent, Longer, Other, Same}
pub use Rattle.ipc_dictionaries.specs.declared.sending.NewDictionaries.{NewDictionaries}
pub use Rattle.ipc_dictionaries.specs.declared.tracker.DictionaryTracker.{DictionaryTracker}
pub use Rattle.ipc_dictionaries.specs.declared.walk.ToEncode.{ToEncode}
pub use Rattle.ipc_fields.specs.IpcFields.{fields_with, have_shapes, Ids, ids, kind_with, metadata_of, no_fields}
pub use Rattle.ipc_fields.specs.Uses.{first_id, first_ids, id_under, other_ids, use_as}
pub use Rattle.ipc_write.specs.Batches.{written_batch_of}
pub use Rattle.ipc_write.specs.Below.{file_block, IsNatural, Moved, moved, NoneFalls, PutsPart}
pub use Rattle.ipc_write.specs.Metadata.{Builds, BuildsMetadata}
pub use Rattle.ipc_write.specs.declared.encoded.EncodedData.{EncodedData}
pub use Rattle.ipc_write.specs.declared.options.WriteOptions.{WriteOptions}
unfoldable pub use Rattle.arrow_arrays.specs.CellCode.{content_eq}
unfoldable pub use Rattle.ipc_write.specs.Batches.{batch_message}
pub use Rattle.arrow_arrays.specs.PartsOf.{all_parts_of}
