-- What crates below say, handed on to those above.
pub use Rattle.ipc_messages.specs.Below.{Absent, all_representable, allowed, are_same_cells, array_sent, arrays_sent, by_cells, columns_fault}
pub use Rattle.ipc_messages.specs.Below.{columns_of, delta_start, dictionary_sent, fixing, has_several, holding, is_indexed, is_representable, Longer}
pub use Rattle.ipc_messages.specs.Below.{message_of, Options, Other, parts_sent, rows_from, Same, scoped, Sending, sending, Standing, standing}
pub use Rattle.ipc_messages.specs.Below.{then_by, ToSend, values_in}
pub use Rattle.ipc_messages.specs.Schemas.{begun_message, begun_metadata, features_checked, SchemaIsSaid}
pub use Rattle.ipc_messages.specs.declared.pairs.StreamPairs.{StreamPairs}
unfoldable pub use Rattle.ipc_messages.specs.Schemas.{stream_text}
pub use Rattle.laws_columns.specs.Below.{all_fit, AreValuesOf, columns_read, fits_below, forest_read, HasFields, HasKinds, HoldsFields, HoldsKinds}
pub use Rattle.laws_columns.specs.Below.{IsNumbered, listed_read, none_held, parts_or_empty, parts_read, parts_under, plain_fields, plain_kind}
pub use Rattle.laws_columns.specs.Below.Defaults as Defaults
unfoldable pub use Rattle.laws_columns.specs.Below.{serialized, written}
