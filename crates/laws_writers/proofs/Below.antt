-- What crates below say, handed on to those above.
pub use Rattle.ipc_messages.proofs.Beginning.{features_free, text_is}
pub use Rattle.ipc_messages.proofs.Columns.{kind_of_field}
pub use Rattle.laws_columns.proofs.Below.{Agrees, all_written, both_none, carried_plain, each_use, each_value, fields_plain, form_plain, held_fields}
pub use Rattle.laws_columns.proofs.Below.{holds_none, join, kind_under, parts_sound, plain_fields_with, plain_of, plain_same, plain_twice}
pub use Rattle.laws_columns.proofs.Below.{representable_is, split, uses_one, values_plain, width_plain}
