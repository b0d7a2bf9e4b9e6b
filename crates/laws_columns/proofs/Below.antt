-- What crates below say, handed on to those above.
pub use Rattle.ipc_write.proofs.Below.{Agrees, all_written, both_none, carried_plain, chosen_with, each_use, each_value, fields_plain, form_plain}
pub use Rattle.ipc_write.proofs.Below.{held_fields, holds_none, join, kind_under, means_under, parts_sound, plain_fields_with, plain_of, plain_same}
pub use Rattle.ipc_write.proofs.Below.{plain_twice, plain_with, representable_is, split, uses_one, values_plain, width_plain}
pub use Rattle.ipc_write.proofs.DictionaryValues.{first_rows}
pub use Rattle.ipc_write.proofs.Meanings.{columns_mean, columns_under_are_of, may_little}
pub use Rattle.ipc_write.proofs.PlannedMessages.{short_is_sent, short_then_sent}
pub use Rattle.ipc_write.proofs.Putting.{aligned_pieces}
pub use Rattle.ipc_write.proofs.Written.{beyond_is_not_sent, framed_is_batch, framed_whole, same_message, within_is_sent}
pub use Rattle.laws_transcode.proofs.Refusals.{custom_refuses, meta_refuses, none_refuses}
pub use Rattle.laws_transcode.proofs.Headers as Headers
