-- What crates below say, handed on to those above.
pub use Rattle.laws_sent.proofs.PlainFields.{same_numbers, same_representable}
pub use Rattle.laws_sent.proofs.SayableFields.{can_be_said, fields_own, fields_representable, numberable}
pub use Rattle.laws_sent.proofs.FieldKinds.{ids_split}
pub use Rattle.laws_sent.proofs.Walks.{dictionary_ids}
pub use Rattle.ipc_file_writer.proofs.Causes.{end_too_large, more_limit, start_cause}
pub use Rattle.ipc_file_writer.proofs.Below.{all_floats, children_under, columns_of_kinds, PartsUnder, refused_chosen, same_dictionary, Under}
pub use Rattle.ipc_file_writer.proofs.Below.{values_under_them}
pub use Rattle.ipc_streams.proofs.Below.{chosen_floats_with, plain_fields_with}
pub use Rattle.ipc_streams.proofs.TakenCalls.{cause_since}
pub use Rattle.ipc_streams.proofs.StreamLaws.{begins_so}
pub use Rattle.ipc_streams.proofs.NextBatches.{behind_dictionary, by_message, next_is, none_found, step_taken}
