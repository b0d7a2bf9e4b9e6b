-- What proofs of crates that stand on this one have of those below.
pub use Rattle.laws_sent.proofs.FileSent.{file_sent}
pub use Rattle.laws_sent.proofs.Right.{columns_right, kinds_of_schema}
pub use Rattle.laws_sent.proofs.SentFields.{are_sent_fields, sent_plain}
pub use Rattle.laws_sent.proofs.Starts.{begun_sent, why_refused}
pub use Rattle.ipc_reader.proofs.Below.{file_width, is_err, plain_fields_with, right_of_file}
pub use Rattle.ipc_stream_writer.proofs.Below.{all_floats, batch_refused, floats_own, refused_chosen, schema_is_put}
pub use Rattle.laws_sent.proofs.PlainFields.{same_numbers, same_representable}
pub use Rattle.laws_sent.proofs.SayableFields.{can_be_said, fields_own, fields_representable, numberable}
