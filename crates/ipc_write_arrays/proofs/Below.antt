-- What crates below say, handed on to those above.
pub use Rattle.ipc_read_laws.proofs.ChosenFloats.{chosen_with}
pub use Rattle.ipc_read_laws.proofs.HeldUses.{Agrees, each_use, each_value, held_fields, join, plain_same, split, uses_one}
pub use Rattle.ipc_read_laws.proofs.KindCases.{like_itself}
pub use Rattle.ipc_read_laws.proofs.LayoutLaws.{faults_by_layout}
pub use Rattle.ipc_read_laws.proofs.PlainTypes.{form_plain, plain_fields_with, plain_of, plain_twice, plain_with}
pub use Rattle.ipc_read_laws.proofs.Sound.{buffers_held, views_held}
pub use Rattle.ipc_read_laws.proofs.SoundLaws.{kind_under, sound_under}
pub use Rattle.ipc_read_laws.proofs.TreesSound.{parts_sound, read_plain}
pub use Rattle.ipc_read_laws.proofs.TreesWritten.{all_written, is_nested, nested_under, whole_on}
pub use Rattle.ipc_read_laws.proofs.Validities.{nulls-read, valid-read}
pub use Rattle.ipc_read_laws.proofs.ViewsRead.{count-rows, length-rows, lengths-buffers, view-told}
pub use Rattle.ipc_read_laws.proofs.WrittenLaws.{validity_bytes-read}
pub use Rattle.ipc_read_laws.proofs.PlainKinds.{carried_plain, fields_plain, values_plain, width_plain}
pub use Rattle.ipc_read_laws.proofs.Trees.{both_none}
pub use Rattle.ipc_read_laws.proofs.Keys.{holds_none}
