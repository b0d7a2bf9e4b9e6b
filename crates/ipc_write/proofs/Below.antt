-- What crates below say, handed on to those above.
pub use Rattle.arrow_arrays.proofs.NumberParts.{leaf_suits}
pub use Rattle.arrow_arrays.proofs.Sliced.{neither, top_sound}
pub use Rattle.arrow_buffers.proofs.Fixed.{quotient}
pub use Rattle.arrow_buffers.proofs.Rising.{offset_risen, some_offset}
pub use Rattle.arrow_buffers.proofs.VariableParts.{variable_sound}
pub use Rattle.ipc_bodies.proofs.Encoded.{text_of-append}
pub use Rattle.ipc_bodies.proofs.Puts.{more_part, puts_as, stopped, then_all, then_part, then_puts}
pub use Rattle.ipc_fields.proofs.SameKinds.{same_itself}
pub use Rattle.ipc_schema.proofs.Footers.{more_natural, none_natural}
pub use Rattle.ipc_write_arrays.proofs.Alike.{alike_by}
pub use Rattle.ipc_write_arrays.proofs.Below.{Agrees, all_written, both_none, buffers_held, carried_plain, chosen_with, count-rows, each_use}
pub use Rattle.ipc_write_arrays.proofs.Below.{each_value, faults_by_layout, fields_plain, form_plain, held_fields, holds_none, is_nested, join}
pub use Rattle.ipc_write_arrays.proofs.Below.{kind_under, length-rows, lengths-buffers, like_itself, nested_under, nulls-read, parts_sound}
pub use Rattle.ipc_write_arrays.proofs.Below.{plain_fields_with, plain_of, plain_same, plain_twice, plain_with, read_plain, sound_under, split}
pub use Rattle.ipc_write_arrays.proofs.Below.{uses_one, valid-read, validity_bytes-read, values_plain, view-told, views_held, whole_on, width_plain}
pub use Rattle.ipc_write_arrays.proofs.Keys.{length-keys}
pub use Rattle.ipc_write_arrays.proofs.LayoutKinds.{variable_offsets}
pub use Rattle.ipc_write_arrays.proofs.RoundTrip.{means_under}
pub use Rattle.ipc_write_arrays.proofs.RoundTripPlaces.{length-offset_bytes}
pub use Rattle.ipc_write_arrays.proofs.TrimLaws.{head_holds, rows-trim}
pub use Rattle.ipc_schema.proofs.Below.{map_ascends, representable_is}
pub use Rattle.arrow_arrays.proofs.HeadSliced as HeadSliced
pub use Rattle.arrow_arrays.proofs.LeafSliced as LeafSliced
