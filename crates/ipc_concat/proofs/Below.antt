-- What crates below say, handed on to those above.
pub use Rattle.laws_walk.proofs.Fronts.{Appends-text, of_put, part_behind, part_of_put, put_before}
pub use Rattle.laws_walk.proofs.Nexts.{with_batch, with_end}
pub use Rattle.laws_walk.proofs.Below.{all_floats, can_be_said, fields_own, fields_representable, floats_own, numberable, plain_fields_with}
pub use Rattle.laws_walk.proofs.Below.{refused_chosen, same_numbers, same_representable, schema_is_put}
