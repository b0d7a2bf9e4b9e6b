use Rattle.std.proofs.Common.{◌≡◌, [], map, ap, arith}
use Rattle.std.specs.Vec.Iter.{into_iter_items}
use Rattle.std.proofs.lemmas.Grind.{common_steps}
use Rattle.arrow_types.specs.KindOf.{child_of}
use Rattle.schema_reader.proofs.Keys.{keyed_done}
use Rattle.schema_reader.proofs.schema.put_fields.Goals as goal

pub returns : goal.returns
returns c =
    let none : into_iter_items c.loop-field.field-iterator ≡ [] = grind (arith, common_steps) in
    record { gives = keyed_done c.loop-field.schema (map child_of (into_iter_items c.loop-field.field-iterator)) _ (ap (map child_of) none) c.loop-field.invariant }
