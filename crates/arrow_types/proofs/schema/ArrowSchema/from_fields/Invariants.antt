use Rattle.std.proofs.Common.{◌≡◌, map, []}
use Rattle.std.specs.Vec.Iter.{into_iter_items}
use Rattle.arrow_types.specs.KindOf.{child_of}
use Rattle.arrow_types.specs.Schemas.{with_fields}
use Rattle.arrow_types.proofs.schema.ArrowSchema.from_fields.Given as goal

abbrev pub invariant-loop-field : goal.invariant-loop-field
invariant-loop-field l = with_fields l.schema (map child_of (into_iter_items l.field-iterator)) ≡ with_fields [] (map child_of l.fn.fields.items)
