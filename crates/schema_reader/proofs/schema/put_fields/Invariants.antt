use Rattle.std.proofs.Common.{◌≡◌, map}
use Rattle.std.specs.Vec.Iter.{into_iter_items}
use Rattle.arrow_types.specs.KindOf.{child_of}
use Rattle.schema_reader.specs.Keyed.{keyed_distinct}
use Rattle.schema_reader.proofs.Keys.{keyed_left}
use Rattle.schema_reader.proofs.schema.put_fields.Given as goal

abbrev pub invariant-loop-field : goal.invariant-loop-field
invariant-loop-field l = keyed_left l.schema (map child_of (into_iter_items l.field-iterator)) ≡ keyed_distinct (map child_of l.fn.fields.items)
