use Rattle.std.proofs.Common.{◌≡◌, drop}
use Rattle.arrow_types.specs.KindOf.{fields_of}
use Rattle.arrow_arrays.specs.Carried.{are_carried}
use Rattle.arrow_arrays.proofs.carried.+carried.Given as goal

abbrev pub invariant-are_carried-loop-field : goal.invariant-are_carried-loop-field
invariant-are_carried-loop-field l = are_carried (fields_of l.fields) ≡ are_carried (fields_of (drop l.field-index l.fields))
