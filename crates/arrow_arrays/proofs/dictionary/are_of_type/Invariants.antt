use Rattle.std.proofs.Common.{◌≡◌, drop}
use Rattle.std.specs.List.{list_all}
use Rattle.arrow_spec.specs.Kinds.{is_same_kind}
use Rattle.arrow_types.specs.KindOf.{kind_of}
use Rattle.arrow_arrays.specs.Parts.{kinds_each}
use Rattle.arrow_arrays.specs.PartsOf.{forest_of}
use Rattle.arrow_arrays.proofs.dictionary.are_of_type.Given as goal

abbrev pub invariant-loop-part : goal.invariant-loop-part
invariant-loop-part l = list_all (is_same_kind (kind_of l.dtype)) (kinds_each (forest_of (drop l.part-index l.parts))) ≡ list_all (is_same_kind (kind_of l.dtype)) (kinds_each (forest_of l.parts))
