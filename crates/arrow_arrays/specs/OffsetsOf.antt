-- The offsets of lists, and their width.
use Rattle.std.specs.Prelude.{List, ℤ}
use Rattle.arrow_spec.specs.Kinds.{Offsets, small, large}
use Rattle.arrow_arrays.specs.declared.offsets.ListOffsets.{ListOffsets}
use Rattle.arrow_arrays.specs.declared.offsets.ListOffsets.TheVariants.{Small, Large}

abbrev pub offsets_in : ListOffsets → List ℤ
offsets_in (Small b) = b
offsets_in (Large b) = b

abbrev pub width_in : ListOffsets → Offsets
width_in (Small b) = small
width_in (Large b) = large
