-- The bytes of ranges.
use Rattle.std.proofs.Common.{◌≡◌, ℕ, List, length, drop, arith, length-drop}
use Rattle.std.proofs.lemmas.List.{length-take}
use Rattle.view_types.specs.declared.layout.Range.{Range}
use Rattle.view_types.specs.Ranges.{Lies}
use Rattle.view_types.specs.Views.{part_in}

pub part_length : (input : List ℕ) (r : Range) → Lies input r → length (part_in input r) ≡ r.length
part_length input r h = omega (arith, h, length-take r.length (drop r.at input), length-drop r.at input)
