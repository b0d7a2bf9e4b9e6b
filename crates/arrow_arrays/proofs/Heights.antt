-- The arrays of a batch have its height, as those of a struct have its rows.
use Rattle.std.proofs.Common.{◌≡◌, ℕ, ◌&&◌, List, [], ◌∷◌, nat_eq, refl, ap}
use Rattle.arrow_arrays.specs.Heads.{are_all}
use Rattle.arrow_arrays.specs.Parts.{Parts, forest, rows_in, rows_each}
use Rattle.arrow_arrays.specs.Batches.{have_rows}

pub heights_are_rows : (height : ℕ) (ps : List Parts) → are_all height (rows_each (forest ps)) ≡ have_rows height ps
heights_are_rows height [] = refl
heights_are_rows height (p ∷ ps) = ap (λ b. nat_eq (rows_in p) height && b) (heights_are_rows height ps)
