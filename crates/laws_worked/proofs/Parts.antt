-- The parts of a dictionary hold its cells, and nothing is left to be sent of what was sent whole.
use Rattle.std.proofs.Common.{◌≡◌, ℕ, ◌-◌, ◌≤◌, List, [], ◌∷◌, ◌++◌, length, Option, Some, refl, arith, true, false, Bool, cond, ℤ, length-append}
use Rattle.std.specs.Prelude.{nat_le}
use Rattle.std.proofs.lemmas.Bool.{le-leb}
use Rattle.std.proofs.lemmas.List.Sums.{sum_by-append, sum_by-cons}
use Rattle.arrow_spec.specs.Cells.{Cell}
use Rattle.arrow_spec.specs.Kinds.{same}
use Rattle.arrow_spec.specs.Arrays.{Dictionaries, cells_before, found}
use Rattle.arrow_spec.specs.Sent.{Part, cell_count, parts_before, parts_beyond, parts_read}

held_part : (is_here is_delta : Bool) (ps : List Part) (old : Option (List Cell)) (p : Part) (cells : List Cell) → p.count ≡ length cells → cell_count ps ≡ length (cells_before true old) → cell_count (cond is_here (parts_before is_delta ps ++ p ∷ []) ps) ≡ length (cells_before true (cond is_here (Some (cells_before is_delta old ++ cells)) old))
held_part false is_delta ps old p cells h e = e
held_part true false ps old p cells h e = omega (arith, sum_by-cons (λ (x : Part). x.count) p [], h)
held_part true true ps old p cells h e = omega (arith, sum_by-append (λ (x : Part). x.count) ps (p ∷ []), sum_by-cons (λ (x : Part). x.count) p [], length-append (cells_before true old) cells, h, e)

-- as many cells as are found under the id
pub parts_hold : (d : Dictionaries) (id : ℤ) → cell_count (parts_read d id) ≡ length (cells_before true (found d id))
parts_hold [] id = refl
parts_hold (x ∷ xs) id = held_part (same x.id id) x.is_delta (parts_read xs id) (found xs id) (record { count = length x.cells; written = x.written; under = xs }) x.cells refl (parts_hold xs id)

-- no part holds cells beyond all of them
pub none_beyond : (ps : List Part) (n : ℕ) → cell_count ps ≤ n → parts_beyond n ps ≡ []
none_beyond [] n h = refl
none_beyond (p ∷ ps) n h =
    let sum = sum_by-cons (λ (x : Part). x.count) p ps in
    let here : nat_le p.count n ≡ true = le-leb _ _ (omega (arith, sum, h)) in
    rw here (none_beyond ps (n - p.count) (omega (arith, sum, h)))
