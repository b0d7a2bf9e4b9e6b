-- Offsets of runs of rows, and the runs of the items between them.
use Rattle.std.proofs.Common.{◌≡◌, ◌∙◌, sym, ap, arith, ℕ, zero, suc, ◌+◌, ◌-◌, ◌*◌, ◌<◌, ◌≤◌, List, [], ◌∷◌, ◌++◌, length, map, take, drop, get_or, true, ℤ, pos}
use Rattle.std.proofs.lemmas.Grind.{flat_map-append}
use Rattle.std.proofs.lemmas.List.{map-append}
use Rattle.std.proofs.Math.Nat.{mul-suc}
use Rattle.arrow_spec.specs.Needed.{numbers_from}
use Rattle.arrow_buffers.specs.Variable.{place_at, are_offsets, variable_rows}
use Rattle.arrow_buffers.proofs.Rising.{offset_climbs}
use Rattle.array_filter.specs.declared.runs.Run.{Run}
use Rattle.array_filter.specs.Runs.{Climb, rows_in_runs, rows_of}
use Rattle.array_filter.specs.Offsets.{ends_on, offsets_on, row_length, items_of, items_taken, sized_items_taken}
use Rattle.array_filter.proofs.RunLaws.{numbers-append, rows_next}

abbrev pub total : List ℕ → ℕ
total [] = 0
total (n ∷ ns) = n + total ns

pub total-append : (ns ms : List ℕ) → total (ns ++ ms) ≡ total ns + total ms
total-append [] ms = omega arith
total-append (n ∷ ns) ms = omega (arith, total-append ns ms)

pub ends-append : (at : ℕ) (ns ms : List ℕ) → ends_on at (ns ++ ms) ≡ ends_on at ns ++ ends_on (at + total ns) ms
ends-append at [] ms = let e : at ≡ at + total [] = omega arith in ap (λ k. ends_on k ms) e
ends-append at (n ∷ ns) ms =
    let e : (at + n) + total ns ≡ at + (n + total ns) = omega arith in
    ap (λ zs. pos (at + n) ∷ zs) (ends-append (at + n) ns ms) ∙ ap (λ k. pos (at + n) ∷ ends_on (at + n) ns ++ ends_on k ms) e

-- how many items the rows of a run have
pub run_total : (os : List ℤ) (limit from count : ℕ) → are_offsets os limit ≡ true → from + count < length os → place_at os from + total (map (row_length os) (numbers_from from count)) ≡ place_at os (from + count)
run_total os limit from zero e h = let f : from ≡ from + 0 = omega arith in omega (arith, ap (place_at os) f)
run_total os limit from (suc count) e h =
    let f : suc from + count ≡ from + suc count = omega arith in
    omega (arith, offset_climbs os limit from e (omega arith), run_total os limit (suc from) count e (omega arith), ap (place_at os) f)

-- where one more row of a run ends
pub ends_more : (os : List ℤ) (limit from i begin : ℕ) → are_offsets os limit ≡ true → from + i + 1 < length os
    → ends_on begin (map (row_length os) (numbers_from from (i + 1))) ≡ ends_on begin (map (row_length os) (numbers_from from i)) ++ pos (begin + (place_at os (from + i + 1) - place_at os from)) ∷ []
ends_more os limit from i begin e h =
    let count : ℕ → ℕ = row_length os in
    let ns = map count (numbers_from from i) in
    let t = run_total os limit from i e (omega arith) in
    let up : suc (from + i) ≡ from + i + 1 = omega arith in
    let place : (begin + total ns) + count (from + i) ≡ begin + (place_at os (from + i + 1) - place_at os from) = omega (arith, t, ap (place_at os) up, offset_climbs os limit (from + i) e (omega arith)) in
    ap (λ ks. ends_on begin (map count ks)) (numbers-append from i 1) ∙ ap (ends_on begin) (map-append count (numbers_from from i) ((from + i) ∷ []))
    ∙ ends-append begin ns (count (from + i) ∷ []) ∙ ap (λ k. ends_on begin ns ++ pos k ∷ []) place

-- the offsets of one more run
pub offsets_next : (count : ℕ → ℕ) (runs : List Run) (k : ℕ) (r : Run) → k < length runs → r ≡ get_or runs k r
    → offsets_on 0 (map count (rows_in_runs (take (k + 1) runs))) ≡ offsets_on 0 (map count (rows_in_runs (take k runs))) ++ ends_on (total (map count (rows_in_runs (take k runs)))) (map count (rows_of r))
offsets_next count runs k r h e =
    let before = map count (rows_in_runs (take k runs)) in
    ap (λ rows. offsets_on 0 (map count rows)) (rows_next runs k r h e) ∙ ap (offsets_on 0) (map-append count (rows_in_runs (take k runs)) (rows_of r))
    ∙ ap (λ zs. pos 0 ∷ zs) (ends-append 0 before (map count (rows_of r))) ∙ ap (λ n. offsets_on 0 before ++ ends_on n (map count (rows_of r))) (omega arith)

pub total_next : (count : ℕ → ℕ) (runs : List Run) (k : ℕ) (r : Run) → k < length runs → r ≡ get_or runs k r
    → total (map count (rows_in_runs (take (k + 1) runs))) ≡ total (map count (rows_in_runs (take k runs))) + total (map count (rows_of r))
total_next count runs k r h e =
    let before = map count (rows_in_runs (take k runs)) in
    ap (λ rows. total (map count rows)) (rows_next runs k r h e) ∙ ap total (map-append count (rows_in_runs (take k runs)) (rows_of r)) ∙ total-append before (map count (rows_of r))

-- ── items ──

-- the items of a run's rows are a run
pub run_items : (os : List ℤ) (limit from count : ℕ) → are_offsets os limit ≡ true → from + count < length os → items_taken (numbers_from from count) os ≡ numbers_from (place_at os from) (place_at os (from + count) - place_at os from)
run_items os limit from zero e h =
    let f : from ≡ from + 0 = omega arith in
    let none : 0 ≡ place_at os (from + 0) - place_at os from = omega (arith, ap (place_at os) f) in
    ap (numbers_from (place_at os from)) none
run_items os limit from (suc count) e h =
    let f : suc from + count ≡ from + suc count = omega arith in
    let a = place_at os from in
    let b = place_at os (suc from) in
    let up : a ≤ b = offset_climbs os limit from e (omega arith) in
    let rest = run_items os limit (suc from) count e (omega arith) in
    let t = run_total os limit (suc from) count e (omega arith) in
    let seam : b ≡ a + row_length os from = omega arith in
    let long : row_length os from + (place_at os (suc from + count) - b) ≡ place_at os (from + suc count) - a = omega (arith, t, ap (place_at os) f) in
    ap (λ ks. numbers_from a (row_length os from) ++ ks) (rest ∙ ap (λ k. numbers_from k (place_at os (suc from + count) - b)) seam)
    ∙ sym (numbers-append a (row_length os from) (place_at os (suc from + count) - b)) ∙ ap (numbers_from a) long

pub items_of_next : (place count : ℕ → ℕ) (runs : List Run) (k : ℕ) (r : Run) → k < length runs → r ≡ get_or runs k r
    → items_of place count (rows_in_runs (take (k + 1) runs)) ≡ items_of place count (rows_in_runs (take k runs)) ++ items_of place count (rows_of r)
items_of_next place count runs k r h e = ap (items_of place count) (rows_next runs k r h e) ∙ flat_map-append (λ row. numbers_from (place row) (count row)) (rows_in_runs (take k runs)) (rows_of r)

-- those of lists of one size
pub run_sized : (size from count : ℕ) → sized_items_taken (numbers_from from count) size ≡ numbers_from (size * from) (size * count)
run_sized size from zero = let e : 0 ≡ size * 0 = omega arith in ap (numbers_from (size * from)) e
run_sized size from (suc count) =
    let place : size * suc from ≡ size * from + size = mul-suc size from in
    let long : size + size * count ≡ size * suc count = omega (arith, mul-suc size count) in
    ap (λ ks. numbers_from (size * from) size ++ ks) (run_sized size (suc from) count ∙ ap (λ k. numbers_from k (size * count)) place)
    ∙ sym (numbers-append (size * from) size (size * count)) ∙ ap (numbers_from (size * from)) long

-- ── what is known while runs are gone over ──

-- so many items stand before the rows that are left, which begin no earlier
pub record Begun (os : List ℤ) (runs : List Run) (k begin : ℕ) : Type 0 where
  pub low : ℕ
  pub left : Climb low (drop k runs) (variable_rows os)
  pub items : begin ≡ total (map (row_length os) (rows_in_runs (take k runs)))
  pub before : begin ≤ place_at os low

-- the runs of items end no later than the rows that are left begin
pub record Led (os : List ℤ) (runs items : List Run) (k : ℕ) : Type 0 where
  pub low : ℕ
  pub left : Climb low (drop k runs) (variable_rows os)
  pub climb : Climb 0 items (place_at os low)

-- the same of lists of one size
pub record Sized (runs items : List Run) (k size n : ℕ) : Type 0 where
  pub low : ℕ
  pub left : Climb low (drop k runs) n
  pub climb : Climb 0 items (size * low)
