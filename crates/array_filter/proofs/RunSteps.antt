-- Runs of rows as they are gone over.
use Rattle.std.proofs.Common.{◌≡◌, ◌∙◌, sym, refl, ap, subst, arith, ℕ, ◌+◌, ◌-◌, ◌*◌, ◌/◌, ◌<◌, ◌≤◌, List, [], ◌∷◌, ◌++◌, length, map, take, drop, get_or, true, Option, Some, ℤ, pos}
use Rattle.std.specs.List.{flat_map}
use Rattle.std.proofs.lemmas.Bool.{lt-ltb}
use Rattle.std.proofs.lemmas.Grind.{flat_map-append}
use Rattle.std.proofs.Math.Nat.{mul-add, mul-le-mul_left}
use Rattle.arrow_spec.specs.Needed.{numbers_from}
use Rattle.arrow_types.specs.Numbers.{below_limit}
use Rattle.arrow_buffers.specs.Leaf.{fixed_row}
use Rattle.arrow_buffers.specs.Rows.{part}
use Rattle.arrow_buffers.specs.Variable.{place_at, are_offsets, variable_rows}
use Rattle.arrow_buffers.proofs.Fixed.{rows_inside}
use Rattle.arrow_buffers.proofs.Rising.{offset_between, offset_risen, some_offset}
use Rattle.array_filter.specs.declared.runs.Run.{Run}
use Rattle.array_filter.specs.Runs.{AreWithin, Climb, rows_in_runs, rows_of}
use Rattle.array_filter.specs.Offsets.{ends_on, offsets_taken, row_length, items_of, items_taken, sized_items_taken}
use Rattle.array_filter.proofs.RunLaws.{climb_from, climb_higher, climb_more, climb_within, next_run, rows_more, run_bytes}
use Rattle.array_filter.proofs.OffsetRuns.{Begun, Led, Sized, total_next, run_total, offsets_next, run_items, items_of_next, run_sized}

-- as many rows
pub climb_as : (runs : List Run) (n m : ℕ) → m ≡ n → Climb 0 runs n → Climb 0 runs m
climb_as runs n m e h = subst (λ k. Climb 0 runs k) (sym e) h

-- whole rows of bytes
pub bytes_within : (size same : ℕ) (runs : List Run) (n held : ℕ) → size ≡ same → 0 < size → held ≡ n → Climb 0 runs (n / same) → AreWithin size runs held
bytes_within size same runs n held e p q h =
    let a : size * (n / size) ≤ n = omega (arith, rows_inside size n 0 (n / size) p (omega arith)) in
    let c : Climb 0 runs (n / size) = subst (λ k. Climb 0 runs (n / k)) (sym e) h in
    climb_within size 0 runs (n / size) held c (omega (arith, a, q))

-- the bytes between the offsets of the rows
pub bytes_of_items : (place count : ℕ → ℕ) (bytes : List ℕ) (rows : List ℕ) → flat_map (fixed_row 1 bytes) (items_of place count rows) ≡ flat_map (λ row. part (place row) (count row) bytes) rows
bytes_of_items place count bytes [] = refl
bytes_of_items place count bytes (row ∷ rows) =
    let a : 1 * place row ≡ place row = omega arith in
    let n : 1 * count row ≡ count row = omega arith in
    flat_map-append (fixed_row 1 bytes) (numbers_from (place row) (count row)) (items_of place count rows)
    ∙ ap (λ ys. ys ++ flat_map (fixed_row 1 bytes) (items_of place count rows)) (run_bytes 1 bytes (place row) (count row) ∙ ap (λ k. part k (1 * count row) bytes) a ∙ ap (λ k. part (place row) k bytes) n)
    ∙ ap (λ ys. part (place row) (count row) bytes ++ ys) (bytes_of_items place count bytes rows)

-- a place that an offset can say
pub can_say : (limit n : ℕ) (o : Option ℤ) → n < limit → o ≡ below_limit limit n → o ≡ Some (pos n)
can_say limit n o h e = e ∙ rw (lt-ltb n limit h) refl

-- ── one run more ──

module _ (os : List ℤ) (limit : ℕ) (rise : are_offsets os limit ≡ true) where
  low_place : (n m : ℕ) → n ≤ m → m ≤ variable_rows os → place_at os n ≤ place_at os m
  low_place n m h k = offset_between os limit n rise m h (omega (arith, some_offset os limit rise))

  pub place_within : (n : ℕ) → n ≤ variable_rows os → place_at os n ≤ limit
  place_within n h = (offset_risen os limit n rise (omega (arith, some_offset os limit rise))).within

  pub begins_low : (runs : List Run) (k begin : ℕ) (r : Run) (s : Begun os runs k begin) → k < length runs → r ≡ get_or runs k r → begin ≤ place_at os r.from
  begins_low runs k begin r s lt e =
      let n = next_run runs r s.low k (variable_rows os) s.left lt e in
      omega (arith, s.before, low_place s.low r.from n.above (omega (arith, n.within)))

  pub begun_next : (runs : List Run) (k begin from to : ℕ) (r : Run) (s : Begun os runs k begin) → k < length runs → r ≡ get_or runs k r → from ≡ place_at os r.from → to ≡ place_at os (r.from + r.count)
      → Begun os runs (k + 1) (begin + (to - from))
  begun_next runs k begin from to r s lt e p q =
      let n = next_run runs r s.low k (variable_rows os) s.left lt e in
      let b = begins_low runs k begin r s lt e in
      let t = run_total os limit r.from r.count rise (omega (arith, some_offset os limit rise, n.within)) in
      let up = low_place r.from (r.from + r.count) (omega arith) n.within in
      record {
        low = r.from + r.count;
        left = n.left;
        items = omega (arith, s.items, t, p, q, total_next (row_length os) runs k r lt e);
        before = omega (arith, b, p, q, up);
      }

  pub taken_next : (runs : List Run) (k begin : ℕ) (r : Run) (s : Begun os runs k begin) (before after : List ℤ) → k < length runs → r ≡ get_or runs k r → before ≡ offsets_taken (rows_in_runs (take k runs)) os
      → after ≡ before ++ ends_on begin (map (row_length os) (rows_of r)) → after ≡ offsets_taken (rows_in_runs (take (k + 1) runs)) os
  taken_next runs k begin r s before after lt e p q =
      q ∙ ap (λ zs. zs ++ ends_on begin (map (row_length os) (rows_of r))) p ∙ ap (λ n. offsets_taken (rows_in_runs (take k runs)) os ++ ends_on n (map (row_length os) (rows_of r))) s.items ∙ sym (offsets_next (row_length os) runs k r lt e)

  pub led_next : (runs items all : List Run) (k from to : ℕ) (r : Run) (s : Led os runs items k) → k < length runs → r ≡ get_or runs k r → from ≡ place_at os r.from → to ≡ place_at os (r.from + r.count)
      → all ≡ items ++ record { from = from; count = to - from } ∷ [] → Led os runs all (k + 1)
  led_next runs items all k from to r s lt e p q a =
      let n = next_run runs r s.low k (variable_rows os) s.left lt e in
      let one : Run = record { from = from; count = to - from } in
      let up = low_place r.from (r.from + r.count) (omega arith) n.within in
      let below = low_place s.low r.from n.above (omega (arith, n.within)) in
      record {
        low = r.from + r.count;
        left = n.left;
        climb = subst (λ qs. Climb 0 qs (place_at os (r.from + r.count))) (sym a) (climb_more 0 items one (place_at os s.low) (place_at os (r.from + r.count)) s.climb (omega (arith, below, p)) (omega (arith, p, q, up)));
      }

  pub led_items : (runs items all : List Run) (k from to : ℕ) (r : Run) (s : Led os runs items k) → k < length runs → r ≡ get_or runs k r → from ≡ place_at os r.from → to ≡ place_at os (r.from + r.count)
      → all ≡ items ++ record { from = from; count = to - from } ∷ [] → rows_in_runs items ≡ items_taken (rows_in_runs (take k runs)) os → rows_in_runs all ≡ items_taken (rows_in_runs (take (k + 1) runs)) os
  led_items runs items all k from to r s lt e p q a i =
      let n = next_run runs r s.low k (variable_rows os) s.left lt e in
      let one : Run = record { from = from; count = to - from } in
      let long : to - from ≡ place_at os (r.from + r.count) - place_at os r.from = omega (arith, p, q) in
      ap rows_in_runs a ∙ rows_more items one ∙ ap (λ ks. ks ++ numbers_from from (to - from)) i
      ∙ ap (λ ks. items_taken (rows_in_runs (take k runs)) os ++ ks) (ap (λ m. numbers_from m (to - from)) p ∙ ap (numbers_from (place_at os r.from)) long ∙ sym (run_items os limit r.from r.count rise (omega (arith, some_offset os limit rise, n.within))))
      ∙ sym (items_of_next (place_at os) (row_length os) runs k r lt e)

  pub led_climb : (runs items : List Run) (k : ℕ) (s : Led os runs items k) → Climb 0 items limit
  led_climb runs items k s = climb_higher 0 items (place_at os s.low) limit s.climb (place_within s.low (climb_from s.low (drop k runs) (variable_rows os) s.left))

-- lists of one size
pub sized_next : (runs items all : List Run) (k size n : ℕ) (r : Run) (s : Sized runs items k size n) → k < length runs → r ≡ get_or runs k r → all ≡ items ++ record { from = size * r.from; count = size * r.count } ∷ [] → Sized runs all (k + 1) size n
sized_next runs items all k size n r s lt e a =
    let next = next_run runs r s.low k n s.left lt e in
    let one : Run = record { from = size * r.from; count = size * r.count } in
    record {
      low = r.from + r.count;
      left = next.left;
      climb = subst (λ qs. Climb 0 qs (size * (r.from + r.count))) (sym a) (climb_more 0 items one (size * s.low) (size * (r.from + r.count)) s.climb (mul-le-mul_left size next.above) (omega (arith, mul-add size r.from r.count)));
    }

pub sized_items_next : (runs items all : List Run) (k size : ℕ) (r : Run) → k < length runs → r ≡ get_or runs k r → all ≡ items ++ record { from = size * r.from; count = size * r.count } ∷ []
    → rows_in_runs items ≡ sized_items_taken (rows_in_runs (take k runs)) size → rows_in_runs all ≡ sized_items_taken (rows_in_runs (take (k + 1) runs)) size
sized_items_next runs items all k size r lt e a i =
    ap rows_in_runs a ∙ rows_more items (record { from = size * r.from; count = size * r.count }) ∙ ap (λ ks. ks ++ numbers_from (size * r.from) (size * r.count)) i
    ∙ ap (λ ks. sized_items_taken (rows_in_runs (take k runs)) size ++ ks) (sym (run_sized size r.from r.count)) ∙ sym (items_of_next (λ row. size * row) (λ row. size) runs k r lt e)

pub sized_climb : (runs items : List Run) (k size n held : ℕ) (s : Sized runs items k size n) → held ≡ size * n → Climb 0 items held
sized_climb runs items k size n held s e = climb_higher 0 items (size * s.low) held s.climb (omega (arith, mul-le-mul_left size (climb_from s.low (drop k runs) n s.left), e))
