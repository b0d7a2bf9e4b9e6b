-- Runs of rows: one more row, one more run, and how far they reach.
use Rattle.std.proofs.Common.{◌≡◌, ◌∙◌, sym, ap, subst, arith, ℕ, zero, suc, ◌+◌, ◌*◌, ◌<◌, ◌≤◌, List, [], ◌∷◌, ◌++◌, length, take, drop, get_or, append_assoc, append-nil, length-append}
use Rattle.std.specs.List.{flat_map}
use Rattle.std.proofs.lemmas.Grind.{flat_map-append}
use Rattle.std.proofs.lemmas.List.{get_or_default, drop_more, drop-drop, take_more}
use Rattle.std.proofs.Math.Nat.{mul-add, mul-suc, mul-le-mul_left}
use Rattle.std.proofs.Math.Seq.{take-add}
use Rattle.arrow_spec.specs.Needed.{numbers_from}
use Rattle.arrow_buffers.specs.Rows.{part}
use Rattle.arrow_buffers.specs.Leaf.{fixed_row}
use Rattle.array_filter.specs.declared.runs.Run.{Run}
use Rattle.array_filter.specs.Rows.{AreBelow, Rise, taken}
use Rattle.array_filter.specs.Runs.{AreWithin, Climb, rows_in_runs, rows_of}
use Rattle.array_filter.proofs.Lists.{all_append, below_run, length-numbers, run_taken, taken-append}
use Rattle.array_filter.proofs.Marked.{rising_below}

-- a run that is read; where there is none the code has this
abbrev pub no_run : Run
no_run = record { from = 0; count = 0 }

pub run_here : (runs : List Run) (k : ℕ) (d : Run) → k < length runs → get_or runs k d ≡ get_or runs k (get_or runs k d)
run_here runs k d h = get_or_default runs k d (get_or runs k d) h

-- ── how far they reach ──

pub climb_from : (low : ℕ) (runs : List Run) (n : ℕ) → Climb low runs n → low ≤ n
climb_from low [] n h = h
climb_from low (r ∷ runs) n h = omega (arith, h.0, climb_from (r.from + r.count) runs n h.1)

pub climb_more : (low : ℕ) (runs : List Run) (r : Run) (m n : ℕ) → Climb low runs m → m ≤ r.from → r.from + r.count ≤ n → Climb low (runs ++ r ∷ []) n
climb_more low [] r m n h k l = (omega arith, l)
climb_more low (q ∷ runs) r m n h k l = (h.0, climb_more (q.from + q.count) runs r m n h.1 k l)

-- what is left of runs behind the first so many
pub record Reached (runs : List Run) (k n : ℕ) : Type 0 where
  pub low : ℕ
  pub left : Climb low (drop k runs) n

-- the same, where so much has been counted of the rows before them
pub record Counted (runs : List Run) (k n count : ℕ) : Type 0 where
  pub low : ℕ
  pub left : Climb low (drop k runs) n
  pub few : count ≤ low

-- runs that end where what is left of rising rows begins
pub record Rising (runs : List Run) (rows : List ℕ) (k n : ℕ) : Type 0 where
  pub low : ℕ
  pub climb : Climb 0 runs low
  pub left : Rise low (drop k rows) n

pub record Next (runs : List Run) (r : Run) (low k n : ℕ) : Type 0 where
  pub above : low ≤ r.from
  pub within : r.from + r.count ≤ n
  pub left : Climb (r.from + r.count) (drop (k + 1) runs) n

pub next_run : (runs : List Run) (r : Run) (low k n : ℕ) → Climb low (drop k runs) n → k < length runs → r ≡ get_or runs k r → Next runs r low k n
next_run runs r low k n h lt e =
    let d : drop k runs ≡ r ∷ drop (k + 1) runs = drop_more runs k r lt ∙ ap (λ q. q ∷ drop (k + 1) runs) (sym e) in
    let p = subst (λ qs. Climb low qs n) d h in
    record { above = p.0; within = climb_from (r.from + r.count) (drop (k + 1) runs) n p.1; left = p.1 }

pub reached_next : (runs : List Run) (r : Run) (k n : ℕ) (s : Reached runs k n) → k < length runs → r ≡ get_or runs k r → Next runs r s.low k n
reached_next runs r k n s lt e = next_run runs r s.low k n s.left lt e

pub climb_within : (size low : ℕ) (runs : List Run) (m n : ℕ) → Climb low runs m → size * m ≤ n → AreWithin size runs n
climb_within size low [] m n h k = tt
climb_within size low (r ∷ runs) m n h k =
    let e : size * (r.from + r.count) ≡ size * r.from + size * r.count = mul-add size r.from r.count in
    let l : size * (r.from + r.count) ≤ size * m = mul-le-mul_left size (climb_from (r.from + r.count) runs m h.1) in
    (omega (arith, e, l), climb_within size (r.from + r.count) runs m n h.1 k)

pub within_at : (size : ℕ) (runs : List Run) (n k : ℕ) (r : Run) → AreWithin size runs n → k < length runs → r ≡ get_or runs k r → size * r.from + size * r.count ≤ n
within_at size [] n k r a h e = absurd (omega arith)
within_at size (q ∷ runs) n zero r a h e = subst (λ x. size * x.from + size * x.count ≤ n) (sym e) a.0
within_at size (q ∷ runs) n (suc k) r a h e = within_at size runs n k r a.1 (omega arith) e

pub climb_below : (low : ℕ) (runs : List Run) (n : ℕ) → Climb low runs n → AreBelow n (rows_in_runs runs)
climb_below low [] n h = tt
climb_below low (r ∷ runs) n h = all_append (λ row. row < n) (rows_of r) (rows_in_runs runs) (below_run r.from r.count n (climb_from (r.from + r.count) runs n h.1)) (climb_below (r.from + r.count) runs n h.1)

-- ── their rows ──

pub numbers-append : (at n m : ℕ) → numbers_from at (n + m) ≡ numbers_from at n ++ numbers_from (at + n) m
numbers-append at zero m = let e : 0 + m ≡ m = omega arith in ap (numbers_from at) e ∙ ap (λ k. numbers_from k m) (omega arith)
numbers-append at (suc n) m =
    let e : suc n + m ≡ suc (n + m) = omega arith in
    let f : suc at + n ≡ at + suc n = omega arith in
    ap (numbers_from at) e ∙ ap (λ ks. at ∷ ks) (numbers-append (suc at) n m) ∙ ap (λ k. at ∷ numbers_from (suc at) n ++ numbers_from k m) f

pub rows_more : (runs : List Run) (r : Run) → rows_in_runs (runs ++ r ∷ []) ≡ rows_in_runs runs ++ rows_of r
rows_more runs r = flat_map-append rows_of runs (r ∷ []) ∙ ap (λ ks. rows_in_runs runs ++ ks) (append-nil (rows_of r))

pub rows_next : (runs : List Run) (k : ℕ) (r : Run) → k < length runs → r ≡ get_or runs k r → rows_in_runs (take (k + 1) runs) ≡ rows_in_runs (take k runs) ++ rows_of r
rows_next runs k r h e = ap rows_in_runs (take_more runs k r h ∙ ap (λ q. take k runs ++ q ∷ []) (sym e)) ∙ rows_more (take k runs) r

pub length-next : (runs : List Run) (k : ℕ) (r : Run) → k < length runs → r ≡ get_or runs k r → length (rows_in_runs (take (k + 1) runs)) ≡ length (rows_in_runs (take k runs)) + r.count
length-next runs k r h e =
    ap length (rows_next runs k r h e) ∙ length-append (rows_in_runs (take k runs)) (rows_of r) ∙ ap (λ n. length (rows_in_runs (take k runs)) + n) (length-numbers r.from r.count)

-- ── one more row ──

-- the last of some runs ends by a row, and none before it does later than it begins
pub climb_last : (low : ℕ) (runs : List Run) (r : Run) (n : ℕ) → Climb low (runs ++ r ∷ []) n → Climb low runs r.from × (r.from + r.count ≤ n)
climb_last low [] r n h = (h.0, h.1)
climb_last low (q ∷ runs) r n h = let p = climb_last (q.from + q.count) runs r n h.1 in ((h.0, p.0), p.1)

-- it has one row more
pub longer_rows : (runs all : List Run) (r : Run) (row : ℕ) → r.from + r.count ≡ row → all ≡ runs ++ record { from = r.from; count = r.count + 1 } ∷ [] → rows_in_runs all ≡ rows_in_runs runs ++ rows_of r ++ row ∷ []
longer_rows runs all r row q e =
    ap rows_in_runs e ∙ rows_more runs (record { from = r.from; count = r.count + 1 })
    ∙ ap (λ ks. rows_in_runs runs ++ ks) (numbers-append r.from r.count 1 ∙ ap (λ k. rows_of r ++ k ∷ []) q)
    ∙ sym (append_assoc (rows_in_runs runs) (rows_of r) (row ∷ []))

pub longer_climb : (runs all : List Run) (r : Run) (row : ℕ) → r.from + r.count ≡ row → all ≡ runs ++ record { from = r.from; count = r.count + 1 } ∷ [] → Climb 0 runs r.from → Climb 0 all (row + 1)
longer_climb runs all r row q e h = subst (λ qs. Climb 0 qs (row + 1)) (sym e) (climb_more 0 runs (record { from = r.from; count = r.count + 1 }) r.from (row + 1) h (omega arith) (omega (arith, q)))

-- or a run begins behind it
pub begun_climb : (runs all : List Run) (row : ℕ) → all ≡ runs ++ record { from = row; count = 1 } ∷ [] → Climb 0 runs row → Climb 0 all (row + 1)
begun_climb runs all row e h = subst (λ qs. Climb 0 qs (row + 1)) (sym e) (climb_more 0 runs (record { from = row; count = 1 }) row (row + 1) h (omega arith) (omega arith))

-- rows that rise, one by one
pub record NextRow (rows : List ℕ) (row low k n : ℕ) : Type 0 where
  pub above : low ≤ row
  pub below : row < n
  pub left : Rise (row + 1) (drop (k + 1) rows) n

pub next_row : (rows : List ℕ) (low k n d : ℕ) → Rise low (drop k rows) n → k < length rows → NextRow rows (get_or rows k d) low k n
next_row rows low k n d h lt =
    let row = get_or rows k d in
    let s : drop k rows ≡ row ∷ drop (k + 1) rows = drop_more rows k d lt in
    let p = subst (λ qs. Rise low qs n) s h in
    let up : suc row ≡ row + 1 = omega arith in
    record { above = p.0; below = rising_below (suc row) (drop (k + 1) rows) n p.1; left = subst (λ m. Rise m (drop (k + 1) rows) n) up p.1 }

pub climb_higher : (low : ℕ) (runs : List Run) (m n : ℕ) → Climb low runs m → m ≤ n → Climb low runs n
climb_higher low [] m n h k = omega arith
climb_higher low (r ∷ runs) m n h k = (h.0, climb_higher (r.from + r.count) runs m n h.1 k)

-- ── what stands in the rows ──

-- the bytes of a run stand one behind another
pub run_bytes : (size : ℕ) (bytes : List ℕ) (from count : ℕ) → flat_map (fixed_row size bytes) (numbers_from from count) ≡ part (size * from) (size * count) bytes
run_bytes size bytes from zero = let e : 0 ≡ size * 0 = omega arith in ap (λ k. take k (drop (size * from) bytes)) e
run_bytes size bytes from (suc count) =
    let here = drop (size * from) bytes in
    let place : size * from + size ≡ size * suc from = omega (arith, mul-suc size from) in
    let long : size + size * count ≡ size * suc count = omega (arith, mul-suc size count) in
    ap (λ ys. take size here ++ ys) (run_bytes size bytes (suc from) count ∙ ap (λ k. take (size * count) (drop k bytes)) (sym place) ∙ ap (take (size * count)) (sym (drop-drop size (size * from) bytes)))
    ∙ sym (take-add size (size * count) here) ∙ ap (λ k. take k here) long

pub bytes_next : (size : ℕ) (bytes : List ℕ) (runs : List Run) (k : ℕ) (r : Run) → k < length runs → r ≡ get_or runs k r
    → flat_map (fixed_row size bytes) (rows_in_runs (take (k + 1) runs)) ≡ flat_map (fixed_row size bytes) (rows_in_runs (take k runs)) ++ part (size * r.from) (size * r.count) bytes
bytes_next size bytes runs k r h e =
    let g = fixed_row size bytes in
    ap (flat_map g) (rows_next runs k r h e) ∙ flat_map-append g (rows_in_runs (take k runs)) (rows_of r) ∙ ap (λ ys. flat_map g (rows_in_runs (take k runs)) ++ ys) (run_bytes size bytes r.from r.count)

pub items_next : {A : Type 0} (xs : List A) (runs : List Run) (k : ℕ) (r : Run) → k < length runs → r ≡ get_or runs k r → r.from + r.count ≤ length xs
    → taken (rows_in_runs (take (k + 1) runs)) xs ≡ taken (rows_in_runs (take k runs)) xs ++ part r.from r.count xs
items_next xs runs k r h e l =
    ap (λ rows. taken rows xs) (rows_next runs k r h e) ∙ taken-append (rows_in_runs (take k runs)) (rows_of r) xs ∙ ap (λ ys. taken (rows_in_runs (take k runs)) xs ++ ys) (run_taken xs r.from r.count l)
