-- A part of byte strings of one size.
use Rattle.std.proofs.Common.{◌≡◌, ℕ, suc, ◌+◌, ◌*◌, ◌/◌, ◌%◌, ◌^◌, ◌≤◌, ◌<◌, List, true, None, length, take, drop, nat_lt, nat_eq, refl, sym, ap, ◌∙◌, arith}
use Rattle.std.proofs.lemmas.Bool.{lt-ltb, eq-eqb}
use Rattle.std.proofs.Math.Nat.{mul-le-mul_left, mul-mod_right, mul-div_right}
use Rattle.std.specs.Option.{option_map}
use Rattle.arrow_spec.specs.Cells.{Cell, bytes}
use Rattle.arrow_spec.specs.Arrays.{from_on}
use Rattle.arrow_buffers.specs.Rows.{part, masked}
use Rattle.arrow_buffers.specs.Layouts.{binary_size}
use Rattle.arrow_buffers.specs.Leaf.{Leaf, fixed_fault, fixed_rows, fixed_row, fixed_part, fixed_cells}
use Rattle.arrow_buffers.proofs.Parts.{part-part, length-part, length-from_on, part-from_on, shift-from_on}
use Rattle.arrow_buffers.proofs.Masks.{length-masked, part-masked, has_rows-part}
use Rattle.arrow_buffers.proofs.Sound.{FixedSound, fixed_sound}

-- the bytes of a part's rows lie inside those of the whole
pub rows_inside : (s m o n : ℕ) → 0 < s → o + n ≤ m / s → s * o + s * n ≤ m
rows_inside s m o n p h = omega (arith, mul-le-mul_left s h)

-- what a machine counts with where so many bytes are held
pub bounded : (s m o n : ℕ) → 0 < s → m < 2 ^ 64 → o + n ≤ m / s → (s * o < 2 ^ 64) × (s * n < 2 ^ 64) × (o + n < 2 ^ 64)
bounded s m o n p q h =
    let e : 1 ≤ s = p in
    (omega (arith, rows_inside s m o n p h), omega (arith, rows_inside s m o n p h), omega (arith, rows_inside s m o n p h, mul-le-mul_left (o + n) e))

fixed_kept : (f : Leaf ℕ) → FixedSound f → fixed_fault f ≡ None
fixed_kept f s =
    let a : nat_lt 0 (binary_size f.kind) ≡ true = lt-ltb 0 (binary_size f.kind) s.sized in
    let b : nat_eq (length f.values % binary_size f.kind) 0 ≡ true = eq-eqb _ 0 s.whole in
    rw (a, b, s.rows) refl

-- how many rows a part has
fixed_rows-part : (f : Leaf ℕ) (o n : ℕ) → FixedSound f → o + n ≤ fixed_rows f → length (part (binary_size f.kind * o) (binary_size f.kind * n) f.values) ≡ binary_size f.kind * n
fixed_rows-part f o n s h = length-part f.values _ _ (rows_inside (binary_size f.kind) (length f.values) o n s.sized h)

pub quotient : (s n m : ℕ) → 0 < s → m ≡ s * n → m / s ≡ n
quotient s n m p e = rw e (mul-div_right n p)

pub fixed_fault-part : (f : Leaf ℕ) (o n : ℕ) → fixed_fault f ≡ None → o + n ≤ fixed_rows f → fixed_fault (fixed_part o n f) ≡ None
fixed_fault-part f o n e h =
    let s = fixed_sound f e in
    let size = binary_size f.kind in
    let l = fixed_rows-part f o n s h in
    fixed_kept (fixed_part o n f) (record {
      sized = s.sized;
      whole = rw l (mul-mod_right size n);
      rows = rw (quotient size n _ s.sized l) (has_rows-part o n (fixed_rows f) f.validity s.rows h);
    })

pub length-fixed_cells : (f : Leaf ℕ) → fixed_fault f ≡ None → length (fixed_cells f) ≡ fixed_rows f
length-fixed_cells f e =
    let s = fixed_sound f e in
    let l = length-from_on (λ row. bytes (fixed_row (binary_size f.kind) f.values row)) 0 (fixed_rows f) in
    length-masked f.validity (from_on (λ row. bytes (fixed_row (binary_size f.kind) f.values row)) 0 (fixed_rows f)) (rw l s.rows) ∙ l

-- a row of a part is a row of the whole
pub row-part : (s o n k : ℕ) (values : List ℕ) → k < n → fixed_row s (part (s * o) (s * n) values) (0 + k) ≡ fixed_row s values ((0 + o) + k)
row-part s o n k values h =
    let fits : s * k + s ≤ s * n = let e : suc k ≤ n = omega arith in omega (arith, mul-le-mul_left s e) in
    let a : s * (0 + k) ≡ s * k = ap (λ j. s * j) (omega arith) in
    let b : s * o + s * k ≡ s * ((0 + o) + k) = omega arith in
    ap (λ j. take s (drop j (part (s * o) (s * n) values))) a ∙ sym (part-part values (s * o) (s * n) (s * k) s fits) ∙ ap (λ j. take s (drop j values)) b

pub fixed_cells-part : (f : Leaf ℕ) (o n : ℕ) → fixed_fault f ≡ None → o + n ≤ fixed_rows f → fixed_cells (fixed_part o n f) ≡ part o n (fixed_cells f)
fixed_cells-part f o n e h =
    let s = fixed_sound f e in
    let size = binary_size f.kind in
    let l = quotient size n _ s.sized (fixed_rows-part f o n s h) in
    let whole : ℕ → Cell = λ row. bytes (fixed_row size f.values row) in
    let mine : ℕ → Cell = λ row. bytes (fixed_row size (part (size * o) (size * n) f.values) row) in
    let rows : from_on mine 0 n ≡ from_on whole (0 + o) n = shift-from_on mine whole 0 (0 + o) n (λ k lt. ap bytes (row-part size o n k f.values lt)) in
    let all : from_on mine 0 n ≡ part o n (from_on whole 0 (fixed_rows f)) = rows ∙ part-from_on whole 0 (fixed_rows f) o n h in
    ap (λ m. masked (option_map (part o n) f.validity) (from_on mine 0 m)) l ∙ ap (masked (option_map (part o n) f.validity)) all ∙ sym (part-masked o n f.validity (from_on whole 0 (fixed_rows f)))
