-- The validity that is read: its bits, the cells that it masks, and how many rows are null.
use Rattle.std.proofs.Common.{◌≡◌, ℕ, zero, suc, ◌+◌, ◌<◌, List, [], ◌∷◌, Bool, true, false, Some, None, length, get_or, cond, refl, ap, ◌∙◌, arith}
use Rattle.std.specs.Prelude.{not}
use Rattle.std.specs.List.{count_by}
use Rattle.std.proofs.lemmas.Bool.{eq-eqb}
use Rattle.std.proofs.lemmas.List.Sums.{sum_by-cons}
use Rattle.arrow_spec.specs.Cells.{Cell, null}
use Rattle.arrow_spec.specs.Counts.{RecordBatch, Place}
use Rattle.arrow_spec.specs.Arrays.{buf, bit, has_nulls, valid, if_valid, from_on}
use Rattle.arrow_spec.specs.Sent.{null_count}
use Rattle.arrow_buffers.specs.Rows.{has_rows, is_valid, null_rows, masked, masked_by}
use Rattle.arrow_buffers.proofs.Parts.{length-from_on, shift-from_on}
use Rattle.ipc_read_laws.specs.PartsRead.{validity_read, bits_read}
use Rattle.ipc_read_laws.proofs.Buffers.{get-told}

rows_if : (b : Bool) (xs : List Bool) (n : ℕ) → length xs ≡ n → has_rows (cond b (Some xs) None) n ≡ true
rows_if true xs n h = eq-eqb (length xs) n h
rows_if false xs n h = refl

-- it has as many bits as rows
pub has_rows-read : (m : RecordBatch) (p : Place) (rows : ℕ) → has_rows (validity_read m p rows) rows ≡ true
has_rows-read m p zero = refl
has_rows-read m p (suc n) = rows_if (has_nulls m p) (bits_read m p.buffer (suc n)) (suc n) (length-from_on (bit (buf m p.buffer)) 0 (suc n))

valid_if : (b : Bool) (xs : List Bool) (row : ℕ) (x : Bool) → get_or xs row true ≡ x → is_valid (cond b (Some xs) None) row ≡ cond b x true
valid_if true xs row x h = h
valid_if false xs row x h = refl

-- a row is valid where the record batch says so
pub valid-read : (m : RecordBatch) (p : Place) (rows row : ℕ) → row < rows → is_valid (validity_read m p rows) row ≡ valid m p row
unfolding valid
valid-read m p zero row h = absurd (omega (arith, h))
valid-read m p (suc n) row h = valid_if (has_nulls m p) (bits_read m p.buffer (suc n)) row (bit (buf m p.buffer) row) (get-told (bit (buf m p.buffer)) 0 (suc n) row true h ∙ ap (bit (buf m p.buffer)) (omega arith))

masked_told : (b : ℕ → Bool) (f : ℕ → Cell) (i n : ℕ) → masked_by (from_on b i n) (from_on f i n) ≡ from_on (λ row. cond (b row) (f row) null) i n
masked_told b f i zero = refl
masked_told b f i (suc n) = ap (λ r. cond (b i) (f i) null ∷ r) (masked_told b f (suc i) n)

masked_if : (c : Bool) (b : ℕ → Bool) (f : ℕ → Cell) (i n : ℕ) → masked (cond c (Some (from_on b i n)) None) (from_on f i n) ≡ from_on (λ row. cond (cond c (b row) true) (f row) null) i n
masked_if true b f i n = masked_told b f i n
masked_if false b f i n = refl

-- cells that are masked by it
pub masked-read : (m : RecordBatch) (p : Place) (rows : ℕ) (f : ℕ → Cell) → masked (validity_read m p rows) (from_on f 0 rows) ≡ from_on (λ row. if_valid m p row (f row)) 0 rows
unfolding valid
masked-read m p zero f = refl
masked-read m p (suc n) f = masked_if (has_nulls m p) (bit (buf m p.buffer)) f 0 (suc n)

-- cells that agree where the row is valid
pub valid_cells : (m : RecordBatch) (p : Place) (rows : ℕ) (f g : ℕ → Cell) → ((row : ℕ) → row < rows → valid m p row ≡ true → f row ≡ g row) → from_on (λ row. if_valid m p row (f row)) 0 rows ≡ from_on (λ row. if_valid m p row (g row)) 0 rows
valid_cells m p rows f g h = shift-from_on (λ row. if_valid m p row (f row)) (λ row. if_valid m p row (g row)) 0 0 rows (λ row l. let e : row ≡ 0 + row = omega arith in at_row (valid m p (0 + row)) (f (0 + row)) (g (0 + row)) (h (0 + row) (omega (arith, l))))
  where
    at_row : (b : Bool) (x y : Cell) → (b ≡ true → x ≡ y) → cond b x null ≡ cond b y null
    at_row true x y h = h refl
    at_row false x y h = refl

-- ── null rows ──

nulls_last : (b : ℕ → Bool) (i n : ℕ) → count_by not (from_on b i (suc n)) ≡ count_by not (from_on b i n) + cond (b (i + n)) 0 1
nulls_last b i zero = let e : i + 0 ≡ i = omega arith in rw e (one (b i))
  where
    one : (x : Bool) → count_by not (x ∷ []) ≡ count_by not [] + cond x 0 1
    one true = refl
    one false = refl
nulls_last b i (suc n) =
    let e : suc i + n ≡ i + suc n = omega arith in
    let h : count_by not (from_on b (suc i) (suc n)) ≡ count_by not (from_on b (suc i) n) + cond (b (suc i + n)) 0 1 = nulls_last b (suc i) n in
    let one : Bool → ℕ = λ x. cond (not x) 1 0 in
    more (one (b i)) _ _ _ _ (cond (b (i + suc n)) 0 1) (sum_by-cons one (b i) (from_on b (suc i) (suc n))) (sum_by-cons one (b i) (from_on b (suc i) n)) (h ∙ ap (λ k. count_by not (from_on b (suc i) n) + cond (b k) 0 1) e)
  where
    more : (a x y z w k : ℕ) → x ≡ a + z → y ≡ a + w → z ≡ w + k → x ≡ y + k
    more a x y z w k e f g = omega (arith, e, f, g)

nulls_if : (c : Bool) (b : ℕ → Bool) (n : ℕ) → null_rows (cond c (Some (from_on b 0 (suc n))) None) ≡ null_rows (cond c (Some (from_on b 0 n)) None) + cond (cond c (b n) true) 0 1
nulls_if true b n = nulls_last b 0 n ∙ ap (λ k. count_by not (from_on b 0 n) + cond (b k) 0 1) (omega arith)
nulls_if false b n = refl

nulls_some : (m : RecordBatch) (p : Place) (n : ℕ) → null_rows (cond (has_nulls m p) (Some (bits_read m p.buffer n)) None) ≡ null_count m p 0 n
unfolding valid
nulls_some m p zero = none (has_nulls m p)
  where
    none : (c : Bool) → null_rows (cond c (Some []) None) ≡ 0
    none true = refl
    none false = refl
nulls_some m p (suc n) =
    let e : n ≡ 0 + n = omega arith in
    nulls_if (has_nulls m p) (bit (buf m p.buffer)) n ∙ ap (λ k. k + cond (cond (has_nulls m p) (bit (buf m p.buffer) n) true) 0 1) (nulls_some m p n) ∙ ap (λ j. null_count m p 0 n + cond (valid m p j) 0 1) e

-- as many rows are null
pub nulls-read : (m : RecordBatch) (p : Place) (rows : ℕ) → null_rows (validity_read m p rows) ≡ null_count m p 0 rows
nulls-read m p zero = refl
nulls-read m p (suc n) = nulls_some m p (suc n)
