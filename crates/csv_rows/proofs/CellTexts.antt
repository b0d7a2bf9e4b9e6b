-- What stands in a row has the text of its cell.
use Rattle.std.proofs.Common.{◌≡◌, ◌∙◌, ◌<◌, refl, sym, ap, ℕ, zero, suc, List, [], ◌∷◌, Bool, true, false, Option, Some, None, length, get_or, slice_get, arith}
use Rattle.arrow_spec.specs.Kinds.{Kind}
use Rattle.arrow_spec.specs.Cells as cells
use Rattle.arrow_spec.specs.Cells.{Cell, null}
use Rattle.arrow_spec.specs.Arrays.{cell_or_null, from_on}
use Rattle.arrow_buffers.specs.Rows.{masked, masked_by}
use Rattle.arrow_arrays.specs.Heads.{Counted, Listed, Tagged, head_cell, listed, mapped, sized, structured, tagged}
use Rattle.arrow_arrays.specs.Parts.{Forest, cells_each, cells_in, nested}
use Rattle.csv_texts.specs.Texts.{cell_text}
use Rattle.csv_rows.specs.Values.{Shows, cell_at, cell_of}
use Rattle.csv_rows.specs.declared.value.Value.{Value}
use Rattle.csv_rows.specs.declared.value.Value.TheVariants.{Null}

-- the cell that stands there
pub shows_there : (v : Value) (xs : List Cell) (row : ℕ) → slice_get xs row ≡ Some (cell_of v) → Shows v (cell_or_null (slice_get xs row))
shows_there v xs row h k = ap (λ o. cell_text k (cell_or_null o)) h

-- the item at a place that there is, or null
pub or_null : (xs : List Cell) (i : ℕ) → cell_or_null (slice_get xs i) ≡ get_or xs i null
or_null [] i = refl
or_null (x ∷ xs) zero = refl
or_null (x ∷ xs) (suc i) = or_null xs i

-- ── rows in which rows of other arrays stand have no text ──

-- no cell of a list has a text
abbrev pub AreTextless : List Cell → Type 0
AreTextless xs = (k : Kind) (row : ℕ) → cell_text k (cell_or_null (slice_get xs row)) ≡ []

textless_from : (f : ℕ → Cell) → ((k : Kind) (i : ℕ) → cell_text k (f i) ≡ []) → (at n : ℕ) → AreTextless (from_on f at n)
textless_from f h at zero k row = refl
textless_from f h at (suc n) k zero = h k at
textless_from f h at (suc n) k (suc row) = textless_from f h (suc at) n k row

textless_masked : (bits : List Bool) (xs : List Cell) → AreTextless xs → AreTextless (masked_by bits xs)
textless_masked [] xs h k row = refl
textless_masked (b ∷ bits) [] h k row = refl
textless_masked (true ∷ bits) (x ∷ xs) h k zero = h k zero
textless_masked (false ∷ bits) (x ∷ xs) h k zero = refl
textless_masked (b ∷ bits) (x ∷ xs) h k (suc row) = textless_masked bits xs (λ j i. h j (suc i)) k row

textless : (v : Option (List Bool)) (f : ℕ → Cell) (n : ℕ) → ((k : Kind) (i : ℕ) → cell_text k (f i) ≡ []) → AreTextless (masked v (from_on f 0 n))
textless None f n h = textless_from f h 0 n
textless (Some bits) f n h = textless_masked bits (from_on f 0 n) (textless_from f h 0 n)

pub shows_listed : (h : Listed) (cs : Forest) (row : ℕ) → Shows Null (cell_at (nested (listed h) cs) row)
shows_listed h cs row k = textless h.validity (head_cell (listed h) (cells_each cs)) _ (λ j i. refl) k row

pub shows_mapped : (h : Listed) (cs : Forest) (row : ℕ) → Shows Null (cell_at (nested (mapped h) cs) row)
shows_mapped h cs row k = textless h.validity (head_cell (mapped h) (cells_each cs)) _ (λ j i. refl) k row

pub shows_sized : (h : Counted) (cs : Forest) (row : ℕ) → Shows Null (cell_at (nested (sized h) cs) row)
shows_sized h cs row k = textless h.validity (head_cell (sized h) (cells_each cs)) _ (λ j i. refl) k row

pub shows_structured : (h : Counted) (cs : Forest) (row : ℕ) → Shows Null (cell_at (nested (structured h) cs) row)
shows_structured h cs row k = textless h.validity (head_cell (structured h) (cells_each cs)) _ (λ j i. refl) k row

pub shows_tagged : (h : Tagged) (cs : Forest) (row : ℕ) → Shows Null (cell_at (nested (tagged h) cs) row)
shows_tagged h cs row k = textless None (head_cell (tagged h) (cells_each cs)) _ (λ j i. refl) k row
