-- The cells of a generated batch's arrays.
use Rattle.std.proofs.Common.{◌≡◌, ℕ, zero, suc, ◌+◌, ◌-◌, ◌*◌, ◌/◌, ◌%◌, ◌^◌, ◌<◌, ◌≤◌, List, [], ◌∷◌, ◌++◌, Bool, true, false, Option, None, Some, length, map, get_or, take, drop, cond, is_some, nat_eq, refl, sym, ap, ◌∙◌, arith, pos}
use Rattle.std.specs.Prelude.{ℤ}
use Rattle.std.specs.Int.{w32, w64}
use Rattle.std.specs.Int.RustNames.{FitsSigned}
use Rattle.std.specs.List.{concat}
use Rattle.std.proofs.lemmas.Int.{fits_signed_from_abs}
use Rattle.arrow_spec.specs.Arrays.{from_on, keyed}
use Rattle.arrow_spec.specs.Cells as cells
use Rattle.arrow_spec.specs.Cells.{Cell}
use Rattle.arrow_spec.specs.Flat.{little}
use Rattle.arrow_spec.specs.declared.types.IntegerType.TheVariants.{Int32}
use Rattle.arrow_spec.specs.Kinds.{integer}
use Rattle.arrow_types.specs.Numbers.{signed_to_bytes}
use Rattle.arrow_buffers.specs.Rows.{masked_by, part}
use Rattle.arrow_buffers.specs.Variable.{row_bytes, variable_rows}
use Rattle.arrow_buffers.proofs.Parts.{length-from_on, map-part}
use Rattle.arrow_arrays.specs.Heads.{row_items}
use Rattle.arrow_arrays.specs.LeafParts.{number_cell}
use Rattle.arrow_arrays.specs.Parts.{cells_in}
use Rattle.arrow_arrays.specs.RowLaws.{int32_cell, int64_cell}
use Rattle.arrow_columns.specs.Optional.{held_or}
use Rattle.arrow_columns.specs.Strings.{ends_from}
use Rattle.arrow_columns.proofs.Laid.{Laid, laid_row, laid_rows}
use Rattle.ipc_generate.specs.Arrays.{by_rows, dictionary_values, number_of, numbers_array, digits_of, texts_array, key_of, keys_array, items_of, lists_array}
use Rattle.ipc_generate.specs.Table.{cell_of_d, cell_of_n, cell_of_p, cell_of_t, column, kind_of_n}
use Rattle.ipc_generate.proofs.Runs.{map_from_on, by_rows_from_on, map_told, same_run}

-- ── n ──

number_head : (b : Bool) (z : ℤ) → FitsSigned w64 z
    → cond (is_some (cond b None (Some z))) (number_cell kind_of_n (signed_to_bytes w64 little (held_or (pos 0) (cond b None (Some z))))) cells.null ≡ cond b cells.null (cells.number z)
number_head true z h = refl
number_head false z h = int64_cell kind_of_n z h refl

abbrev cells_of_numbers : List (Option ℤ) → List Cell
cells_of_numbers rows = masked_by (map is_some rows) (map (number_cell kind_of_n) (map (signed_to_bytes w64 little) (map (held_or (pos 0)) rows)))

number_rows : (s : ℕ → ℕ) (i n : ℕ) → ((j : ℕ) → FitsSigned w64 (pos (s j / 2))) → cells_of_numbers (by_rows number_of i (from_on s i n)) ≡ from_on (λ row. cell_of_n row (s row)) i n
number_rows s i zero h = refl
number_rows s i (suc n) h =
    ap (λ x. x ∷ cells_of_numbers (by_rows number_of (suc i) (from_on s (suc i) n))) (number_head (nat_eq (i % 7) 0) (pos (s i / 2)) (h i))
    ∙ ap (λ l. cell_of_n i (s i) ∷ l) (number_rows s (suc i) n h)

pub cells_of_n : (s : ℕ → ℕ) (n : ℕ) → ((j : ℕ) → s j < 2 ^ 64) → cells_in (numbers_array (by_rows number_of 0 (from_on s 0 n))) ≡ column cell_of_n s n
unfolding column numbers_array
cells_of_n s n h = number_rows s 0 n (λ j. let e : s j < 2 ^ 64 = h j in fits_signed_from_abs w64 (pos (s j / 2)) (omega arith))

-- ── rows between offsets ──

laid : (rows : List (List ℕ)) → Laid (suc (length (concat rows))) rows (ends_from 0 rows) (concat rows)
laid rows = record { ends = refl; bytes = refl; fits = omega arith }

-- what is told of each row's items is told of the rows
each_row : {A : Type 0} (f : List ℕ → A) (rows : List (List ℕ)) → from_on (λ row. f (row_bytes (ends_from 0 rows) (concat rows) row)) 0 (variable_rows (ends_from 0 rows)) ≡ map f rows
each_row f rows =
    let limit = suc (length (concat rows)) in
    let n = laid_rows limit rows (ends_from 0 rows) (concat rows) (laid rows) in
    ap (from_on (λ row. f (row_bytes (ends_from 0 rows) (concat rows) row)) 0) n
    ∙ same_run (λ row. f (row_bytes (ends_from 0 rows) (concat rows) row)) (λ row. f (get_or rows row [])) 0 (length rows)
    (λ j l. ap f (laid_row limit rows (ends_from 0 rows) (concat rows) (laid rows) j (omega arith)))
    ∙ map_told f rows []

-- ── t ──

pub cells_of_t : (s : ℕ → ℕ) (n : ℕ) → cells_in (texts_array (map digits_of (from_on s 0 n))) ≡ column cell_of_t s n
unfolding column texts_array
cells_of_t s n =
    each_row cells.text (map digits_of (from_on s 0 n)) ∙ ap (map cells.text) (map_from_on digits_of s 0 n) ∙ map_from_on cells.text (λ row. digits_of (s row)) 0 n

-- ── d ──

abbrev eight : List Cell
eight = cells.text (118 ∷ 48 ∷ []) ∷ cells.text (118 ∷ 49 ∷ []) ∷ cells.text (118 ∷ 50 ∷ []) ∷ cells.text (118 ∷ 51 ∷ [])
    ∷ cells.text (118 ∷ 52 ∷ []) ∷ cells.text (118 ∷ 53 ∷ []) ∷ cells.text (118 ∷ 54 ∷ []) ∷ cells.text (118 ∷ 55 ∷ []) ∷ []

eighth : (k : ℕ) → k < 8 → keyed (Some eight) (pos k) ≡ cells.text (118 ∷ (48 + k) ∷ [])
eighth zero h = refl
eighth (suc zero) h = refl
eighth (suc (suc zero)) h = refl
eighth (suc (suc (suc zero))) h = refl
eighth (suc (suc (suc (suc zero)))) h = refl
eighth (suc (suc (suc (suc (suc zero))))) h = refl
eighth (suc (suc (suc (suc (suc (suc zero)))))) h = refl
eighth (suc (suc (suc (suc (suc (suc (suc zero))))))) h = refl
eighth (suc (suc (suc (suc (suc (suc (suc (suc k)))))))) h = absurd (omega arith)

pub cells_of_d : (s : ℕ → ℕ) (n : ℕ) → cells_in (keys_array (map key_of (from_on s 0 n))) ≡ column cell_of_d s n
unfolding column keys_array dictionary_values texts_array
cells_of_d s n =
    let f = λ (k : ℤ). keyed (Some eight) k in
    map_told f (map key_of (from_on s 0 n)) (pos 0) ∙ ap (map f) (map_from_on key_of s 0 n) ∙ map_from_on f (λ row. key_of (s row)) 0 n
    ∙ same_run (λ row. f (key_of (s row))) (λ row. cell_of_d row (s row)) 0 n (λ j l. eighth (s j / 1099511627776 % 8) (omega arith))

-- ── p ──

abbrev list_cell : List ℕ → Cell
list_cell row = cells.«list» (cells.cells_of (map (λ (x : ℕ). number_cell (integer Int32) (signed_to_bytes w32 little (pos x))) row))

fuse : {A B C : Type 0} (f : B → C) (g : A → B) (xs : List A) → map f (map g xs) ≡ map (λ x. f (g x)) xs
fuse f g [] = refl
fuse f g (x ∷ xs) = ap (λ l. f (g x) ∷ l) (fuse f g xs)

abbrev item_cell : ℕ → Cell
item_cell x = number_cell (integer Int32) (signed_to_bytes w32 little (pos x))

item_cells : (items : List ℕ) → map (number_cell (integer Int32)) (map (signed_to_bytes w32 little) (map pos items)) ≡ map item_cell items
item_cells items = fuse (number_cell (integer Int32)) (signed_to_bytes w32 little) (map pos items) ∙ fuse (λ z. number_cell (integer Int32) (signed_to_bytes w32 little z)) pos items

row_of : (offsets : List ℤ) (items : List ℕ) (row : ℕ) → row_items offsets (map item_cell items) row ≡ map item_cell (row_bytes offsets items row)
row_of offsets items row = sym (map-part item_cell _ _ items)

abbrev list_row : List ℤ → List Cell → ℕ → Cell
list_row offsets items row = cells.«list» (cells.cells_of (row_items offsets items row))

list_rows : (rows : List (List ℕ)) → cells_in (lists_array rows) ≡ map list_cell rows
unfolding lists_array
list_rows rows =
    let offsets = ends_from 0 rows in
    let items = concat rows in
    ap (λ xs. from_on (list_row offsets xs) 0 (variable_rows offsets)) (item_cells items)
    ∙ same_run (list_row offsets (map item_cell items)) (λ row. list_cell (row_bytes offsets items row)) 0 (variable_rows offsets)
    (λ j l. ap (λ xs. cells.«list» (cells.cells_of xs)) (row_of offsets items j))
    ∙ each_row list_cell rows

items_row : (row x : ℕ) → x < 2 ^ 64 → list_cell (items_of row x) ≡ cell_of_p row x
items_row row x h =
    ap (λ xs. cells.«list» (cells.cells_of xs)) (map_from_on item_cell (λ j. x / 281474976710656 + j) 0 (row % 3)
    ∙ same_run (λ j. item_cell (x / 281474976710656 + j)) (λ j. cells.number (pos (x / 281474976710656 + j))) 0 (row % 3)
    (λ j l. int32_cell (integer Int32) (pos (x / 281474976710656 + j)) (fits_signed_from_abs w32 (pos (x / 281474976710656 + j)) (omega arith)) refl))

pub cells_of_p : (s : ℕ → ℕ) (n : ℕ) → ((j : ℕ) → s j < 2 ^ 64) → cells_in (lists_array (by_rows items_of 0 (from_on s 0 n))) ≡ column cell_of_p s n
unfolding column
cells_of_p s n h =
    list_rows (by_rows items_of 0 (from_on s 0 n)) ∙ ap (map list_cell) (by_rows_from_on items_of s 0 n)
    ∙ map_from_on list_cell (λ row. items_of row (s row)) 0 n
    ∙ same_run (λ row. list_cell (items_of row (s row))) (λ row. cell_of_p row (s row)) 0 n (λ j l. items_row j (s j) (h j))
