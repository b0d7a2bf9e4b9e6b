-- What was read of an array is read of it where more of its dictionaries is known.
use Rattle.std.proofs.Common.{◌≡◌, ℕ, zero, suc, ◌+◌, ◌-◌, ◌*◌, ◌<◌, ◌≤◌, List, [], ◌∷◌, ◌++◌, length, Option, Some, None, Bool, true, false, refl, ◌∙◌, ap, arith, ◌&&◌, ◌||◌, cond, ℤ, length-append}
use Rattle.std.specs.Prelude.{nat_le, slice_get}
use Rattle.std.specs.Int.{byte_len, w8, w32}
use Rattle.std.proofs.lemmas.Bool.{leb-false, lt-leb, or_from, or_parts}
use Rattle.arrow_spec.specs.declared.error.IpcError.TheVariants.{OutOfSpec}
use Rattle.arrow_spec.specs.declared.error.OutOfSpecKind.TheVariants as kinds
use Rattle.arrow_spec.specs.declared.types.UnionMode.{UnionMode}
use Rattle.arrow_spec.specs.declared.types.UnionMode.TheVariants.{Dense, Sparse}
use Rattle.arrow_spec.specs.declared.types.IntervalUnit.TheVariants.{YearMonth}
use Rattle.arrow_spec.specs.declared.types.IntegerType.{IntegerType}
use Rattle.arrow_spec.specs.Kinds.{Kind, Fields, none, field, width, null, interval, «list», fixed_size_list, struct, map as map_of, union, dictionary, extension, small}
use Rattle.arrow_spec.specs.Counts.{RecordBatch, Place, magnitude, is_negative, inside, after, union_buffers}
use Rattle.arrow_spec.specs.Cells as cells
use Rattle.arrow_spec.specs.Cells.{Cell, cells_of}
use Rattle.arrow_spec.specs.Arrays.{Dictionaries, cell_or_null, found, from_on, id_place, if_valid, integer_in, integer_width, keyed, node_of, offset, or_0, signed_in, types_buffer, valid}
use Rattle.arrow_spec.specs.ArrayCells.{cell, cell_in, row_of}
use Rattle.arrow_spec.specs.Faults.{array_faults, cause, child_faults, dense_faults, fixed_faults, flat_faults, end_of, is_bad_row, is_no_id, key_faults, node_faults, offsets_buffer_faults, offsets_faults, place_in, some_row, some_valid_row, union_faults, validity_faults, view_count_faults}
use Rattle.arrow_spec.proofs.Fewer.{dense_row, fixed_row, row_offset, along, along_sound, cause-false, cause-none, none_first, none_second, some_row-all, some_row-none, sound_second}
use Rattle.laws_files.specs.Files.{GoesOn}

-- ── keys ──

slice_get_front : {A : Type 0} (xs more : List A) (i : ℕ) → i < length xs → slice_get (xs ++ more) i ≡ slice_get xs i
slice_get_front [] more i below = absurd (omega (arith, below))
slice_get_front (x ∷ xs) more zero below = refl
slice_get_front (x ∷ xs) more (suc i) below = slice_get_front xs more i (omega (arith, below))

-- the cells under an id go on
abbrev Begins : Option (List Cell) → Option (List Cell) → Type 0
Begins old new = (xs : List Cell) → old ≡ Some xs → (more : List Cell) × (new ≡ Some (xs ++ more))

-- a test of rows that are not null
abbrev bad_key : RecordBatch → IntegerType → Place → List Cell → ℕ → Bool
bad_key m t p xs row = is_negative (integer_in m t (p.buffer + 1) row) || nat_le (length xs) (magnitude (integer_in m t (p.buffer + 1) row))

no_row : (v bad : Bool) → (v && true) ≡ false → (v && bad) ≡ false
no_row true bad h = cc
no_row false bad h = refl

no_bad : (v bad bad' : Bool) → (bad ≡ false → bad' ≡ false) → (v && bad) ≡ false → (v && bad') ≡ false
no_bad true bad bad' f h = f h
no_bad false bad bad' f h = refl

-- no row that is not null, or no bad key, where the rows have none
none_valid : (m : RecordBatch) (p : Place) (n : ℕ) (bad : ℕ → Bool) → some_valid_row m p (λ row. true) n ≡ false → some_valid_row m p bad n ≡ false
none_valid m p n bad h = some_row-all _ n (λ k below. no_row (valid m p k) (bad k) (some_row-none (λ row. valid m p row && true) n k h below))

still_below : (negative : Bool) (xs more : List Cell) (key : ℕ) → (negative || nat_le (length xs) key) ≡ false → (negative || nat_le (length (xs ++ more)) key) ≡ false
still_below negative xs more key h =
    let parts = or_parts negative (nat_le (length xs) key) h in
    let below : key < length xs = leb-false (length xs) key parts.1 in
    or_from negative _ parts.0 (lt-leb (length (xs ++ more)) key (omega (arith, below, length-append xs more)))

key_faults-more : (m : RecordBatch) (old new : Option (List Cell)) → Begins old new → (t : IntegerType) (id : ℤ) (p : Place) (n : ℕ) → key_faults m old t id p n ≡ [] → key_faults m new t id p n ≡ []
unfolding key_faults
key_faults-more m None None goes t id p n h = h
key_faults-more m None (Some ys) goes t id p n h = cause-false _ _ (none_valid m p n (bad_key m t p ys) (cause-none _ _ h))
key_faults-more m (Some xs) new goes t id p n h =
    let g = goes xs refl in
    let none_bad : some_valid_row m p (bad_key m t p (xs ++ g.0)) n ≡ false = some_row-all _ n (λ k below. no_bad (valid m p k) (bad_key m t p xs k) (bad_key m t p (xs ++ g.0) k) (still_below (is_negative (integer_in m t (p.buffer + 1) k)) xs g.0 (magnitude (integer_in m t (p.buffer + 1) k))) (some_row-none (λ row. valid m p row && bad_key m t p xs row) n k (cause-none _ _ h) below)) in
    rw g.1 (cause-false _ _ none_bad)

-- the cell at a key
key_cell : (v : Bool) (xs more : List Cell) (key : ℤ) → (v && (is_negative key || nat_le (length xs) (magnitude key))) ≡ false → cond v (keyed (Some (xs ++ more)) key) cells.null ≡ cond v (keyed (Some xs) key) cells.null
key_cell false xs more key h = refl
key_cell true xs more key h = ap cell_or_null (slice_get_front xs more (magnitude key) (leb-false (length xs) (magnitude key) (or_parts (is_negative key) _ h).1))

null_cell : (v : Bool) (x y : Cell) → (v && true) ≡ false → cond v x cells.null ≡ cond v y cells.null
null_cell true x y h = cc
null_cell false x y h = refl

keyed-more : (m : RecordBatch) (old new : Option (List Cell)) → Begins old new → (t : IntegerType) (id : ℤ) (p : Place) (n row : ℕ) → row < n → key_faults m old t id p n ≡ [] → if_valid m p row (keyed new (integer_in m t (p.buffer + 1) row)) ≡ if_valid m p row (keyed old (integer_in m t (p.buffer + 1) row))
unfolding key_faults
keyed-more m None new goes t id p n row below h = null_cell (valid m p row) _ _ (some_row-none (λ k. valid m p k && true) n row (cause-none _ _ h) below)
keyed-more m (Some xs) new goes t id p n row below h =
    let g = goes xs refl in
    let good = some_row-none (λ k. valid m p k && bad_key m t p xs k) n row (cause-none _ _ h) below in
    rw g.1 (key_cell (valid m p row) xs g.0 (integer_in m t (p.buffer + 1) row) good)

-- ── rows ──

pub from_on-same : {A : Type 0} (f g : ℕ → A) (i n : ℕ) → ((j : ℕ) → i ≤ j → j < i + n → f j ≡ g j) → from_on f i n ≡ from_on g i n
from_on-same f g i zero h = refl
from_on-same f g i (suc n) h = ap (λ x. x ∷ from_on f (suc i) n) (h i (omega arith) (omega arith)) ∙ ap (λ xs. g i ∷ xs) (from_on-same f g (suc i) n (λ j above below. h j (omega (arith, above)) (omega (arith, below))))

union_tests : (m : RecordBatch) (mode : UnionMode) (ids : List ℤ) (fs : Fields) (p : Place) (n : ℕ) → union_faults m mode ids fs p n ≡ [] → cause (some_row (λ row. is_no_id (id_place ids (signed_in m w8 (types_buffer m p) row))) n) (OutOfSpec kinds.InvalidUnion) ++ dense_faults m mode ids fs p n ≡ []
unfolding union_faults
union_tests m mode ids fs p n h = sound_second _ _ (none_second _ _ h)

-- ── arrays ──

module _ (m : RecordBatch) (d d' : Dictionaries) (goes : GoesOn (λ id. found d id) (λ id. found d' id)) where
  flat_faults-more : (k : Kind) (p : Place) (n : ℕ) → flat_faults m d k p n ≡ [] → flat_faults m d' k p n ≡ []
  flat_faults-more k p zero h = refl
  flat_faults-more (interval YearMonth) p (suc n) h = h
  flat_faults-more (dictionary t ordered id k) p (suc n) h = along_sound _ _ _ _ (λ x. x) (key_faults-more m (found d id) (found d' id) (goes id) t id p (suc n)) h
  flat_faults-more k p (suc n) h = h

  mutual
    pub array_faults-more : (k : Kind) (p : Place) (n : ℕ) → array_faults m d k p n ≡ [] → array_faults m d' k p n ≡ []
    array_faults-more (extension name metadata k) p n h = array_faults-more k p n h
    array_faults-more (fixed_size_list size fs) p n h = along _ _ _ _ (λ x. x) (child_faults-more fs (inside 1 p) (λ q. size * n)) h
    array_faults-more (struct fs) p n h = along _ _ _ _ (λ x. x) (child_faults-more fs (inside 1 p) (λ q. n)) h
    array_faults-more («list» o fs) p zero h = along _ _ _ _ (λ x. x) (child_faults-more fs (inside 2 p) (λ q. 0)) h
    array_faults-more («list» o fs) p (suc n) h = along _ _ _ _ (λ x. x) (along_sound _ _ _ _ (λ x. x) (along _ _ _ _ (λ x. x) (child_faults-more fs (inside 2 p) (λ q. offset m o (p.buffer + 1) (suc n))))) h
    array_faults-more (map_of sorted fs) p zero h = along _ _ _ _ (λ x. x) (child_faults-more fs (inside 2 p) (λ q. 0)) h
    array_faults-more (map_of sorted fs) p (suc n) h = along _ _ _ _ (λ x. x) (along_sound _ _ _ _ (λ x. x) (along _ _ _ _ (λ x. x) (child_faults-more fs (inside 2 p) (λ q. offset m small (p.buffer + 1) (suc n))))) h
    array_faults-more (union Sparse stated ids fs) p zero h = along _ _ _ _ (λ x. x) (child_faults-more fs (inside (union_buffers m.version Sparse) p) (λ q. 0)) h
    array_faults-more (union Sparse stated ids fs) p (suc n) h = along _ _ _ _ (λ x. x) (child_faults-more fs (inside (union_buffers m.version Sparse) p) (λ q. suc n)) h
    array_faults-more (union Dense stated ids fs) p zero h = along _ _ _ _ (λ x. x) (child_faults-more fs (inside (union_buffers m.version Dense) p) (λ q. 0)) h
    array_faults-more (union Dense stated ids fs) p (suc n) h = along _ _ _ _ (λ x. x) (child_faults-more fs (inside (union_buffers m.version Dense) p) (λ q. magnitude (node_of m q.node).length)) h
    array_faults-more k p n h = along _ _ _ _ (λ x. x) (flat_faults-more k p n) h

    child_faults-more : (fs : Fields) (p : Place) (rows : Place → ℕ) → child_faults m d fs p rows ≡ [] → child_faults m d' fs p rows ≡ []
    child_faults-more none p rows h = refl
    child_faults-more (field name nullable metadata k others) p rows h = along _ _ _ _ (array_faults-more k p (rows p)) (along_sound (view_count_faults m k p) _ (view_count_faults m k p) _ (λ x. x) (child_faults-more others (after m k p) rows)) h

  mutual
    pub cell-more : (k : Kind) (p : Place) (n row : ℕ) → row < n → array_faults m d k p n ≡ [] → cell m d' k p row ≡ cell m d k p row
    cell-more (interval YearMonth) p n row below h = refl
    cell-more («list» o fs) p zero row below h = absurd (omega (arith, below))
    cell-more («list» o fs) p (suc n) row below h =
        let inner : offsets_faults m o (p.buffer + 1) (suc n) (end_of m (suc p.node)) ++ child_faults m d fs (inside 2 p) (λ q. offset m o (p.buffer + 1) (suc n)) ≡ [] = sound_second (offsets_buffer_faults m o (p.buffer + 1) (suc n)) _ (none_second (node_faults m p (suc n) ++ validity_faults m p (suc n)) _ h) in
        let children = from_on-same (λ j. cell_in m d' fs 0 (inside 2 p) j) (λ j. cell_in m d fs 0 (inside 2 p) j) (offset m o (p.buffer + 1) row) (offset m o (p.buffer + 1) (suc row) - offset m o (p.buffer + 1) row)
        (λ j above j_below. cell_in-more fs 0 (inside 2 p) (λ q. offset m o (p.buffer + 1) (suc n)) j (λ _. row_offset m o (p.buffer + 1) (suc n) row (end_of m (suc p.node)) below (none_first _ _ inner) j j_below) (none_second _ _ inner)) in
        ap (λ xs. if_valid m p row (cells.«list» (cells_of xs))) children
    cell-more (map_of sorted fs) p zero row below h = absurd (omega (arith, below))
    cell-more (map_of sorted fs) p (suc n) row below h =
        let inner : offsets_faults m small (p.buffer + 1) (suc n) (end_of m (suc p.node)) ++ child_faults m d fs (inside 2 p) (λ q. offset m small (p.buffer + 1) (suc n)) ≡ [] = sound_second (offsets_buffer_faults m small (p.buffer + 1) (suc n)) _ (none_second (node_faults m p (suc n) ++ validity_faults m p (suc n)) _ h) in
        let children = from_on-same (λ j. cell_in m d' fs 0 (inside 2 p) j) (λ j. cell_in m d fs 0 (inside 2 p) j) (offset m small (p.buffer + 1) row) (offset m small (p.buffer + 1) (suc row) - offset m small (p.buffer + 1) row)
        (λ j above j_below. cell_in-more fs 0 (inside 2 p) (λ q. offset m small (p.buffer + 1) (suc n)) j (λ _. row_offset m small (p.buffer + 1) (suc n) row (end_of m (suc p.node)) below (none_first _ _ inner) j j_below) (none_second _ _ inner)) in
        ap (λ xs. if_valid m p row (cells.«list» (cells_of xs))) children
    cell-more (fixed_size_list size fs) p n row below h =
        let children = from_on-same (λ j. cell_in m d' fs 0 (inside 1 p) j) (λ j. cell_in m d fs 0 (inside 1 p) j) (size * row) size
        (λ j above j_below. cell_in-more fs 0 (inside 1 p) (λ q. size * n) j (λ _. fixed_row size n row j below j_below) (none_second _ _ h)) in
        ap (λ xs. if_valid m p row (cells.«list» (cells_of xs))) children
    cell-more (struct fs) p n row below h = ap (λ xs. if_valid m p row (cells.struct xs)) (row_of-more fs (inside 1 p) n row below (none_second _ _ h))
    cell-more (union Sparse stated ids fs) p zero row below h = absurd (omega (arith, below))
    cell-more (union Sparse stated ids fs) p (suc n) row below h =
        let child = cell_in-more fs (or_0 (id_place ids (signed_in m w8 (types_buffer m p) row))) (inside (union_buffers m.version Sparse) p) (λ x. suc n) row (λ _. below) (none_second _ _ h) in
        ap (λ x. cells.tagged (signed_in m w8 (types_buffer m p) row) x) child
    cell-more (union Dense stated ids fs) p zero row below h = absurd (omega (arith, below))
    cell-more (union Dense stated ids fs) p (suc n) row below h =
        let q = inside (union_buffers m.version Dense) p in
        let tests = union_tests m Dense ids fs p (suc n) (none_second _ _ (none_first _ _ h)) in
        let is_one = some_row-none (λ k. is_no_id (id_place ids (signed_in m w8 (types_buffer m p) k))) (suc n) row (cause-none _ _ (none_first _ _ tests)) below in
        let is_row = some_row-none (λ k. is_bad_row m fs q (id_place ids (signed_in m w8 (types_buffer m p) k)) (signed_in m w32 (suc (types_buffer m p)) k)) (suc n) row (cause-none _ _ (none_second _ _ tests)) below in
        let child = cell_in-more fs (or_0 (id_place ids (signed_in m w8 (types_buffer m p) row))) q (λ x. magnitude (node_of m x.node).length) (offset m small (suc (types_buffer m p)) row) (dense_row m d fs q (λ x. magnitude (node_of m x.node).length) _ _ is_one is_row (none_second _ _ h)) (none_second _ _ h) in
        ap (λ x. cells.tagged (signed_in m w8 (types_buffer m p) row) x) child
    cell-more (dictionary t ordered id k) p zero row below h = absurd (omega (arith, below))
    cell-more (dictionary t ordered id k) p (suc n) row below h = keyed-more m (found d id) (found d' id) (goes id) t id p (suc n) row below (sound_second (fixed_faults m p (byte_len (integer_width t)) (suc n)) _ (none_second _ _ h))
    cell-more (extension name metadata k) p n row below h = cell-more k p n row below h
    cell-more k p n row below h = refl

    cell_in-more : (fs : Fields) (i : ℕ) (p : Place) (rows : Place → ℕ) (row : ℕ) → (i < width fs → row < rows (place_in m fs i p)) → child_faults m d fs p rows ≡ [] → cell_in m d' fs i p row ≡ cell_in m d fs i p row
    cell_in-more none i p rows row below h = refl
    cell_in-more (field name nullable metadata k others) zero p rows row below h = cell-more k p (rows p) row (below (omega arith)) (none_first _ _ h)
    cell_in-more (field name nullable metadata k others) (suc i) p rows row below h = cell_in-more others i (after m k p) rows row (λ less. below (omega (arith, less))) (sound_second _ _ (none_second _ _ h))

    row_of-more : (fs : Fields) (p : Place) (n row : ℕ) → row < n → child_faults m d fs p (λ q. n) ≡ [] → row_of m d' fs p row ≡ row_of m d fs p row
    row_of-more none p n row below h = refl
    row_of-more (field name nullable metadata k others) p n row below h =
        let first = cell-more k p n row below (none_first _ _ h) in
        let rest = row_of-more others (after m k p) n row below (sound_second _ _ (none_second _ _ h)) in
        ap (λ x. cells.also x (row_of m d' others (after m k p) row)) first ∙ ap (λ xs. cells.also (cell m d k p row) xs) rest
