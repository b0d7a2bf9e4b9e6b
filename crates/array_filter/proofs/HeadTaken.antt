-- The top of an array with children, its rows at some numbers, and what each child has left.
use Rattle.std.proofs.Common.{◌≡◌, ◌∙◌, sym, refl, ap, subst, arith, ℕ, zero, suc, ◌*◌, ◌<◌, ◌≤◌, ◌&&◌, List, [], ◌∷◌, length, map, take, get_or, Bool, true, Option, Some, None, nat_eq, ℤ, pos}
use Rattle.std.specs.Prelude.{not}
use Rattle.std.specs.List.{AllByRecursion, sum}
use Rattle.std.specs.Option.{option_map}
use Rattle.std.proofs.lemmas.Bool.{and_parts, and_from, eqb-true, eq-eqb}
use Rattle.std.proofs.lemmas.List.{drop_all}
use Rattle.arrow_spec.specs.Kinds.{Kind}
use Rattle.arrow_spec.specs.Cells as cells
use Rattle.arrow_spec.specs.Cells.{Cell, cells_of}
use Rattle.arrow_spec.specs.Counts.{magnitude}
use Rattle.arrow_spec.specs.Arrays.{from_on, id_place, or_0, keyed}
use Rattle.arrow_spec.specs.Faults.{some_row, is_no_id}
use Rattle.arrow_buffers.specs.Rows.{part, has_rows, is_valid, masked}
use Rattle.arrow_buffers.specs.Variable.{place_at, are_offsets, variable_rows}
use Rattle.arrow_arrays.specs.Heads.{Head, listed, mapped, sized, structured, tagged, indexed, joined, head_kind, head_rows, head_validity, head_cell, head_cells, head_fault, suits, are_under, fits_rows, fits_offsets, fits_types, fits_keys, are_all, first_or_0, first_of, across, row_items, list_size, ids_in, number_at, child_under, tagged_cell, tagged_rows, is_union, has_offsets, is_bad_place, fits_places, have_ids, is_bad_key, have_keys}
use Rattle.arrow_arrays.proofs.HeadSliced.{Sound, sound_head, not_true}
use Rattle.array_filter.specs.Rows.{AreBelow, taken}
use Rattle.array_filter.specs.Offsets.{items_taken, sized_items_taken, offsets_taken, row_length}
use Rattle.array_filter.specs.Taken.{Left, all_rows, these_rows, head_taken, left_of, tagged_left}
use Rattle.array_filter.proofs.Lists.{below_items, items-taken, length-taken, none-taken, taken_at}
use Rattle.array_filter.proofs.Pieces.{ahead-even, length-items}
use Rattle.array_filter.proofs.Cells.{valid-taken, has_rows-taken, cells-told, no_bad-taken}
use Rattle.array_filter.proofs.Between.{between-taken, even-piece, even_all, offsets_rise, rows-offsets, rows_inside_all}

-- ── what the children have left ──

abbrev pub left_counts : Left → List ℕ → List ℕ
left_counts all_rows ns = ns
left_counts (these_rows rows) ns = map (λ n. length rows) ns

abbrev pub left_cells : Left → List (List Cell) → List (List Cell)
left_cells all_rows css = css
left_cells (these_rows rows) css = map (taken rows) css

-- each child has the rows that are left
abbrev pub LeftBelow : Left → List ℕ → Type 0
LeftBelow all_rows ns = Unit {0}
LeftBelow (these_rows rows) ns = AllByRecursion (λ n. AreBelow n rows) ns

-- ── what stays ──

pub kind-taken : (rows : List ℕ) (h : Head) → head_kind (head_taken rows h) ≡ head_kind h
kind-taken rows (listed l) = refl
kind-taken rows h = refl

validity-taken : (rows : List ℕ) (h : Head) → head_validity (head_taken rows h) ≡ option_map (taken rows) (head_validity h)
validity-taken rows (listed l) = refl
validity-taken rows h = refl

has_offsets-taken : (rows : List ℕ) (offsets : Option (List ℤ)) → has_offsets (option_map (taken rows) offsets) ≡ has_offsets offsets
has_offsets-taken rows None = refl
has_offsets-taken rows (Some os) = refl

suits-taken : (rows : List ℕ) (h : Head) → suits (head_taken rows h) ≡ suits h
suits-taken rows (tagged t) = ap (λ b. is_union b t.kind) (has_offsets-taken rows t.offsets)
suits-taken rows h = refl

under-taken : (rows : List ℕ) (h : Head) (ks : List Kind) → are_under (head_taken rows h) ks ≡ are_under h ks
under-taken rows (indexed d) ks = refl
under-taken rows h ks = refl

pub rows-taken : (rows : List ℕ) (h : Head) → AreBelow (head_rows h) rows → head_rows (head_taken rows h) ≡ length rows
rows-taken rows (listed l) a = rows-offsets rows l.offsets
rows-taken rows (mapped l) a = rows-offsets rows l.offsets
rows-taken rows (sized c) a = refl
rows-taken rows (structured c) a = refl
rows-taken rows (tagged t) a = length-taken rows t.types a
rows-taken rows (indexed d) a = length-taken rows d.keys a

-- ── the children have these rows ──

all_below : (rows : List ℕ) (m : ℕ) (ns : List ℕ) → are_all m ns ≡ true → AreBelow m rows → AllByRecursion (λ n. AreBelow n rows) ns
all_below rows m [] e a = tt
all_below rows m (n ∷ ns) e a =
    let p = and_parts (nat_eq n m) (are_all m ns) e in
    let q : m ≡ n = sym (eqb-true n m p.0) in
    (subst (λ k. AreBelow k rows) q a, all_below rows m ns p.1 a)

listed_below : (rows : List ℕ) (os : List ℤ) (ns : List ℕ) → nat_eq (length ns) 1 ≡ true → are_offsets os (first_or_0 ns) ≡ true → AreBelow (variable_rows os) rows → AllByRecursion (λ n. AreBelow n (items_taken rows os)) ns
listed_below rows os [] e f a = tt
listed_below rows os (n ∷ []) e f a = (below_items (place_at os) (row_length os) rows n (rows_inside_all os n rows f a), tt)
listed_below rows os (n ∷ m ∷ ns) e f a = absurd (omega (arith, eqb-true (length (n ∷ m ∷ ns)) 1 e))

sized_below : (rows : List ℕ) (size m : ℕ) → AreBelow m rows → AreBelow (size * m) (sized_items_taken rows size)
sized_below rows size m a = below_items (λ row. size * row) (λ row. size) rows (size * m) (even_all size m (size * m) rows (omega arith) a)

tagged_below : (rows : List ℕ) (offsets : Option (List ℤ)) (m : ℕ) (ns : List ℕ) → tagged_rows offsets m ns ≡ true → AreBelow m rows → LeftBelow (tagged_left rows offsets) ns
tagged_below rows None m ns e a = all_below rows m ns e a
tagged_below rows (Some os) m ns e a = tt

pub left_below : (rows : List ℕ) (h : Head) (ns : List ℕ) → fits_rows h ns ≡ true → fits_offsets h ns ≡ true → AreBelow (head_rows h) rows → LeftBelow (left_of rows h) ns
left_below rows (listed l) ns e f a = listed_below rows l.offsets ns e f a
left_below rows (mapped l) ns e f a = listed_below rows l.offsets ns e f a
left_below rows (sized c) ns e f a = all_below (sized_items_taken rows (list_size c.kind)) (list_size c.kind * c.rows) ns e (sized_below rows (list_size c.kind) c.rows a)
left_below rows (structured c) ns e f a = all_below rows c.rows ns e a
left_below rows (tagged t) ns e f a = tagged_below rows t.offsets (length t.types) ns e a
left_below rows (indexed d) ns e f a = tt

-- ── cells ──

first-taken : {A : Type 0} (rows : List ℕ) (css : List (List A)) → first_of (map (taken rows) css) ≡ taken rows (first_of css)
first-taken rows [] = sym (none-taken rows [] refl)
first-taken rows (cs ∷ css) = refl

first_length : {A : Type 0} (css : List (List A)) → first_or_0 (map length css) ≡ length (first_of css)
first_length [] = refl
first_length (cs ∷ css) = refl

listed_cell : {A : Type 0} (rows : List ℕ) (os : List ℤ) (css : List (List A)) (i : ℕ) → are_offsets os (length (first_of css)) ≡ true → AreBelow (variable_rows os) rows → i < length rows
    → row_items (offsets_taken rows os) (first_of (map (taken (items_taken rows os)) css)) i ≡ row_items os (first_of css) (get_or rows i 0)
listed_cell rows os css i e a h =
    let xs = first_of css in
    ap (λ ys. row_items (offsets_taken rows os) ys i) (first-taken (items_taken rows os) css ∙ items-taken (place_at os) (row_length os) rows xs (rows_inside_all os (length xs) rows e a))
    ∙ between-taken os xs rows i e a h

sized_cell : {A : Type 0} (rows : List ℕ) (size m : ℕ) (css : List (List A)) (i : ℕ) → size * m ≤ length (first_of css) → AreBelow m rows → i < length rows
    → part (size * i) size (first_of (map (taken (sized_items_taken rows size)) css)) ≡ part (size * get_or rows i 0) size (first_of css)
sized_cell rows size m css i e a h =
    let xs = first_of css in
    let all = even_all size m (length xs) rows e a in
    ap (part (size * i) size) (first-taken (sized_items_taken rows size) css ∙ items-taken (λ row. size * row) (λ row. size) rows xs all) ∙ even-piece size xs rows i all h

-- the rows of children that all have so many
abbrev AllOf : ℕ → List (List Cell) → Type 0
AllOf m [] = Unit {0}
AllOf m (cs ∷ css) = (length cs ≡ m) × AllOf m css

all_of : (m : ℕ) (css : List (List Cell)) → are_all m (map length css) ≡ true → AllOf m css
all_of m [] e = tt
all_of m (cs ∷ css) e =
    let p = and_parts (nat_eq (length cs) m) (are_all m (map length css)) e in
    (eqb-true (length cs) m p.0, all_of m css p.1)

across_cell : (rows : List ℕ) (m : ℕ) (css : List (List Cell)) (i : ℕ) → AllOf m css → AreBelow m rows → i < length rows → across (map (taken rows) css) i ≡ across css (get_or rows i 0)
across_cell rows m [] i f a h = refl
across_cell rows m (cs ∷ css) i f a h =
    let e : get_or (taken rows cs) i cells.null ≡ get_or cs (get_or rows i 0) cells.null = taken_at cells.null rows cs i (subst (λ k. AreBelow k rows) (sym f.0) a) h in
    ap (λ c. c ∷ across (map (taken rows) css) i) e ∙ ap (λ r. get_or cs (get_or rows i 0) cells.null ∷ r) (across_cell rows m css i f.1 a h)

child_cell : (rows : List ℕ) (m j : ℕ) (css : List (List Cell)) (i : ℕ) → AllOf m css → AreBelow m rows → i < length rows → get_or (get_or (map (taken rows) css) j []) i cells.null ≡ get_or (get_or css j []) (get_or rows i 0) cells.null
child_cell rows m j [] i f a h = refl
child_cell rows m zero (cs ∷ css) i f a h = taken_at cells.null rows cs i (subst (λ k. AreBelow k rows) (sym f.0) a) h
child_cell rows m (suc j) (cs ∷ css) i f a h = child_cell rows m j css i f.1 a h

number-taken : (rows : List ℕ) (xs : List ℤ) (i : ℕ) → AreBelow (length xs) rows → i < length rows → number_at (taken rows xs) i ≡ number_at xs (get_or rows i 0)
number-taken rows xs i a h = taken_at (pos 0) rows xs i a h

-- the offsets of as many rows
with_offsets : (rows : List ℕ) (m : ℕ) (os : List ℤ) → nat_eq (length os) m ≡ true → AreBelow m rows → AreBelow (length os) rows
with_offsets rows m os e a = subst (λ k. AreBelow k rows) (sym (eqb-true (length os) m e)) a

tagged_row : (rows : List ℕ) (ids types : List ℤ) (offsets : Option (List ℤ)) (css : List (List Cell)) (i : ℕ) → tagged_rows offsets (length types) (map length css) ≡ true → AreBelow (length types) rows → i < length rows
    → tagged_cell ids (taken rows types) (option_map (taken rows) offsets) (left_cells (tagged_left rows offsets) css) i ≡ tagged_cell ids types offsets css (get_or rows i 0)
tagged_row rows ids types None css i e a h =
    let t = number_at types (get_or rows i 0) in
    ap (λ x. cells.tagged x (get_or (child_under ids (map (taken rows) css) x) i cells.null)) (number-taken rows types i a h)
    ∙ ap (cells.tagged t) (child_cell rows (length types) (or_0 (id_place ids t)) css i (all_of (length types) css e) a h)
tagged_row rows ids types (Some os) css i e a h =
    let t = number_at types (get_or rows i 0) in
    ap (λ x. cells.tagged x (get_or (child_under ids css x) (place_at (taken rows os) i) cells.null)) (number-taken rows types i a h)
    ∙ ap (λ k. cells.tagged t (get_or (child_under ids css t) (magnitude k) cells.null)) (number-taken rows os i (with_offsets rows (length types) os e a) h)

first_fits : {A : Type 0} (os : List ℤ) (css : List (List A)) → are_offsets os (first_or_0 (map length css)) ≡ true → are_offsets os (length (first_of css)) ≡ true
first_fits os css e = subst (λ n. are_offsets os n ≡ true) (first_length css) e

no_items : {A : Type 0} (size at to : ℕ) (xs : List A) → xs ≡ [] → part at size xs ≡ part to size xs
no_items size at to [] e = ap (take size) (drop_all at [] (omega arith) ∙ sym (drop_all to [] (omega arith)))
no_items size at to (x ∷ xs) e = cc

-- a row is the row of its number
cell-taken : (rows : List ℕ) (h : Head) (css : List (List Cell)) (i : ℕ) → fits_rows h (map length css) ≡ true → fits_offsets h (map length css) ≡ true → AreBelow (head_rows h) rows → i < length rows
    → head_cell (head_taken rows h) (left_cells (left_of rows h) css) i ≡ head_cell h css (get_or rows i 0)
cell-taken rows (listed l) css i e f a lt = ap (λ xs. cells.«list» (cells_of xs)) (listed_cell rows l.offsets css i (first_fits l.offsets css f) a lt)
cell-taken rows (mapped l) css i e f a lt = ap (λ xs. cells.«list» (cells_of xs)) (listed_cell rows l.offsets css i (first_fits l.offsets css f) a lt)
cell-taken rows (sized c) [] i e f a lt = ap (λ xs. cells.«list» (cells_of xs)) (no_items (list_size c.kind) (list_size c.kind * i) (list_size c.kind * get_or rows i 0) [] refl)
cell-taken rows (sized c) (cs ∷ css) i e f a lt =
    let s = list_size c.kind in
    let l = (all_of (s * c.rows) (cs ∷ css) e).0 in
    ap (λ xs. cells.«list» (cells_of xs)) (sized_cell rows s c.rows (cs ∷ css) i (omega (arith, l)) a lt)
cell-taken rows (structured c) css i e f a lt = ap (λ xs. cells.struct (cells_of xs)) (across_cell rows c.rows css i (all_of c.rows css e) a lt)
cell-taken rows (tagged t) css i e f a lt = tagged_row rows (ids_in t.kind) t.types t.offsets css i e a lt
cell-taken rows (indexed d) css i e f a lt = ap (keyed (Some (joined css))) (number-taken rows d.keys i a lt)

pub cells-taken : (rows : List ℕ) (h : Head) (css : List (List Cell)) → has_rows (head_validity h) (head_rows h) ≡ true → fits_rows h (map length css) ≡ true → fits_offsets h (map length css) ≡ true → AreBelow (head_rows h) rows
    → head_cells (head_taken rows h) (left_cells (left_of rows h) css) ≡ taken rows (head_cells h css)
cells-taken rows h css v e f a =
    let theirs : ℕ → Cell = head_cell h css in
    let mine : ℕ → Cell = head_cell (head_taken rows h) (left_cells (left_of rows h) css) in
    ap (λ w. masked w (from_on mine 0 (head_rows (head_taken rows h)))) (validity-taken rows h)
    ∙ ap (λ m. masked (option_map (taken rows) (head_validity h)) (from_on mine 0 m)) (rows-taken rows h a)
    ∙ cells-told (head_validity h) theirs mine rows (head_rows h) v a (λ i lt. cell-taken rows h css i e f a lt)

-- ── that arrays have such a top ──

are_all-left : (rows : List ℕ) (m : ℕ) (ns : List ℕ) → length rows ≡ m → are_all m (left_counts (these_rows rows) ns) ≡ true
are_all-left rows m [] q = refl
are_all-left rows m (n ∷ ns) q = and_from (nat_eq (length rows) m) (are_all m (left_counts (these_rows rows) ns)) (eq-eqb (length rows) m q) (are_all-left rows m ns q)

one-left : (rows : List ℕ) (ns : List ℕ) → nat_eq (length ns) 1 ≡ true → nat_eq (length (left_counts (these_rows rows) ns)) 1 ≡ true
one-left rows [] e = e
one-left rows (n ∷ []) e = refl
one-left rows (n ∷ m ∷ ns) e = absurd (omega (arith, eqb-true (length (n ∷ m ∷ ns)) 1 e))

length-sized : (rows : List ℕ) (size : ℕ) → length (sized_items_taken rows size) ≡ size * length rows
length-sized rows size = length-items (λ row. size * row) (λ row. size) rows ∙ ahead-even size rows (length rows) (omega arith)

tagged_rows-taken : (rows : List ℕ) (offsets : Option (List ℤ)) (m : ℕ) (ns : List ℕ) → tagged_rows offsets m ns ≡ true → AreBelow m rows → tagged_rows (option_map (taken rows) offsets) (length rows) (left_counts (tagged_left rows offsets) ns) ≡ true
tagged_rows-taken rows None m ns e a = are_all-left rows (length rows) ns refl
tagged_rows-taken rows (Some os) m ns e a = eq-eqb (length (taken rows os)) (length rows) (length-taken rows os (with_offsets rows m os e a))

fits_rows-taken : (rows : List ℕ) (h : Head) (ns : List ℕ) → fits_rows h ns ≡ true → AreBelow (head_rows h) rows → fits_rows (head_taken rows h) (left_counts (left_of rows h) ns) ≡ true
fits_rows-taken rows (listed l) ns e a = one-left (items_taken rows l.offsets) ns e
fits_rows-taken rows (mapped l) ns e a = one-left (items_taken rows l.offsets) ns e
fits_rows-taken rows (sized c) ns e a = are_all-left (sized_items_taken rows (list_size c.kind)) (list_size c.kind * length rows) ns (length-sized rows (list_size c.kind))
fits_rows-taken rows (structured c) ns e a = are_all-left rows (length rows) ns refl
fits_rows-taken rows (tagged t) ns e a =
    ap (λ m. tagged_rows (option_map (taken rows) t.offsets) m (left_counts (tagged_left rows t.offsets) ns)) (length-taken rows t.types a) ∙ tagged_rows-taken rows t.offsets (length t.types) ns e a
fits_rows-taken rows (indexed d) ns e a = refl

listed_offsets : (rows : List ℕ) (os : List ℤ) (ns : List ℕ) → nat_eq (length ns) 1 ≡ true → are_offsets (offsets_taken rows os) (first_or_0 (left_counts (these_rows (items_taken rows os)) ns)) ≡ true
listed_offsets rows os [] e = cc
listed_offsets rows os (n ∷ ns) e = offsets_rise (row_length os) rows (length (items_taken rows os)) (omega (arith, length-items (place_at os) (row_length os) rows))

fits_places-taken : (rows : List ℕ) (ids types : List ℤ) (offsets : Option (List ℤ)) (ns : List ℕ) → tagged_rows offsets (length types) ns ≡ true → fits_places ids types offsets ns ≡ true → AreBelow (length types) rows
    → fits_places ids (taken rows types) (option_map (taken rows) offsets) (left_counts (tagged_left rows offsets) ns) ≡ true
fits_places-taken rows ids types None ns r e a = refl
fits_places-taken rows ids types (Some os) ns r e a =
    let theirs : ℕ → Bool = λ row. is_bad_place ns (id_place ids (number_at types row)) (number_at os row) in
    let mine : ℕ → Bool = λ row. is_bad_place ns (id_place ids (number_at (taken rows types) row)) (number_at (taken rows os) row) in
    let b = with_offsets rows (length types) os r a in
    let same : (i : ℕ) → i < length rows → mine i ≡ theirs (get_or rows i 0) = λ i lt.
    ap (λ t. is_bad_place ns (id_place ids t) (number_at (taken rows os) i)) (number-taken rows types i a lt)
    ∙ ap (is_bad_place ns (id_place ids (number_at types (get_or rows i 0)))) (number-taken rows os i b lt) in
    ap (λ m. not (some_row mine m)) (length-taken rows types a)
    ∙ ap not (no_bad-taken mine theirs rows (length types) a same (not_true (some_row theirs (length types)) e))

fits_offsets-taken : (rows : List ℕ) (h : Head) (ns : List ℕ) → fits_rows h ns ≡ true → fits_offsets h ns ≡ true → AreBelow (head_rows h) rows → fits_offsets (head_taken rows h) (left_counts (left_of rows h) ns) ≡ true
fits_offsets-taken rows (listed l) ns r e a = listed_offsets rows l.offsets ns r
fits_offsets-taken rows (mapped l) ns r e a = listed_offsets rows l.offsets ns r
fits_offsets-taken rows (sized c) ns r e a = refl
fits_offsets-taken rows (structured c) ns r e a = refl
fits_offsets-taken rows (tagged t) ns r e a = fits_places-taken rows (ids_in t.kind) t.types t.offsets ns r e a
fits_offsets-taken rows (indexed d) ns r e a = refl

have_ids-taken : (rows : List ℕ) (ids types : List ℤ) → have_ids ids types ≡ true → AreBelow (length types) rows → have_ids ids (taken rows types) ≡ true
have_ids-taken rows ids types e a =
    let theirs : ℕ → Bool = λ row. is_no_id (id_place ids (number_at types row)) in
    let mine : ℕ → Bool = λ row. is_no_id (id_place ids (number_at (taken rows types) row)) in
    let same : (i : ℕ) → i < length rows → mine i ≡ theirs (get_or rows i 0) = λ i lt. ap (λ t. is_no_id (id_place ids t)) (number-taken rows types i a lt) in
    ap (λ m. not (some_row mine m)) (length-taken rows types a)
    ∙ ap not (no_bad-taken mine theirs rows (length types) a same (not_true (some_row theirs (length types)) e))

fits_types-taken : (rows : List ℕ) (h : Head) → fits_types h ≡ true → AreBelow (head_rows h) rows → fits_types (head_taken rows h) ≡ true
fits_types-taken rows (tagged t) e a = have_ids-taken rows (ids_in t.kind) t.types e a
fits_types-taken rows h e a = refl

have_keys-taken : (rows : List ℕ) (held : ℕ) (keys : List ℤ) (v : Option (List Bool)) → has_rows v (length keys) ≡ true → have_keys held keys v ≡ true → AreBelow (length keys) rows → have_keys held (taken rows keys) (option_map (taken rows) v) ≡ true
have_keys-taken rows held keys v h e a =
    let theirs : ℕ → Bool = λ row. is_valid v row && is_bad_key held (number_at keys row) in
    let mine : ℕ → Bool = λ row. is_valid (option_map (taken rows) v) row && is_bad_key held (number_at (taken rows keys) row) in
    let same : (i : ℕ) → i < length rows → mine i ≡ theirs (get_or rows i 0) = λ i lt.
    ap (λ b. b && is_bad_key held (number_at (taken rows keys) i)) (valid-taken v rows (length keys) i h a lt)
    ∙ ap (λ z. is_valid v (get_or rows i 0) && is_bad_key held z) (number-taken rows keys i a lt) in
    ap (λ m. not (some_row mine m)) (length-taken rows keys a)
    ∙ ap not (no_bad-taken mine theirs rows (length keys) a same (not_true (some_row theirs (length keys)) e))

fits_keys-taken : (rows : List ℕ) (h : Head) (ns : List ℕ) → has_rows (head_validity h) (head_rows h) ≡ true → fits_keys h ns ≡ true → AreBelow (head_rows h) rows → fits_keys (head_taken rows h) (left_counts (left_of rows h) ns) ≡ true
fits_keys-taken rows (indexed d) ns v e a = have_keys-taken rows (sum ns) d.keys d.validity v e a
fits_keys-taken rows h ns v e a = refl

-- the rows of a top that is not refused are not refused
pub fault-taken : (rows : List ℕ) (h : Head) (ks : List Kind) (ns : List ℕ) → Sound h ks ns → AreBelow (head_rows h) rows → head_fault (head_taken rows h) ks (left_counts (left_of rows h) ns) ≡ None
fault-taken rows h ks ns s a = sound_head (head_taken rows h) ks (left_counts (left_of rows h) ns) (record {
  suits = rw (suits-taken rows h, under-taken rows h ks) s.suits;
  valid = rw (validity-taken rows h, rows-taken rows h a) (has_rows-taken (head_validity h) rows (head_rows h) s.valid a);
  rows = fits_rows-taken rows h ns s.rows a;
  offsets = fits_offsets-taken rows h ns s.rows s.offsets a;
  types = fits_types-taken rows h s.types a;
  keys = fits_keys-taken rows h ns s.valid s.keys a;
})
