-- The top of an array with children: what holds of one that is not refused, and a part of its rows.
use Rattle.std.proofs.Common.{◌≡◌, ℕ, zero, suc, ◌+◌, ◌*◌, ◌≤◌, ◌<◌, ◌&&◌, List, [], ◌∷◌, Bool, true, false, Option, Some, None, ℤ, map, length, drop, nat_eq, refl, sym, ap, ◌∙◌, arith, get_or}
use Rattle.std.specs.Prelude.{pos, not, if◌then◌else◌}
use Rattle.std.specs.Option.{option_map}
use Rattle.std.specs.List.{sum}
use Rattle.std.proofs.lemmas.Bool.{and_parts, and_from, eqb-true, eq-eqb}
use Rattle.std.proofs.lemmas.List.{get_or-take, get_or-drop}
use Rattle.std.proofs.Math.Nat.{mul-le-mul_left}
use Rattle.arrow_spec.specs.Kinds.{Kind}
use Rattle.arrow_spec.specs.Cells as cells
use Rattle.arrow_spec.specs.Cells.{Cell, cells_of}
use Rattle.arrow_spec.specs.Counts.{magnitude}
use Rattle.arrow_spec.specs.Arrays.{from_on, id_place, or_0, keyed}
use Rattle.arrow_spec.specs.Faults.{some_row, is_no_id}
use Rattle.arrow_buffers.specs.declared.error.ArrayError.TheVariants.{DataType, Length, Offsets as BadOffsets, UnionType, Key}
use Rattle.arrow_buffers.specs.Rows.{part, has_rows, is_valid, masked}
use Rattle.arrow_buffers.specs.Variable.{place_at, are_offsets, variable_rows}
use Rattle.arrow_buffers.proofs.Parts.{length-part, length-from_on, part-from_on, shift-from_on, part-part}
use Rattle.arrow_buffers.proofs.Masks.{length-masked, part-masked, has_rows-part, is_valid-part}
use Rattle.arrow_buffers.proofs.Rising.{some_offset, are_offsets-part}
use Rattle.arrow_buffers.proofs.Rows.{none_below, none_from}
use Rattle.arrow_arrays.specs.Heads.{Head, listed, mapped, sized, structured, tagged, indexed, joined, Cut, whole, run, head_kind, head_rows, head_validity, head_cell, head_cells, head_part, cut_of, cut_cells, suits, are_under, fits_rows, fits_offsets, fits_types, fits_keys, are_all, first_or_0, first_of, across, row_items, list_size, head_fault, Reaches, ids_in, number_at, child_under, tagged_cell, tagged_cut, tagged_rows, is_union, has_offsets, is_bad_place, fits_places, have_ids, is_bad_key, have_keys}

-- what holds of a top that is not refused
pub record Sound (h : Head) (ks : List Kind) (ns : List ℕ) : Type 0 where
  pub suits : (suits h && are_under h ks) ≡ true
  pub valid : has_rows (head_validity h) (head_rows h) ≡ true
  pub rows : fits_rows h ns ≡ true
  pub offsets : fits_offsets h ns ≡ true
  pub types : fits_types h ≡ true
  pub keys : fits_keys h ns ≡ true

tests : (s t u v w : Bool)
    → (if not s then Some DataType else (if not t then Some Length else (if not u then Some BadOffsets else (if not v then Some UnionType else (if not w then Some Key else None))))) ≡ None
    → (s ≡ true) × (t ≡ true) × (u ≡ true) × (v ≡ true) × (w ≡ true)
tests true true true true true e = (refl, refl, refl, refl, refl)
tests true true true true false e = cc
tests true true true false w e = cc
tests true true false v w e = cc
tests true false u v w e = cc
tests false t u v w e = cc

pub head_sound : (h : Head) (ks : List Kind) (ns : List ℕ) → head_fault h ks ns ≡ None → Sound h ks ns
head_sound h ks ns e =
    let t = tests (suits h && are_under h ks) (has_rows (head_validity h) (head_rows h) && fits_rows h ns) (fits_offsets h ns) (fits_types h) (fits_keys h ns) e in
    let v = and_parts (has_rows (head_validity h) (head_rows h)) (fits_rows h ns) t.1 in
    record { suits = t.0; valid = v.0; rows = v.1; offsets = t.2; types = t.3; keys = t.4 }

pub sound_head : (h : Head) (ks : List Kind) (ns : List ℕ) → Sound h ks ns → head_fault h ks ns ≡ None
sound_head h ks ns s = rw (s.suits, s.valid, s.rows, s.offsets, s.types, s.keys) refl

pub length-head : (h : Head) (css : List (List Cell)) → has_rows (head_validity h) (head_rows h) ≡ true → length (head_cells h css) ≡ head_rows h
length-head h css v =
    let l = length-from_on (head_cell h css) 0 (head_rows h) in
    length-masked (head_validity h) (from_on (head_cell h css) 0 (head_rows h)) (rw l v) ∙ l

pub kind-part : (o n : ℕ) (h : Head) → head_kind (head_part o n h) ≡ head_kind h
kind-part o n (listed l) = refl
kind-part o n h = refl

validity-part : (o n : ℕ) (h : Head) → head_validity (head_part o n h) ≡ option_map (part o n) (head_validity h)
validity-part o n (listed l) = refl
validity-part o n h = refl

has_offsets-part : (o n : ℕ) (offsets : Option (List ℤ)) → has_offsets (option_map (part o n) offsets) ≡ has_offsets offsets
has_offsets-part o n None = refl
has_offsets-part o n (Some os) = refl

suits-part : (o n : ℕ) (h : Head) → suits (head_part o n h) ≡ suits h
suits-part o n (tagged t) = ap (λ b. is_union b t.kind) (has_offsets-part o n t.offsets)
suits-part o n h = refl

under-part : (o n : ℕ) (h : Head) (ks : List Kind) → are_under (head_part o n h) ks ≡ are_under h ks
under-part o n (indexed d) ks = refl
under-part o n h ks = refl

pub offsets-part : (o n limit : ℕ) (os : List ℤ) → are_offsets os limit ≡ true → o + n ≤ variable_rows os → variable_rows (part o (n + 1) os) ≡ n
offsets-part o n limit os e h =
    let one = some_offset os limit e in
    let l = length-part os o (n + 1) (omega arith) in
    omega (arith, l)

pub rows-part : (o n : ℕ) (h : Head) (ns : List ℕ) → fits_offsets h ns ≡ true → o + n ≤ head_rows h → head_rows (head_part o n h) ≡ n
rows-part o n (listed l) ns e h = offsets-part o n (first_or_0 ns) l.offsets e h
rows-part o n (mapped l) ns e h = offsets-part o n (first_or_0 ns) l.offsets e h
rows-part o n (sized c) ns e h = refl
rows-part o n (structured c) ns e h = refl
rows-part o n (tagged t) ns e h = length-part t.types o n h
rows-part o n (indexed d) ns e h = length-part d.keys o n h

pub place_at-part : (o m k : ℕ) (os : List ℤ) → k < m → place_at (part o m os) k ≡ place_at os (o + k)
place_at-part o m k os h = ap magnitude (get_or-take m (drop o os) k (pos 0) h ∙ get_or-drop o os k (pos 0))

pub row_items-part : {A : Type 0} (o n k : ℕ) (os : List ℤ) (xs : List A) → k < n → row_items (part o (n + 1) os) xs k ≡ row_items os xs (o + k)
row_items-part o n k os xs h =
    let a : place_at (part o (n + 1) os) k ≡ place_at os (o + k) = place_at-part o (n + 1) k os (omega arith) in
    let b : place_at (part o (n + 1) os) (suc k) ≡ place_at os (suc (o + k)) = place_at-part o (n + 1) (suc k) os (omega arith) ∙ ap (place_at os) (omega arith) in
    rw (a, b) refl

pub across-part : (o n k : ℕ) (css : List (List Cell)) → k < n → across (map (part o n) css) k ≡ across css (o + k)
across-part o n k [] h = refl
across-part o n k (cs ∷ css) h =
    let e : get_or (part o n cs) k cells.null ≡ get_or cs (o + k) cells.null = get_or-take n (drop o cs) k cells.null h ∙ get_or-drop o cs k cells.null in
    ap (λ c. c ∷ across (map (part o n) css) k) e ∙ ap (λ r. get_or cs (o + k) cells.null ∷ r) (across-part o n k css h)

pub first_of-part : {A : Type 0} (o n : ℕ) (css : List (List A)) → first_of (map (part o n) css) ≡ part o n (first_of css)
first_of-part zero zero [] = refl
first_of-part zero (suc n) [] = refl
first_of-part (suc o) zero [] = refl
first_of-part (suc o) (suc n) [] = refl
first_of-part o n (cs ∷ css) = refl

sized-part : {A : Type 0} (s o n k : ℕ) (xs : List A) → k < n → part (s * k) s (part (s * o) (s * n) xs) ≡ part (s * (o + k)) s xs
sized-part s o n k xs h =
    let le : s * k + s ≤ s * n = omega (arith, mul-le-mul_left s h) in
    let e : s * o + s * k ≡ s * (o + k) = omega arith in
    sym (part-part xs (s * o) (s * n) (s * k) s le) ∙ ap (λ x. part x s xs) e

-- ── unions ──

pub number_at-part : (o n k : ℕ) (xs : List ℤ) → k < n → number_at (part o n xs) k ≡ number_at xs (o + k)
number_at-part o n k xs h = get_or-take n (drop o xs) k (pos 0) h ∙ get_or-drop o xs k (pos 0)

child-part : {A : Type 0} (o n i : ℕ) (xss : List (List A)) → get_or (map (part o n) xss) i [] ≡ part o n (get_or xss i [])
child-part zero zero i [] = refl
child-part zero (suc n) i [] = refl
child-part (suc o) zero i [] = refl
child-part (suc o) (suc n) i [] = refl
child-part o n zero (xs ∷ xss) = refl
child-part o n (suc i) (xs ∷ xss) = child-part o n i xss

tagged_cell-part : (o n k : ℕ) (ids types : List ℤ) (offsets : Option (List ℤ)) (css : List (List Cell)) → k < n
    → tagged_cell ids (part o n types) (option_map (part o n) offsets) (cut_cells (tagged_cut o n offsets) css) k ≡ tagged_cell ids types offsets css (o + k)
tagged_cell-part o n k ids types None css h =
    let t = number_at types (o + k) in
    let c = get_or css (or_0 (id_place ids t)) [] in
    ap (λ x. cells.tagged x (get_or (child_under ids (map (part o n) css) x) k cells.null)) (number_at-part o n k types h)
    ∙ ap (λ xs. cells.tagged t (get_or xs k cells.null)) (child-part o n (or_0 (id_place ids t)) css)
    ∙ ap (cells.tagged t) (get_or-take n (drop o c) k cells.null h ∙ get_or-drop o c k cells.null)
tagged_cell-part o n k ids types (Some os) css h =
    let t = number_at types (o + k) in
    ap (λ x. cells.tagged x (get_or (child_under ids css x) (place_at (part o n os) k) cells.null)) (number_at-part o n k types h)
    ∙ ap (λ i. cells.tagged t (get_or (child_under ids css t) i cells.null)) (place_at-part o n k os h)

-- a row of a part is a row of the whole
pub cell-part : (o n k : ℕ) (h : Head) (css : List (List Cell)) → k < n → head_cell (head_part o n h) (cut_cells (cut_of o n h) css) k ≡ head_cell h css (o + k)
cell-part o n k (listed l) css lt = ap (λ xs. cells.«list» (cells_of xs)) (row_items-part o n k l.offsets (first_of css) lt)
cell-part o n k (mapped l) css lt = ap (λ xs. cells.«list» (cells_of xs)) (row_items-part o n k l.offsets (first_of css) lt)
cell-part o n k (sized c) css lt =
    let s = list_size c.kind in
    ap (λ xs. cells.«list» (cells_of (part (s * k) s xs))) (first_of-part (s * o) (s * n) css) ∙ ap (λ xs. cells.«list» (cells_of xs)) (sized-part s o n k (first_of css) lt)
cell-part o n k (structured c) css lt = ap (λ xs. cells.struct (cells_of xs)) (across-part o n k css lt)
cell-part o n k (tagged t) css lt = tagged_cell-part o n k (ids_in t.kind) t.types t.offsets css lt
cell-part o n k (indexed d) css lt = ap (keyed (Some (joined css))) (number_at-part o n k d.keys lt)

-- so the cells of a part are a part of the cells
pub cells-part : (o n : ℕ) (h : Head) (css : List (List Cell)) → head_rows (head_part o n h) ≡ n → o + n ≤ head_rows h → head_cells (head_part o n h) (cut_cells (cut_of o n h) css) ≡ part o n (head_cells h css)
cells-part o n h css r le =
    let mine : ℕ → Cell = head_cell (head_part o n h) (cut_cells (cut_of o n h) css) in
    let theirs : ℕ → Cell = head_cell h css in
    let row : (k : ℕ) → k < n → mine (0 + k) ≡ theirs ((0 + o) + k) = λ k lt. ap mine (omega arith) ∙ cell-part o n k h css lt ∙ ap theirs (omega arith) in
    let all : from_on mine 0 n ≡ part o n (from_on theirs 0 (head_rows h)) = shift-from_on mine theirs 0 (0 + o) n row ∙ part-from_on theirs 0 (head_rows h) o n le in
    ap (λ v. masked v (from_on mine 0 (head_rows (head_part o n h)))) (validity-part o n h) ∙ ap (λ m. masked (option_map (part o n) (head_validity h)) (from_on mine 0 m)) r ∙ ap (masked (option_map (part o n) (head_validity h))) all ∙ sym (part-masked o n (head_validity h) (from_on theirs 0 (head_rows h)))

-- ── the children's rows ──

-- how many rows each child has left
abbrev pub cut_counts : Cut → List ℕ → List ℕ
cut_counts whole ns = ns
cut_counts (run o n) [] = []
cut_counts (run o n) (m ∷ ns) = n ∷ cut_counts (run o n) ns

reach : (o n rows : ℕ) (ns : List ℕ) → are_all rows ns ≡ true → o + n ≤ rows → Reaches (run o n) ns
reach o n rows [] e le = tt
reach o n rows (m ∷ ns) e le =
    let p = and_parts (nat_eq m rows) (are_all rows ns) e in
    let q : m ≡ rows = eqb-true m rows p.0 in
    (omega arith, reach o n rows ns p.1 le)

tagged_reaches : (o n rows : ℕ) (offsets : Option (List ℤ)) (ns : List ℕ) → tagged_rows offsets rows ns ≡ true → o + n ≤ rows → Reaches (tagged_cut o n offsets) ns
tagged_reaches o n rows None ns e le = reach o n rows ns e le
tagged_reaches o n rows (Some os) ns e le = tt

pub head_reaches : (o n : ℕ) (h : Head) (ns : List ℕ) → fits_rows h ns ≡ true → o + n ≤ head_rows h → Reaches (cut_of o n h) ns
head_reaches o n (listed l) ns e le = tt
head_reaches o n (mapped l) ns e le = tt
head_reaches o n (sized c) ns e le =
    let s = list_size c.kind in
    let b : s * o + s * n ≤ s * c.rows = omega (arith, mul-le-mul_left s le) in
    reach (s * o) (s * n) (s * c.rows) ns e b
head_reaches o n (structured c) ns e le = reach o n c.rows ns e le
head_reaches o n (tagged t) ns e le = tagged_reaches o n (length t.types) t.offsets ns e le
head_reaches o n (indexed d) ns e le = tt

have_cut : (o n : ℕ) (ns : List ℕ) → are_all n (cut_counts (run o n) ns) ≡ true
have_cut o n [] = refl
have_cut o n (m ∷ ns) = and_from (nat_eq n n) (are_all n (cut_counts (run o n) ns)) (eq-eqb n n refl) (have_cut o n ns)

tagged_rows-part : (o n rows : ℕ) (offsets : Option (List ℤ)) (ns : List ℕ) → tagged_rows offsets rows ns ≡ true → o + n ≤ rows
    → tagged_rows (option_map (part o n) offsets) n (cut_counts (tagged_cut o n offsets) ns) ≡ true
tagged_rows-part o n rows None ns e le = have_cut o n ns
tagged_rows-part o n rows (Some os) ns e le =
    let q : length os ≡ rows = eqb-true (length os) rows e in
    eq-eqb (length (part o n os)) n (length-part os o n (omega arith))

fits_rows-part : (o n : ℕ) (h : Head) (ns : List ℕ) → fits_rows h ns ≡ true → o + n ≤ head_rows h → fits_rows (head_part o n h) (cut_counts (cut_of o n h) ns) ≡ true
fits_rows-part o n (listed l) ns e le = e
fits_rows-part o n (mapped l) ns e le = e
fits_rows-part o n (sized c) ns e le = have_cut (list_size c.kind * o) (list_size c.kind * n) ns
fits_rows-part o n (structured c) ns e le = have_cut o n ns
fits_rows-part o n (tagged t) ns e le =
    ap (λ rows. tagged_rows (option_map (part o n) t.offsets) rows (cut_counts (tagged_cut o n t.offsets) ns)) (length-part t.types o n le) ∙ tagged_rows-part o n (length t.types) t.offsets ns e le
fits_rows-part o n (indexed d) ns e le = refl

some_more : (o n limit : ℕ) (os : List ℤ) → are_offsets os limit ≡ true → o + n ≤ variable_rows os → o + n < length os
some_more o n limit os e h = let one = some_offset os limit e in omega arith

pub not_true : (b : Bool) → not b ≡ true → b ≡ false
not_true true e = cc
not_true false e = refl

-- no row of a part is bad where none of the whole is
none-part : (o n rows : ℕ) (mine theirs : ℕ → Bool) → o + n ≤ rows → ((k : ℕ) → k < n → mine k ≡ theirs (o + k)) → not (some_row theirs rows) ≡ true → not (some_row mine n) ≡ true
none-part o n rows mine theirs le same e =
    let none = none_below theirs rows (not_true (some_row theirs rows) e) in
    ap not (none_from mine n (λ k lt. same k lt ∙ none (o + k) (omega arith)))

fits_places-part : (o n : ℕ) (ids types : List ℤ) (offsets : Option (List ℤ)) (ns : List ℕ) → fits_places ids types offsets ns ≡ true → o + n ≤ length types
    → fits_places ids (part o n types) (option_map (part o n) offsets) (cut_counts (tagged_cut o n offsets) ns) ≡ true
fits_places-part o n ids types None ns e le = refl
fits_places-part o n ids types (Some os) ns e le =
    let mine : ℕ → Bool = λ row. is_bad_place ns (id_place ids (number_at (part o n types) row)) (number_at (part o n os) row) in
    let theirs : ℕ → Bool = λ row. is_bad_place ns (id_place ids (number_at types row)) (number_at os row) in
    let same : (k : ℕ) → k < n → mine k ≡ theirs (o + k) = λ k lt.
    ap (λ t. is_bad_place ns (id_place ids t) (number_at (part o n os) k)) (number_at-part o n k types lt) ∙ ap (is_bad_place ns (id_place ids (number_at types (o + k)))) (number_at-part o n k os lt) in
    ap (λ m. not (some_row mine m)) (length-part types o n le) ∙ none-part o n (length types) mine theirs le same e

have_ids-part : (o n : ℕ) (ids types : List ℤ) → have_ids ids types ≡ true → o + n ≤ length types → have_ids ids (part o n types) ≡ true
have_ids-part o n ids types e le =
    let mine : ℕ → Bool = λ row. is_no_id (id_place ids (number_at (part o n types) row)) in
    let theirs : ℕ → Bool = λ row. is_no_id (id_place ids (number_at types row)) in
    let same : (k : ℕ) → k < n → mine k ≡ theirs (o + k) = λ k lt. ap (λ t. is_no_id (id_place ids t)) (number_at-part o n k types lt) in
    ap (λ m. not (some_row mine m)) (length-part types o n le) ∙ none-part o n (length types) mine theirs le same e

fits_types-part : (o n : ℕ) (h : Head) → fits_types h ≡ true → o + n ≤ head_rows h → fits_types (head_part o n h) ≡ true
fits_types-part o n (tagged t) e le = have_ids-part o n (ids_in t.kind) t.types e le
fits_types-part o n h e le = refl

have_keys-part : (o n held : ℕ) (keys : List ℤ) (v : Option (List Bool)) → have_keys held keys v ≡ true → o + n ≤ length keys → have_keys held (part o n keys) (option_map (part o n) v) ≡ true
have_keys-part o n held keys v e le =
    let mine : ℕ → Bool = λ row. is_valid (option_map (part o n) v) row && is_bad_key held (number_at (part o n keys) row) in
    let theirs : ℕ → Bool = λ row. is_valid v row && is_bad_key held (number_at keys row) in
    let same : (k : ℕ) → k < n → mine k ≡ theirs (o + k) = λ k lt.
    ap (λ b. b && is_bad_key held (number_at (part o n keys) k)) (is_valid-part o n k v lt) ∙ ap (λ z. is_valid v (o + k) && is_bad_key held z) (number_at-part o n k keys lt) in
    ap (λ m. not (some_row mine m)) (length-part keys o n le) ∙ none-part o n (length keys) mine theirs le same e

fits_keys-part : (o n : ℕ) (h : Head) (ns : List ℕ) → fits_keys h ns ≡ true → o + n ≤ head_rows h → fits_keys (head_part o n h) (cut_counts (cut_of o n h) ns) ≡ true
fits_keys-part o n (indexed d) ns e le = have_keys-part o n (sum ns) d.keys d.validity e le
fits_keys-part o n h ns e le = refl

fits_offsets-part : (o n : ℕ) (h : Head) (ns : List ℕ) → fits_offsets h ns ≡ true → o + n ≤ head_rows h → fits_offsets (head_part o n h) (cut_counts (cut_of o n h) ns) ≡ true
fits_offsets-part o n (listed l) ns e le = are_offsets-part o n (first_or_0 ns) l.offsets e (some_more o n (first_or_0 ns) l.offsets e le)
fits_offsets-part o n (mapped l) ns e le = are_offsets-part o n (first_or_0 ns) l.offsets e (some_more o n (first_or_0 ns) l.offsets e le)
fits_offsets-part o n (sized c) ns e le = refl
fits_offsets-part o n (structured c) ns e le = refl
fits_offsets-part o n (tagged t) ns e le = fits_places-part o n (ids_in t.kind) t.types t.offsets ns e le
fits_offsets-part o n (indexed d) ns e le = refl

-- a part of a top that is not refused is not refused
pub fault-part : (o n : ℕ) (h : Head) (ks : List Kind) (ns : List ℕ) → Sound h ks ns → o + n ≤ head_rows h → head_fault (head_part o n h) ks (cut_counts (cut_of o n h) ns) ≡ None
fault-part o n h ks ns s le = sound_head (head_part o n h) ks (cut_counts (cut_of o n h) ns) (record {
  suits = rw (suits-part o n h, under-part o n h ks) s.suits;
  valid = rw (validity-part o n h, rows-part o n h ns s.offsets le) (has_rows-part o n (head_rows h) (head_validity h) s.valid le);
  rows = fits_rows-part o n h ns s.rows le;
  offsets = fits_offsets-part o n h ns s.offsets le;
  types = fits_types-part o n h s.types le;
  keys = fits_keys-part o n h ns s.keys le;
})
