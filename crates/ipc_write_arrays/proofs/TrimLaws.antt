-- Rows that are laid anew hold what they held.
use Rattle.std.proofs.Common.{◌≡◌, ℕ, zero, suc, ◌+◌, ◌-◌, ◌≤◌, ◌<◌, List, [], ◌∷◌, true, false, None, ℤ, map, length, get_or, refl, sym, ap, ◌∙◌, arith}
use Rattle.std.specs.Prelude.{pos}
use Rattle.std.specs.Option.{option_map}
use Rattle.std.specs.List.{flat_map, AllByRecursion}
use Rattle.arrow_spec.specs.Flat.{Order}
use Rattle.arrow_spec.specs.Kinds.{Offsets}
use Rattle.arrow_spec.specs.Arrays.{offset_width}
use Rattle.arrow_types.specs.Numbers.{to_bytes}
use Rattle.ipc_bodies.specs.Pieces.{offset_bytes}
use Rattle.std.proofs.lemmas.Bool.{eqb-true}
use Rattle.std.proofs.lemmas.List.{length-map, get_or_default, take_all}
use Rattle.arrow_spec.specs.Cells as cells
use Rattle.arrow_spec.specs.Cells.{Cell, cells_of}
use Rattle.arrow_spec.specs.Counts.{magnitude}
use Rattle.arrow_spec.specs.Arrays.{from_on}
use Rattle.arrow_buffers.specs.Rows.{part, masked}
use Rattle.arrow_buffers.specs.Variable.{place_at, are_offsets, variable_rows}
use Rattle.arrow_buffers.proofs.Parts.{length-part, part-part, part-from_on, shift-from_on}
use Rattle.arrow_buffers.proofs.Masks.{part-masked}
use Rattle.arrow_buffers.proofs.Rising.{some_offset, offset_risen, offset_between}
use Rattle.arrow_arrays.specs.Heads.{Head, listed, mapped, sized, structured, tagged, indexed, Cut, whole, run, head_kind, head_rows, head_validity, head_cell, head_cells, cut_cells, fits_rows, fits_offsets, first_of, first_or_0, row_items, Reaches}
use Rattle.arrow_arrays.specs.Parts.{Parts, Forest, leaf, nested, none, also, kind_in, rows_in, kinds_each, rows_each, part_of, fault_in}
use Rattle.ipc_write_arrays.specs.Trims.{has_no_children, counted_from, head_trim, held_by, trim, trim_each, sent}
use Rattle.arrow_arrays.proofs.LeafSliced as leaves
use Rattle.arrow_arrays.proofs.HeadSliced as heads
use Rattle.arrow_arrays.proofs.HeadSliced.{first_of-part}
use Rattle.arrow_arrays.proofs.Sliced.{top_sound}

get_or-map : {A B : Type 0} (f : A → B) (xs : List A) (i : ℕ) (d : A) → f (get_or xs i d) ≡ get_or (map f xs) i (f d)
get_or-map f [] i d = refl
get_or-map f (x ∷ xs) zero d = refl
get_or-map f (x ∷ xs) (suc i) d = get_or-map f xs i d

-- a place of rebased offsets
pub place_from : (first : ℕ) (os : List ℤ) (i : ℕ) → i < length os → place_at (counted_from first os) i ≡ place_at os i - first
place_from first os i h =
    let f : ℤ → ℤ = λ x. pos (magnitude x - first) in
    ap magnitude (get_or_default (map f os) i (pos 0) (f (pos 0)) (omega (arith, length-map os f)) ∙ sym (get_or-map f os i (pos 0)))

-- the items of a row, where only what some rows hold is left of them
items_from : {A : Type 0} (o n k limit : ℕ) (os : List ℤ) (xs : List A) → are_offsets os limit ≡ true → o + n ≤ variable_rows os → k < n
    → row_items (counted_from (place_at os o) (part o (n + 1) os)) (part (place_at os o) (place_at os (o + n) - place_at os o) xs) k ≡ row_items os xs (o + k)
items_from o n k limit os xs good le lt =
    let some = some_offset os limit good in
    let f = place_at os o in
    let l = length-part os o (n + 1) (omega arith) in
    let a : place_at (counted_from f (part o (n + 1) os)) k ≡ place_at os (o + k) - f = place_from f (part o (n + 1) os) k (omega (arith, l)) ∙ ap (λ m. m - f) (heads.place_at-part o (n + 1) k os (omega arith)) in
    let b : place_at (counted_from f (part o (n + 1) os)) (suc k) ≡ place_at os (suc (o + k)) - f = place_from f (part o (n + 1) os) (suc k) (omega (arith, l)) ∙ ap (λ m. m - f) (heads.place_at-part o (n + 1) (suc k) os (omega arith) ∙ ap (place_at os) (omega arith)) in
    let low : f ≤ place_at os (o + k) = offset_between os limit o good (o + k) (omega arith) (omega arith) in
    let mid : place_at os (o + k) ≤ place_at os (suc (o + k)) = offset_between os limit (o + k) good (suc (o + k)) (omega arith) (omega arith) in
    let high : place_at os (suc (o + k)) ≤ place_at os (o + n) = offset_between os limit (suc (o + k)) good (o + n) (omega arith) (omega arith) in
    let s : f + (place_at os (o + k) - f) ≡ place_at os (o + k) = omega (arith, low) in
    let w : (place_at os (suc (o + k)) - f) - (place_at os (o + k) - f) ≡ place_at os (suc (o + k)) - place_at os (o + k) = omega (arith, low, mid) in
    let room : (place_at os (o + k) - f) + (place_at os (suc (o + k)) - place_at os (o + k)) ≤ place_at os (o + n) - f = omega (arith, low, mid, high) in
    rw (a, b, w) (sym (part-part xs f (place_at os (o + n) - f) (place_at os (o + k) - f) (place_at os (suc (o + k)) - place_at os (o + k)) room) ∙ ap (λ m. part m (place_at os (suc (o + k)) - place_at os (o + k)) xs) s)

cell-trim : (o n k : ℕ) (h : Head) (ns : List ℕ) (css : List (List Cell)) → fits_offsets h ns ≡ true → o + n ≤ head_rows h → k < n → head_cell (head_trim o n h) (cut_cells (held_by o n h) css) k ≡ head_cell h css (o + k)
cell-trim o n k (listed l) ns css e le lt =
    let f = place_at l.offsets o in
    let m = place_at l.offsets (o + n) - f in
    ap (λ xs. cells.«list» (cells_of (row_items (counted_from f (part o (n + 1) l.offsets)) xs k))) (first_of-part f m css) ∙ ap (λ xs. cells.«list» (cells_of xs)) (items_from o n k (first_or_0 ns) l.offsets (first_of css) e le lt)
cell-trim o n k (mapped l) ns css e le lt =
    let f = place_at l.offsets o in
    let m = place_at l.offsets (o + n) - f in
    ap (λ xs. cells.«list» (cells_of (row_items (counted_from f (part o (n + 1) l.offsets)) xs k))) (first_of-part f m css) ∙ ap (λ xs. cells.«list» (cells_of xs)) (items_from o n k (first_or_0 ns) l.offsets (first_of css) e le lt)
cell-trim o n k (sized c) ns css e le lt = heads.cell-part o n k (sized c) css lt
cell-trim o n k (structured c) ns css e le lt = heads.cell-part o n k (structured c) css lt
cell-trim o n k (tagged t) ns css e le lt = heads.cell-part o n k (tagged t) css lt
cell-trim o n k (indexed d) ns css e le lt = heads.cell-part o n k (indexed d) css lt

pub validity-trim : (o n : ℕ) (h : Head) → head_validity (head_trim o n h) ≡ option_map (part o n) (head_validity h)
validity-trim o n (listed l) = refl
validity-trim o n h = refl

list_rows : (o n limit : ℕ) (os : List ℤ) → are_offsets os limit ≡ true → o + n ≤ variable_rows os → variable_rows (counted_from (place_at os o) (part o (n + 1) os)) ≡ n
list_rows o n limit os e le = omega (arith, length-map (part o (n + 1) os) (λ x. pos (magnitude x - place_at os o)), heads.offsets-part o n limit os e le)

pub rows-trim : (o n : ℕ) (h : Head) (ns : List ℕ) → fits_offsets h ns ≡ true → o + n ≤ head_rows h → head_rows (head_trim o n h) ≡ n
rows-trim o n (listed l) ns e le = list_rows o n (first_or_0 ns) l.offsets e le
rows-trim o n (mapped l) ns e le = list_rows o n (first_or_0 ns) l.offsets e le
rows-trim o n (sized c) ns e le = refl
rows-trim o n (structured c) ns e le = refl
rows-trim o n (tagged t) ns e le = length-part t.types o n le
rows-trim o n (indexed d) ns e le = length-part d.keys o n le

pub head_cells-trim : (o n : ℕ) (h : Head) (ns : List ℕ) (css : List (List Cell)) → fits_offsets h ns ≡ true → o + n ≤ head_rows h → head_cells (head_trim o n h) (cut_cells (held_by o n h) css) ≡ part o n (head_cells h css)
head_cells-trim o n h ns css e le =
    let mine : ℕ → Cell = head_cell (head_trim o n h) (cut_cells (held_by o n h) css) in
    let theirs : ℕ → Cell = head_cell h css in
    let row : (k : ℕ) → k < n → mine (0 + k) ≡ theirs ((0 + o) + k) = λ k lt. ap mine (omega arith) ∙ cell-trim o n k h ns css e le lt ∙ ap theirs (omega arith) in
    let all : from_on mine 0 n ≡ part o n (from_on theirs 0 (head_rows h)) = shift-from_on mine theirs 0 (0 + o) n row ∙ part-from_on theirs 0 (head_rows h) o n le in
    ap (λ v. masked v (from_on mine 0 (head_rows (head_trim o n h)))) (validity-trim o n h) ∙ ap (λ m. masked (option_map (part o n) (head_validity h)) (from_on mine 0 m)) (rows-trim o n h ns e le) ∙ ap (masked (option_map (part o n) (head_validity h))) all ∙ sym (part-masked o n (head_validity h) (from_on theirs 0 (head_rows h)))

-- what rows hold is there
list_reaches : (o n : ℕ) (ns : List ℕ) (os : List ℤ) → are_offsets os (first_or_0 ns) ≡ true → o + n ≤ variable_rows os → length ns ≡ 1 → Reaches (run (place_at os o) (place_at os (o + n) - place_at os o)) ns
list_reaches o n [] os e le l = tt
list_reaches o n (m ∷ []) os e le l =
    let some = some_offset os m e in
    let low : place_at os o ≤ place_at os (o + n) = offset_between os m o e (o + n) (omega arith) (omega arith) in
    (omega (arith, low, (offset_risen os m (o + n) e (omega arith)).within), tt)
list_reaches o n (m ∷ k ∷ ns) os e le l = absurd (omega arith)

pub head_holds : (o n : ℕ) (h : Head) (ns : List ℕ) → fits_rows h ns ≡ true → fits_offsets h ns ≡ true → o + n ≤ head_rows h → Reaches (held_by o n h) ns
head_holds o n (listed l) ns r e le = list_reaches o n ns l.offsets e le (eqb-true (length ns) 1 r)
head_holds o n (mapped l) ns r e le = list_reaches o n ns l.offsets e le (eqb-true (length ns) 1 r)
head_holds o n (sized c) ns r e le = heads.head_reaches o n (sized c) ns r le
head_holds o n (structured c) ns r e le = heads.head_reaches o n (structured c) ns r le
head_holds o n (tagged t) ns r e le = heads.head_reaches o n (tagged t) ns r le
head_holds o n (indexed d) ns r e le = tt

-- all of a list is the list
pub all_of : {A : Type 0} (n : ℕ) (xs : List A) → length xs ≡ n → part 0 n xs ≡ xs
all_of n xs e = take_all n xs (omega arith)

-- ── kinds and rows ──

head_kind-trim : (o n : ℕ) (h : Head) → head_kind (head_trim o n h) ≡ head_kind h
head_kind-trim o n (listed l) = refl
head_kind-trim o n h = refl

pub kind-trim : (o n : ℕ) (p : Parts) → kind_in (trim o n p) ≡ kind_in p
kind-trim o n (leaf l) = leaves.kind-part o n l
kind-trim o n (nested h cs) = head_kind-trim o n h

pub kinds-trim : (c : Cut) (cs : Forest) → kinds_each (trim_each c cs) ≡ kinds_each cs
kinds-trim whole none = refl
kinds-trim whole (also p cs) = ap (λ k. k ∷ kinds_each (trim_each whole cs)) (kind-trim 0 (rows_in p) p) ∙ ap (λ ks. kind_in p ∷ ks) (kinds-trim whole cs)
kinds-trim (run o n) none = refl
kinds-trim (run o n) (also p cs) = ap (λ k. k ∷ kinds_each (trim_each (run o n) cs)) (kind-trim o n p) ∙ ap (λ ks. kind_in p ∷ ks) (kinds-trim (run o n) cs)

pub all_rows-trim : (o n : ℕ) (p : Parts) → fault_in p ≡ None → o + n ≤ rows_in p → rows_in (trim o n p) ≡ n
all_rows-trim o n (leaf l) e le = leaves.rows-part o n l e le
all_rows-trim o n (nested h cs) e le = rows-trim o n h (rows_each cs) (top_sound h cs e).0.offsets le

-- rows of an array without children are not laid anew
pub leaf-trim : (o n : ℕ) (p : Parts) → has_no_children p ≡ true → trim o n p ≡ part_of o n p
leaf-trim o n (leaf l) e = refl
leaf-trim o n (nested h cs) e = cc

-- ── offsets that are laid anew ──

all_counted : (f g : ℕ) (xs : List ℤ) → g ≡ 0 → map (λ x. magnitude x - g) (counted_from f xs) ≡ map (λ x. magnitude x - f) xs
all_counted f g [] e = refl
all_counted f g (x ∷ xs) e = let h : (magnitude x - f) - g ≡ magnitude x - f = omega arith in ap (λ n. n ∷ map (λ y. magnitude y - g) (counted_from f xs)) h ∙ ap (λ l. (magnitude x - f) ∷ l) (all_counted f g xs e)

-- they are written as those that they were counted from
pub bytes-trim : (order : Order) (w : Offsets) (o n : ℕ) (os : List ℤ) → o + n < length os → offset_bytes order w (counted_from (place_at os o) (part o (n + 1) os)) ≡ offset_bytes order w (part o (n + 1) os)
bytes-trim order w o n os lt =
    let f = place_at os o in
    let xs = part o (n + 1) os in
    let l : length xs ≡ n + 1 = length-part os o (n + 1) (omega arith) in
    let at : place_at xs 0 ≡ f = heads.place_at-part o (n + 1) 0 os (omega arith) ∙ ap (place_at os) (omega arith) in
    let z : place_at (counted_from f xs) 0 ≡ 0 = place_from f xs 0 (omega (arith, l)) ∙ (let e : place_at xs 0 - f ≡ 0 = omega (arith, at) in e) in
    ap (flat_map (λ k. to_bytes order (offset_width w) k)) (all_counted f (place_at (counted_from f xs) 0) xs z ∙ ap (λ k. map (λ x. magnitude x - k) xs) (sym at))

pub below-trim : (limit f : ℕ) (xs : List ℤ) → AllByRecursion (λ x. magnitude x < limit) xs → AllByRecursion (λ x. magnitude x < limit) (counted_from f xs)
below-trim limit f [] h = tt
below-trim limit f (x ∷ xs) h = (omega (arith, h.0), below-trim limit f xs h.1)

-- an array with children is sent as all its rows laid anew
pub sent-trim : (p : Parts) → has_no_children p ≡ false → trim 0 (rows_in p) p ≡ sent p
sent-trim (leaf l) e = cc
sent-trim (nested h cs) e = refl
