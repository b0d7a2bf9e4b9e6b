-- Parts of lists of cells that agree at each place.
use Rattle.std.proofs.Common.{◌≡◌, ℕ, zero, suc, ◌+◌, ◌≤◌, ◌<◌, ◌++◌, List, [], ◌∷◌, Some, length, get_or, drop, slice_get, refl, sym, ap, ◌∙◌, arith}
use Rattle.std.proofs.lemmas.List.{get_or-take, get_or-drop}
use Rattle.arrow_spec.specs.Cells as cells
use Rattle.arrow_spec.specs.Cells.{Cell, cells_of, null}
use Rattle.arrow_buffers.specs.Rows.{part}
use Rattle.arrow_buffers.proofs.Counts.{get_there}
use Rattle.arrow_buffers.proofs.Parts.{length-part}
use Rattle.arrow_arrays.specs.Heads.{across, run, Reaches}
use Rattle.arrow_arrays.specs.Parts.{rows_in, rows_each, cells_in, cells_each}
use Rattle.arrow_arrays.specs.PartsOf.{parts_of, forest_of}
use Rattle.arrow_arrays.specs.CellCode.{list_of, list_of-cells_of}
use Rattle.arrow_arrays.specs.declared.array.Array.{Array}
use Rattle.arrow_arrays.proofs.CellRows.{same_lists}

pub get_part : (xs : List Cell) (o n k : ℕ) → o + n ≤ length xs → k < n → slice_get xs (o + k) ≡ Some (get_or (part o n xs) k null)
get_part xs o n k h lt = get_there xs (o + k) null (omega arith) ∙ ap Some (sym (get_or-take n (drop o xs) k null lt ∙ get_or-drop o xs k null))

-- parts that agree at each place are equal
pub part_same : (xs ys : List Cell) (o p n : ℕ) → o + n ≤ length xs → p + n ≤ length ys → ((k : ℕ) → k < n → slice_get xs (o + k) ≡ slice_get ys (p + k)) → part o n xs ≡ part p n ys
part_same xs ys o p n a b h =
    let l = length-part xs o n a in
    let m = length-part ys p n b in
    same_lists (part o n xs) (part p n ys) (l ∙ sym m) (λ i lt.
    let small : i < n = omega (arith, l) in
    let there : i < length (part p n ys) = omega (arith, m) in
    get_there (part o n xs) i null lt ∙ sym (get_part xs o n i a small) ∙ h i small ∙ get_part ys p n i b small ∙ sym (get_there (part p n ys) i null there))

-- and equal parts agree at each place
pub same_at : (xs ys : List Cell) (o p n k : ℕ) → o + n ≤ length xs → p + n ≤ length ys → part o n xs ≡ part p n ys → k < n → slice_get xs (o + k) ≡ slice_get ys (p + k)
same_at xs ys o p n k a b e lt = get_part xs o n k a lt ∙ ap (λ zs. Some (get_or zs k null)) e ∙ sym (get_part ys p n k b lt)

-- ── cells of rows ──

pub told_at : {A : Type 0} (xs : List A) (i : ℕ) (d c : A) → slice_get xs i ≡ Some c → get_or xs i d ≡ c
told_at [] i d c e = cc
told_at (x ∷ xs) zero d c e = cc
told_at (x ∷ xs) (suc i) d c e = told_at xs i d c e

pub list_same : (xs ys : List Cell) → cells.«list» (cells_of xs) ≡ cells.«list» (cells_of ys) → xs ≡ ys
list_same xs ys e = let f : cells_of xs ≡ cells_of ys = cc in sym (list_of-cells_of xs) ∙ ap list_of f ∙ list_of-cells_of ys

pub struct_same : (xs ys : List Cell) → cells.struct (cells_of xs) ≡ cells.struct (cells_of ys) → xs ≡ ys
struct_same xs ys e = let f : cells_of xs ≡ cells_of ys = cc in sym (list_of-cells_of xs) ∙ ap list_of f ∙ list_of-cells_of ys

-- ── a row across several arrays ──

pub length-across : (xs : List Array) (row : ℕ) → length (across (cells_each (forest_of xs)) row) ≡ length xs
length-across [] row = refl
length-across (x ∷ xs) row = ap suc (length-across xs row)

pub across_at : (xs : List Array) (row i : ℕ) (d : Array) → i < length xs → get_or (across (cells_each (forest_of xs)) row) i null ≡ get_or (cells_in (parts_of (get_or xs i d))) row null
across_at [] row i d h = absurd (omega arith)
across_at (x ∷ xs) row zero d h = refl
across_at (x ∷ xs) row (suc i) d h = across_at xs row i d (omega arith)

pub across_more : (xs : List Array) (x : Array) (row : ℕ) → across (cells_each (forest_of (xs ++ x ∷ []))) row ≡ across (cells_each (forest_of xs)) row ++ get_or (cells_in (parts_of x)) row null ∷ []
across_more [] x row = refl
across_more (y ∷ xs) x row = ap (λ r. get_or (cells_in (parts_of y)) row null ∷ r) (across_more xs x row)

-- each of them has the rows that are told of
pub reach_at : (o n : ℕ) (xs : List Array) (i : ℕ) (d : Array) → Reaches (run o n) (rows_each (forest_of xs)) → i < length xs → o + n ≤ rows_in (parts_of (get_or xs i d))
reach_at o n [] i d r h = absurd (omega arith)
reach_at o n (x ∷ xs) zero d r h = r.0
reach_at o n (x ∷ xs) (suc i) d r h = reach_at o n xs i d r.1 (omega arith)
