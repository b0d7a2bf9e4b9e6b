-- Keys into the rows of several arrays, one after another.
use Rattle.std.proofs.Common.{◌≡◌, ℕ, zero, suc, ◌+◌, ◌<◌, ◌++◌, ◌&&◌, List, [], ◌∷◌, Bool, true, false, Some, None, ℤ, length, take, get_or, slice_get, refl, sym, ap, ◌∙◌, arith}
use Rattle.std.specs.List.{list_all, sum}
use Rattle.std.specs.Prelude.{nat_le}
use Rattle.std.proofs.lemmas.Bool.{leb-false, or_parts}
use Rattle.std.proofs.lemmas.List.{get_or_append_left, get_or-append-add}
use Rattle.std.proofs.lemmas.List.Sums.{sum_by-cons, sum_by_more}
use Rattle.arrow_spec.specs.Kinds.{Kind, is_same_kind}
use Rattle.arrow_spec.specs.Cells.{Cell, null}
use Rattle.arrow_spec.specs.Counts.{magnitude, is_negative}
use Rattle.arrow_spec.specs.Arrays.{keyed, cell_or_null}
use Rattle.arrow_spec.specs.Faults.{some_row}
use Rattle.arrow_buffers.specs.Rows.{is_valid}
use Rattle.arrow_buffers.proofs.Rows.{none_below}
use Rattle.arrow_arrays.specs.declared.array.Array.{Array}
use Rattle.arrow_arrays.specs.Heads.{Indexed, indexed, joined, each_of, is_bad_key, number_at}
use Rattle.arrow_arrays.specs.Parts.{Forest, nested, rows_in, cells_in, kinds_each, rows_each, cells_each, fault_in, fault_each}
use Rattle.arrow_arrays.specs.PartsOf.{parts_of, forest_of}
use Rattle.arrow_arrays.proofs.HeadSliced.{not_true}
use Rattle.arrow_arrays.proofs.Sliced.{neither, top_sound, length-cells}
use Rattle.arrow_arrays.proofs.UnionPlaces.{length-rows_each, rows_under_at}

-- some arrays that are each of a kind
pub each_of_some : (k : Kind) (xs : List Array) → 0 < length xs → each_of k (kinds_each (forest_of xs)) ≡ list_all (is_same_kind k) (kinds_each (forest_of xs))
each_of_some k [] h = absurd (omega arith)
each_of_some k (x ∷ xs) h = refl

-- how many rows one more array has
pub one_more_counted : (xs : List Array) (i : ℕ) (x : Array) → i < length xs → x ≡ get_or xs i x → sum (take (i + 1) (rows_each (forest_of xs))) ≡ sum (take i (rows_each (forest_of xs))) + rows_in (parts_of x)
one_more_counted xs i x h e =
    let ns = rows_each (forest_of xs) in
    let below : i < length ns = omega (arith, length-rows_each xs) in
    let r : get_or ns i 0 ≡ rows_in (parts_of x) = sym (rows_under_at xs i x h) ∙ ap (λ y. rows_in (parts_of y)) (sym e) in
    sum_by_more (λ n. n) ns i 0 below ∙ ap (λ n. sum (take i ns) + n) r

-- the key of a row that is not null is one of all rows
good_key : (held : ℕ) (b : Bool) (key : ℤ) → b ≡ true → (b && is_bad_key held key) ≡ false → magnitude key < held
good_key held true key e f = leb-false held (magnitude key) (or_parts (is_negative key) (nat_le held (magnitude key)) f).1
good_key held false key e f = cc

pub key_there : (d : Indexed) (cs : Forest) (row : ℕ) → fault_in (nested (indexed d) cs) ≡ None → row < length d.keys → is_valid d.validity row ≡ true → magnitude (number_at d.keys row) < sum (rows_each cs)
key_there d cs row e h v =
    let held = sum (rows_each cs) in
    let bad : ℕ → Bool = λ row. is_valid d.validity row && is_bad_key held (number_at d.keys row) in
    let fine : bad row ≡ false = none_below bad (length d.keys) (not_true (some_row bad (length d.keys)) (top_sound (indexed d) cs e).0.keys) row h in
    good_key held (is_valid d.validity row) (number_at d.keys row) v fine

-- what stands at a key
keyed_at : (cs : List Cell) (i : ℕ) → cell_or_null (slice_get cs i) ≡ get_or cs i null
keyed_at [] i = refl
keyed_at (c ∷ cs) zero = refl
keyed_at (c ∷ cs) (suc i) = keyed_at cs i

pub keyed_is : (cs : List Cell) (key : ℤ) (i : ℕ) → i ≡ magnitude key → keyed (Some cs) key ≡ get_or cs i null
keyed_is cs key i e = keyed_at cs (magnitude key) ∙ ap (λ k. get_or cs k null) (sym e)

-- a row of an array is one of all rows
pub joined_at : (xs : List Array) (i j : ℕ) (d : Array) → fault_each (forest_of xs) ≡ None → i < length xs → j < rows_in (parts_of (get_or xs i d))
    → get_or (joined (cells_each (forest_of xs))) (sum (take i (rows_each (forest_of xs))) + j) null ≡ get_or (cells_in (parts_of (get_or xs i d))) j null
joined_at [] i j d f h lt = absurd (omega arith)
joined_at (x ∷ xs) zero j d f h lt =
    let l = length-cells (parts_of x) (neither (fault_in (parts_of x)) (fault_each (forest_of xs)) f).0 in
    let e : 0 + j ≡ j = omega arith in
    let rest = joined (cells_each (forest_of xs)) in
    ap (λ k. get_or (cells_in (parts_of x) ++ rest) k null) e ∙ get_or_append_left (cells_in (parts_of x)) rest null j (omega arith)
joined_at (x ∷ xs) (suc i) j d f h lt =
    let p = neither (fault_in (parts_of x)) (fault_each (forest_of xs)) f in
    let l = length-cells (parts_of x) p.0 in
    let front = take i (rows_each (forest_of xs)) in
    let e : sum (rows_in (parts_of x) ∷ front) + j ≡ length (cells_in (parts_of x)) + (sum front + j) = omega (arith, sum_by-cons (λ n. n) (rows_in (parts_of x)) front) in
    let rest = joined (cells_each (forest_of xs)) in
    ap (λ k. get_or (cells_in (parts_of x) ++ rest) k null) e ∙ get_or-append-add (cells_in (parts_of x)) rest (sum front + j) null ∙ joined_at xs i j d p.1 (omega arith) lt
