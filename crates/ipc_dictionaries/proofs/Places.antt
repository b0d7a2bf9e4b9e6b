-- The rows of several arrays, one after another, from a place on.
use Rattle.std.proofs.Common.{◌≡◌, ℕ, ◌+◌, ◌≤◌, ◌<◌, ◌++◌, ◌↔◌, List, [], ◌∷◌, Bool, IsTrue, length, take, drop, get_or, refl, sym, ap, ◌∙◌, append-nil, append_assoc, arith}
use Rattle.std.proofs.lemmas.List.{at_drop_more, at_drop_all, take_more, drop_at, drop_all, take-append-drop}
use Rattle.arrow_spec.specs.Cells.{Cell}
use Rattle.arrow_spec.specs.Kinds.{null}
use Rattle.same_rows.specs.Below.{part}
use Rattle.arrow_arrays.specs.CellCode.{content_eq_told}
use Rattle.arrow_arrays.specs.Parts.{cells_in}
use Rattle.arrow_arrays.specs.PartsOf.{parts_of}
use Rattle.arrow_arrays.specs.declared.array.Array.{Array}
use Rattle.ipc_dictionaries.specs.Standing.{all_cells, are_same_cells}
use Rattle.ipc_dictionaries.proofs.Runs.{run_first}

-- an array and those behind it
pub all_at : (xs : List Array) (i : ℕ) (x : Array) → i < length xs → x ≡ get_or xs i x → all_cells (drop i xs) ≡ cells_in (parts_of x) ++ all_cells (drop (i + 1) xs)
all_at xs i x h e = at_drop_more all_cells xs i x h ∙ ap (λ y. cells_in (parts_of y) ++ all_cells (drop (i + 1) xs)) (sym e)

-- a run of an array's rows, and what stands behind the run
pub run_at : (xs : List Array) (i r n : ℕ) (x : Array) → i < length xs → x ≡ get_or xs i x → r + n ≤ length (cells_in (parts_of x))
    → drop r (all_cells (drop i xs)) ≡ part r n (cells_in (parts_of x)) ++ drop (r + n) (all_cells (drop i xs))
run_at xs i r n x h e l =
    let a = all_at xs i x h e in
    ap (drop r) a ∙ run_first r n (cells_in (parts_of x)) (all_cells (drop (i + 1) xs)) l ∙ ap (λ zs. part r n (cells_in (parts_of x)) ++ drop (r + n) zs) (sym a)

-- what stands behind an array's rows
pub behind_at : (xs : List Array) (i n : ℕ) (x : Array) → i < length xs → x ≡ get_or xs i x → n ≡ length (cells_in (parts_of x)) → drop n (all_cells (drop i xs)) ≡ all_cells (drop (i + 1) xs)
behind_at xs i n x h e l = ap (drop n) (all_at xs i x h e) ∙ drop_at (cells_in (parts_of x)) (all_cells (drop (i + 1) xs)) n (sym l)

pub none_at : (xs : List Array) (i r : ℕ) → length xs ≤ i → drop r (all_cells (drop i xs)) ≡ []
none_at xs i r h = ap (drop r) (at_drop_all all_cells xs i h) ∙ drop_all r [] (omega arith)

-- the rows of one array more
pub all-append : (xs ys : List Array) → all_cells (xs ++ ys) ≡ all_cells xs ++ all_cells ys
all-append [] ys = refl
all-append (x ∷ xs) ys = ap (λ cs. cells_in (parts_of x) ++ cs) (all-append xs ys) ∙ sym (append_assoc (cells_in (parts_of x)) (all_cells xs) (all_cells ys))

pub one_more : (xs : List Array) (i : ℕ) (x : Array) → i < length xs → x ≡ get_or xs i x → all_cells (take (i + 1) xs) ≡ all_cells (take i xs) ++ cells_in (parts_of x)
one_more xs i x h e =
    ap all_cells (take_more xs i x h ∙ ap (λ y. take i xs ++ y ∷ []) (sym e)) ∙ all-append (take i xs) (x ∷ [])
    ∙ ap (λ cs. all_cells (take i xs) ++ cs) (append-nil (cells_in (parts_of x)))

-- the rows before an array, the array's, and those behind it
pub split_at : (xs : List Array) (i : ℕ) (x : Array) → i < length xs → x ≡ get_or xs i x → all_cells xs ≡ all_cells (take i xs) ++ (cells_in (parts_of x) ++ all_cells (drop (i + 1) xs))
split_at xs i x h e =
    sym (ap all_cells (take-append-drop i xs)) ∙ all-append (take i xs) (drop i xs) ∙ ap (λ cs. all_cells (take i xs) ++ cs) (all_at xs i x h e)

-- a test whether cells are the same
pub cells_told : (r : Bool) (xs ys : List Cell) → (IsTrue r ↔ (ys ≡ xs)) → r ≡ are_same_cells xs ys
cells_told r xs ys h = content_eq_told r (null, xs) (null, ys) (λ t. ap (λ cs. (null, cs)) (sym (h.0 t)), λ e. h.1 (sym (ap (λ p. p.1) e)))
