-- The trees of several arrays, one by one.
use Rattle.std.proofs.Common.{◌≡◌, ℕ, zero, suc, ◌+◌, ◌*◌, ◌≤◌, ◌<◌, ◌++◌, ◌&&◌, List, [], ◌∷◌, true, false, None, map, length, get_or, drop, nat_eq, refl, sym, ap, ◌∙◌, arith}
use Rattle.std.proofs.lemmas.Bool.{and_parts, and_right, eqb-true}
use Rattle.std.proofs.Math.Seq.{drop-cons}
use Rattle.arrow_types.specs.KindCode.{kind_eq}
use Rattle.arrow_types.specs.KindOf.{child_of, fields_of}
use Rattle.arrow_types.specs.declared.data_type.Field.{Field}
use Rattle.arrow_arrays.proofs.Sliced.{neither, both, top_sound}
use Rattle.arrow_arrays.specs.Heads.{Counted, sized, run, are_all, are_of, list_size}
use Rattle.arrow_arrays.specs.Parts.{Parts, nested, none, also, forest, kind_in, rows_in, kinds_each, rows_each, part_of, cut, tree_size, trees_size, fault_in, fault_each}
use Rattle.arrow_arrays.specs.PartsOf.{parts_of, forest_of}
use Rattle.arrow_arrays.specs.declared.array.Array.{Array}

-- each tree is no larger than all
pub size_at : (xs : List Array) (i : ℕ) (d : Array) → i < length xs → tree_size (parts_of (get_or xs i d)) ≤ trees_size (forest_of xs)
size_at [] i d h = absurd (omega arith)
size_at (x ∷ xs) zero d h = omega arith
size_at (x ∷ xs) (suc i) d h = omega (arith, size_at xs i d (omega arith))

-- and has the rows that all have
pub rows_at : (rows : ℕ) (xs : List Array) (i : ℕ) (d : Array) → are_all rows (rows_each (forest_of xs)) ≡ true → i < length xs → rows_in (parts_of (get_or xs i d)) ≡ rows
rows_at rows [] i d e h = absurd (omega arith)
rows_at rows (x ∷ xs) zero d e h = eqb-true (rows_in (parts_of x)) rows (and_parts (nat_eq (rows_in (parts_of x)) rows) (are_all rows (rows_each (forest_of xs))) e).0
rows_at rows (x ∷ xs) (suc i) d e h = rows_at rows xs i d (and_parts (nat_eq (rows_in (parts_of x)) rows) (are_all rows (rows_each (forest_of xs))) e).1 (omega arith)

-- lists of one size have as many items as they ask
pub sized_items : (c : Counted) (x : Parts) → fault_in (nested (sized c) (also x none)) ≡ None → rows_in x ≡ list_size c.kind * c.rows
sized_items c x e =
    let rows = list_size c.kind * c.rows in
    eqb-true (rows_in x) rows (and_parts (nat_eq (rows_in x) rows) (are_all rows []) (top_sound (sized c) (also x none) e).0.rows).0

-- trees that are each cut
pub forest-cut : (o n : ℕ) (ps : List Parts) → forest (map (part_of o n) ps) ≡ cut (run o n) (forest ps)
forest-cut o n [] = refl
forest-cut o n (p ∷ ps) = ap (also (part_of o n p)) (forest-cut o n ps)

-- one more array
pub one_more_sound : (xs : List Array) (x : Array) → fault_each (forest_of xs) ≡ None → fault_in (parts_of x) ≡ None → fault_each (forest_of (xs ++ x ∷ [])) ≡ None
one_more_sound [] x e f = both (fault_in (parts_of x)) None f refl
one_more_sound (y ∷ xs) x e f =
    let p = neither (fault_in (parts_of y)) (fault_each (forest_of xs)) e in
    both (fault_in (parts_of y)) (fault_each (forest_of (xs ++ x ∷ []))) p.0 (one_more_sound xs x p.1 f)

-- ── children under fields ──

pub other_lengths : (fs : List Field) (xs : List Array) → (length fs ≡ length xs → ⊥) → false ≡ are_of (fields_of fs) (kinds_each (forest_of xs))
other_lengths [] [] h = absurd (h refl)
other_lengths [] (x ∷ xs) h = refl
other_lengths (f ∷ fs) [] h = refl
other_lengths (f ∷ fs) (x ∷ xs) h = sym (and_right _ _ (sym (other_lengths fs xs (λ e. h (ap suc e)))))

-- one field and one array more
pub kinds_at : (i : ℕ) (fs : List Field) (xs : List Array) (f : Field) (x : Array) → i < length fs → i < length xs → f ≡ get_or fs i f → x ≡ get_or xs i x
    → are_of (fields_of (drop i fs)) (kinds_each (forest_of (drop i xs))) ≡ (kind_eq (child_of f).kind (kind_in (parts_of x)) && are_of (fields_of (drop (i + 1) fs)) (kinds_each (forest_of (drop (i + 1) xs))))
kinds_at i fs xs f x p q d e =
    let s : suc i ≡ i + 1 = omega arith in
    let a : drop i fs ≡ f ∷ drop (i + 1) fs = drop-cons fs i f p ∙ ap (λ y. y ∷ drop (suc i) fs) (sym d) ∙ ap (λ k. f ∷ drop k fs) s in
    let b : drop i xs ≡ x ∷ drop (i + 1) xs = drop-cons xs i x q ∙ ap (λ y. y ∷ drop (suc i) xs) (sym e) ∙ ap (λ k. x ∷ drop k xs) s in
    rw (a, b) refl
