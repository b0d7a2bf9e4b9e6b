-- Validities and cells of rows at some numbers.
use Rattle.std.proofs.Common.{◌≡◌, ◌∙◌, sym, refl, ap, subst, arith, ℕ, zero, suc, ◌+◌, ◌<◌, List, [], ◌∷◌, ◌++◌, length, map, get_or, replicate, Bool, true, false, Option, Some, None, cond, slice_get}
use Rattle.std.specs.Option.{option_map}
use Rattle.std.proofs.lemmas.Bool.{eqb-true, eq-eqb}
use Rattle.arrow_spec.specs.Cells.{Cell, null}
use Rattle.arrow_spec.specs.Arrays.{from_on}
use Rattle.arrow_spec.specs.Faults.{some_row}
use Rattle.arrow_buffers.specs.Rows.{has_rows, is_valid, masked, masked_by}
use Rattle.arrow_buffers.proofs.Masks.{length-masked}
use Rattle.arrow_buffers.proofs.Parts.{length-from_on}
use Rattle.arrow_buffers.proofs.Rows.{none_below, none_from}
use Rattle.arrow_arrays.proofs.CellRows.{get-row, get-replicate}
use Rattle.array_filter.specs.Rows.{AreBelow, if_any, taken}
use Rattle.array_filter.proofs.Lists.{all_at, there, taken_at, length-taken}

-- ── validities ──

-- a row is valid where the row of its number is
pub valid-taken : (v : Option (List Bool)) (rows : List ℕ) (n i : ℕ) → has_rows v n ≡ true → AreBelow n rows → i < length rows → is_valid (option_map (taken rows) v) i ≡ is_valid v (get_or rows i 0)
valid-taken None rows n i h a lt = refl
valid-taken (Some bits) rows n i h a lt =
    let m : n ≡ length bits = sym (eqb-true (length bits) n h) in
    taken_at true rows bits i (subst (λ k. AreBelow k rows) m a) lt

-- there are as many bits as rows
pub has_rows-taken : (v : Option (List Bool)) (rows : List ℕ) (n : ℕ) → has_rows v n ≡ true → AreBelow n rows → has_rows (option_map (taken rows) v) (length rows) ≡ true
has_rows-taken None rows n h a = refl
has_rows-taken (Some bits) rows n h a =
    let m : n ≡ length bits = sym (eqb-true (length bits) n h) in
    eq-eqb (length (taken rows bits)) (length rows) (length-taken rows bits (subst (λ k. AreBelow k rows) m a))

-- ── cells ──

masked_there : (bits : List Bool) (cs : List Cell) (row : ℕ) → length bits ≡ length cs → get_or (masked_by bits cs) row null ≡ cond (get_or bits row true) (get_or cs row null) null
masked_there [] [] row e = refl
masked_there [] (c ∷ cs) row e = absurd (omega arith)
masked_there (b ∷ bits) [] row e = absurd (omega arith)
masked_there (b ∷ bits) (c ∷ cs) zero e = refl
masked_there (b ∷ bits) (c ∷ cs) (suc row) e = masked_there bits cs row (omega arith)

masked_by-taken : (bits : List Bool) (rows : List ℕ) (cs : List Cell) → length bits ≡ length cs → AreBelow (length cs) rows → masked_by (taken rows bits) (taken rows cs) ≡ taken rows (masked_by bits cs)
masked_by-taken bits [] cs e a = refl
masked_by-taken bits (row ∷ rows) cs e a =
    let b = get_or bits row true in
    let c = get_or cs row null in
    let l : length (masked_by bits cs) ≡ length cs = length-masked (Some bits) cs (eq-eqb (length bits) (length cs) e) in
    ap (λ bs. masked_by (bs ++ taken rows bits) (if_any (slice_get cs row) ++ taken rows cs)) (there bits row true (omega (arith, a.0)))
    ∙ ap (λ xs. masked_by (b ∷ taken rows bits) (xs ++ taken rows cs)) (there cs row null a.0)
    ∙ ap (λ ys. cond b c null ∷ ys) (masked_by-taken bits rows cs e a.1)
    ∙ ap (λ y. y ∷ taken rows (masked_by bits cs)) (sym (masked_there bits cs row e))
    ∙ ap (λ ys. ys ++ taken rows (masked_by bits cs)) (sym (there (masked_by bits cs) row null (omega (arith, a.0))))

-- the cells with some null
pub masked-taken : (v : Option (List Bool)) (rows : List ℕ) (cs : List Cell) → has_rows v (length cs) ≡ true → AreBelow (length cs) rows → masked (option_map (taken rows) v) (taken rows cs) ≡ taken rows (masked v cs)
masked-taken None rows cs h a = refl
masked-taken (Some bits) rows cs h a = masked_by-taken bits rows cs (eqb-true (length bits) (length cs) h) a

-- items that are told row by row
told-taken : {A : Type 0} (f : ℕ → A) (rows : List ℕ) (n : ℕ) → AreBelow n rows → taken rows (from_on f 0 n) ≡ map f rows
told-taken f [] n a = refl
told-taken f (row ∷ rows) n a = ap (λ o. if_any o ++ taken rows (from_on f 0 n)) (get-row f n row a.0) ∙ ap (λ ys. f row ∷ ys) (told-taken f rows n a.1)

told : {A : Type 0} (f g : ℕ → A) (rows : List ℕ) (at : ℕ) → ((i : ℕ) → i < length rows → g (at + i) ≡ f (get_or rows i 0)) → from_on g at (length rows) ≡ map f rows
told f g [] at h = refl
told f g (row ∷ rows) at h =
    let first : g at ≡ f row = ap g (omega arith) ∙ h 0 (omega arith) in
    ap (λ y. y ∷ from_on g (suc at) (length rows)) first ∙ ap (λ ys. f row ∷ ys) (told f g rows (suc at) (λ i lt. ap g (omega arith) ∙ h (suc i) (omega arith)))

-- cells that are each told by the row of its number
pub cells-told : (v : Option (List Bool)) (f g : ℕ → Cell) (rows : List ℕ) (n : ℕ) → has_rows v n ≡ true → AreBelow n rows → ((i : ℕ) → i < length rows → g i ≡ f (get_or rows i 0))
    → masked (option_map (taken rows) v) (from_on g 0 (length rows)) ≡ taken rows (masked v (from_on f 0 n))
cells-told v f g rows n h a same =
    let l : n ≡ length (from_on f 0 n) = sym (length-from_on f 0 n) in
    ap (masked (option_map (taken rows) v)) (told f g rows 0 (λ i lt. ap g (omega arith) ∙ same i lt) ∙ sym (told-taken f rows n a))
    ∙ masked-taken v rows (from_on f 0 n) (subst (λ k. has_rows v k ≡ true) l h) (subst (λ k. AreBelow k rows) l a)

pub replicate-taken : {A : Type 0} (rows : List ℕ) (n : ℕ) (x : A) → AreBelow n rows → replicate (length rows) x ≡ taken rows (replicate n x)
replicate-taken [] n x a = refl
replicate-taken (row ∷ rows) n x a = ap (λ ys. x ∷ ys) (replicate-taken rows n x a.1) ∙ ap (λ o. if_any o ++ taken rows (replicate n x)) (sym (get-replicate n row x a.0))

-- ── tests ──

-- what is bad at no row is bad at none of these
pub no_bad-taken : (mine theirs : ℕ → Bool) (rows : List ℕ) (n : ℕ) → AreBelow n rows → ((i : ℕ) → i < length rows → mine i ≡ theirs (get_or rows i 0)) → some_row theirs n ≡ false → some_row mine (length rows) ≡ false
no_bad-taken mine theirs rows n a same e = none_from mine (length rows) (λ i lt. same i lt ∙ none_below theirs n e (get_or rows i 0) (all_at (λ row. row < n) rows i a lt))
