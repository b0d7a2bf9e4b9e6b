-- Record batches are equal where what they hold is.
use Rattle.std.proofs.Common.{◌≡◌, List, [], ◌∷◌, Bool, true, false, map, refl, sym, ap, subst, ◌∙◌, true≢false}
use Rattle.std.specs.Prelude.{◌&&◌, IsTrue}
use Rattle.std.specs.Cmp.Lexicographic.{pointwise}
use Rattle.arrow_types.specs.KindCode.{by_tree_sound, by_tree_itself}
use Rattle.arrow_arrays.specs.Batches.{Batch}
use Rattle.arrow_arrays.specs.BatchCode.{holding_eq, holding_eq_told}
use Rattle.arrow_arrays.specs.CellCode.{Content, content_to, content_from, content_from-content_to, content_eq}
use Rattle.arrow_arrays.specs.Contents.{content_of}
use Rattle.arrow_arrays.specs.PartsOf.{all_parts_of}
use Rattle.arrow_arrays.specs.SameBatches.{contents_in, SameBatch, holding_of}
use Rattle.arrow_arrays.specs.declared.array.Array.{Array}

both_true : (a b : Bool) → IsTrue (a && b) → IsTrue a × IsTrue b
both_true true b h = (refl, h)
both_true false b h = absurd (true≢false (sym h))

true_both : (a b : Bool) → IsTrue a → IsTrue b → IsTrue (a && b)
true_both a b p q = rw (p, q) refl

-- a test of what elements stand for tells which lists of them stand for the same
pub by_element : {A B : Type 0} (f : A → B) (test : B → B → Bool) → ((x y : B) → IsTrue (test x y) → x ≡ y) → ((x : B) → IsTrue (test x x)) → (xs ys : List A) → (IsTrue (pointwise (λ x y. test (f x) (f y)) xs ys) → map f xs ≡ map f ys) × (map f xs ≡ map f ys → IsTrue (pointwise (λ x y. test (f x) (f y)) xs ys))
by_element f test sound itself [] [] = (λ h. refl, λ h. refl)
by_element f test sound itself [] (y ∷ ys) = (λ h. absurd (true≢false (sym h)), λ h. cc)
by_element f test sound itself (x ∷ xs) [] = (λ h. absurd (true≢false (sym h)), λ h. cc)
by_element f test sound itself (x ∷ xs) (y ∷ ys) =
    let rest = by_element f test sound itself xs ys in
    let r = pointwise (λ a b. test (f a) (f b)) xs ys in (
      λ h.
          let t = both_true (test (f x) (f y)) r h in
          ap (λ z. z ∷ map f xs) (sound (f x) (f y) t.0) ∙ ap (λ zs. f y ∷ zs) (rest.0 t.1),
      λ h.
          let here : f x ≡ f y = cc in
          let behind : map f xs ≡ map f ys = cc in
          true_both (test (f x) (f y)) r (subst (λ z. IsTrue (test (f x) z)) here (itself (f x))) (rest.1 behind),
    )

pub told_by : {P : Type 0} (r s : Bool) → r ≡ s → (IsTrue s → P) × (P → IsTrue s) → (IsTrue r → P) × (P → IsTrue r)
told_by r s e h = (λ t. h.0 (sym e ∙ t), λ p. e ∙ h.1 p)

content_sound : (p q : Content) → IsTrue (content_eq p q) → p ≡ q
unfolding content_eq
content_sound p q h = by_tree_sound content_to content_from content_from-content_to p q h

content_itself : (p : Content) → IsTrue (content_eq p p)
unfolding content_eq
content_itself p = by_tree_itself content_to p p refl

pub arrays_same : (r : Bool) (xs ys : List Array) → r ≡ pointwise (λ x y. content_eq (content_of x) (content_of y)) xs ys → (IsTrue r → map content_of xs ≡ map content_of ys) × (map content_of xs ≡ map content_of ys → IsTrue r)
arrays_same r xs ys e = told_by r (pointwise (λ x y. content_eq (content_of x) (content_of y)) xs ys) e (by_element content_of content_eq content_sound content_itself xs ys)

contents_are : (xs : List Array) → map content_of xs ≡ contents_in (all_parts_of xs)
contents_are [] = refl
contents_are (x ∷ xs) = ap (λ cs. content_of x ∷ cs) (contents_are xs)

-- of batches with the same rows, schema and pairs, the arrays tell
pub batches_same : (r : Bool) (a b : Batch) (xs ys : List Array) → a.height ≡ b.height → a.schema ≡ b.schema → a.custom ≡ b.custom → all_parts_of xs ≡ a.arrays → all_parts_of ys ≡ b.arrays → (IsTrue r → map content_of xs ≡ map content_of ys) × (map content_of xs ≡ map content_of ys → IsTrue r) → (IsTrue r → SameBatch a b) × (SameBatch a b → IsTrue r)
batches_same r a b xs ys height schema custom hx hy told =
    let x : map content_of xs ≡ contents_in a.arrays = contents_are xs ∙ ap contents_in hx in
    let y : map content_of ys ≡ contents_in b.arrays = contents_are ys ∙ ap contents_in hy in (
      λ t. record { rows = height; schema = schema; columns = sym x ∙ told.0 t ∙ y; custom = custom },
      λ s. told.1 (x ∙ s.columns ∙ sym y),
    )

-- a test that tells whether batches are the same is the equality of what they hold
pub same_holdings : (r : Bool) (a b : Batch) → (IsTrue r → SameBatch a b) × (SameBatch a b → IsTrue r) → r ≡ holding_eq (holding_of a) (holding_of b)
same_holdings r a b told =
    holding_eq_told r (holding_of a) (holding_of b) (
      λ t.
          let s = told.0 t in
          rw (s.rows, s.schema, s.columns, s.custom) refl,
      λ e. told.1 (record { rows = ap (λ h. h.rows) e; schema = ap (λ h. h.schema) e; columns = ap (λ h. h.columns) e; custom = ap (λ h. h.custom) e }),
    )
