-- The order of keys, and maps of pairs that ascend by it.
use Rattle.std.proofs.Common.{◌≡◌, ℕ, ◌<◌, List, [], ◌∷◌, refl, sym, ap, subst, ◌∙◌, arith, true, false, Bool, ◌⊎◌, inl, inr}
use Rattle.std.specs.Prelude.{nat_eq, nat_lt, ◌||◌, ◌&&◌}
use Rattle.std.specs.Str.{bytes_eq}
use Rattle.std.proofs.lemmas.Bool.{and_parts, ltb-true, lt-ltb, cases_lt}
use Rattle.arrow_spec.proofs.IntegerSchemas.{is_same}
use Rattle.arrow_spec.specs.Schema.{stands_before}

or_parts : (x y : Bool) → (x || y) ≡ true → (x ≡ true) ⊎ (y ≡ true)
or_parts true y h = inl refl
or_parts false y h = inr h

eq_same : (a b : ℕ) → nat_eq a b ≡ true → a ≡ b
eq_same a b h = grind (arith, h)

not_less : (a : ℕ) → nat_lt a a ≡ false
not_less a = grind arith

eq_parts : (a b : ℕ) (as' bs : List ℕ) → bytes_eq (a ∷ as') (b ∷ bs) ≡ true → (nat_eq a b ≡ true) × (bytes_eq as' bs ≡ true)
eq_parts a b as' bs h = and_parts _ _ h

pub key_same : (x y : List ℕ) → bytes_eq x y ≡ true → x ≡ y
key_same [] [] h = refl
key_same [] (b ∷ bs) h = cc
key_same (a ∷ as') [] h = cc
key_same (a ∷ as') (b ∷ bs) h =
    let parts = eq_parts a b as' bs h in
    let first : a ≡ b = eq_same a b parts.0 in
    let rest : as' ≡ bs = key_same as' bs parts.1 in
    rw (first, rest) refl

-- ── the order ──

pub before_never : (x : List ℕ) → stands_before x x ≡ false
before_never [] = refl
before_never (a ∷ as') = rw (not_less a, before_never as', is_same a) refl

first_less : (a b : ℕ) (as' bs : List ℕ) → a < b → stands_before (a ∷ as') (b ∷ bs) ≡ true
first_less a b as' bs h = let less : nat_lt a b ≡ true = lt-ltb _ _ h in rw less refl

then_less : (a : ℕ) (as' bs : List ℕ) → stands_before as' bs ≡ true → stands_before (a ∷ as') (a ∷ bs) ≡ true
then_less a as' bs h = rw (not_less a, is_same a, h) refl

-- a key before another is less at the first byte, or as much and before it behind that
before_parts : (a b : ℕ) (as' bs : List ℕ) → stands_before (a ∷ as') (b ∷ bs) ≡ true → (a < b) ⊎ ((a ≡ b) × (stands_before as' bs ≡ true))
before_parts a b as' bs h =
    elim (or_parts (nat_lt a b) (nat_eq a b && stands_before as' bs) h) [
      | inl less ↦ inl (ltb-true a b less)
      | inr both ↦ let parts = and_parts _ _ both in inr (eq_same a b parts.0, parts.1)
    ]

pub before_then : (x y z : List ℕ) → stands_before x y ≡ true → stands_before y z ≡ true → stands_before x z ≡ true
before_then [] [] z h g = cc
before_then [] (b ∷ bs) [] h g = cc
before_then [] (b ∷ bs) (c ∷ cs) h g = refl
before_then (a ∷ as') [] z h g = cc
before_then (a ∷ as') (b ∷ bs) [] h g = cc
before_then (a ∷ as') (b ∷ bs) (c ∷ cs) h g =
    elim (before_parts a b as' bs h) [
      | inl less ↦ elim (before_parts b c bs cs g) [
        | inl more ↦ first_less a c as' cs (omega (arith, less, more))
        | inr both ↦ first_less a c as' cs (omega (arith, less, both.0))
      ]
      | inr same ↦ elim (before_parts b c bs cs g) [
        | inl more ↦ first_less a c as' cs (omega (arith, same.0, more))
        | inr both ↦ subst (λ n. stands_before (a ∷ as') (n ∷ cs) ≡ true) (same.0 ∙ both.0) (then_less a as' cs (before_then as' bs cs same.1 both.1))
      ]
    ]

pub before_or_behind : (x y : List ℕ) → bytes_eq x y ≡ false → stands_before x y ≡ false → stands_before y x ≡ true
before_or_behind [] [] h g = cc
before_or_behind [] (b ∷ bs) h g = cc
before_or_behind (a ∷ as') [] h g = refl
before_or_behind (a ∷ as') (b ∷ bs) h g =
    elim (cases_lt b a) [
      | inl less ↦ first_less b a bs as' less
      | inr le ↦ elim (cases_lt a b) [
        | inl less ↦ absurd (clash (first_less a b as' bs less) g)
        | inr ge ↦
            let same : a ≡ b = omega (arith, le, ge) in
            let other : bytes_eq as' bs ≡ false = rest_other a b as' bs same h in
            let not_before : stands_before as' bs ≡ false = rest_behind a b as' bs same g in
            subst (λ n. stands_before (n ∷ bs) (a ∷ as') ≡ true) same (then_less a bs as' (before_or_behind as' bs other not_before))
      ]
    ]
  where
    clash : {t : Bool} → t ≡ true → t ≡ false → ⊥
    clash p q = cc

    rest_other : (a b : ℕ) (as' bs : List ℕ) → a ≡ b → bytes_eq (a ∷ as') (b ∷ bs) ≡ false → bytes_eq as' bs ≡ false
    rest_other a b as' bs e h = let same : nat_eq a b ≡ true = rw e (is_same b) in sym (ap (λ t. t && bytes_eq as' bs) same) ∙ h

    rest_behind : (a b : ℕ) (as' bs : List ℕ) → a ≡ b → stands_before (a ∷ as') (b ∷ bs) ≡ false → stands_before as' bs ≡ false
    rest_behind a b as' bs e h =
        let same : nat_eq a b ≡ true = rw e (is_same b) in
        let less : nat_lt a b ≡ false = rw e (not_less b) in
        sym (ap (λ t. t || (nat_eq a b && stands_before as' bs)) less ∙ ap (λ t. t && stands_before as' bs) same) ∙ h
