-- One list for several lists of values, one after another, and the place of each in it.
use Rattle.std.specs.Prelude.{◌≡◌, ℕ, suc, ◌-◌, List, [], ◌∷◌, ◌++◌, length, drop, Bool, true, false, ◌&&◌}

-- a test that tells whether two are one
pub record IsTest {A : Type 0} (same : A → A → Bool) : Type 0 where
  pub sound : (x y : A) → same x y ≡ true → x ≡ y
  pub same_itself : (x : A) → same x x ≡ true

-- one of two lists begins with the other
abbrev pub agree : {A : Type 0} → (A → A → Bool) → List A → List A → Bool
agree same [] ys = true
agree same (x ∷ xs) [] = true
agree same (x ∷ xs) (y ∷ ys) = same x y && agree same xs ys

-- the least place of a list from which on it and another agree
abbrev pub fit : {A : Type 0} → (A → A → Bool) → List A → List A → ℕ
fit same [] v = 0
fit same (x ∷ xs) v = elim (agree same (x ∷ xs) v) [ true ↦ 0 | false ↦ suc (fit same xs v) ]

-- what the other has beyond the list's end
abbrev pub rest : {A : Type 0} → (A → A → Bool) → List A → List A → List A
rest same u v = drop (length u - fit same u v) v

-- the list with that behind it
abbrev pub with_values : {A : Type 0} → (A → A → Bool) → List A → List A → List A
with_values same u v = u ++ rest same u v

-- and with several, in order
abbrev pub with_all : {A : Type 0} → (A → A → Bool) → List A → List (List A) → List A
with_all same u [] = u
with_all same u (v ∷ vs) = with_all same (with_values same u v) vs

-- the list holds the other from its place on
abbrev pub StandsAt : {A : Type 0} → (A → A → Bool) → List A → List A → Type 0
StandsAt {A = A} same u v = (more : List A) × (drop (fit same u v) u ≡ v ++ more)
