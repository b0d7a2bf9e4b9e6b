-- Whose bytes views lend.
use Rattle.std.specs.Prelude.{◌≡◌, List, ℕ, ℤ, Option, IfSome}
use Rattle.view_types.specs.Views.{View, Views, array, none, also, views}

-- every range of a view, and of its children, is one of these bytes
abbrev mutual
  pub IsLentOf : List ℕ → View → Type 0
  IsLentOf input (array t cs) = (t.input ≡ input) × AreLentOf input cs

  pub AreLentOf : List ℕ → Views → Type 0
  AreLentOf input none = Unit {0}
  AreLentOf input (also v vs) = IsLentOf input v × AreLentOf input vs

-- and of all parts that are held
abbrev pub HoldsLent : List ℕ → (ℤ → Option (List View)) → Type 0
HoldsLent input h = (id : ℤ) → IfSome (h id) (λ vs. AreLentOf input (views vs))
