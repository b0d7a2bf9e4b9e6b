-- Items of which some are selected by their numbers, as an iterator gives them.
use Rattle.std.specs.Prelude.{◌≡◌, ℕ, suc, ◌+◌, List, [], ◌∷◌, Bool, true, false, Option, Some, None}
use Rattle.arrow_spec.specs.Columns.{stands_in}
use Rattle.ipc_projection.specs.declared.iterator.ProjectionResult.{ProjectionResult}
use Rattle.ipc_projection.specs.declared.iterator.ProjectionResult.TheVariants.{Selected, NotSelected}

-- an item as it is selected or not
abbrev pub marked : {A : Type 0} → Bool → A → ProjectionResult A
marked true x = Selected x
marked false x = NotSelected x

-- items in order, each by its number
abbrev pub all_marked : {A : Type 0} → (ℕ → Bool) → List A → List (ProjectionResult A)
all_marked now [] = []
all_marked now (x ∷ xs) = marked (now 0) x ∷ all_marked (λ k. now (suc k)) xs

-- whether the k-th item from a number on is selected
abbrev pub selects : List ℕ → ℕ → ℕ → Bool
selects numbers count k = stands_in numbers (count + k)

-- a call gives the source's next item, marked by whether the first item from now on is selected, and leaves the marks of the others
abbrev pub GivesMarked : {S A : Type 0} → (S → Option A → S → Type 0) → S → S → (ℕ → Bool) → (ℕ → Bool) → Option (ProjectionResult A) → Type 0
GivesMarked steps s t now later None = steps s None t × ((k : ℕ) → later k ≡ now k)
GivesMarked {A = A} steps s t now later (Some y) = (x : A) × (y ≡ marked (now 0) x) × steps s (Some x) t × ((k : ℕ) → later k ≡ now (suc k))
