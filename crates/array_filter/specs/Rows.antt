-- Items of a list at some numbers, and those that are marked.
use Rattle.std.specs.Prelude.{ℕ, suc, ◌≤◌, ◌<◌, List, [], ◌∷◌, Bool, true, false, Option, Some, None, slice_get, if◌then◌else◌}
use Rattle.std.specs.List.{AllByRecursion, flat_map}

-- an item, where there is one
abbrev pub if_any : {A : Type 0} → Option A → List A
if_any None = []
if_any (Some x) = x ∷ []

-- the items at some numbers, in their order
abbrev pub taken : {A : Type 0} → List ℕ → List A → List A
taken rows xs = flat_map (λ row. if_any (slice_get xs row)) rows

-- each number is below another
abbrev pub AreBelow : ℕ → List ℕ → Type 0
AreBelow n rows = AllByRecursion (λ row. row < n) rows

-- from a number on, each is greater than the one before it, and all are below another
abbrev pub Rise : ℕ → List ℕ → ℕ → Type 0
Rise low [] n = low ≤ n
Rise low (row ∷ rows) n = (low ≤ row) × Rise (suc row) rows n

-- the numbers of the rows that are marked, the first having number i
abbrev pub marked_from : ℕ → List Bool → List ℕ
marked_from i [] = []
marked_from i (true ∷ marks) = i ∷ marked_from (suc i) marks
marked_from i (false ∷ marks) = marked_from (suc i) marks

-- the items that are marked, in order
abbrev pub marked : {A : Type 0} → List Bool → List A → List A
marked [] xs = []
marked (b ∷ marks) [] = []
marked (b ∷ marks) (x ∷ xs) = if b then x ∷ marked marks xs else marked marks xs
