-- What closing a place does to a shelf.
use Rattle.std.specs.Prelude.{◌≡◌, ℕ, List, ⊤, Option, None, Some, IsSome, IfSome}
use Rattle.arrow_spec.specs.Words.{Held}

-- something stands under a name, where that is told
abbrev pub HasName : Option Held → List ℕ → Type 0
HasName None name = ⊤
HasName (Some held) name = IsSome (held name)

-- these bytes stand under a name now, where they are told, and under each other name what stood there
pub record IsChanged (held held' : Held) (name : List ℕ) (content : Option (List ℕ)) : Type 0 where
  pub there : IfSome content (λ b. held' name ≡ Some b)
  pub others : (other : List ℕ) → (other ≡ name → ⊥) → held' other ≡ held other

-- the same of a shelf that may tell what it holds; it goes on telling it, or does not
abbrev pub IsReplaced : Option Held → Option Held → List ℕ → Option (List ℕ) → Type 0
IsReplaced None held' name content = held' ≡ None
IsReplaced (Some held) None name content = ⊥
IsReplaced (Some held) (Some held') name content = IsChanged held held' name content
