-- Numbers and offsets that fit their types, known by the bytes that they are read from.
use Rattle.std.specs.Prelude.{ℕ, ◌^◌, ◌<◌, List, ℤ, get_or}
use Rattle.std.specs.List.{AllByRecursion}
use Rattle.arrow_spec.specs.Counts.{magnitude}
use Rattle.arrow_spec.specs.Flat.{Order}
use Rattle.arrow_spec.specs.Kinds.{Offsets, small, large}

-- no offset reaches this
abbrev pub offset_limit : Offsets → ℕ
offset_limit small = 2 ^ 31
offset_limit large = 2 ^ 63

-- no offset reaches a limit
pub record AllBelow (limit : ℕ) (offsets : List ℤ) : Type 0 where
  pub each : AllByRecursion (λ x. magnitude x < limit) offsets

-- each number is one of its type
pub record AllFit {A : Type 0} (fits : A → Type 0) (numbers : List A) : Type 0 where
  pub each : AllByRecursion fits numbers

-- what is read of bytes is a number of its type
abbrev pub ReadsFit : {A : Type 0} → (Order → List ℕ → A) → (A → Type 0) → Type 0
ReadsFit read fits = (order : Order) (bytes : List ℕ) → ((i : ℕ) → get_or bytes i 0 < 2 ^ 8) → fits (read order bytes)
