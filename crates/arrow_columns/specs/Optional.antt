-- Rows of numbers of which some are null.
use Rattle.std.specs.Prelude.{ℕ, List, Option, Some, None, replicate}
use Rattle.arrow_spec.specs.Flat.{Order, little}

-- the number whose bytes are all 0
abbrev pub zero_of : {A : Type 0} → (Order → List ℕ → A) → ℕ → A
zero_of read width = read little (replicate width 0)

-- a row's number, and another where the row is null
abbrev pub held_or : {A : Type 0} → A → Option A → A
held_or other None = other
held_or other (Some number) = number
