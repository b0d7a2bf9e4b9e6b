-- Places in a body: those below 2^63, and those at which pieces of a buffer may begin and end.
use Rattle.std.specs.Prelude.{◌≡◌, ◌⊎◌, ℕ, ◌+◌, ◌%◌, ◌^◌, ◌<◌, ◌≤◌, Option, Some, None}

-- a place, where it is below 2^63
abbrev pub IsPlace : Option ℕ → ℕ → Type 0
IsPlace None n = 2 ^ 63 ≤ n
IsPlace (Some m) n = (m ≡ n) × (n < 2 ^ 63)

-- a piece of a buffer of so many bytes begins at a multiple of 64, and has a multiple of 64 bytes or ends with the buffer
pub record IsPiece (at n all : ℕ) : Type 0 where
  pub within : at + n ≤ all
  pub small : all < 2 ^ 64
  pub from : at % 64 ≡ 0
  pub to : (n % 64 ≡ 0) ⊎ (at + n ≡ all)
