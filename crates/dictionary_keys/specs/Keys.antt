-- Keys that have room behind a place, are moved by it, and pass their type.
use Rattle.std.specs.Prelude.{◌≡◌, ℕ, ◌+◌, ◌<◌, ◌^◌, List, Bool, true, false, Option, None, Some, ℤ, length, nat_lt, not}
use Rattle.arrow_spec.specs.declared.types.IntegerType.{IntegerType}
use Rattle.arrow_spec.specs.Arrays.{from_on}
use Rattle.arrow_spec.specs.Faults.{some_row}
use Rattle.arrow_arrays.specs.Heads.{have_keys}
use Rattle.laws_unify.specs.Over.{greatest, is_large_at, moved_at}

-- the keys of rows that are not null count so many values, which have room behind a place
pub record HaveRoom (place : ℕ) (keys : List ℤ) (validity : Option (List Bool)) : Type 0 where
  pub held : ℕ
  pub keyed : have_keys held keys validity ≡ true
  pub room : place + held < 2 ^ 64

-- of the numbers that are places, those from a limit on pass a type; 0 does not
pub record EndsAt (t : IntegerType) (limit : ℕ) : Type 0 where
  pub ends : (n : ℕ) → n < 2 ^ 64 → nat_lt (greatest t) n ≡ not (nat_lt n limit)
  pub some : 0 < limit

-- a row's key is moved, or passes its type
abbrev pub RowMoves : IntegerType → ℕ → List ℤ → Option (List Bool) → ℕ → Option ℤ → Type 0
RowMoves t place keys validity row None = is_large_at t place keys validity row ≡ true
RowMoves t place keys validity row (Some key) = (key ≡ moved_at place keys validity row) × (is_large_at t place keys validity row ≡ false)

-- keys are moved, or one passes their type
abbrev pub Moves : IntegerType → ℕ → List ℤ → Option (List Bool) → Option (List ℤ) → Type 0
Moves t place keys validity None = some_row (is_large_at t place keys validity) (length keys) ≡ true
Moves t place keys validity (Some new) = (new ≡ from_on (moved_at place keys validity) 0 (length keys)) × (some_row (is_large_at t place keys validity) (length keys) ≡ false)
