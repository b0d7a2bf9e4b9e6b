-- What the calls of a disk do to the bytes that it tells.
use Rattle.std.specs.Prelude.{◌≡◌, ℕ, ◌+◌, ◌≤◌, List, ◌++◌, length, take, drop, ⊤, Option, Some, None, Result, Ok, Err, option_map}
use Rattle.ipc_io.specs.declared.outside.Failed.{Failed}
use Rattle.ipc_io.specs.declared.outside.PutError.{PutError}
use Rattle.ipc_io.specs.declared.outside.PutError.TheVariants as put

-- a place does not pass the end, where it is told
abbrev pub IsWithin : Option (List ℕ) → ℕ → Type 0
IsWithin None at = ⊤
IsWithin (Some b) at = at ≤ length b

-- the bytes below a place, where they are told
abbrev pub below : ℕ → Option (List ℕ) → Option (List ℕ)
below at content = option_map (take at) content

-- bs from `at` on, over the bytes that stand there and past the end
abbrev pub overwritten : List ℕ → ℕ → List ℕ → List ℕ
overwritten b at bs = take at b ++ (bs ++ drop (at + length bs) b)

-- the bytes below `at`, and those behind n from there on, are the same, and there are no fewer
pub record SameOutside (b b' : List ℕ) (at n : ℕ) : Type 0 where
  pub below : take at b' ≡ take at b
  pub behind : drop (at + n) b' ≡ drop (at + n) b
  pub not_shorter : length b ≤ length b'

-- the same of bytes that may be told; they stay told, or untold
abbrev pub KeepsOutside : Option (List ℕ) → Option (List ℕ) → ℕ → ℕ → Type 0
KeepsOutside None None at n = ⊤
KeepsOutside None (Some b') at n = ⊥
KeepsOutside (Some b) None at n = ⊥
KeepsOutside (Some b) (Some b') at n = SameOutside b b' at n

-- what a write at a place did: all of it, anything in its range where it failed, nothing for want of memory
abbrev pub WritesAt : Option (List ℕ) → Option (List ℕ) → ℕ → Result (Unit {0}) PutError → List ℕ → Type 0
WritesAt old new at (Ok done) bs = new ≡ option_map (λ b. overwritten b at bs) old
WritesAt old new at (Err put.Failed) bs = KeepsOutside old new at (length bs)
WritesAt old new at (Err put.Memory) bs = new ≡ old

-- what a cut did: the bytes below the length are left, or all where it failed
abbrev pub Cuts : Option (List ℕ) → Option (List ℕ) → ℕ → Result (Unit {0}) Failed → Type 0
Cuts old new n (Ok done) = new ≡ below n old
Cuts old new n (Err e) = new ≡ old
