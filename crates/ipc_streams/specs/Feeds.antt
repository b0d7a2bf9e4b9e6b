-- What is pulled from a feed.
use Rattle.std.specs.Prelude.{◌≡◌, ℕ, ◌≤◌, ◌<◌, List, ◌++◌, length, take, drop, ⊤, Option, Some, None}
use Rattle.std.specs.Io.KnownBytes.{Consumes, IsAtEnd}
use Rattle.arrow_spec.specs.declared.error.IpcError.{IpcError}
use Rattle.arrow_spec.specs.declared.error.IpcError.TheVariants as errors
use Rattle.ipc_io.specs.Outside.{Rose}

-- the bytes that are left lose so many at their front, or all where there are fewer, and these are they
abbrev pub Takes : Option (List ℕ) → Option (List ℕ) → ℕ → List ℕ → Type 0
Takes None rest' n bytes = ⊤
Takes (Some b) rest' n bytes = (rest' ≡ Some (drop n b)) × (bytes ≡ take n b)

-- no fault of a feed goes away, and it holds the same references
pub record FeedKept {F : Type 0} (faults_of : F → ℕ) (references_of : F → List ℕ) (f f' : F) : Type 0 where
  pub faults : faults_of f ≤ faults_of f'
  pub references : references_of f' ≡ references_of f

-- why bytes are not pulled: want of memory, or a fault of the feed, whose count rose
abbrev pub PullCause : IpcError → ℕ → ℕ → Type 0
PullCause errors.Memory faults faults' = ⊤
PullCause errors.ReadFault faults faults' = Rose faults faults'
PullCause e faults faults' = ⊥

-- a pull adds bytes behind others, so many at most, and none only at the end
pub record Pulls (rest rest' : Option (List ℕ)) (old new : List ℕ) (most n : ℕ) : Type 0 where
  pub added : List ℕ
  pub grown : new ≡ old ++ added
  pub count : length added ≡ n
  pub few : n ≤ most
  pub consumed : Consumes rest rest' added
  pub at_end : n ≡ 0 → 0 < most → IsAtEnd rest'
