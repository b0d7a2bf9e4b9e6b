-- The disk over memory as clauses see it.
use Rattle.std.specs.Prelude.{ℕ, ◌-◌, List, length, take, Bool}
use Rattle.ipc_io.specs.Memory.{SourceState, after_size}
use Rattle.ipc_disk.specs.Disks.{overwritten}

-- what it is as a source, and how often it has wanted memory
pub record DiskState : Type 0 where
  pub source : SourceState
  pub wants : ℕ

-- what a failed write leaves: the bytes that stand in its range are written over, from its front, and none is added
abbrev pub written_in_place : List ℕ → ℕ → List ℕ → List ℕ
written_in_place b at bs = overwritten b at (take (length b - at) bs)

-- after a counted call that failed, or did not, and that left these bytes
abbrev pub after_change : SourceState → List ℕ → Bool → SourceState
after_change source b failed = record (after_size source failed) { bytes = b }
