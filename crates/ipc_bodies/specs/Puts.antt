-- What is put into a sink, and what the errors of a sink rest on.
use Rattle.std.specs.Prelude.{ℕ, ◌≤◌, List, Option, Result, Ok, Err}
use Rattle.std.specs.Io.KnownBytes.{Appends}
use Rattle.arrow_spec.specs.declared.error.IpcError.{IpcError}
use Rattle.arrow_spec.specs.declared.error.IpcError.TheVariants as errors
use Rattle.ipc_io.specs.Outside.{AppendsPrefix, Rose}

-- a sink before a call and behind it: the bytes that are told, and the counts of faults and of wants
pub record Moved : Type 0 where
  pub old : Option (List ℕ)
  pub new : Option (List ℕ)
  pub faults : ℕ
  pub faults_now : ℕ
  pub wants : ℕ
  pub wants_now : ℕ

-- these
abbrev pub moved : Option (List ℕ) → Option (List ℕ) → ℕ → ℕ → ℕ → ℕ → Moved
moved old new faults faults_now wants wants_now =
    record { old = old; new = new; faults = faults; faults_now = faults_now; wants = wants; wants_now = wants_now }

-- no count falls
pub record NoneFalls (m : Moved) : Type 0 where
  pub faults : m.faults ≤ m.faults_now
  pub wants : m.wants ≤ m.wants_now

-- a part of a text from its front was put, `WriteFault` is told only where the faults rose, and `Memory` only where the wants rose
abbrev pub PutsPart : Moved → IpcError → List ℕ → Type 0
PutsPart m errors.WriteFault bs = AppendsPrefix m.old m.new bs × NoneFalls m × Rose m.faults m.faults_now
PutsPart m errors.Memory bs = AppendsPrefix m.old m.new bs × NoneFalls m × Rose m.wants m.wants_now
PutsPart m e bs = ⊥

-- all of a text was put, or a part
abbrev pub PutsText : {T : Type 0} → Moved → Result T IpcError → List ℕ → Type 0
PutsText m (Ok done) bs = Appends m.old m.new bs × NoneFalls m
PutsText m (Err e) bs = PutsPart m e bs
