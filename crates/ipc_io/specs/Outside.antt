-- What the calls of the outside's objects do to the bytes that they tell, and what their refusals rest on.
use Rattle.std.specs.Prelude.{◌≡◌, ◌⊎◌, ℕ, ◌+◌, ◌^◌, ◌-◌, ◌<◌, ◌≤◌, min, List, length, take, drop, ⊤, Option, Some, None, Result, Ok, Err, IsSome, OnOk, OnErr, MatchResult}
use Rattle.std.specs.Io.KnownBytes.{Appends, Keeps}
use Rattle.arrow_spec.specs.Words.{Held}
use Rattle.ipc_io.specs.declared.outside.Failed.{Failed}
use Rattle.ipc_io.specs.declared.outside.Got.{Got}
use Rattle.ipc_io.specs.declared.outside.Got.TheVariants.{Full, Short}
use Rattle.ipc_io.specs.declared.outside.PutError.{PutError}
use Rattle.ipc_io.specs.declared.outside.PutError.TheVariants as put
use Rattle.ipc_io.specs.declared.outside.ShelfError.{ShelfError}
use Rattle.ipc_io.specs.declared.outside.ShelfError.TheVariants as shelf

-- a count has risen, or stands at the last value of a u64
abbrev pub Rose : ℕ → ℕ → Type 0
Rose before now = min (before + 1) (2 ^ 64 - 1) ≤ now

-- a count stands where it stood, below the last value of a u64
pub record Stands (before now : ℕ) : Type 0 where
  pub same : now ≡ before
  pub below : now < 2 ^ 64 - 1

-- a call that tells no error leaves a count of faults: none is hidden
abbrev pub LeavesFaults : {T E : Type 0} → ℕ → ℕ → Result T E → Type 0
LeavesFaults before now result = OnOk result (now ≡ before)

-- a count does not fall; an error is told only where it rose, and where it rose an error is told
pub record HasCause {T E : Type 0} (before now : ℕ) (result : Result T E) : Type 0 where
  pub later : before ≤ now
  pub failed : OnErr result (Rose before now)
  pub stays : LeavesFaults before now result

-- known bytes grow by a part of bs, from its front
abbrev pub AppendsPrefix : Option (List ℕ) → Option (List ℕ) → List ℕ → Type 0
AppendsPrefix old new bs = (n : ℕ) × Appends old new (take n bs)

-- the number of bytes, where they are told
abbrev pub IsSize : Option (List ℕ) → ℕ → Type 0
IsSize None n = ⊤
IsSize (Some b) n = n ≡ length b

-- `out` is the bytes from `at` on, where they are told
abbrev pub StandsAt : Option (List ℕ) → ℕ → List ℕ → Type 0
StandsAt None at out = ⊤
StandsAt (Some b) at out = (at + length out ≤ length b) × (out ≡ take (length out) (drop at b))

-- n bytes from `at` on pass the end, where it is told
abbrev pub PassesEnd : Option (List ℕ) → ℕ → ℕ → Type 0
PassesEnd None at n = ⊤
PassesEnd (Some b) at n = length b < at + n

-- what a read at a place gave
abbrev pub Reads : Option (List ℕ) → ℕ → Result Got Failed → List ℕ → Type 0
Reads content at (Ok Full) out = StandsAt content at out
Reads content at (Ok Short) out = PassesEnd content at (length out)
Reads content at (Err e) out = ⊤

-- what a put did to the bytes: all, a part from the front where it failed, nothing for want of memory
abbrev pub Puts : Option (List ℕ) → Option (List ℕ) → Result (Unit {0}) PutError → List ℕ → Type 0
Puts old new (Ok done) bs = Appends old new bs
Puts old new (Err put.Failed) bs = AppendsPrefix old new bs
Puts old new (Err put.Memory) bs = Keeps old new

-- no count falls; `Failed` is told only where the faults rose, `Memory` only where the wants rose; the wants rise nowhere else, and the faults where an error is told
pub record PutHasCause (faults faults' wants wants' : ℕ) (result : Result (Unit {0}) PutError) : Type 0 where
  pub later : faults ≤ faults'
  pub stays : LeavesFaults faults faults' result
  pub failed : result ≡ Err put.Failed → Rose faults faults'
  pub wants_later : wants ≤ wants'
  pub wanted : result ≡ Err put.Memory → Rose wants wants'
  pub wants_stay : (result ≡ Err put.Memory → ⊥) → wants' ≡ wants

-- these are the bytes under a name, where that is told
abbrev pub IsHeld : Option Held → List ℕ → Option (List ℕ) → Type 0
IsHeld None name content = ⊤
IsHeld (Some held) name content = IsSome content × (held name ≡ content)

-- nothing stands under a name, where that is told
abbrev pub Lacks : Option Held → List ℕ → Type 0
Lacks None name = ⊤
Lacks (Some held) name = held name ≡ None

-- the count does not fall; it rose where opening failed, and an unknown name left it
pub record OpenHasCause {F : Type 0} (before now : ℕ) (result : Result F ShelfError) : Type 0 where
  pub later : before ≤ now
  pub failed : result ≡ Err shelf.Failed → Rose before now
  pub unknown : result ≡ Err shelf.Unknown → now ≡ before

-- closing a file adds to the count exactly where the file has failed
pub record Closes (failures before now : ℕ) : Type 0 where
  pub later : before ≤ now
  pub rose : 0 < failures → Rose before now
  pub stayed : failures ≡ 0 → now ≡ before

-- several puts of one text: all of it, or a part from the front
abbrev pub PutsFront : {E : Type 0} → Option (List ℕ) → Option (List ℕ) → Result (Unit {0}) E → List ℕ → Type 0
PutsFront old new result bs = MatchResult result (λ _. Appends old new bs) (λ _. AppendsPrefix old new bs)

-- no count of a sink falls, and an error is told only where one of them rose
pub record PutsHaveCause {E : Type 0} (faults faults' wants wants' : ℕ) (result : Result (Unit {0}) E) : Type 0 where
  pub later : faults ≤ faults'
  pub wants_later : wants ≤ wants'
  pub rose : OnErr result (Rose faults faults' ⊎ Rose wants wants')

-- a source tells the same bytes, its faults have not fallen, and it holds the same references
pub record SourceKept {S : Type 0} (content_of : S → Option (List ℕ)) (faults_of : S → ℕ) (references_of : S → List ℕ) (s s' : S) : Type 0 where
  pub content : content_of s' ≡ content_of s
  pub faults : faults_of s ≤ faults_of s'
  pub references : references_of s' ≡ references_of s

-- no count of a sink falls, and it holds the same references
pub record SinkKept {W : Type 0} (faults_of wants_of : W → ℕ) (references_of : W → List ℕ) (w w' : W) : Type 0 where
  pub faults : faults_of w ≤ faults_of w'
  pub wants : wants_of w ≤ wants_of w'
  pub references : references_of w' ≡ references_of w
