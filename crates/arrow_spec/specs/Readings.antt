-- What a part of the input means, or why it means nothing. This is the form of every definition below; it comes from no document.
use Rattle.std.specs.Prelude.{◌≡◌, ℕ, zero, suc, List, [], ◌∷◌, ◌⊎◌, Bool, true, false, Option, Some, None, Result, Ok, Err, ℤ, pos, negsuc}
use Rattle.arrow_spec.specs.declared.error.IpcError.{IpcError}
use Rattle.arrow_spec.specs.declared.error.IpcError.TheVariants.{OutOfSpec, Unsupported, Memory, ReadFault, WriteFault}
use Rattle.arrow_spec.specs.declared.error.OutOfSpecKind.{OutOfSpecKind}
use Rattle.arrow_spec.specs.declared.error.OutOfSpecKind.TheVariants.{UnexpectedNegativeInteger}
use Rattle.arrow_spec.specs.declared.error.FlatError.{FlatError}
use Rattle.arrow_spec.specs.declared.error.Feature.{Feature}

-- what a first reading gave is handed on, and a fault ends it
unfoldable pub bind : {A B E : Type 0} → Result A E → (A → Result B E) → Result B E
bind (Ok x) f = f x
bind (Err e) f = Err e

infixl 10 ◌>>=◌
-- the same between two parts of a definition
abbrev pub ◌>>=◌ : {A B E : Type 0} → Result A E → (A → Result B E) → Result B E
r >>= f = bind r f

-- What the input means, or the refusals at the first place where any holds: each of them may be answered.
abbrev pub Reading : Type 0 → Type 0
Reading A = Result A (List IpcError)

-- one refusal
abbrev pub refuse : {A : Type 0} → IpcError → Reading A
refuse e = Err (e ∷ [])

-- the bytes are not as the format says
abbrev pub damaged : {A : Type 0} → OutOfSpecKind → Reading A
damaged kind = refuse (OutOfSpec kind)

-- the bytes use what is not supported
abbrev pub unsupported : {A : Type 0} → Feature → Reading A
unsupported feature = refuse (Unsupported feature)

-- a place of the order: nothing is wrong there, or one of these refusals may be answered
abbrev pub free_of : List IpcError → Reading (Unit {0})
free_of [] = Ok tt
free_of (e ∷ es) = Err (e ∷ es)

-- a place with one refusal
abbrev pub unless : Bool → IpcError → Reading (Unit {0})
unless true e = Ok tt
unless false e = refuse e

-- a place with one kind of damage
abbrev pub only_if : Bool → OutOfSpecKind → Reading (Unit {0})
only_if ok kind = unless ok (OutOfSpec kind)

-- the same fault under another name
abbrev pub in_terms_of : {A E F : Type 0} → (E → F) → Result A E → Result A F
in_terms_of f (Ok x) = Ok x
in_terms_of f (Err e) = Err (f e)

-- a fault under the name of its part
abbrev pub as_kind : {A : Type 0} → (FlatError → OutOfSpecKind) → Result A FlatError → Reading A
as_kind kind r = in_terms_of (λ f. OutOfSpec (kind f) ∷ []) r

-- nothing is there
abbrev pub is_absent : {A : Type 0} → Option A → Bool
is_absent None = true
is_absent (Some x) = false

-- what must be there
abbrev pub required : {A : Type 0} → IpcError → Option A → Reading A
required e None = refuse e
required e (Some x) = Ok x

-- a number that must not be negative
abbrev pub natural : ℤ → Reading ℕ
natural (pos n) = Ok n
natural (negsuc n) = damaged UnexpectedNegativeInteger

-- each of n things from number i on, up to the first fault
abbrev pub each : {A E : Type 0} → (ℕ → Result A E) → ℕ → ℕ → Result (List A) E
each f i zero = Ok []
each f i (suc n) = f i >>= λ x. each f (suc i) n >>= λ xs. Ok (x ∷ xs)

-- the meaning, if there is one
abbrev pub meaning : {A E : Type 0} → Result A E → Option A
meaning (Ok x) = Some x
meaning (Err e) = None

-- one of these refusals
abbrev pub IsAmong : List IpcError → IpcError → Type 0
IsAmong [] e = ⊥
IsAmong (x ∷ xs) e = (x ≡ e) ⊎ IsAmong xs e

-- the refusals, if it means nothing
abbrev pub refusals : {A : Type 0} → Reading A → List IpcError
refusals (Ok x) = []
refusals (Err es) = es

-- One of these refusals. A device's fault and want of memory come anywhere.
abbrev pub Refuses : IpcError → List IpcError → Type 0
Refuses Memory es = Unit {0}
Refuses ReadFault es = Unit {0}
Refuses WriteFault es = Unit {0}
Refuses e es = IsAmong es e

-- a call gives what a reading says: the value, seen by view, or one of its refusals
abbrev pub Gives : {X Y : Type 0} → (X → Y) → Result X IpcError → Reading Y → Type 0
Gives view (Ok x) read = read ≡ Ok (view x)
Gives view (Err e) read = Refuses e (refusals read)
