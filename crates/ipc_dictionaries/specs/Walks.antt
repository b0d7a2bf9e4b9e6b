-- What a walk over a batch's arrays comes to.
use Rattle.std.specs.Prelude.{◌≡◌, ◌⊎◌, ◌++◌, ◌||◌, ℤ, List, [], ◌∷◌, true, false, map, Result, Ok, Err}
use Rattle.arrow_spec.specs.declared.error.IpcError.{IpcError}
use Rattle.arrow_spec.specs.declared.error.IpcError.TheVariants.{Memory}
use Rattle.arrow_arrays.specs.PartsOf.{parts_of}
use Rattle.ipc_dictionaries.specs.declared.tracker.DictionaryTracker.{DictionaryTracker}
use Rattle.ipc_dictionaries.specs.declared.walk.Progress.{Progress}
use Rattle.ipc_dictionaries.specs.declared.walk.ToEncode.{ToEncode}
use Rattle.ipc_dictionaries.specs.Changes.{Restores}
use Rattle.ipc_dictionaries.specs.NewDictionaries.{Options, Sending, ToSend}
use Rattle.ipc_dictionaries.specs.Tracker.{Held, held_by}
use Rattle.ipc_dictionaries.specs.Used.{used_by, is_among}

abbrev pub options_of : DictionaryTracker → Options
options_of t = record { cannot_replace = t.cannot_replace; deltas = t.deltas }

abbrev pub to_send : ToEncode → ToSend
to_send m = record { id = m.id; is_delta = m.is_delta; part = parts_of m.values }

abbrev pub sending_of : DictionaryTracker → Progress → Sending
sending_of t p = record { held = held_by t; used = used_by p.used; sent = map to_send p.messages.items }

-- a step comes to a state, or is refused as it says, or memory runs out
abbrev pub Walks : Result (Unit {0}) IpcError → Result Sending IpcError → Sending → Type 0
Walks (Ok u) step s = step ≡ Ok s
Walks (Err e) step s = (e ≡ Memory) ⊎ (step ≡ Err e)

-- the options stay, and what was held before can be given back as before
pub record Keeps (old : DictionaryTracker) (was : Progress) (new : DictionaryTracker) (is : Progress) : Type 0 where
  pub options : options_of new ≡ options_of old
  pub restores : (before : Held) → Restores was.changes.items (held_by old) before → Restores is.changes.items (held_by new) before

-- the ids that a step fixes came behind the others, and are not fixed
pub record Releases (was is : Progress) (added : List ℤ) : Type 0 where
  pub trail : is.used.trail.items ≡ was.used.trail.items ++ added
  pub used : (q : ℤ) → used_by is.used q ≡ used_by was.used q
  pub fresh : (q : ℤ) → is_among q added ≡ true → used_by was.used q ≡ false

-- what is held after a step, the ids that were fixed and those that it fixed, and some messages
abbrev pub with_added : DictionaryTracker → Progress → List ℤ → List ToSend → Sending
with_added t p added sent = record { held = held_by t; used = λ q. used_by p.used q || is_among q added; sent = sent }

-- a part: the dictionaries in it, and a message of its own
abbrev pub PartSent : Result (Unit {0}) IpcError → DictionaryTracker → Progress → Progress → ToSend → Result Sending IpcError → Type 0
PartSent (Ok u) new was is message step = (added : List ℤ) × (sent : List ToSend) × (step ≡ Ok (with_added new was added sent))
    × (map to_send is.messages.items ≡ sent ++ message ∷ []) × Releases was is added
PartSent (Err e) new was is message step = (e ≡ Memory) ⊎ (step ≡ Err e)

-- several parts
abbrev pub PartsSent : Result (Unit {0}) IpcError → DictionaryTracker → Progress → Progress → Result Sending IpcError → Type 0
PartsSent (Ok u) new was is step = (added : List ℤ) × (step ≡ Ok (with_added new was added (map to_send is.messages.items))) × Releases was is added
PartsSent (Err e) new was is step = (e ≡ Memory) ⊎ (step ≡ Err e)

-- some parts are done, and what is left of a step comes to the same as all of it
abbrev pub PartsLeft : DictionaryTracker → Progress → Progress → (Sending → Result Sending IpcError) → Result Sending IpcError → Type 0
PartsLeft new was is rest step = (added : List ℤ) × (rest (with_added new was added (map to_send is.messages.items)) ≡ step) × Releases was is added
