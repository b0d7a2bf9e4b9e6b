-- What is sent before a batch, and what is held then.
use Rattle.std.specs.Prelude.{◌≡◌, ◌⊎◌, ◌++◌, ℤ, List, [], Bool, false, map, Result, Ok, Err}
use Rattle.arrow_spec.specs.declared.error.IpcError.{IpcError}
use Rattle.arrow_spec.specs.declared.error.IpcError.TheVariants.{Memory}
use Rattle.arrow_arrays.specs.Parts.{Forest}
use Rattle.ipc_fields.specs.IpcFields.{Ids}
use Rattle.ipc_dictionaries.specs.declared.sending.NewDictionaries.{NewDictionaries}
use Rattle.ipc_dictionaries.specs.declared.tracker.DictionaryTracker.{DictionaryTracker}
use Rattle.ipc_dictionaries.specs.declared.walk.ToEncode.{ToEncode}
use Rattle.ipc_dictionaries.specs.Changes.{Restores}
use Rattle.ipc_dictionaries.specs.Columns.{columns_sent}
use Rattle.ipc_dictionaries.specs.NewDictionaries.{Sending}
use Rattle.ipc_dictionaries.specs.Tracker.{held_by, IsKept}
use Rattle.ipc_dictionaries.specs.Walks.{options_of, to_send}

-- what is held, no id is fixed, and nothing is to be sent
abbrev pub begun : DictionaryTracker → Sending
begun t = record { held = held_by t; used = λ q. false; sent = [] }

-- a batch's columns send what is found, and what was held can be given back
abbrev pub Sends : Result NewDictionaries IpcError → DictionaryTracker → DictionaryTracker → Forest → Ids → Type 0
Sends (Ok found) old new columns below =
    ((used : ℤ → Bool) × (columns_sent (options_of old) columns below (begun old)
    ≡ Ok (record { held = held_by new; used = used; sent = map to_send found.messages.items })))
    × Restores found.changes.items (held_by new) (held_by old)
Sends (Err e) old new columns below = ((e ≡ Memory) ⊎ (columns_sent (options_of old) columns below (begun old) ≡ Err e)) × IsKept (held_by old) (held_by new)

-- what they send is added to a list
abbrev pub SendsMore : Result (Unit {0}) IpcError → DictionaryTracker → List ToEncode → DictionaryTracker → List ToEncode → Forest → Ids → Type 0
SendsMore (Ok u) old was new is columns below =
    (used : ℤ → Bool) × (more : List ToEncode) × (is ≡ was ++ more)
    × (columns_sent (options_of old) columns below (begun old) ≡ Ok (record { held = held_by new; used = used; sent = map to_send more }))
SendsMore (Err e) old was new is columns below =
    ((e ≡ Memory) ⊎ (columns_sent (options_of old) columns below (begun old) ≡ Err e)) × IsKept (held_by old) (held_by new) × (is ≡ was)
