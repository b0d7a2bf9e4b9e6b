-- The dictionaries that a writer holds, and what a call does to them.
use Rattle.std.specs.Prelude.{◌≡◌, ℤ, Bool, true, false, Option, Some, None, Result, Ok, Err}
use Rattle.std.specs.Option.{option_map}
use Rattle.std.specs.Ordering.{int_cmp}
use Rattle.std.specs.BTreeMap.{BTreeMap, get}
use Rattle.std.specs.declared.alloc.Global.{Global}
use Rattle.std.specs.declared.vec.Vec.{Vec}
use Rattle.arrow_spec.specs.declared.error.IpcError.{IpcError}
use Rattle.arrow_spec.specs.declared.error.IpcError.TheVariants as errors
use Rattle.arrow_spec.specs.Kinds.{same}
use Rattle.arrow_arrays.specs.Heads.{indexed, values_kind}
use Rattle.arrow_arrays.specs.Parts.{Parts, Forest, leaf, nested, none, kind_in}
use Rattle.arrow_arrays.specs.PartsOf.{forest_of}
use Rattle.arrow_arrays.specs.declared.array.Array.{Array}
use Rattle.ipc_dictionaries.specs.Standing.{allowed, standing}
use Rattle.ipc_dictionaries.specs.declared.tracker.DictionaryTracker.{DictionaryTracker}

-- the parts under an id
abbrev pub Held : Type 0
Held = ℤ → Option Forest

abbrev pub held_in : BTreeMap ℤ (Vec Array Global) → Held
held_in m id = option_map (λ v. forest_of v.items) (get int_cmp m id)

abbrev pub held_by : DictionaryTracker → Held
held_by t = held_in t.dictionaries

-- the parts of a dictionary's values
abbrev pub values_in : Parts → Forest
values_in (leaf l) = none
values_in (nested h parts) = parts

-- a dictionary
abbrev pub is_indexed : Parts → Bool
is_indexed (nested (indexed d) parts) = true
is_indexed p = false

-- under an id stand these parts, and under others what stood there
abbrev pub IsPut : ℤ → Forest → Held → Held → Type 0
IsPut id parts old new = (new id ≡ Some parts) × ((q : ℤ) → same id q ≡ false → new q ≡ old q)

abbrev pub IsKept : Held → Held → Type 0
IsKept old new = (q : ℤ) → new q ≡ old q

-- A dictionary was put under an id, or its values stood there already, or may not be put there.
abbrev pub Inserts : Result Bool IpcError → DictionaryTracker → DictionaryTracker → ℤ → Parts → Type 0
Inserts (Ok true) old new id p = (allowed old.cannot_replace old.deltas (standing (held_by old id) (values_kind (kind_in p)) (values_in p)) ≡ Some true)
    × IsPut id (values_in p) (held_by old) (held_by new)
Inserts (Ok false) old new id p = (allowed old.cannot_replace old.deltas (standing (held_by old id) (values_kind (kind_in p)) (values_in p)) ≡ Some false)
    × IsKept (held_by old) (held_by new)
Inserts (Err (errors.DictionaryReplaced q)) old new id p = (q ≡ id)
    × (allowed old.cannot_replace old.deltas (standing (held_by old id) (values_kind (kind_in p)) (values_in p)) ≡ None) × IsKept (held_by old) (held_by new)
Inserts (Err errors.Memory) old new id p = IsKept (held_by old) (held_by new)
Inserts (Err e) old new id p = ⊥
