-- Changes of what is held, and what was held before them.
use Rattle.std.specs.Prelude.{◌≡◌, ⊤, ℤ, List, [], ◌∷◌, Option, Some, None, if◌then◌else◌}
use Rattle.std.specs.Option.{option_map, IsSome}
use Rattle.std.specs.declared.alloc.Global.{Global}
use Rattle.std.specs.declared.vec.Vec.{Vec}
use Rattle.arrow_spec.specs.Kinds.{same}
use Rattle.arrow_arrays.specs.Parts.{Forest}
use Rattle.arrow_arrays.specs.PartsOf.{forest_of}
use Rattle.arrow_arrays.specs.declared.array.Array.{Array}
use Rattle.ipc_dictionaries.specs.declared.changes.Change.{Change}
use Rattle.ipc_dictionaries.specs.Tracker.{Held}

abbrev pub parts_in : Option (Vec Array Global) → Option Forest
parts_in parts = option_map (λ v. forest_of v.items) parts

-- under the id stands again what stood there
abbrev pub one_undone : Change → Held → Held
one_undone c held = λ q. if same c.id q then parts_in c.parts else held q

-- what was held before some changes: the last is undone first
abbrev pub undone : List Change → Held → Held
undone [] held = held
undone (c ∷ cs) held = one_undone c (undone cs held)

-- where something stood under an id, something still does
abbrev pub StillStands : Option (Vec Array Global) → Option Forest → Type 0
StillStands None now = ⊤
StillStands (Some parts) now = IsSome now

-- so it is given back in the place that it had, which takes no memory
abbrev pub CanUndo : List Change → Held → Type 0
CanUndo [] held = ⊤
CanUndo (c ∷ cs) held = CanUndo cs held × StillStands c.parts (undone cs held c.id)

-- undone, the changes give back what was held
pub record Restores (changes : List Change) (held before : Held) : Type 0 where
  pub can : CanUndo changes held
  pub given : (q : ℤ) → undone changes held q ≡ before q
