-- What a stream tells of dictionaries by the messages of a walk over a batch's arrays. (Arrow Columnar Format, "Dictionary Messages".)
use Rattle.std.specs.Prelude.{◌≡◌, ◌++◌, ◌||◌, ℤ, List, [], ◌∷◌, Bool, true, false, Option, Some, None, if◌then◌else◌, ◌⊎◌}
use Rattle.arrow_spec.specs.Kinds.{Kind, Fields, Use, is_same_kind, same, uses_in, values_under}
use Rattle.arrow_spec.specs.Cells.{Cell}
use Rattle.arrow_spec.specs.Arrays.{cells_before}
use Rattle.ipc_messages.specs.Below.{child_fields, indexed, joined, Parts, Forest, leaf, nested, none, also, kind_in, cells_in, cells_each, fault_in, Ids, kind_with, id_under, first_id, first_ids, other_ids, use_as, Sending, ToSend}
use Rattle.laws_columns.specs.Below.{dictionary_id, first_kind, is_alike, other_fields}

-- the cells of parts that are held
abbrev pub cells_held : Option Forest → Option (List Cell)
cells_held None = None
cells_held (Some parts) = Some (joined (cells_each parts))

-- the cells under an id behind a message, and behind several, by those before them
abbrev pub with_part : ℤ → ToSend → Option (List Cell) → Option (List Cell)
with_part q s old = if same s.id q then Some (cells_before s.is_delta old ++ cells_in s.part) else old

abbrev pub heard : ℤ → List ToSend → Option (List Cell) → Option (List Cell)
heard q [] old = old
heard q (s ∷ ss) old = heard q ss (with_part q s old)

-- whether a dictionary under an id stands in an array at any depth, under the ids of the array's IPC field; in one of several arrays; and in one of a dictionary's parts
abbrev mutual
  pub stands_in : ℤ → Parts → Option ℤ → Ids → Bool
  stands_in q (leaf l) id below = false
  stands_in q (nested (indexed d) parts) id below = same (id_under id) q || stands_in_parts q parts below
  stands_in q (nested h children) id below = stands_in_each q children below

  pub stands_in_each : ℤ → Forest → Ids → Bool
  stands_in_each q none below = false
  stands_in_each q (also p ps) below = stands_in q p (first_id below) (first_ids below) || stands_in_each q ps (other_ids below)

  pub stands_in_parts : ℤ → Forest → Ids → Bool
  stands_in_parts q none below = false
  stands_in_parts q (also p ps) below = stands_in q p None below || stands_in_parts q ps below

-- no dictionary stands in the values of one of its own id
abbrev mutual
  pub IsApart : Parts → Option ℤ → Ids → Type 0
  IsApart (leaf l) id below = Unit {0}
  IsApart (nested (indexed d) parts) id below = (stands_in_parts (id_under id) parts below ≡ false) × PartsAreApart parts below
  IsApart (nested h children) id below = AreApart children below

  pub AreApart : Forest → Ids → Type 0
  AreApart none below = Unit {0}
  AreApart (also p ps) below = IsApart p (first_id below) (first_ids below) × AreApart ps (other_ids below)

  pub PartsAreApart : Forest → Ids → Type 0
  PartsAreApart none below = Unit {0}
  PartsAreApart (also p ps) below = IsApart p None below × PartsAreApart ps below

-- ── values that are fixed ──

-- the cells that are known begin with those, if there are any; where no deltas are sent they are the same
abbrev pub GoesOn : Option (List Cell) → Bool → Option (List Cell) → Type 0
GoesOn None deltas now = Unit {0}
GoesOn (Some cells) true now = (more : List Cell) × (now ≡ Some (cells ++ more))
GoesOn (Some cells) false now = now ≡ Some cells

-- The ids of the dictionaries that stand outermost in an array are fixed, and what is held under them begins with their values, under the ids of the array's IPC field; and of several arrays.
abbrev mutual
  pub AreFixed : Bool → Sending → Parts → Option ℤ → Ids → Type 0
  AreFixed deltas t (leaf l) id below = Unit {0}
  AreFixed deltas t (nested (indexed d) parts) id below =
      (t.used (id_under id) ≡ true) × GoesOn (Some (joined (cells_each parts))) deltas (cells_held (t.held (id_under id)))
  AreFixed deltas t (nested h children) id below = AllAreFixed deltas t children below

  pub AllAreFixed : Bool → Sending → Forest → Ids → Type 0
  AllAreFixed deltas t none below = Unit {0}
  AllAreFixed deltas t (also p ps) below = AreFixed deltas t p (first_id below) (first_ids below) × AllAreFixed deltas t ps (other_ids below)

-- ── messages that may stand ──

-- what a stream knows begins with the values of each dictionary that stands outermost in an array, under the ids of the array's IPC field; and in several arrays
abbrev mutual
  pub HasValues : Bool → (ℤ → Option (List Cell)) → Parts → Option ℤ → Ids → Type 0
  HasValues deltas c (leaf l) id below = Unit {0}
  HasValues deltas c (nested (indexed d) parts) id below = GoesOn (Some (joined (cells_each parts))) deltas (c (id_under id))
  HasValues deltas c (nested h children) id below = AllHaveValues deltas c children below

  pub AllHaveValues : Bool → (ℤ → Option (List Cell)) → Forest → Ids → Type 0
  AllHaveValues deltas c none below = Unit {0}
  AllHaveValues deltas c (also p ps) below = HasValues deltas c p (first_id below) (first_ids below) × AllHaveValues deltas c ps (other_ids below)

-- a use is one of some
abbrev pub IsAmong : Use → List Use → Type 0
IsAmong u [] = ⊥
IsAmong u (v ∷ vs) = (u ≡ v) ⊎ IsAmong u vs

-- a message's part is of the kind of a use of its id, names, nullability and metadata aside, and the stream knows the values of the dictionaries in it
pub record Stands (deltas : Bool) (us : List Use) (c : ℤ → Option (List Cell)) (m : ToSend) : Type 0 where
  pub kind : Kind
  pub below : Ids
  pub among : IsAmong (use_as m.id (kind_with kind None below)) us
  pub alike : is_same_kind kind (kind_in m.part) ≡ true
  pub sound : fault_in m.part ≡ None
  pub values : HasValues deltas c m.part None below

-- each of some messages, behind those before it
abbrev pub AllStand : Bool → List Use → (ℤ → Option (List Cell)) → List ToSend → Type 0
AllStand deltas us c [] = Unit {0}
AllStand deltas us c (m ∷ ms) = Stands deltas us c m × AllStand deltas us (λ q. with_part q m (c q)) ms

-- ── by what a stream's fields state ──

-- what a stream knows begins with the values of each dictionary that stands outermost in an array, under the id that a kind states for it; and in several arrays, under those of fields
abbrev mutual
  pub HasValuesAt : Bool → (ℤ → Option (List Cell)) → Kind → Parts → Type 0
  HasValuesAt deltas c k (leaf l) = Unit {0}
  HasValuesAt deltas c k (nested (indexed d) parts) = GoesOn (Some (joined (cells_each parts))) deltas (c (dictionary_id k))
  HasValuesAt deltas c k (nested h children) = AllHaveValuesAt deltas c (child_fields k) children

  pub AllHaveValuesAt : Bool → (ℤ → Option (List Cell)) → Fields → Forest → Type 0
  AllHaveValuesAt deltas c fs none = Unit {0}
  AllHaveValuesAt deltas c fs (also p ps) = HasValuesAt deltas c (first_kind fs) p × AllHaveValuesAt deltas c (other_fields fs) ps

-- a message's part is sound, and of the kind that fields have under its id, ids, names, nullability and metadata aside; and the stream knows the values of the dictionaries in it
pub record MayStand (deltas : Bool) (fs : Fields) (c : ℤ → Option (List Cell)) (m : ToSend) : Type 0 where
  pub kind : Kind
  pub under : values_under m.id (uses_in fs) ≡ Some kind
  pub alike : is_alike (kind_in m.part) kind ≡ true
  pub sound : fault_in m.part ≡ None
  pub values : HasValuesAt deltas c kind m.part

-- each of some messages, behind those before it
abbrev pub AllMayStand : Bool → Fields → (ℤ → Option (List Cell)) → List ToSend → Type 0
AllMayStand deltas fs c [] = Unit {0}
AllMayStand deltas fs c (m ∷ ms) = MayStand deltas fs c m × AllMayStand deltas fs (λ q. with_part q m (c q)) ms
