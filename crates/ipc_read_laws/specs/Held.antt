-- The dictionaries under which arrays are read. (Arrow Columnar Format, "Dictionary Messages".)
use Rattle.std.specs.Prelude.{◌≡◌, ℤ, None, Option, IfSome, true}
use Rattle.std.specs.Option.{option_map}
use Rattle.arrow_spec.specs.Kinds as kind
use Rattle.arrow_spec.specs.Kinds.{Kind, Fields, field, «list», fixed_size_list, struct, map, union, dictionary, extension, uses_in, values_under}
use Rattle.arrow_spec.specs.Arrays.{Dictionaries, found}
use Rattle.arrow_arrays.specs.Heads.{joined, each_of}
use Rattle.arrow_arrays.specs.Parts.{Forest, kinds_each, cells_each, fault_each}
use Rattle.ipc_read_laws.specs.PlainKinds.{plain_kind}

-- the parts that are held under an id, in order
abbrev pub Held : Type 0
Held = ℤ → Option Forest

abbrev pub none_held : Held
none_held id = None

-- under each id the parts have the cells of the messages that were read, one part after another
abbrev pub HoldsCells : Dictionaries → Held → Type 0
HoldsCells d h = (id : ℤ) → found d id ≡ option_map (λ parts. joined (cells_each parts)) (h id)

-- there is a part; each is an array, and of the kind of the values
pub record AreValuesOf (k : Kind) (parts : Forest) : Type 0 where
  pub kinds : each_of (plain_kind k) (kinds_each parts) ≡ true
  pub sound : fault_each parts ≡ None

-- what holds of the parts that are held for each dictionary that stands outermost in a kind, by the kind of its values, and in fields
abbrev mutual
  pub AllHeld : (Kind → Forest → Type 0) → Held → Kind → Type 0
  AllHeld P h («list» o fs) = AllHeldIn P h fs
  AllHeld P h (fixed_size_list size fs) = AllHeldIn P h fs
  AllHeld P h (struct fs) = AllHeldIn P h fs
  AllHeld P h (map sorted fs) = AllHeldIn P h fs
  AllHeld P h (union mode stated ids fs) = AllHeldIn P h fs
  AllHeld P h (dictionary t ordered id k) = IfSome (h id) (P k)
  AllHeld P h (extension name metadata k) = AllHeld P h k
  AllHeld P h k = Unit {0}

  pub AllHeldIn : (Kind → Forest → Type 0) → Held → Fields → Type 0
  AllHeldIn P h kind.none = Unit {0}
  AllHeldIn P h (field name nullable metadata k others) = AllHeld P h k × AllHeldIn P h others

-- they are arrays of the values' kind
abbrev pub HoldsKinds : Held → Kind → Type 0
HoldsKinds h k = AllHeld AreValuesOf h k

abbrev pub HoldsFields : Held → Fields → Type 0
HoldsFields h fs = AllHeldIn AreValuesOf h fs

-- there is a part, and each is of the values' kind
abbrev pub HasKind : Kind → Forest → Type 0
HasKind k parts = each_of (plain_kind k) (kinds_each parts) ≡ true

abbrev pub HasKinds : Held → Kind → Type 0
HasKinds h k = AllHeld HasKind h k

abbrev pub HasFields : Held → Fields → Type 0
HasFields h fs = AllHeldIn HasKind h fs

-- the kind of the values under an id of columns
abbrev pub values_of_id : Fields → ℤ → Option Kind
values_of_id fs id = values_under id (uses_in fs)

-- the parts that are held under an id are of the kind of its values
abbrev pub HasKindOf : Fields → Held → ℤ → Type 0
HasKindOf fs h id = IfSome (values_of_id fs id) (λ k. IfSome (h id) (HasKind k))
