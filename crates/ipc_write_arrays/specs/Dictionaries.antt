-- The dictionaries that the keys of an array count into, and which keys are numbers of a type. (Arrow Columnar Format, "Dictionary-encoded Layout".)
use Rattle.std.specs.Prelude.{◌≡◌, ◌++◌, ℕ, ◌^◌, ◌<◌, List, Bool, Option, Some, ℤ, pos, negsuc, FitsSigned}
use Rattle.std.specs.Int.{w8, w16, w32, w64, w128}
use Rattle.arrow_spec.specs.declared.types.IntegerType.{IntegerType}
use Rattle.arrow_spec.specs.declared.types.IntegerType.TheVariants.{Int8, Int16, Int32, Int64, Int128, UInt8, UInt16, UInt32, UInt64}
use Rattle.arrow_spec.specs.Kinds as kind
use Rattle.arrow_spec.specs.Kinds.{Kind, Fields, is_same_kind}
use Rattle.arrow_spec.specs.Cells.{Cell}
use Rattle.arrow_spec.specs.Arrays.{Dictionaries, found}
use Rattle.arrow_arrays.specs.Heads.{indexed, joined, child_fields}
use Rattle.arrow_arrays.specs.Parts.{Parts, Forest, leaf, nested, none, also, kind_in, cells_each}
use Rattle.ipc_read_laws.specs.PlainKinds.{plain_kind}

-- a number that has no sign and is below another
abbrev pub IsBelow : ℕ → ℤ → Type 0
IsBelow n (pos k) = k < n
IsBelow n (negsuc k) = ⊥

-- a key is one of the numbers of its type
abbrev pub KeyFits : IntegerType → ℤ → Type 0
KeyFits Int8 key = FitsSigned w8 key
KeyFits Int16 key = FitsSigned w16 key
KeyFits Int32 key = FitsSigned w32 key
KeyFits Int64 key = FitsSigned w64 key
KeyFits Int128 key = FitsSigned w128 key
KeyFits UInt8 key = IsBelow (2 ^ 8) key
KeyFits UInt16 key = IsBelow (2 ^ 16) key
KeyFits UInt32 key = IsBelow (2 ^ 32) key
KeyFits UInt64 key = IsBelow (2 ^ 64) key

-- the id that a kind of dictionaries states, extensions looked through; 0 for other kinds
abbrev pub dictionary_id : Kind → ℤ
dictionary_id (kind.dictionary index ordered id k) = id
dictionary_id (kind.extension name metadata k) = dictionary_id k
dictionary_id k = pos 0

-- ── the values of dictionaries ──

-- one kind, ids, names, nullability and metadata aside
abbrev pub is_alike : Kind → Kind → Bool
is_alike k l = is_same_kind (plain_kind k) (plain_kind l)

-- the kind of the first field, and the fields behind it; that of nulls, and none, where there is none
abbrev pub first_kind : Fields → Kind
first_kind kind.none = kind.null
first_kind (kind.field name nullable metadata k others) = k

abbrev pub other_fields : Fields → Fields
other_fields kind.none = kind.none
other_fields (kind.field name nullable metadata k others) = others

-- what is known under an id begins with some values: those are all, or others go on with them
abbrev pub Begins : List Cell → Option (List Cell) → Type 0
Begins xs known = (more : List Cell) × (known ≡ Some (xs ++ more))

-- The values of each dictionary that stands in an array were read under the id that a kind alike to the array's states for it, first of what was. Of those below values nothing is asked: they were read with these.
abbrev mutual
  pub HoldsValuesAt : Dictionaries → Kind → Parts → Type 0
  HoldsValuesAt d k (leaf l) = Unit {0}
  HoldsValuesAt d k (nested (indexed x) cs) = Begins (joined (cells_each cs)) (found d (dictionary_id k))
  HoldsValuesAt d k (nested h cs) = HoldsEachAt d (child_fields k) cs

  pub HoldsEachAt : Dictionaries → Fields → Forest → Type 0
  HoldsEachAt d fs none = Unit {0}
  HoldsEachAt d fs (also p cs) = HoldsValuesAt d (first_kind fs) p × HoldsEachAt d (other_fields fs) cs

-- under the ids of the array's own kind
abbrev pub HoldsValues : Dictionaries → Parts → Type 0
HoldsValues d p = HoldsValuesAt d (kind_in p) p
