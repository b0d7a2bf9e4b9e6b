-- What stands under arrays without rows, and the mode of unions. (Arrow Columnar Format, "Union Layout", "Dictionary-encoded Layout".)
use Rattle.std.specs.Prelude.{◌≡◌, ◌∷◌, [], Bool, true, false, Option, Some, None, ℤ, List, pos}
use Rattle.arrow_spec.specs.declared.types.IntegerType.{IntegerType}
use Rattle.arrow_spec.specs.Kinds as kind
use Rattle.arrow_spec.specs.Kinds.{Kind, Fields}
use Rattle.arrow_arrays.specs.LeafParts.{LeafParts, binary, text}
use Rattle.arrow_arrays.specs.Heads.{Indexed, are_of, are_all, is_mode, child_fields, values_kind, each_of}
use Rattle.arrow_arrays.specs.Parts.{Forest, none, also, kinds_each, rows_each, fault_each}
use Rattle.arrow_arrays.specs.EmptyParts.{empty_parts, empty_forest}

-- what arrays have that stand under the fields, each without rows
pub record EmptyUnder (fs : Fields) (cs : Forest) : Type 0 where
  pub kinds : are_of fs (kinds_each cs) ≡ true
  pub rows : are_all 0 (rows_each cs) ≡ true
  pub sound : fault_each cs ≡ None

-- what arrays have that are the parts of a dictionary
pub record ValuesUnder (k : Kind) (cs : Forest) : Type 0 where
  pub kinds : each_of (values_kind k) (kinds_each cs) ≡ true
  pub sound : fault_each cs ≡ None

-- unions that are dense, extensions looked through
abbrev pub is_dense : Kind → Bool
is_dense (kind.union mode stated ids fs) = is_mode true mode
is_dense (kind.extension name metadata k) = is_dense k
is_dense k = false

-- the offsets of no rows, where unions are dense
abbrev pub no_places : Bool → Option (List ℤ)
no_places true = Some []
no_places false = None

-- texts, or byte strings, between offsets
abbrev pub empty_variable : Bool → Kind → LeafParts
empty_variable true k = text (record { kind = k; offsets = pos 0 ∷ []; values = []; validity = None })
empty_variable false k = binary (record { kind = k; offsets = pos 0 ∷ []; values = []; validity = None })

-- the top of a dictionary
abbrev pub empty_indexed : Kind → IntegerType → Indexed
empty_indexed k t = record { kind = k; index = t; keys = []; validity = None }

-- the kind of a dictionary's values, extensions looked through
abbrev pub values_in : Kind → Option Kind
values_in (kind.dictionary t ordered id k) = Some k
values_in (kind.extension name metadata k) = values_in k
values_in k = None

-- what stands under the array of a kind, extensions looked through: the part of a dictionary, or one array a field
abbrev pub empty_below : Kind → Forest
empty_below (kind.dictionary t ordered id k) = also (empty_parts k) none
empty_below (kind.extension name metadata k) = empty_below k
empty_below k = empty_forest (child_fields k)
