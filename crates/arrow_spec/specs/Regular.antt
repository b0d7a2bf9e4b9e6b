-- Schemas that are written and read back as they are, and schemas that the format's tables can say. (Arrow Columnar Format, "Schema message".)
use Rattle.std.specs.Prelude.{ℕ, suc, ◌+◌, List, [], ◌∷◌, ◌++◌, length, Bool, true, false, Some, None, ℤ, pos, negsuc, nat_le, nat_lt, nat_eq, ◌&&◌, ◌||◌, sum_by}
use Rattle.arrow_spec.specs.Kinds.{Kind, Fields, none, field, Metadata, time32, time64, decimal, decimal256, fixed_size_binary, «list», fixed_size_list, struct, map, union, dictionary, extension, width, unit_number, are_same_ids}
use Rattle.arrow_spec.specs.Schema.{are_ids, counted_ids, first_is_struct_of_two, has_distinct_names, own_pairs}

-- a field of the schema: its level, its own pairs and its kind
pub record Standing : Type 0 where
  pub level : ℕ
  pub metadata : Metadata
  pub kind : Kind

-- the fields in preorder, those of a level and below; a dictionary and an extension add no level
abbrev mutual
  pub fields_below : ℕ → Kind → List Standing
  fields_below level («list» o fs) = fields_from (suc level) fs
  fields_below level (fixed_size_list n fs) = fields_from (suc level) fs
  fields_below level (struct fs) = fields_from (suc level) fs
  fields_below level (map sorted fs) = fields_from (suc level) fs
  fields_below level (union mode stated ids fs) = fields_from (suc level) fs
  fields_below level (dictionary index ordered id k) = fields_below level k
  fields_below level (extension name metadata k) = fields_below level k
  fields_below level k = []

  pub fields_from : ℕ → Fields → List Standing
  fields_from level none = []
  fields_from level (field name nullable metadata k others) =
      record { level = level; metadata = metadata; kind = k } ∷ fields_below level k ++ fields_from level others

-- the pairs that are written for an extension
abbrev pub extension_pairs : Kind → ℕ
extension_pairs (extension name None k) = 1
extension_pairs (extension name (Some metadata) k) = 2
extension_pairs (dictionary index ordered id k) = extension_pairs k
extension_pairs k = 0

-- how many pairs are written for a field: its own, without reserved keys, and its extension's
abbrev pub pairs_of_field : Standing → ℕ
pairs_of_field f = length (own_pairs f.metadata) + extension_pairs f.kind

-- no extension
abbrev pub is_no_extension : Kind → Bool
is_no_extension (extension name metadata k) = false
is_no_extension k = true

-- No size is 0, a unit goes with its width, a list has one child, a map's is a struct of two fields, and no extension stands directly in an extension.
abbrev pub is_regular_kind : Kind → Bool
is_regular_kind (time32 u) = nat_le (unit_number u) 1
is_regular_kind (time64 u) = nat_le 2 (unit_number u)
is_regular_kind (fixed_size_binary n) = nat_lt 0 n
is_regular_kind («list» o fs) = nat_eq (width fs) 1
is_regular_kind (fixed_size_list n fs) = nat_lt 0 n && nat_eq (width fs) 1
is_regular_kind (map sorted fs) = nat_eq (width fs) 1 && first_is_struct_of_two fs
is_regular_kind (dictionary index ordered id k) = is_regular_kind k
is_regular_kind (extension name metadata k) = is_no_extension k && is_regular_kind k
is_regular_kind k = true

-- at most 64 levels deep
abbrev pub is_regular_field : Standing → Bool
is_regular_field f = nat_le f.level 64 && is_regular_kind f.kind

-- each of them
abbrev pub are_regular : List Standing → Bool
are_regular [] = true
are_regular (f ∷ fs) = is_regular_field f && are_regular fs

-- with the pairs that are written with the schema
abbrev pub regular : Fields → Metadata → Bool
regular fs pairs = nat_le (length (fields_from 1 fs)) 65536 && nat_le (length pairs + sum_by (λ f. pairs_of_field f) (fields_from 1 fs)) 1048576
    && are_regular (fields_from 1 fs) && has_distinct_names fs

-- ── what the tables of a schema can say ──

-- a size, a precision or a scale is a signed number of 32 bits (Schema.fbs: byteWidth, listSize, precision, scale)
abbrev pub is_size : ℕ → Bool
is_size n = nat_le n 2147483647

-- an id is a signed number of 64 bits (Schema.fbs, DictionaryEncoding)
abbrev pub is_dictionary_id : ℤ → Bool
is_dictionary_id (pos n) = nat_le n 9223372036854775807
is_dictionary_id (negsuc n) = nat_le n 9223372036854775807

-- no dictionary
abbrev pub is_no_dictionary : Kind → Bool
is_no_dictionary (dictionary index ordered id k) = false
is_no_dictionary k = true

-- a union's ids are distinct, from 0 to 127, one for each child, and there is a child; those that are not stated count from 0 (Schema.fbs, Union)
abbrev pub has_right_ids : Bool → List ℤ → ℕ → Bool
has_right_ids stated ids n = are_ids ids && nat_eq (length ids) n && nat_lt 0 n && (stated || are_same_ids ids (counted_ids 0 n))

-- Sizes and ids fit, a union's ids are right, and no dictionary stands directly in a dictionary or in an extension: a Field has one type table and one DictionaryEncoding.
abbrev pub is_representable_kind : Kind → Bool
is_representable_kind (decimal precision scale) = is_size precision && is_size scale
is_representable_kind (decimal256 precision scale) = is_size precision && is_size scale
is_representable_kind (fixed_size_binary n) = is_size n
is_representable_kind (fixed_size_list n fs) = is_size n
is_representable_kind (union mode stated ids fs) = has_right_ids stated ids (width fs)
is_representable_kind (dictionary index ordered id k) = is_dictionary_id id && is_no_dictionary k && is_representable_kind k
is_representable_kind (extension name metadata k) = is_no_dictionary k && is_representable_kind k
is_representable_kind k = true

-- each of them
abbrev pub are_representable : List Standing → Bool
are_representable [] = true
are_representable (f ∷ fs) = is_representable_kind f.kind && are_representable fs

-- a schema's fields, those of all levels
abbrev pub representable : Fields → Bool
representable fs = are_representable (fields_from 1 fs)
