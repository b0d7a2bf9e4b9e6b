-- Schemas that are read back as they are written.
use Rattle.std.specs.Prelude.{◌≡◌, ℕ, zero, suc, ◌+◌, ◌^◌, ◌<◌, ◌≤◌, List, [], ◌∷◌, ◌++◌, length, Bool, true, false, Option, Some, None, Ok, ℤ, FitsSigned, nat_le, nat_lt, nat_eq, ◌&&◌}
use Rattle.std.specs.List.{AllByRecursion}
use Rattle.std.specs.Int.{w64}
use Rattle.std.specs.Str.{is_utf8, bytes_eq}
use Rattle.arrow_spec.specs.Kinds.{Kind, Fields, none, field, Metadata, width, time32, time64, timestamp, decimal, decimal256, fixed_size_binary, «list», fixed_size_list, struct, map, union, dictionary, extension, unit_number, Use, uses_in}
use Rattle.arrow_spec.specs.Schema.{Before, are_ids, counted_ids, extension_name, extension_metadata, first_is_struct_of_two, has_distinct_names, own_pairs, stands_before, uses_agree, value_of}

-- ── pairs ──

-- a key stands behind each of some pairs
abbrev pub IsBehind : Metadata → List ℕ → Type 0
IsBehind [] key = Unit {0}
IsBehind (x ∷ xs) key = (bytes_eq key x.0 ≡ false) × (stands_before key x.0 ≡ false) × IsBehind xs key

-- pairs of texts that ascend by their keys, behind some others
abbrev pub Ascend : Metadata → Metadata → Type 0
Ascend m [] = Unit {0}
Ascend m (x ∷ xs) = (is_utf8 x.0 ≡ true) × (is_utf8 x.1 ≡ true) × IsBehind m x.0 × Ascend (m ++ x ∷ []) xs

-- the pairs of a footer or of a message that may be written
pub record CustomMayBeWritten (custom : Metadata) : Type 0 where
  pub ascend : Ascend [] custom
  pub few : length custom ≤ 1048576

-- a field's own pairs, none of which has a reserved key
pub record AreFieldPairs (m : Metadata) : Type 0 where
  pub ascend : Ascend [] m
  pub no_name : value_of extension_name m ≡ None
  pub no_metadata : value_of extension_metadata m ≡ None

-- the pairs that are written with a field: those of its extension stand first
abbrev pub extension_first : Option (List ℕ) → Metadata → Metadata
extension_first None pairs = pairs
extension_first (Some value) pairs = (extension_metadata, value) ∷ pairs

-- by the field's kind
abbrev pub pairs_for : Kind → Metadata → Metadata
pairs_for (extension name metadata k) pairs = extension_first metadata ((extension_name, name) ∷ own_pairs pairs)
pairs_for (dictionary t ordered id (extension name metadata k)) pairs = extension_first metadata ((extension_name, name) ∷ own_pairs pairs)
pairs_for k pairs = own_pairs pairs

-- ── kinds ──

-- a text, or none
abbrev pub IsText : Option (List ℕ) → Type 0
IsText None = Unit {0}
IsText (Some t) = is_utf8 t ≡ true

-- ids that are not stated count from 0
abbrev pub AreStated : Bool → List ℤ → ℕ → Type 0
AreStated true ids n = Unit {0}
AreStated false ids n = ids ≡ counted_ids 0 n

-- where a kind stands: a dictionary stands at a field alone, and an extension at a field or as a dictionary's values
pub data Part : Type 0 where
  of_field : Part
  of_dictionary : Part
  of_extension : Part

-- a kind whose numbers fit and whose texts are texts, with fields in at most so many levels below it
abbrev mutual
  pub KindFits : Part → ℕ → Kind → Type 0
  KindFits at levels (time32 u) = nat_lt (unit_number u) 2 ≡ true
  KindFits at levels (time64 u) = nat_le 2 (unit_number u) ≡ true
  KindFits at levels (timestamp u tz) = IsText tz
  KindFits at levels (decimal precision scale) = (precision < 2 ^ 31) × (scale < 2 ^ 31)
  KindFits at levels (decimal256 precision scale) = (precision < 2 ^ 31) × (scale < 2 ^ 31)
  KindFits at levels (fixed_size_binary n) = (0 < n) × (n < 2 ^ 31)
  KindFits at levels («list» o fs) = (width fs ≡ 1) × FieldsFit levels fs
  KindFits at levels (fixed_size_list n fs) = (width fs ≡ 1) × (0 < n) × (n < 2 ^ 31) × FieldsFit levels fs
  KindFits at levels (struct fs) = FieldsFit levels fs
  KindFits at levels (map sorted fs) = (width fs ≡ 1) × (first_is_struct_of_two fs ≡ true) × FieldsFit levels fs
  KindFits at levels (union mode stated ids fs) =
      ((are_ids ids && nat_eq (length ids) (width fs) && nat_lt 0 (width fs)) ≡ true) × AreStated stated ids (width fs) × FieldsFit levels fs
  KindFits of_field levels (dictionary t ordered id k) = KindFits of_dictionary levels k
  KindFits of_dictionary levels (dictionary t ordered id k) = ⊥
  KindFits of_extension levels (dictionary t ordered id k) = ⊥
  KindFits of_field levels (extension name metadata k) = (is_utf8 name ≡ true) × IsText metadata × KindFits of_extension levels k
  KindFits of_dictionary levels (extension name metadata k) = (is_utf8 name ≡ true) × IsText metadata × KindFits of_extension levels k
  KindFits of_extension levels (extension name metadata k) = ⊥
  KindFits at levels k = Unit {0}

  pub FieldsFit : ℕ → Fields → Type 0
  FieldsFit levels none = Unit {0}
  FieldsFit zero (field name nullable metadata k others) = ⊥
  FieldsFit (suc levels) (field name nullable metadata k others) =
      (is_utf8 name ≡ true) × AreFieldPairs metadata × KindFits of_field levels k × FieldsFit (suc levels) others

-- the same fields with their own pairs alone, without reserved keys
abbrev mutual
  pub own_kind : Kind → Kind
  own_kind («list» o fs) = «list» o (own_fields fs)
  own_kind (fixed_size_list n fs) = fixed_size_list n (own_fields fs)
  own_kind (struct fs) = struct (own_fields fs)
  own_kind (map sorted fs) = map sorted (own_fields fs)
  own_kind (union mode stated ids fs) = union mode stated ids (own_fields fs)
  own_kind (dictionary t ordered id k) = dictionary t ordered id (own_kind k)
  own_kind (extension name metadata k) = extension name metadata (own_kind k)
  own_kind k = k

  pub own_fields : Fields → Fields
  own_fields none = none
  own_fields (field name nullable metadata k others) = field name nullable (own_pairs metadata) (own_kind k) (own_fields others)

-- the texts of a kind and of fields are texts, and the fields' pairs ascend
abbrev mutual
  pub KindHasTexts : Kind → Type 0
  KindHasTexts (timestamp u tz) = IsText tz
  KindHasTexts («list» o fs) = HaveTexts fs
  KindHasTexts (fixed_size_list n fs) = HaveTexts fs
  KindHasTexts (struct fs) = HaveTexts fs
  KindHasTexts (map sorted fs) = HaveTexts fs
  KindHasTexts (union mode stated ids fs) = HaveTexts fs
  KindHasTexts (dictionary t ordered id k) = KindHasTexts k
  KindHasTexts (extension name metadata k) = (is_utf8 name ≡ true) × IsText metadata × KindHasTexts k
  KindHasTexts k = Unit {0}

  pub HaveTexts : Fields → Type 0
  HaveTexts none = Unit {0}
  HaveTexts (field name nullable metadata k others) = (is_utf8 name ≡ true) × Ascend [] metadata × KindHasTexts k × HaveTexts others

-- no field's pairs have reserved keys
abbrev mutual
  pub KindHasNoReserved : Kind → Type 0
  KindHasNoReserved («list» o fs) = HaveNoReserved fs
  KindHasNoReserved (fixed_size_list n fs) = HaveNoReserved fs
  KindHasNoReserved (struct fs) = HaveNoReserved fs
  KindHasNoReserved (map sorted fs) = HaveNoReserved fs
  KindHasNoReserved (union mode stated ids fs) = HaveNoReserved fs
  KindHasNoReserved (dictionary t ordered id k) = KindHasNoReserved k
  KindHasNoReserved (extension name metadata k) = KindHasNoReserved k
  KindHasNoReserved k = Unit {0}

  pub HaveNoReserved : Fields → Type 0
  HaveNoReserved none = Unit {0}
  HaveNoReserved (field name nullable metadata k others) =
      (value_of extension_name metadata ≡ None) × (value_of extension_metadata metadata ≡ None) × KindHasNoReserved k × HaveNoReserved others

-- the sizes, precisions and scales of a kind and of fields, in preorder
abbrev mutual
  pub sizes_of : Kind → List ℕ
  sizes_of (decimal precision scale) = precision ∷ scale ∷ []
  sizes_of (decimal256 precision scale) = precision ∷ scale ∷ []
  sizes_of (fixed_size_binary n) = n ∷ []
  sizes_of («list» o fs) = sizes_in fs
  sizes_of (fixed_size_list n fs) = n ∷ sizes_in fs
  sizes_of (struct fs) = sizes_in fs
  sizes_of (map sorted fs) = sizes_in fs
  sizes_of (union mode stated ids fs) = sizes_in fs
  sizes_of (dictionary t ordered id k) = sizes_of k
  sizes_of (extension name metadata k) = sizes_of k
  sizes_of k = []

  pub sizes_in : Fields → List ℕ
  sizes_in none = []
  sizes_in (field name nullable metadata k others) = sizes_of k ++ sizes_in others

-- each is a signed number of 32 bits (Schema.fbs: byteWidth, listSize, precision, scale)
abbrev pub AreSizes : List ℕ → Type 0
AreSizes ns = AllByRecursion (λ n. n < 2 ^ 31) ns

-- each is a signed number of 64 bits (Schema.fbs, DictionaryEncoding: id)
abbrev pub AreIds : List Use → Type 0
AreIds us = AllByRecursion (λ u. FitsSigned w64 u.id) us

-- the fields and pairs that stand before what follows a kind or fields
abbrev mutual
  pub after_kind : Kind → Before → Before
  after_kind («list» o fs) p = after_fields fs p
  after_kind (fixed_size_list n fs) p = after_fields fs p
  after_kind (struct fs) p = after_fields fs p
  after_kind (map sorted fs) p = after_fields fs p
  after_kind (union mode stated ids fs) p = after_fields fs p
  after_kind (dictionary t ordered id k) p = after_kind k p
  after_kind (extension name metadata k) p = after_kind k p
  after_kind k p = p

  pub after_fields : Fields → Before → Before
  after_fields none p = p
  after_fields (field name nullable metadata k others) p =
      after_fields others (after_kind k (record { fields = suc p.fields; pairs = p.pairs + length (pairs_for k metadata) }))

-- a schema that may be written, its ids aside
pub record SchemaMayBeWritten (fs : Fields) (pairs : Metadata) : Type 0 where
  pub fit : FieldsFit 64 fs
  pub ascend : Ascend [] pairs
  pub few_fields : (after_fields fs (record { fields = 0; pairs = length pairs })).fields ≤ 65536
  pub few_pairs : (after_fields fs (record { fields = 0; pairs = length pairs })).pairs ≤ 1048576
  pub distinct : has_distinct_names fs ≡ true

-- ids that may be written: each is a signed number of 64 bits, and all values under one are of one kind
pub record IdsMayBeWritten (fs : Fields) : Type 0 where
  pub within : AreIds (uses_in fs)
  pub agree : uses_agree [] (uses_in fs) ≡ Ok tt
