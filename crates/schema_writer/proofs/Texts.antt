-- The texts of a schema are texts, and its pairs ascend.
use Rattle.std.proofs.Common.{◌≡◌, ℕ, List, [], ◌∷◌, Bool, true, Option, Some, None, ℤ, String, Global, string_bytes, string_cmp, rules, sym, subst, ap, ◌∙◌, false, Box, Result, Ok, Err, IfOk}
use Rattle.std.specs.Prelude.{map}
use Rattle.std.specs.Option.{option_map}
use Rattle.std.specs.Str.{is_utf8}
use Rattle.std.specs.List.Sorted.{IsStrictlySortedBy}
use Rattle.std.proofs.lemmas.Str.{IsUtf8-string_bytes, is_utf8-from_IsUtf8}
use Rattle.arrow_spec.specs.Kinds as kind
use Rattle.arrow_spec.specs.Kinds.{Kind, Fields, Metadata, Offsets}
use Rattle.arrow_spec.specs.declared.types.TimeUnit.{TimeUnit}
use Rattle.arrow_spec.specs.declared.types.UnionMode.{UnionMode}
use Rattle.arrow_spec.specs.declared.types.IntegerType.{IntegerType}
use Rattle.arrow_spec.specs.WrittenSchemas.{HaveTexts, KindHasTexts, IsText}
use Rattle.arrow_spec.proofs.SchemaPairs.{AreTexts}
use Rattle.arrow_spec.proofs.ReadPairs.{sorted_ascend}
use Rattle.arrow_types.specs.Child.{Child, one_field, fields_from}
use Rattle.arrow_types.specs.KindOf.{child_of, extension_kind_of, kind_of, texts_of}
use Rattle.arrow_types.specs.declared.data_type.Field.{Field}
use Rattle.arrow_types.specs.declared.data_type.ArrowDataType.{ArrowDataType, Extension, Timestamp, the_lemmas as type_lemmas}
use Rattle.arrow_types.specs.declared.data_type.ExtensionType.{ExtensionType, the_lemmas as extension_lemmas}
use Rattle.arrow_types.proofs.DataTypes.{child_is, kind_of_Extension}
use Rattle.ipc_fields.proofs.TextOrder.{sorted_texts}
use Rattle.ipc_fields.specs.IpcFields.{Ids, no_fields, ids, kind_with, fields_with}
use Rattle.schema_writer.specs.Texts.{PairsAscend, KindSaysTexts, FieldsSayTexts, SchemaSaysTexts}

pub text : (s : String Global) → is_utf8 (string_bytes s) ≡ true
text s = is_utf8-from_IsUtf8 (string_bytes s) (IsUtf8-string_bytes s)

pub text_if_any : (s : Option (String Global)) → IsText (option_map string_bytes s)
text_if_any None = tt
text_if_any (Some s) = text s

pairs_are_texts : (es : List (String Global × String Global)) → AreTexts (texts_of es)
pairs_are_texts [] = tt
pairs_are_texts (e ∷ es) = ((text e.0, text e.1), pairs_are_texts es)

-- the pairs of a map
pub map_ascends : (es : List (String Global × String Global)) → IsStrictlySortedBy string_cmp (map (λ e. e.0) es) → PairsAscend (texts_of es)
map_ascends es up = record { ascend = sorted_ascend (texts_of es) (pairs_are_texts es) (sorted_texts es up) }

pub no_pairs_ascend : PairsAscend []
no_pairs_ascend = record { ascend = tt }

-- ── fields ──

one_texts : (f : Field) (c : Child) → c ≡ record { name = string_bytes f.name; kind = kind_of f.dtype; nullable = f.is_nullable; metadata = texts_of f.metadata.entries } → KindSaysTexts (kind_of f.dtype) → PairsAscend c.metadata
    → FieldsSayTexts (one_field c)
one_texts f c is k p =
    let own : is_utf8 c.name ≡ true = subst (λ (d : Child). is_utf8 d.name ≡ true) (sym is) (text f.name) in
    let kinds : KindHasTexts c.kind = subst (λ (d : Child). KindHasTexts d.kind) (sym is) k.texts in
    record { texts = (own, p.ascend, kinds, tt) }

pub field_texts : (f : Field) → KindSaysTexts (kind_of f.dtype) → PairsAscend (child_of f).metadata → FieldsSayTexts (one_field (child_of f))
field_texts f k p = one_texts f (child_of f) (child_is f) k p

pub list_texts : (o : Offsets) (fs : Fields) → FieldsSayTexts fs → KindSaysTexts (kind.«list» o fs)
list_texts o fs h = record { texts = h.texts }

pub sized_list_texts : (n : ℕ) (fs : Fields) → FieldsSayTexts fs → KindSaysTexts (kind.fixed_size_list n fs)
sized_list_texts n fs h = record { texts = h.texts }

pub map_texts : (sorted : Bool) (fs : Fields) → FieldsSayTexts fs → KindSaysTexts (kind.map sorted fs)
map_texts sorted fs h = record { texts = h.texts }

pub struct_texts : (fs : Fields) → FieldsSayTexts fs → KindSaysTexts (kind.struct fs)
struct_texts fs h = record { texts = h.texts }

pub union_texts : (mode : UnionMode) (stated : Bool) (types : List ℤ) (fs : Fields) → FieldsSayTexts fs → KindSaysTexts (kind.union mode stated types fs)
union_texts mode stated types fs h = record { texts = h.texts }

pub dictionary_texts : (index : IntegerType) (ordered : Bool) (id : ℤ) (k : Kind) → KindSaysTexts k → KindSaysTexts (kind.dictionary index ordered id k)
dictionary_texts index ordered id k h = record { texts = h.texts }

extension_texts : (name : String Global) (metadata : Option (String Global)) (k : Kind) → KindSaysTexts k → KindSaysTexts (kind.extension (string_bytes name) (option_map string_bytes metadata) k)
extension_texts name metadata k h = record { texts = (text name, text_if_any metadata, h.texts) }

timestamp_texts : (unit : TimeUnit) (zone : Option (String Global)) → KindSaysTexts (kind.timestamp unit (option_map string_bytes zone))
timestamp_texts unit zone = record { texts = text_if_any zone }

extension_is : (x : ExtensionType) → extension_kind_of x ≡ kind.extension (string_bytes x.name) (option_map string_bytes x.metadata) (kind_of x.inner)
extension_is x = search (rules, extension_lemmas)

-- the type below an extension
pub extension_said : {A E : Type 0} (t : ArrowDataType) (e : Box ExtensionType Global) (x : ExtensionType) (r : Result A E) → t ≡ Extension e → x ≡ e.value → IfOk r (λ _. KindSaysTexts (kind_of x.inner)) → IfOk r (λ _. KindSaysTexts (kind_of t))
extension_said t e x (Ok y) is at h =
    let same : kind_of t ≡ kind.extension (string_bytes x.name) (option_map string_bytes x.metadata) (kind_of x.inner) = ap kind_of is ∙ kind_of_Extension e ∙ ap extension_kind_of (sym at) ∙ extension_is x in
    subst KindSaysTexts (sym same) (extension_texts x.name x.metadata (kind_of x.inner) h)
extension_said t e x (Err y) is at h = tt

kind_of_Timestamp : (unit : TimeUnit) (zone : Option (String Global)) → kind_of (Timestamp unit zone) ≡ kind.timestamp unit (option_map string_bytes zone)
kind_of_Timestamp unit zone = search (rules, type_lemmas)

pub timestamp_said : (t : ArrowDataType) (unit : TimeUnit) (zone : Option (String Global)) → t ≡ Timestamp unit zone → KindSaysTexts (kind_of t)
timestamp_said t unit zone is = subst KindSaysTexts (sym (ap kind_of is ∙ kind_of_Timestamp unit zone)) (timestamp_texts unit zone)

-- no kind is below it, and it has no text
abbrev pub is_textless : Kind → Bool
is_textless (kind.timestamp unit zone) = false
is_textless (kind.«list» o fs) = false
is_textless (kind.fixed_size_list n fs) = false
is_textless (kind.map sorted fs) = false
is_textless (kind.struct fs) = false
is_textless (kind.union mode stated types fs) = false
is_textless (kind.dictionary index ordered id k) = false
is_textless (kind.extension name metadata k) = false
is_textless k = true

pub textless_said : (k : Kind) → is_textless k ≡ true → KindSaysTexts k
textless_said (kind.timestamp unit zone) h = cc
textless_said (kind.«list» o fs) h = cc
textless_said (kind.fixed_size_list n fs) h = cc
textless_said (kind.map sorted fs) h = cc
textless_said (kind.struct fs) h = cc
textless_said (kind.union mode stated types fs) h = cc
textless_said (kind.dictionary index ordered id k) h = cc
textless_said (kind.extension name metadata k) h = cc
textless_said k h = record { texts = tt }

-- ── one after another ──

pub texts_more : (here behind : List Child) (c : Child) (whole : Fields) → here ≡ c ∷ behind → FieldsSayTexts (one_field c) → (FieldsSayTexts (fields_from here) → FieldsSayTexts whole)
    → FieldsSayTexts (fields_from behind) → FieldsSayTexts whole
texts_more here behind c whole e mine before rest = before (subst (λ cs. FieldsSayTexts (fields_from cs)) (sym e) (record { texts = (mine.texts.0, mine.texts.1, mine.texts.2, rest.texts) }))

pub texts_done : (here : List Child) (whole : Fields) → here ≡ [] → (FieldsSayTexts (fields_from here) → FieldsSayTexts whole) → FieldsSayTexts whole
texts_done here whole e before = before (subst (λ cs. FieldsSayTexts (fields_from cs)) (sym e) (record { texts = tt }))

-- ── with the ids of IPC fields ──

mutual
  kind_texts_with : (k : Kind) (id : Option ℤ) (below : Ids) → KindHasTexts k → KindHasTexts (kind_with k id below)
  kind_texts_with (kind.«list» o fs) id below h = texts_with fs below h
  kind_texts_with (kind.fixed_size_list n fs) id below h = texts_with fs below h
  kind_texts_with (kind.struct fs) id below h = texts_with fs below h
  kind_texts_with (kind.map sorted fs) id below h = texts_with fs below h
  kind_texts_with (kind.union mode stated types fs) id below h = texts_with fs below h
  kind_texts_with (kind.dictionary index ordered old k) id below h = kind_texts_with k None below h
  kind_texts_with (kind.extension name metadata k) id below h = (h.0, h.1, kind_texts_with k id below h.2)
  kind_texts_with k id below h = h

  pub texts_with : (fs : Fields) (below : Ids) → HaveTexts fs → HaveTexts (fields_with fs below)
  texts_with kind.none below h = tt
  texts_with (kind.field name nullable metadata k fs) no_fields h = (h.0, h.1, kind_texts_with k None no_fields h.2, texts_with fs no_fields h.3)
  texts_with (kind.field name nullable metadata k fs) (ids id below others) h = (h.0, h.1, kind_texts_with k id below h.2, texts_with fs others h.3)

pub schema_texts : (fs : Fields) (pairs : Metadata) → FieldsSayTexts fs → PairsAscend pairs → SchemaSaysTexts fs pairs
schema_texts fs pairs h p = record { texts = h.texts; ascend = p.ascend }
