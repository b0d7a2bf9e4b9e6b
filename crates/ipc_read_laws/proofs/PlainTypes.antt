-- Kinds without the ids of dictionaries: types state none, so the kind of one is plain.
use Rattle.std.proofs.Common.{◌≡◌, ◌∙◌, true, Option, None, ℤ, pos, refl, ap}
use Rattle.arrow_spec.specs.Kinds as kind
use Rattle.arrow_spec.specs.Kinds.{Kind, Fields}
use Rattle.arrow_spec.proofs.Forms.{form, forms}
use Rattle.arrow_types.specs.KindOf.{kind_of}
use Rattle.arrow_types.specs.declared.data_type.ArrowDataType.{ArrowDataType}
use Rattle.ipc_fields.specs.IpcFields.{Ids, no_fields, ids, kind_with, fields_with}
use Rattle.ipc_fields.proofs.NoIds.{no_ids}
use Rattle.ipc_read_laws.specs.PlainKinds.{plain_kind, plain_fields}

-- ── under ids ──

mutual
  pub plain_with : (k : Kind) (id : Option ℤ) (below : Ids) → plain_kind (kind_with k id below) ≡ plain_kind k
  plain_with (kind.«list» o fs) id below = ap (kind.«list» o) (plain_fields_with fs below)
  plain_with (kind.fixed_size_list n fs) id below = ap (kind.fixed_size_list n) (plain_fields_with fs below)
  plain_with (kind.struct fs) id below = ap kind.struct (plain_fields_with fs below)
  plain_with (kind.map sorted fs) id below = ap (kind.map sorted) (plain_fields_with fs below)
  plain_with (kind.union mode stated types fs) id below = ap (kind.union mode stated types) (plain_fields_with fs below)
  plain_with (kind.dictionary t ordered old k) id below = ap (kind.dictionary t ordered (pos 0)) (plain_with k None below)
  plain_with (kind.extension name metadata k) id below = ap (kind.extension name metadata) (plain_with k id below)
  plain_with k id below = refl

  pub plain_fields_with : (fs : Fields) (below : Ids) → plain_fields (fields_with fs below) ≡ plain_fields fs
  plain_fields_with kind.none below = refl
  plain_fields_with (kind.field name nullable metadata k fs) no_fields = rw (plain_with k None no_fields, plain_fields_with fs no_fields) refl
  plain_fields_with (kind.field name nullable metadata k fs) (ids id below others) = rw (plain_with k id below, plain_fields_with fs others) refl

-- without ids it is the kind under none
mutual
  plain_is : (k : Kind) → plain_kind k ≡ kind_with k None no_fields
  plain_is (kind.«list» o fs) = ap (kind.«list» o) (plain_fields_are fs)
  plain_is (kind.fixed_size_list n fs) = ap (kind.fixed_size_list n) (plain_fields_are fs)
  plain_is (kind.struct fs) = ap kind.struct (plain_fields_are fs)
  plain_is (kind.map sorted fs) = ap (kind.map sorted) (plain_fields_are fs)
  plain_is (kind.union mode stated types fs) = ap (kind.union mode stated types) (plain_fields_are fs)
  plain_is (kind.dictionary t ordered id k) = ap (kind.dictionary t ordered (pos 0)) (plain_is k)
  plain_is (kind.extension name metadata k) = ap (kind.extension name metadata) (plain_is k)
  plain_is k = refl

  plain_fields_are : (fs : Fields) → plain_fields fs ≡ fields_with fs no_fields
  plain_fields_are kind.none = refl
  plain_fields_are (kind.field name nullable metadata k others) = rw (plain_is k, plain_fields_are others) refl

pub plain_twice : (k : Kind) → plain_kind (plain_kind k) ≡ plain_kind k
plain_twice k = ap plain_kind (plain_is k) ∙ plain_with k None no_fields

pub plain_of : (a : ArrowDataType) → plain_kind (kind_of a) ≡ kind_of a
plain_of a = plain_is (kind_of a) ∙ no_ids a

-- ── without names, nullability and metadata ──

mutual
  pub form_plain : (k : Kind) → form (plain_kind k) ≡ plain_kind (form k)
  form_plain (kind.«list» o fs) = ap (kind.«list» o) (forms_plain fs)
  form_plain (kind.fixed_size_list n fs) = ap (kind.fixed_size_list n) (forms_plain fs)
  form_plain (kind.struct fs) = ap kind.struct (forms_plain fs)
  form_plain (kind.map sorted fs) = ap (kind.map sorted) (forms_plain fs)
  form_plain (kind.union mode stated types fs) = ap (kind.union mode true types) (forms_plain fs)
  form_plain (kind.dictionary t ordered id k) = ap (kind.dictionary t ordered (pos 0)) (form_plain k)
  form_plain (kind.extension name metadata k) = ap (kind.extension name metadata) (form_plain k)
  form_plain k = refl

  pub forms_plain : (fs : Fields) → forms (plain_fields fs) ≡ plain_fields (forms fs)
  forms_plain kind.none = refl
  forms_plain (kind.field name nullable metadata k fs) = rw (form_plain k, forms_plain fs) refl
