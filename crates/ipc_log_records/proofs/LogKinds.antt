-- Schemas whose logs have the same fields are of one kind at each place, since types state no ids.
use Rattle.std.proofs.Common.{◌≡◌, List, true, refl, ap, sym, ◌∙◌}
use Rattle.arrow_spec.specs.Kinds as kind
use Rattle.arrow_spec.specs.Kinds.{Fields, Kind, bare, bare_kind, have_same_kinds}
use Rattle.arrow_spec.specs.WrittenSchemas.{own_fields, own_kind}
use Rattle.arrow_spec.proofs.Forms.{form, forms}
use Rattle.arrow_types.specs.Schemas.{Keyed, fields_in}
use Rattle.ipc_fields.proofs.SameKinds.{same_by_form}
use Rattle.ipc_read_laws.specs.PlainKinds.{plain_fields, plain_kind}
use Rattle.ipc_log_records.specs.LogSchemas.{log_fields}

-- as a log says it, and as a type does
mutual
  form_said : (k : Kind) → form (bare_kind (own_kind k)) ≡ form (plain_kind k)
  form_said (kind.«list» o fs) = ap (kind.«list» o) (forms_said fs)
  form_said (kind.fixed_size_list n fs) = ap (kind.fixed_size_list n) (forms_said fs)
  form_said (kind.struct fs) = ap kind.struct (forms_said fs)
  form_said (kind.map sorted fs) = ap (kind.map sorted) (forms_said fs)
  form_said (kind.union mode stated types fs) = ap (kind.union mode true types) (forms_said fs)
  form_said (kind.dictionary index ordered id k) = rw (form_said k) refl
  form_said (kind.extension name metadata k) = ap (kind.extension name metadata) (form_said k)
  form_said k = refl

  forms_said : (fs : Fields) → forms (bare (own_fields fs)) ≡ forms (plain_fields fs)
  forms_said kind.none = refl
  forms_said (kind.field name nullable metadata k fs) = rw (form_said k, forms_said fs) refl

forms_of : (s : List Keyed) → plain_fields (fields_in s) ≡ fields_in s → forms (log_fields s) ≡ forms (fields_in s)
forms_of s plain = forms_said (fields_in s) ∙ ap forms plain

pub kinds_of_log : (a b : List Keyed) → plain_fields (fields_in a) ≡ fields_in a → plain_fields (fields_in b) ≡ fields_in b → log_fields a ≡ log_fields b → have_same_kinds (fields_in a) (fields_in b) ≡ true
kinds_of_log a b plain others same =
    let forms_are : forms (fields_in a) ≡ forms (fields_in b) = sym (forms_of a plain) ∙ ap forms same ∙ forms_of b others in
    same_by_form (kind.struct (fields_in a)) (kind.struct (fields_in b)) (ap kind.struct forms_are)
