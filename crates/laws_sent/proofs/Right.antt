-- Columns of the kinds of a stream's fields have no fault.
use Rattle.std.proofs.Common.{◌≡◌, ◌&&◌, ℤ, List, [], ◌∷◌, ◌++◌, map, Bool, true, false, Option, Some, None, is_some, Ok, refl, sym, ap, ◌∙◌}
use Rattle.std.specs.Prelude.{cond}
use Rattle.std.specs.Option.{option_map}
use Rattle.std.proofs.lemmas.Bool.{and_from}
use Rattle.std.proofs.lemmas.List.{map-append}
use Rattle.arrow_spec.specs.declared.error.OutOfSpecKind.TheVariants.{InvalidIdDataType}
use Rattle.arrow_spec.specs.Kinds as kind
use Rattle.arrow_spec.specs.Kinds.{Kind, Fields, Use, agrees_with, have_same_kinds, is_same_kind, same, uses_in, uses_of, values_under}
use Rattle.arrow_spec.specs.Readings.{Reading, is_absent, only_if, ◌>>=◌}
use Rattle.arrow_spec.specs.Regular.{is_no_dictionary, is_size}
use Rattle.arrow_spec.specs.Schema.{uses_agree}
use Rattle.arrow_types.specs.Schemas.{Keyed, fields_in}
use Rattle.ipc_files.specs.Below.{Parts, forest, kind_in, kinds_of}
use Rattle.ipc_fields.specs.IpcFields.{Ids, fields_with, has_shape, have_shapes, is_encoded, kind_with}
use Rattle.ipc_fields.specs.IpcFields as fields
use Rattle.ipc_fields.specs.Uses.{id_under, use_as}
use Rattle.arrow_spec.proofs.Forms.{form, forms}
use Rattle.ipc_fields.proofs.SameKinds.{form_is_same, same_by_form, same_itself}
use Rattle.laws_writers.specs.Below.{columns_of, all_representable, is_representable}
use Rattle.laws_sent.specs.DictionaryLaws.{ColumnsAreRight}

-- ── kinds of one form ──

mutual
  form_twice : (k : Kind) → form (form k) ≡ form k
  form_twice (kind.«list» o fs) = ap (kind.«list» o) (forms_twice fs)
  form_twice (kind.fixed_size_list n fs) = ap (kind.fixed_size_list n) (forms_twice fs)
  form_twice (kind.struct fs) = ap kind.struct (forms_twice fs)
  form_twice (kind.map sorted fs) = ap (kind.map sorted) (forms_twice fs)
  form_twice (kind.union mode stated types fs) = ap (kind.union mode true types) (forms_twice fs)
  form_twice (kind.dictionary t ordered id k) = ap (kind.dictionary t ordered id) (form_twice k)
  form_twice (kind.extension name metadata k) = ap (kind.extension name metadata) (form_twice k)
  form_twice k = refl

  forms_twice : (fs : Fields) → forms (forms fs) ≡ forms fs
  forms_twice kind.none = refl
  forms_twice (kind.field name nullable metadata k fs) = rw (form_twice k, forms_twice fs) refl

one_truth : (a b : Bool) → (a ≡ true → b ≡ true) → (b ≡ true → a ≡ true) → a ≡ b
one_truth true b f g = sym (f refl)
one_truth false true f g = g refl
one_truth false false f g = refl

same_forms : (k l : Kind) → is_same_kind (form k) (form l) ≡ is_same_kind k l
same_forms k l = one_truth (is_same_kind (form k) (form l)) (is_same_kind k l) (λ h. same_by_form k l (sym (form_twice k) ∙ form_is_same (form k) (form l) h ∙ form_twice l)) (λ h. same_by_form (form k) (form l) (ap form (form_is_same k l h)))

-- ── their shapes ──

encoded_form : (k : Kind) → is_encoded (form k) ≡ is_encoded k
encoded_form (kind.extension name metadata k) = encoded_form k
encoded_form k = refl

mutual
  shape_form : (k : Kind) (id : Option ℤ) (below : Ids) → has_shape (form k) id below ≡ has_shape k id below
  shape_form (kind.«list» o fs) id below = ap (λ b. is_absent id && b) (shapes_form fs below)
  shape_form (kind.fixed_size_list n fs) id below = ap (λ b. is_absent id && b) (shapes_form fs below)
  shape_form (kind.struct fs) id below = ap (λ b. is_absent id && b) (shapes_form fs below)
  shape_form (kind.map sorted fs) id below = ap (λ b. is_absent id && b) (shapes_form fs below)
  shape_form (kind.union mode stated types fs) id below = ap (λ b. is_absent id && b) (shapes_form fs below)
  shape_form (kind.dictionary t ordered old k) id below = ap (λ b. is_some id && has_shape (form k) (cond b id None) below) (encoded_form k) ∙ ap (λ b. is_some id && b) (shape_form k (cond (is_encoded k) id None) below)
  shape_form (kind.extension name metadata k) id below = shape_form k id below
  shape_form k id below = refl

  shapes_form : (fs : Fields) (below : Ids) → have_shapes (forms fs) below ≡ have_shapes fs below
  shapes_form kind.none below = refl
  shapes_form (kind.field name nullable metadata k fs) fields.no_fields = refl
  shapes_form (kind.field name nullable metadata k fs) (fields.ids id below others) = rw (shape_form k id below, shapes_form fs others) refl

no_dictionary_form : (k : Kind) → is_no_dictionary (form k) ≡ is_no_dictionary k
no_dictionary_form (kind.dictionary t ordered id k) = refl
no_dictionary_form k = refl

mutual
  representable_form : (k : Kind) → is_representable (form k) ≡ is_representable k
  representable_form (kind.«list» o fs) = all_representable_form fs
  representable_form (kind.fixed_size_list n fs) = ap (λ b. is_size n && b) (all_representable_form fs)
  representable_form (kind.struct fs) = all_representable_form fs
  representable_form (kind.map sorted fs) = all_representable_form fs
  representable_form (kind.union mode stated types fs) = all_representable_form fs
  representable_form (kind.dictionary t ordered id k) = rw (no_dictionary_form k, representable_form k) refl
  representable_form (kind.extension name metadata k) = rw (no_dictionary_form k, representable_form k) refl
  representable_form k = refl

  all_representable_form : (fs : Fields) → all_representable (forms fs) ≡ all_representable fs
  all_representable_form kind.none = refl
  all_representable_form (kind.field name nullable metadata k fs) = rw (representable_form k, all_representable_form fs) refl

-- ── their uses ──

abbrev use_form : Use → Use
use_form u = use_as u.id (form u.values)

mutual
  with_form : (k : Kind) (id : Option ℤ) (below : Ids) → form (kind_with k id below) ≡ kind_with (form k) id below
  with_form (kind.«list» o fs) id below = ap (kind.«list» o) (with_forms fs below)
  with_form (kind.fixed_size_list n fs) id below = ap (kind.fixed_size_list n) (with_forms fs below)
  with_form (kind.struct fs) id below = ap kind.struct (with_forms fs below)
  with_form (kind.map sorted fs) id below = ap (kind.map sorted) (with_forms fs below)
  with_form (kind.union mode stated types fs) id below = ap (kind.union mode true types) (with_forms fs below)
  with_form (kind.dictionary t ordered old k) id below = ap (kind.dictionary t ordered (id_under id)) (with_form k None below)
  with_form (kind.extension name metadata k) id below = ap (kind.extension name metadata) (with_form k id below)
  with_form k id below = refl

  with_forms : (fs : Fields) (below : Ids) → forms (fields_with fs below) ≡ fields_with (forms fs) below
  with_forms kind.none below = refl
  with_forms (kind.field name nullable metadata k fs) fields.no_fields = rw (with_form k None fields.no_fields, with_forms fs fields.no_fields) refl
  with_forms (kind.field name nullable metadata k fs) (fields.ids id below others) = rw (with_form k id below, with_forms fs others) refl

mutual
  uses_form : (k : Kind) → map use_form (uses_of k) ≡ uses_of (form k)
  uses_form (kind.«list» o fs) = all_uses_form fs
  uses_form (kind.fixed_size_list n fs) = all_uses_form fs
  uses_form (kind.struct fs) = all_uses_form fs
  uses_form (kind.map sorted fs) = all_uses_form fs
  uses_form (kind.union mode stated types fs) = all_uses_form fs
  uses_form (kind.dictionary t ordered id k) = ap (λ us. use_as id (form k) ∷ us) (uses_form k)
  uses_form (kind.extension name metadata k) = uses_form k
  uses_form k = refl

  all_uses_form : (fs : Fields) → map use_form (uses_in fs) ≡ uses_in (forms fs)
  all_uses_form kind.none = refl
  all_uses_form (kind.field name nullable metadata k fs) = map-append use_form (uses_of k) (uses_in fs) ∙ ap (λ us. us ++ map use_form (uses_in fs)) (uses_form k) ∙ ap (λ us. uses_of (form k) ++ us) (all_uses_form fs)

values_form : (id : ℤ) (us : List Use) → values_under id (map use_form us) ≡ option_map form (values_under id us)
values_form id [] = refl
values_form id (u ∷ us) = by (same u.id id) (values_form id us)
  where
    by : (b : Bool) → values_under id (map use_form us) ≡ option_map form (values_under id us) → cond b (Some (form u.values)) (values_under id (map use_form us)) ≡ option_map form (cond b (Some u.values) (values_under id us))
    by true h = refl
    by false h = h

agrees_form : (o : Option Kind) (k : Kind) → agrees_with (option_map form o) (form k) ≡ agrees_with o k
agrees_form None k = refl
agrees_form (Some l) k = same_forms l k

abbrev one_use : ℤ → Bool → Reading (Unit {0}) → Reading (Unit {0})
one_use id b r = only_if b (InvalidIdDataType id) >>= λ right. r

agree_form : (earlier us : List Use) → uses_agree (map use_form earlier) (map use_form us) ≡ uses_agree earlier us
agree_form earlier [] = refl
agree_form earlier (u ∷ us) =
    ap (λ o. one_use u.id (agrees_with o (form u.values)) (uses_agree (map use_form (u ∷ earlier)) (map use_form us))) (values_form u.id earlier)
    ∙ ap (λ b. one_use u.id b (uses_agree (map use_form (u ∷ earlier)) (map use_form us))) (agrees_form (values_under u.id earlier) u.values)
    ∙ ap (one_use u.id (agrees_with (values_under u.id earlier) u.values)) (agree_form (u ∷ earlier) us)

-- ── columns ──

-- those of the kinds of a schema's fields
pub kinds_of_schema : (s : List Keyed) (ps : List Parts) → map kind_in ps ≡ kinds_of s → have_same_kinds (fields_in s) (columns_of (forest ps)) ≡ true
kinds_of_schema [] [] e = refl
kinds_of_schema [] (p ∷ ps) e = cc
kinds_of_schema (q ∷ qs) [] e = cc
kinds_of_schema (q ∷ qs) (p ∷ ps) e =
    let one : kind_in p ≡ q.1.kind = cc in
    let others : map kind_in ps ≡ kinds_of qs = cc in
    and_from (is_same_kind q.1.kind (kind_in p)) (have_same_kinds (fields_in qs) (columns_of (forest ps))) (ap (is_same_kind q.1.kind) one ∙ same_itself q.1.kind) (kinds_of_schema qs ps others)

-- they have no fault
pub columns_right : ColumnsAreRight
columns_right fs below columns same shapes agree representable =
    let gs = columns_of columns in
    let structs : kind.struct (forms fs) ≡ kind.struct (forms gs) = form_is_same (kind.struct fs) (kind.struct gs) same in
    let one : forms gs ≡ forms fs = cc in
    let shaped : have_shapes gs below ≡ true = sym (shapes_form gs below) ∙ ap (λ hs. have_shapes hs below) one ∙ shapes_form fs below ∙ shapes in
    let stand : all_representable gs ≡ true = sym (all_representable_form gs) ∙ ap all_representable one ∙ all_representable_form fs ∙ representable in
    let uses : map use_form (uses_in (fields_with gs below)) ≡ map use_form (uses_in (fields_with fs below)) =
    all_uses_form (fields_with gs below) ∙ ap uses_in (with_forms gs below ∙ ap (λ hs. fields_with hs below) one ∙ sym (with_forms fs below)) ∙ sym (all_uses_form (fields_with fs below)) in
    let agreed : uses_agree [] (uses_in (fields_with gs below)) ≡ Ok tt = sym (agree_form [] (uses_in (fields_with gs below))) ∙ ap (uses_agree []) uses ∙ agree_form [] (uses_in (fields_with fs below)) ∙ agree in
    rw (shaped, agreed, stand) refl
