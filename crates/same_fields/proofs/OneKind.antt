-- Fields that are the same without dictionary ids are of one kind at each place, since types state no ids.
use Rattle.std.proofs.Common.{◌≡◌, ◌∙◌, ℕ, zero, suc, ◌<◌, ◌≤◌, List, [], ◌∷◌, length, slice_get, None, true, refl, sym, ap, arith}
use Rattle.std.proofs.lemmas.Bool.{and_from, and_parts}
use Rattle.arrow_spec.specs.Kinds as kind
use Rattle.arrow_spec.specs.Kinds.{Fields, Kind, bare, bare_kind, have_same_kinds, is_same_kind}
use Rattle.arrow_spec.proofs.Forms.{form, forms}
use Rattle.arrow_types.specs.Child.{Child}
use Rattle.arrow_types.specs.KindOf.{child_of}
use Rattle.arrow_types.specs.Schemas.{Keyed, fields_in}
use Rattle.arrow_types.specs.declared.data_type.Field.{Field}
use Rattle.arrow_types.proofs.DataTypes.{kind_of_child}
use Rattle.ipc_fields.specs.IpcFields.{fields_with, kind_with, no_fields}
use Rattle.ipc_fields.proofs.NoIds.{no_ids}
use Rattle.ipc_fields.proofs.SameKinds.{same_by_form, same_through}
use Rattle.same_fields.specs.Bare.{AreOfOneKind, bare_child}

-- ── kinds without dictionary ids ──

mutual
  form_bare : (k : Kind) → form (bare_kind k) ≡ form (kind_with k None no_fields)
  form_bare (kind.«list» o fs) = ap (kind.«list» o) (forms_bare fs)
  form_bare (kind.fixed_size_list n fs) = ap (kind.fixed_size_list n) (forms_bare fs)
  form_bare (kind.struct fs) = ap kind.struct (forms_bare fs)
  form_bare (kind.map sorted fs) = ap (kind.map sorted) (forms_bare fs)
  form_bare (kind.union mode stated types fs) = ap (kind.union mode true types) (forms_bare fs)
  form_bare (kind.dictionary index ordered id k) = rw (form_bare k) refl
  form_bare (kind.extension name metadata k) = ap (kind.extension name metadata) (form_bare k)
  form_bare k = refl

  forms_bare : (fs : Fields) → forms (bare fs) ≡ forms (fields_with fs no_fields)
  forms_bare kind.none = refl
  forms_bare (kind.field name nullable metadata k fs) = rw (form_bare k, forms_bare fs) refl

form_of_child : (f : Field) → form (bare_kind (child_of f).kind) ≡ form (child_of f).kind
form_of_child f = form_bare (child_of f).kind ∙ ap form (ap (λ k. kind_with k None no_fields) (kind_of_child f) ∙ no_ids f.dtype ∙ sym (kind_of_child f))

pub children_same : (f g : Field) → bare_child (child_of f) ≡ bare_child (child_of g) → is_same_kind (child_of f).kind (child_of g).kind ≡ true
children_same f g e = same_by_form (child_of f).kind (child_of g).kind (sym (form_of_child f) ∙ ap form (ap (λ (c : Child). c.kind) e) ∙ form_of_child g)

-- ── fields ──

-- fields that are of one kind at each place
pub all_of_one_kind : (a b : List Keyed) (n : ℕ) → length a ≤ n → length b ≤ n → ((i : ℕ) → i < n → AreOfOneKind (slice_get a i) (slice_get b i)) → have_same_kinds (fields_in a) (fields_in b) ≡ true
all_of_one_kind [] [] n l m h = refl
all_of_one_kind [] (q ∷ qs) n l m h = absurd (h 0 (omega (arith, m)))
all_of_one_kind (p ∷ ps) [] n l m h = absurd (h 0 (omega (arith, l)))
all_of_one_kind (p ∷ ps) (q ∷ qs) zero l m h = absurd (omega (arith, l))
all_of_one_kind (p ∷ ps) (q ∷ qs) (suc n) l m h =
    and_from (is_same_kind p.1.kind q.1.kind) (have_same_kinds (fields_in ps) (fields_in qs)) (h 0 (omega arith)) (all_of_one_kind ps qs n (omega (arith, l)) (omega (arith, m)) (λ i less. h (suc i) (omega (arith, less))))

pub kinds_through : (fs gs hs : Fields) → have_same_kinds fs gs ≡ true → have_same_kinds gs hs ≡ true → have_same_kinds fs hs ≡ true
kinds_through kind.none kind.none hs h k = k
kinds_through kind.none (kind.field n c y l gs) hs h k = cc
kinds_through (kind.field m b x k fs) kind.none hs h g = cc
kinds_through (kind.field m b x k fs) (kind.field n c y l gs) kind.none h g = cc
kinds_through (kind.field m b x k fs) (kind.field n c y l gs) (kind.field o d z j hs) h g =
    let p = and_parts (is_same_kind k l) (have_same_kinds fs gs) h in
    let q = and_parts (is_same_kind l j) (have_same_kinds gs hs) g in
    and_from (is_same_kind k j) (have_same_kinds fs hs) (same_through k l j p.0 q.0) (kinds_through fs gs hs p.1 q.1)
