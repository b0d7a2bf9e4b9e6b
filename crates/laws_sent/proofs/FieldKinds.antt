-- Arrays under the kinds of fields whose dictionaries have new ids.
use Rattle.std.proofs.Common.{◌≡◌, ℕ, ◌+◌, List, None, refl, sym, ap, ◌∙◌, true, false, Bool}
use Rattle.std.proofs.lemmas.Bool.{and_parts}
use Rattle.arrow_spec.specs.Kinds as kind
use Rattle.arrow_spec.specs.Kinds.{Kind, Fields, dictionary_count, numbered, numbered_kind}
use Rattle.ipc_files.specs.Below.{are_of, child_fields, indexed, listed, mapped, sized, structured, suits, tagged, values_kind, Parts, Forest, leaf, nested, none, fault_in, fault_each, kind_in, kinds_each, Held}
use Rattle.ipc_files.proofs.Below.{top_sound}
use Rattle.ipc_fields.specs.IpcFields.{Ids, fields_with, kind_with}
use Rattle.ipc_fields.specs.IpcFields as fields
use Rattle.ipc_fields.specs.Uses.{first_id, first_ids, other_ids}
use Rattle.arrow_spec.proofs.Forms.{form, forms}
use Rattle.laws_writers.specs.Below.{is_indexed, values_in, plain_kind, plain_fields}
use Rattle.laws_writers.proofs.Below.{fields_plain, values_plain}
use Rattle.laws_writers.proofs.Apart.{Under, children_under, fields_form}
use Rattle.laws_sent.proofs.EmptyArrays.{HaveHeld}

-- ── the ids of IPC fields ──

with_first : (name : List ℕ) (nullable : Bool) (metadata : kind.Metadata) (k : Kind) (fs : Fields) (below : Ids)
    → fields_with (kind.field name nullable metadata k fs) below ≡ kind.field name nullable metadata (kind_with k (first_id below) (first_ids below)) (fields_with fs (other_ids below))
with_first name nullable metadata k fs fields.no_fields = refl
with_first name nullable metadata k fs (fields.ids id below others) = refl

-- those of the first field, and of the others
pub ids_split : (name : List ℕ) (nullable : Bool) (metadata : kind.Metadata) (k : Kind) (fs : Fields) (below : Ids) (i : ℕ)
    → fields_with (kind.field name nullable metadata k fs) below ≡ numbered (kind.field name nullable metadata k fs) i
    → (kind_with k (first_id below) (first_ids below) ≡ numbered_kind k i) × (fields_with fs (other_ids below) ≡ numbered fs (i + dictionary_count k))
ids_split name nullable metadata k fs below i h =
    let both : kind.field name nullable metadata (kind_with k (first_id below) (first_ids below)) (fields_with fs (other_ids below)) ≡ kind.field name nullable metadata (numbered_kind k i) (numbered fs (i + dictionary_count k)) =
    sym (with_first name nullable metadata k fs below) ∙ h in
    let first : kind_with k (first_id below) (first_ids below) ≡ numbered_kind k i = cc in
    let rest : fields_with fs (other_ids below) ≡ numbered fs (i + dictionary_count k) = cc in
    (first, rest)

-- ── arrays of a kind, ids aside ──

-- its fields and its values are of a kind's, ids, names, nullability and metadata aside
abbrev pub IsOfKind : Kind → Parts → Type 0
IsOfKind k p = (forms (child_fields (kind_in p)) ≡ forms (plain_fields (child_fields k))) × (form (values_kind (kind_in p)) ≡ form (plain_kind (values_kind k)))

values_form : (k : Kind) → values_kind (form k) ≡ form (values_kind k)
values_form (kind.dictionary t ordered id k) = refl
values_form (kind.extension name metadata k) = values_form k
values_form k = refl

pub of_form : (k : Kind) (p : Parts) → form (plain_kind k) ≡ form (kind_in p) → IsOfKind k p
of_form k p e = (
  sym (fields_form (kind_in p)) ∙ ap child_fields (sym e) ∙ fields_form (plain_kind k) ∙ ap forms (fields_plain k),
  sym (values_form (kind_in p)) ∙ ap values_kind (sym e) ∙ values_form (plain_kind k) ∙ ap form (values_plain k),
)

-- its children are arrays of its fields
children : (fs gs : Fields) (cs : Forest) → forms gs ≡ forms (plain_fields fs) → are_of gs (kinds_each cs) ≡ true → Under (plain_fields fs) cs
children fs gs cs e h = children_under (kind.struct (plain_fields fs)) (kind.struct gs) cs (ap kind.struct (sym e)) h

none_under : (h : Held) (fs : Fields) → HaveHeld h fs none → Under (plain_fields fs) none
none_under h kind.none r = tt
none_under h (kind.field name nullable metadata k fs) r = absurd r

pub record AreChildren (fs : Fields) (cs : Forest) : Type 0 where
  pub under : Under (plain_fields fs) cs
  pub sound : fault_each cs ≡ None

pub children_of : (h : Held) (fs : Fields) (p : Parts) → is_indexed p ≡ false → HaveHeld h fs (values_in p) → forms (child_fields (kind_in p)) ≡ forms (plain_fields fs) → fault_in p ≡ None → AreChildren fs (values_in p)
children_of h fs (leaf l) i r e f = record { under = none_under h fs r; sound = refl }
children_of h fs (nested (indexed d) cs) i r e f = cc
children_of h fs (nested (listed l) cs) i r e f =
    let s = top_sound (listed l) cs f in
    record { under = children fs (child_fields l.kind) cs e (and_parts (suits (listed l)) (are_of (child_fields l.kind) (kinds_each cs)) s.0.suits).1; sound = s.1 }
children_of h fs (nested (mapped l) cs) i r e f =
    let s = top_sound (mapped l) cs f in
    record { under = children fs (child_fields l.kind) cs e (and_parts (suits (mapped l)) (are_of (child_fields l.kind) (kinds_each cs)) s.0.suits).1; sound = s.1 }
children_of h fs (nested (sized l) cs) i r e f =
    let s = top_sound (sized l) cs f in
    record { under = children fs (child_fields l.kind) cs e (and_parts (suits (sized l)) (are_of (child_fields l.kind) (kinds_each cs)) s.0.suits).1; sound = s.1 }
children_of h fs (nested (structured l) cs) i r e f =
    let s = top_sound (structured l) cs f in
    record { under = children fs (child_fields l.kind) cs e (and_parts (suits (structured l)) (are_of (child_fields l.kind) (kinds_each cs)) s.0.suits).1; sound = s.1 }
children_of h fs (nested (tagged l) cs) i r e f =
    let s = top_sound (tagged l) cs f in
    record { under = children fs (child_fields l.kind) cs e (and_parts (suits (tagged l)) (are_of (child_fields l.kind) (kinds_each cs)) s.0.suits).1; sound = s.1 }
