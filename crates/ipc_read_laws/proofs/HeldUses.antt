-- What is held under the ids of a schema is of the kind of each use, since the uses of one id agree.
use Rattle.std.proofs.Common.{◌≡◌, ◌∙◌, List, [], ◌∷◌, ◌++◌, Bool, true, false, Option, Some, None, Ok, IfSome, ℤ, refl, sym, ap, subst}
use Rattle.std.specs.Prelude.{if◌then◌else◌}
use Rattle.std.proofs.lemmas.Bool.{and_parts, and_from}
use Rattle.std.specs.List.{AllByRecursion, list_all}
use Rattle.arrow_spec.specs.declared.error.OutOfSpecKind.{OutOfSpecKind}
use Rattle.arrow_spec.specs.declared.error.OutOfSpecKind.TheVariants.{InvalidIdDataType}
use Rattle.arrow_spec.specs.Readings.{only_if}
use Rattle.arrow_spec.specs.Schema.{uses_agree}
use Rattle.arrow_spec.specs.Kinds as kind
use Rattle.arrow_spec.specs.Kinds.{Kind, Fields, Use, agrees_with, is_same_kind, same, uses_in, uses_of, values_under}
use Rattle.arrow_spec.proofs.Projection.{went}
use Rattle.arrow_arrays.specs.Heads.{each_of}
use Rattle.arrow_arrays.specs.Parts.{Forest, kinds_each}
use Rattle.arrow_spec.proofs.SameIds.{id_self, id_true}
use Rattle.ipc_fields.proofs.SameKinds.{form_is_same, same_as_other, same_by_form, same_itself, same_through}
use Rattle.ipc_read_laws.specs.Held.{Held, HasKind, HasKinds, HasFields, HasKindOf, values_of_id}
use Rattle.ipc_read_laws.proofs.PlainTypes.{form_plain}
use Rattle.ipc_read_laws.specs.PlainKinds.{plain_kind}

-- ── kinds without ids ──

pub plain_same : (k l : Kind) → is_same_kind k l ≡ true → is_same_kind (plain_kind k) (plain_kind l) ≡ true
plain_same k l h = same_by_form (plain_kind k) (plain_kind l) (form_plain k ∙ ap plain_kind (form_is_same k l h) ∙ sym (form_plain l))

all_same : (k l : Kind) (ks : List Kind) → is_same_kind k l ≡ true → list_all (is_same_kind k) ks ≡ true → list_all (is_same_kind l) ks ≡ true
all_same k l [] e h = refl
all_same k l (x ∷ xs) e h =
    let both = and_parts (is_same_kind k x) (list_all (is_same_kind k) xs) h in
    and_from (is_same_kind l x) (list_all (is_same_kind l) xs) (same_as_other k l x e both.0) (all_same k l xs e both.1)

each_same : (k l : Kind) (ks : List Kind) → is_same_kind k l ≡ true → each_of k ks ≡ true → each_of l ks ≡ true
each_same k l [] e h = cc
each_same k l (x ∷ xs) e h = all_same k l (x ∷ xs) e h

-- parts of a kind are of each kind that is one with it
pub kind_through : (k l : Kind) (o : Option Forest) → is_same_kind k l ≡ true → IfSome o (HasKind k) → IfSome o (HasKind l)
kind_through k l None e h = tt
kind_through k l (Some parts) e h = each_same (plain_kind k) (plain_kind l) (kinds_each parts) (plain_same k l e) h

-- ── uses that agree ──

-- a use is of one kind with the first of its id
pub record Agrees (whole : List Use) (u : Use) : Type 0 where
  pub values : Kind
  pub first : values_under u.id whole ≡ Some values
  pub one : is_same_kind values u.values ≡ true

-- what is known of an id behind some uses: its first use among them is of one kind with its first one of all, and an id that is none of theirs has its first one among those that follow
record Known (whole done us : List Use) (id : ℤ) : Type 0 where
  some : (k : Kind) → values_under id done ≡ Some k → (l : Kind) × (values_under id whole ≡ Some l) × (is_same_kind l k ≡ true)
  none : values_under id done ≡ None → values_under id whole ≡ values_under id us

only_true : (b : Bool) (e : OutOfSpecKind) (x : Unit {0}) → only_if b e ≡ Ok x → b ≡ true
only_true true e x h = refl
only_true false e x h = cc

agrees : (whole done us : List Use) (u : Use) → Known whole done (u ∷ us) u.id → agrees_with (values_under u.id done) u.values ≡ true → Agrees whole u
agrees whole done us u known h = by (values_under u.id done) refl h
  where
    by : (o : Option Kind) → values_under u.id done ≡ o → agrees_with o u.values ≡ true → Agrees whole u
    by None e g = record { values = u.values; first = known.none e ∙ ap (λ b. if b then Some u.values else values_under u.id us) (id_self u.id); one = same_itself u.values }
    by (Some k) e g = let x = known.some k e in record { values = x.0; first = x.1; one = same_through x.0 k u.values x.2 g }

known_next : (whole done us : List Use) (u : Use) (id : ℤ) → Known whole done (u ∷ us) id → Agrees whole u → Known whole (u ∷ done) us id
known_next whole done us u id known agree = by (same u.id id) refl
  where
    by : (b : Bool) → same u.id id ≡ b → Known whole (u ∷ done) us id
    by true e = record {
      some = λ k is.
          let here : Some u.values ≡ Some k = sym (ap (λ b. if b then Some u.values else values_under id done) e) ∙ is in
          let kinds : u.values ≡ k = cc in
          (agree.values, ap (λ i. values_under i whole) (sym (id_true u.id id e)) ∙ agree.first, subst (λ x. is_same_kind agree.values x ≡ true) kinds agree.one);
      none = λ is. let here : Some u.values ≡ None = sym (ap (λ b. if b then Some u.values else values_under id done) e) ∙ is in cc;
    }
    by false e = record {
      some = λ k is. known.some k (sym (ap (λ b. if b then Some u.values else values_under id done) e) ∙ is);
      none = λ is. known.none (sym (ap (λ b. if b then Some u.values else values_under id done) e) ∙ is) ∙ ap (λ b. if b then Some u.values else values_under id us) e;
    }

all_agree : (whole done us : List Use) → ((id : ℤ) → Known whole done us id) → uses_agree done us ≡ Ok tt → AllByRecursion (Agrees whole) us
all_agree whole done [] known h = tt
all_agree whole done (u ∷ us) known h =
    let step = went (only_if (agrees_with (values_under u.id done) u.values) (InvalidIdDataType u.id)) _ tt h in
    let agree = agrees whole done us u (known u.id) (only_true _ _ _ step.first) in
    (agree, all_agree whole (u ∷ done) us (λ id. known_next whole done us u id (known id) agree) step.rest)

-- each use in fields is of one kind with the first of its id
pub uses_one : (fs : Fields) → uses_agree [] (uses_in fs) ≡ Ok tt → AllByRecursion (Agrees (uses_in fs)) (uses_in fs)
uses_one fs agree = all_agree (uses_in fs) [] (uses_in fs) (λ id. record { some = λ k is. cc; none = λ is. refl }) agree

-- what is held under the id of a use is of the kind of its values
abbrev pub IsHeld : Held → Use → Type 0
IsHeld h u = IfSome (h u.id) (HasKind u.values)

held_uses : (h : Held) (whole us : List Use) → ((id : ℤ) → IfSome (values_under id whole) (λ k. IfSome (h id) (HasKind k))) → AllByRecursion (Agrees whole) us → AllByRecursion (IsHeld h) us
held_uses h whole [] each all = tt
held_uses h whole (u ∷ us) each all =
    let first : IfSome (h u.id) (HasKind all.0.values) = subst (λ o. IfSome o (λ k. IfSome (h u.id) (HasKind k))) all.0.first (each u.id) in
    (kind_through all.0.values u.values (h u.id) all.0.one first, held_uses h whole us each all.1)

pub each_use : (h : Held) (fs : Fields) → uses_agree [] (uses_in fs) ≡ Ok tt → ((id : ℤ) → HasKindOf fs h id) → AllByRecursion (IsHeld h) (uses_in fs)
each_use h fs agree each = held_uses h (uses_in fs) (uses_in fs) each (uses_one fs agree)

-- ── the uses of kinds and of fields ──

pub split : (P : Use → Type 0) (us vs : List Use) → AllByRecursion P (us ++ vs) → AllByRecursion P us × AllByRecursion P vs
split P [] vs h = (tt, h)
split P (u ∷ us) vs h = let both = split P us vs h.1 in ((h.0, both.0), both.1)

pub join : (P : Use → Type 0) (us vs : List Use) → AllByRecursion P us → AllByRecursion P vs → AllByRecursion P (us ++ vs)
join P [] vs h g = g
join P (u ∷ us) vs h g = (h.0, join P us vs h.1 g)

mutual
  pub held_kind : (h : Held) (k : Kind) → AllByRecursion (IsHeld h) (uses_of k) → HasKinds h k
  held_kind h (kind.«list» o fs) u = held_fields h fs u
  held_kind h (kind.fixed_size_list n fs) u = held_fields h fs u
  held_kind h (kind.struct fs) u = held_fields h fs u
  held_kind h (kind.map sorted fs) u = held_fields h fs u
  held_kind h (kind.union mode stated types fs) u = held_fields h fs u
  held_kind h (kind.dictionary t ordered id k) u = u.0
  held_kind h (kind.extension name metadata k) u = held_kind h k u
  held_kind h k u = tt

  pub held_fields : (h : Held) (fs : Fields) → AllByRecursion (IsHeld h) (uses_in fs) → HasFields h fs
  held_fields h kind.none u = tt
  held_fields h (kind.field name nullable metadata k fs) u = let both = split (IsHeld h) (uses_of k) (uses_in fs) u in (held_kind h k both.0, held_fields h fs both.1)

-- what holds of all uses holds of those in the values of each
mutual
  inside_kind : (P : Use → Type 0) (k : Kind) → AllByRecursion P (uses_of k) → AllByRecursion (λ u. AllByRecursion P (uses_of u.values)) (uses_of k)
  inside_kind P (kind.«list» o fs) u = inside_fields P fs u
  inside_kind P (kind.fixed_size_list n fs) u = inside_fields P fs u
  inside_kind P (kind.struct fs) u = inside_fields P fs u
  inside_kind P (kind.map sorted fs) u = inside_fields P fs u
  inside_kind P (kind.union mode stated types fs) u = inside_fields P fs u
  inside_kind P (kind.dictionary t ordered id k) u = (u.1, inside_kind P k u.1)
  inside_kind P (kind.extension name metadata k) u = inside_kind P k u
  inside_kind P k u = tt

  inside_fields : (P : Use → Type 0) (fs : Fields) → AllByRecursion P (uses_in fs) → AllByRecursion (λ u. AllByRecursion P (uses_of u.values)) (uses_in fs)
  inside_fields P kind.none u = tt
  inside_fields P (kind.field name nullable metadata k fs) u =
      let both = split P (uses_of k) (uses_in fs) u in
      join (λ v. AllByRecursion P (uses_of v.values)) (uses_of k) (uses_in fs) (inside_kind P k both.0) (inside_fields P fs both.1)

values_held : (h : Held) (us : List Use) (id : ℤ) → AllByRecursion (λ u. AllByRecursion (IsHeld h) (uses_of u.values)) us → IfSome (values_under id us) (HasKinds h)
values_held h [] id all = tt
values_held h (u ∷ us) id all = by (same u.id id) (values_held h us id all.1)
  where
    by : (b : Bool) → IfSome (values_under id us) (HasKinds h) → IfSome (if b then Some u.values else values_under id us) (HasKinds h)
    by true g = held_kind h u.values all.0
    by false g = g

-- the dictionaries in the values of each id are held so too
pub each_value : (h : Held) (fs : Fields) (id : ℤ) → AllByRecursion (IsHeld h) (uses_in fs) → IfSome (values_of_id fs id) (HasKinds h)
each_value h fs id u = values_held h (uses_in fs) id (inside_fields (IsHeld h) fs u)
