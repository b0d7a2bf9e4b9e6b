-- Where the values under each id are of one kind, no dictionary stands in the values of one of its own id.
use Rattle.std.proofs.Common.{◌≡◌, ℕ, suc, ◌+◌, ◌<◌, ◌++◌, ◌||◌, ℤ, List, [], ◌∷◌, Bool, true, false, Option, Some, None, Ok, refl, sym, ap, subst, ◌∙◌, arith}
use Rattle.std.specs.List.{AllByRecursion, list_all}
use Rattle.std.proofs.lemmas.Bool.{and_parts}
use Rattle.arrow_spec.specs.declared.types.IntegerType.{IntegerType}
use Rattle.arrow_spec.specs.Kinds as kind
use Rattle.arrow_spec.specs.Kinds.{Kind, Fields, Use, dictionary_count, dictionary_counts, have_same_kinds, is_same_kind, same, uses_in, uses_of, values_under}
use Rattle.arrow_spec.specs.Schema.{uses_agree}
use Rattle.laws_columns.specs.Below.{kind_eq, kind_eq_is}
use Rattle.ipc_messages.specs.Below.{are_of, child_fields, each_of, indexed, is_dictionary, listed, mapped, sized, structured, suits, tagged, values_kind, Parts, Forest, leaf, nested, none, also, fault_each, fault_in, kind_in, kinds_each, Ids, fields_with, ids, kind_with, no_fields, first_id, first_ids, id_under, other_ids, use_as, columns_of}
use Rattle.ipc_messages.proofs.Below.{neither, top_sound, form_is_same, same_as_other}
use Rattle.arrow_spec.proofs.Forms.{count_form, form, forms}
use Rattle.arrow_spec.proofs.SameIds.{id_true}
use Rattle.laws_columns.proofs.Below.{Agrees, split, uses_one}
use Rattle.laws_writers.specs.Heard.{AreApart, IsApart, PartsAreApart, stands_in, stands_in_each, stands_in_parts}

-- ── forms ──

values_form : (k : Kind) → values_kind (form k) ≡ form (values_kind k)
values_form (kind.dictionary t ordered id k) = refl
values_form (kind.extension name metadata k) = values_form k
values_form k = refl

pub fields_form : (k : Kind) → child_fields (form k) ≡ forms (child_fields k)
fields_form (kind.extension name metadata k) = fields_form k
fields_form k = refl

dictionary_form : (i : IntegerType) (k : Kind) → is_dictionary i (form k) ≡ is_dictionary i k
dictionary_form i (kind.extension name metadata k) = dictionary_form i k
dictionary_form i k = refl

-- ── uses ──

abbrev is_used : ℤ → List Use → Bool
is_used q [] = false
is_used q (u ∷ us) = same u.id q || is_used q us

used-append : (q : ℤ) (us vs : List Use) → is_used q (us ++ vs) ≡ (is_used q us || is_used q vs)
used-append q [] vs = refl
used-append q (u ∷ us) vs = by (same u.id q) (used-append q us vs)
  where
    by : (b : Bool) → is_used q (us ++ vs) ≡ (is_used q us || is_used q vs) → (b || is_used q (us ++ vs)) ≡ ((b || is_used q us) || is_used q vs)
    by true e = refl
    by false e = e

-- a use of an id, of fewer dictionaries than some
record Fewer (P : Use → Type 0) (q : ℤ) (n : ℕ) : Type 0 where
  inner : Use
  id : inner.id ≡ q
  holds : P inner
  fewer : dictionary_count inner.values < n

more_than : (P : Use → Type 0) (q : ℤ) (m n : ℕ) → m < suc n → Fewer P q m → Fewer P q n
more_than P q m n h f = record { inner = f.inner; id = f.id; holds = f.holds; fewer = omega (arith, f.fewer) }

used_in_dictionary : (P : Use → Type 0) (q id : ℤ) (k : Kind) (b : Bool) → same id q ≡ b → (b || is_used q (uses_of k)) ≡ true → P (use_as id k) → (is_used q (uses_of k) ≡ true → Fewer P q (dictionary_count k)) → Fewer P q (suc (dictionary_count k))
used_in_dictionary P q id k true e h p rest = record { inner = use_as id k; id = id_true id q e; holds = p; fewer = omega arith }
used_in_dictionary P q id k false e h p rest = more_than P q (dictionary_count k) (suc (dictionary_count k)) (omega arith) (rest h)

used_in_either : (P : Use → Type 0) (q : ℤ) (us vs : List Use) (m n : ℕ) (b : Bool) → is_used q us ≡ b → (b || is_used q vs) ≡ true → (is_used q us ≡ true → Fewer P q m) → (is_used q vs ≡ true → Fewer P q n) → Fewer P q (m + n)
used_in_either P q us vs m n true e h f g = more_than P q m (m + n) (omega arith) (f e)
used_in_either P q us vs m n false e h f g = more_than P q n (m + n) (omega arith) (g h)

mutual
  used_fewer : (P : Use → Type 0) (q : ℤ) (k : Kind) → AllByRecursion P (uses_of k) → is_used q (uses_of k) ≡ true → Fewer P q (dictionary_count k)
  used_fewer P q (kind.«list» o fs) a h = used_fewer_in P q fs a h
  used_fewer P q (kind.fixed_size_list n fs) a h = used_fewer_in P q fs a h
  used_fewer P q (kind.struct fs) a h = used_fewer_in P q fs a h
  used_fewer P q (kind.map sorted fs) a h = used_fewer_in P q fs a h
  used_fewer P q (kind.union mode stated types fs) a h = used_fewer_in P q fs a h
  used_fewer P q (kind.dictionary t ordered id k) a h = used_in_dictionary P q id k (same id q) refl h a.0 (λ g. used_fewer P q k a.1 g)
  used_fewer P q (kind.extension name metadata k) a h = used_fewer P q k a h
  used_fewer P q k a h = cc

  used_fewer_in : (P : Use → Type 0) (q : ℤ) (fs : Fields) → AllByRecursion P (uses_in fs) → is_used q (uses_in fs) ≡ true → Fewer P q (dictionary_counts fs)
  used_fewer_in P q kind.none a h = cc
  used_fewer_in P q (kind.field name nullable metadata k fs) a h =
      let both = split P (uses_of k) (uses_in fs) a in
      used_in_either P q (uses_of k) (uses_in fs) (dictionary_count k) (dictionary_counts fs) (is_used q (uses_of k)) refl (sym (used-append q (uses_of k) (uses_in fs)) ∙ h) (λ g. used_fewer P q k both.0 g) (λ g. used_fewer_in P q fs both.1 g)

-- ── the uses of kinds with ids ──

-- those of a kind's fields are among its own
fields_used : (q : ℤ) (k : Kind) (id : Option ℤ) (below : Ids) → is_used q (uses_in (fields_with (child_fields k) below)) ≡ true → is_used q (uses_of (kind_with k id below)) ≡ true
fields_used q (kind.«list» o fs) id below h = h
fields_used q (kind.fixed_size_list n fs) id below h = h
fields_used q (kind.struct fs) id below h = h
fields_used q (kind.map sorted fs) id below h = h
fields_used q (kind.union mode stated types fs) id below h = h
fields_used q (kind.extension name metadata k) id below h = fields_used q k id below h
fields_used q k id below h = cc

pub fields_hold : (P : Use → Type 0) (k : Kind) (id : Option ℤ) (below : Ids) → AllByRecursion P (uses_of (kind_with k id below)) → AllByRecursion P (uses_in (fields_with (child_fields k) below))
fields_hold P (kind.«list» o fs) id below h = h
fields_hold P (kind.fixed_size_list n fs) id below h = h
fields_hold P (kind.struct fs) id below h = h
fields_hold P (kind.map sorted fs) id below h = h
fields_hold P (kind.union mode stated types fs) id below h = h
fields_hold P (kind.extension name metadata k) id below h = fields_hold P k id below h
fields_hold P k id below h = tt

-- those of a dictionary's kind are its own and those of its values' kind
pub dictionary_uses : (i : IntegerType) (k : Kind) (id : Option ℤ) (below : Ids) → is_dictionary i k ≡ true
    → uses_of (kind_with k id below) ≡ use_as (id_under id) (kind_with (values_kind k) None below) ∷ uses_of (kind_with (values_kind k) None below)
dictionary_uses i (kind.dictionary t ordered old k) id below h = refl
dictionary_uses i (kind.extension name metadata k) id below h = dictionary_uses i k id below h
dictionary_uses i k id below h = cc

-- those of the first field, and of the others
pub first_used : (name : List ℕ) (nullable : Bool) (metadata : kind.Metadata) (k : Kind) (fs : Fields) (below : Ids)
    → uses_in (fields_with (kind.field name nullable metadata k fs) below) ≡ uses_of (kind_with k (first_id below) (first_ids below)) ++ uses_in (fields_with fs (other_ids below))
first_used name nullable metadata k fs no_fields = refl
first_used name nullable metadata k fs (ids id below others) = refl

-- ── arrays under kinds ──

-- arrays of the fields' kinds, names, nullability and metadata aside; and parts of a kind
abbrev pub Under : Fields → Forest → Type 0
Under kind.none none = Unit {0}
Under kind.none (also p ps) = ⊥
Under (kind.field name nullable metadata k fs) none = ⊥
Under (kind.field name nullable metadata k fs) (also p ps) = (form k ≡ form (kind_in p)) × Under fs ps

abbrev pub PartsUnder : Kind → Forest → Type 0
PartsUnder k none = Unit {0}
PartsUnder k (also p ps) = (form k ≡ form (kind_in p)) × PartsUnder k ps

under : (fs gs : Fields) (cs : Forest) → forms fs ≡ forms gs → are_of gs (kinds_each cs) ≡ true → Under fs cs
under kind.none kind.none none e h = tt
under kind.none kind.none (also p ps) e h = cc
under kind.none (kind.field n c y l gs) cs e h = cc
under (kind.field m b x k fs) kind.none cs e h = cc
under (kind.field m b x k fs) (kind.field n c y l gs) none e h = cc
under (kind.field m b x k fs) (kind.field n c y l gs) (also p ps) e h =
    let both = and_parts (kind_eq l (kind_in p)) (are_of gs (kinds_each ps)) h in
    let same_fields : kind.field [] true [] (form k) (forms fs) ≡ kind.field [] true [] (form l) (forms gs) = e in
    let first : form k ≡ form l = cc in
    let rest : forms fs ≡ forms gs = cc in
    (first ∙ ap form ((kind_eq_is l (kind_in p)).0 both.0), under fs gs ps rest both.1)

-- the children of an array under those of a kind of the same form
pub children_under : (k l : Kind) (cs : Forest) → form k ≡ form l → are_of (child_fields l) (kinds_each cs) ≡ true → Under (child_fields k) cs
children_under k l cs e h = under (child_fields k) (child_fields l) cs (sym (fields_form k) ∙ ap child_fields e ∙ fields_form l) h

parts_under : (k l : Kind) (ps : Forest) → form k ≡ form l → list_all (is_same_kind l) (kinds_each ps) ≡ true → PartsUnder k ps
parts_under k l none e h = tt
parts_under k l (also p ps) e h =
    let both = and_parts (is_same_kind l (kind_in p)) (list_all (is_same_kind l) (kinds_each ps)) h in
    (e ∙ form_is_same l (kind_in p) both.0, parts_under k l ps e both.1)

each_alike : (k : Kind) (ps : Forest) → each_of k (kinds_each ps) ≡ true → list_all (is_same_kind k) (kinds_each ps) ≡ true
each_alike k none h = cc
each_alike k (also p ps) h = h

pub values_under_them : (k l : Kind) (ps : Forest) → form k ≡ form l → each_of (values_kind l) (kinds_each ps) ≡ true → PartsUnder (values_kind k) ps
values_under_them k l ps e h = parts_under (values_kind k) (values_kind l) ps (sym (values_form k) ∙ ap values_kind e ∙ values_form l) (each_alike (values_kind l) ps h)

pub same_dictionary : (i : IntegerType) (k l : Kind) → form k ≡ form l → is_dictionary i l ≡ true → is_dictionary i k ≡ true
same_dictionary i k l e h = sym (dictionary_form i k) ∙ ap (is_dictionary i) e ∙ dictionary_form i l ∙ h

-- ── what stands in arrays is used ──

or_used : (a b c d : Bool) → (a ≡ true → c ≡ true) → (b ≡ true → d ≡ true) → (a || b) ≡ true → (c || d) ≡ true
or_used true b c d f g h = rw (f refl) refl
or_used false b true d f g h = refl
or_used false b false d f g h = g h

either_of : (a b c : Bool) → (a ≡ true → c ≡ true) → (b ≡ true → c ≡ true) → (a || b) ≡ true → c ≡ true
either_of true b c f g h = f refl
either_of false b c f g h = g h

mutual
  array_used : (q : ℤ) (p : Parts) (k : Kind) (id : Option ℤ) (below : Ids) → form k ≡ form (kind_in p) → fault_in p ≡ None → stands_in q p id below ≡ true → is_used q (uses_of (kind_with k id below)) ≡ true
  array_used q (leaf l) k id below e f h = cc
  array_used q (nested (listed l) cs) k id below e f h =
      let s = top_sound (listed l) cs f in
      fields_used q k id below (each_used q cs (child_fields k) below (children_under k l.kind cs e (and_parts (suits (listed l)) (are_of (child_fields l.kind) (kinds_each cs)) s.0.suits).1) s.1 h)
  array_used q (nested (mapped l) cs) k id below e f h =
      let s = top_sound (mapped l) cs f in
      fields_used q k id below (each_used q cs (child_fields k) below (children_under k l.kind cs e (and_parts (suits (mapped l)) (are_of (child_fields l.kind) (kinds_each cs)) s.0.suits).1) s.1 h)
  array_used q (nested (sized l) cs) k id below e f h =
      let s = top_sound (sized l) cs f in
      fields_used q k id below (each_used q cs (child_fields k) below (children_under k l.kind cs e (and_parts (suits (sized l)) (are_of (child_fields l.kind) (kinds_each cs)) s.0.suits).1) s.1 h)
  array_used q (nested (structured l) cs) k id below e f h =
      let s = top_sound (structured l) cs f in
      fields_used q k id below (each_used q cs (child_fields k) below (children_under k l.kind cs e (and_parts (suits (structured l)) (are_of (child_fields l.kind) (kinds_each cs)) s.0.suits).1) s.1 h)
  array_used q (nested (tagged l) cs) k id below e f h =
      let s = top_sound (tagged l) cs f in
      fields_used q k id below (each_used q cs (child_fields k) below (children_under k l.kind cs e (and_parts (suits (tagged l)) (are_of (child_fields l.kind) (kinds_each cs)) s.0.suits).1) s.1 h)
  array_used q (nested (indexed d) ps) k id below e f h =
      let s = top_sound (indexed d) ps f in
      let both = and_parts (is_dictionary d.index d.kind) (each_of (values_kind d.kind) (kinds_each ps)) s.0.suits in
      let uses = dictionary_uses d.index k id below (same_dictionary d.index k d.kind e both.0) in
      ap (is_used q) uses ∙ or_used (same (id_under id) q) (stands_in_parts q ps below) (same (id_under id) q) (is_used q (uses_of (kind_with (values_kind k) None below))) (λ g. g)
      (λ g. parts_used q ps (values_kind k) below (values_under_them k d.kind ps e both.1) s.1 g) h

  each_used : (q : ℤ) (ps : Forest) (fs : Fields) (below : Ids) → Under fs ps → fault_each ps ≡ None → stands_in_each q ps below ≡ true → is_used q (uses_in (fields_with fs below)) ≡ true
  each_used q none fs below u f h = cc
  each_used q (also p ps) kind.none below u f h = absurd u
  each_used q (also p ps) (kind.field name nullable metadata k fs) below u f h =
      let fs' = neither (fault_in p) (fault_each ps) f in
      ap (is_used q) (first_used name nullable metadata k fs below) ∙ used-append q (uses_of (kind_with k (first_id below) (first_ids below))) (uses_in (fields_with fs (other_ids below)))
      ∙ or_used (stands_in q p (first_id below) (first_ids below)) (stands_in_each q ps (other_ids below)) (is_used q (uses_of (kind_with k (first_id below) (first_ids below)))) (is_used q (uses_in (fields_with fs (other_ids below))))
      (λ g. array_used q p k (first_id below) (first_ids below) u.0 fs'.0 g) (λ g. each_used q ps fs (other_ids below) u.1 fs'.1 g) h

  parts_used : (q : ℤ) (ps : Forest) (k : Kind) (below : Ids) → PartsUnder k ps → fault_each ps ≡ None → stands_in_parts q ps below ≡ true → is_used q (uses_of (kind_with k None below)) ≡ true
  parts_used q none k below u f h = cc
  parts_used q (also p ps) k below u f h =
      let fs' = neither (fault_in p) (fault_each ps) f in
      either_of (stands_in q p None below) (stands_in_parts q ps below) (is_used q (uses_of (kind_with k None below))) (λ g. array_used q p k None below u.0 fs'.0 g) (λ g. parts_used q ps k below u.1 fs'.1 g) h

-- ── arrays stand apart ──

-- a use whose values hold one of its id
never_inside : (whole : List Use) (q : ℤ) (k : Kind) → Agrees whole (use_as q k) → Fewer (Agrees whole) q (dictionary_count k) → ⊥
never_inside whole q k a f =
    let there : values_under q whole ≡ Some f.holds.values = ap (λ i. values_under i whole) (sym f.id) ∙ f.holds.first in
    let firsts : Some a.values ≡ Some f.holds.values = sym a.first ∙ there in
    let one : a.values ≡ f.holds.values = cc in
    let alike : is_same_kind k f.inner.values ≡ true = same_as_other a.values k f.inner.values a.one (subst (λ l. is_same_kind l f.inner.values ≡ true) (sym one) f.holds.one) in
    let counts : dictionary_count k ≡ dictionary_count f.inner.values = sym (count_form k) ∙ ap dictionary_count (form_is_same k f.inner.values alike) ∙ count_form f.inner.values in
    omega (arith, counts, f.fewer)

stands_apart : (whole : List Use) (q : ℤ) (ps : Forest) (k : Kind) (below : Ids) → PartsUnder k ps → fault_each ps ≡ None → Agrees whole (use_as q (kind_with k None below)) → AllByRecursion (Agrees whole) (uses_of (kind_with k None below))
    → stands_in_parts q ps below ≡ false
stands_apart whole q ps k below u f a all = by (stands_in_parts q ps below) refl
  where
    by : (b : Bool) → stands_in_parts q ps below ≡ b → b ≡ false
    by false h = refl
    by true h = absurd (never_inside whole q (kind_with k None below) a (used_fewer (Agrees whole) q (kind_with k None below) all (parts_used q ps k below u f h)))

mutual
  array_apart : (whole : List Use) (p : Parts) (k : Kind) (id : Option ℤ) (below : Ids) → form k ≡ form (kind_in p) → fault_in p ≡ None → AllByRecursion (Agrees whole) (uses_of (kind_with k id below)) → IsApart p id below
  array_apart whole (leaf l) k id below e f a = tt
  array_apart whole (nested (listed l) cs) k id below e f a =
      let s = top_sound (listed l) cs f in
      each_apart whole cs (child_fields k) below (children_under k l.kind cs e (and_parts (suits (listed l)) (are_of (child_fields l.kind) (kinds_each cs)) s.0.suits).1) s.1 (fields_hold (Agrees whole) k id below a)
  array_apart whole (nested (mapped l) cs) k id below e f a =
      let s = top_sound (mapped l) cs f in
      each_apart whole cs (child_fields k) below (children_under k l.kind cs e (and_parts (suits (mapped l)) (are_of (child_fields l.kind) (kinds_each cs)) s.0.suits).1) s.1 (fields_hold (Agrees whole) k id below a)
  array_apart whole (nested (sized l) cs) k id below e f a =
      let s = top_sound (sized l) cs f in
      each_apart whole cs (child_fields k) below (children_under k l.kind cs e (and_parts (suits (sized l)) (are_of (child_fields l.kind) (kinds_each cs)) s.0.suits).1) s.1 (fields_hold (Agrees whole) k id below a)
  array_apart whole (nested (structured l) cs) k id below e f a =
      let s = top_sound (structured l) cs f in
      each_apart whole cs (child_fields k) below (children_under k l.kind cs e (and_parts (suits (structured l)) (are_of (child_fields l.kind) (kinds_each cs)) s.0.suits).1) s.1 (fields_hold (Agrees whole) k id below a)
  array_apart whole (nested (tagged l) cs) k id below e f a =
      let s = top_sound (tagged l) cs f in
      each_apart whole cs (child_fields k) below (children_under k l.kind cs e (and_parts (suits (tagged l)) (are_of (child_fields l.kind) (kinds_each cs)) s.0.suits).1) s.1 (fields_hold (Agrees whole) k id below a)
  array_apart whole (nested (indexed d) ps) k id below e f a =
      let s = top_sound (indexed d) ps f in
      let both = and_parts (is_dictionary d.index d.kind) (each_of (values_kind d.kind) (kinds_each ps)) s.0.suits in
      let v = values_kind k in
      let all : AllByRecursion (Agrees whole) (use_as (id_under id) (kind_with v None below) ∷ uses_of (kind_with v None below)) = subst (AllByRecursion (Agrees whole)) (dictionary_uses d.index k id below (same_dictionary d.index k d.kind e both.0)) a in
      let u = values_under_them k d.kind ps e both.1 in
      (stands_apart whole (id_under id) ps v below u s.1 all.0 all.1, parts_apart whole ps v below u s.1 all.1)

  each_apart : (whole : List Use) (ps : Forest) (fs : Fields) (below : Ids) → Under fs ps → fault_each ps ≡ None → AllByRecursion (Agrees whole) (uses_in (fields_with fs below)) → AreApart ps below
  each_apart whole none fs below u f a = tt
  each_apart whole (also p ps) kind.none below u f a = absurd u
  each_apart whole (also p ps) (kind.field name nullable metadata k fs) below u f a =
      let fs' = neither (fault_in p) (fault_each ps) f in
      let both = split (Agrees whole) (uses_of (kind_with k (first_id below) (first_ids below))) (uses_in (fields_with fs (other_ids below))) (subst (AllByRecursion (Agrees whole)) (first_used name nullable metadata k fs below) a) in
      (array_apart whole p k (first_id below) (first_ids below) u.0 fs'.0 both.0, each_apart whole ps fs (other_ids below) u.1 fs'.1 both.1)

  parts_apart : (whole : List Use) (ps : Forest) (k : Kind) (below : Ids) → PartsUnder k ps → fault_each ps ≡ None → AllByRecursion (Agrees whole) (uses_of (kind_with k None below)) → PartsAreApart ps below
  parts_apart whole none k below u f a = tt
  parts_apart whole (also p ps) k below u f a =
      let fs' = neither (fault_in p) (fault_each ps) f in
      (array_apart whole p k None below u.0 fs'.0 a, parts_apart whole ps k below u.1 fs'.1 a)

columns_under : (ps : Forest) (fs : Fields) → forms fs ≡ forms (columns_of ps) → Under fs ps
columns_under none kind.none e = tt
columns_under none (kind.field name nullable metadata k fs) e = cc
columns_under (also p ps) kind.none e = cc
columns_under (also p ps) (kind.field name nullable metadata k fs) e =
    let same_fields : kind.field [] true [] (form k) (forms fs) ≡ kind.field [] true [] (form (kind_in p)) (forms (columns_of ps)) = e in
    let first : form k ≡ form (kind_in p) = cc in
    let rest : forms fs ≡ forms (columns_of ps) = cc in
    (first, columns_under ps fs rest)

-- columns of the fields' kinds
pub columns_of_kinds : (ps : Forest) (fs : Fields) → have_same_kinds fs (columns_of ps) ≡ true → Under fs ps
columns_of_kinds ps fs h =
    let same_structs : kind.struct (forms fs) ≡ kind.struct (forms (columns_of ps)) = form_is_same (kind.struct fs) (kind.struct (columns_of ps)) h in
    let same_forms : forms fs ≡ forms (columns_of ps) = cc in
    columns_under ps fs same_forms

pub agreeing_are_apart : (ps : Forest) (fs : Fields) (below : Ids) → fault_each ps ≡ None → Under fs ps → uses_agree [] (uses_in (fields_with fs below)) ≡ Ok tt → AreApart ps below
agreeing_are_apart ps fs below f u h = each_apart (uses_in (fields_with fs below)) ps fs below u f (uses_one (fields_with fs below) h)
