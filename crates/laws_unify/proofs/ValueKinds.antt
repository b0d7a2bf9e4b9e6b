-- Kinds of one form, and the kinds of their dictionaries' values in preorder.
use Rattle.std.proofs.Common.{◌≡◌, ◌∙◌, sym, refl, ap, subst, ℕ, zero, suc, ◌+◌, ◌-◌, ◌<◌, ◌≤◌, List, [], ◌∷◌, ◌++◌, length, drop, Bool, true, false, Some, arith, inl, inr, ◌⊎◌, slice_get}
use Rattle.std.specs.Prelude.{nat_le}
use Rattle.std.specs.List.{list_all}
use Rattle.std.proofs.lemmas.Bool.{and_parts}
use Rattle.std.proofs.lemmas.Bool.Decides.{leb_tells}
use Rattle.std.proofs.lemmas.List.{append_assoc, append-nil, drop_at, drop-append-le, drop-drop, length-append, map-append}
use Rattle.std.proofs.Math.Seq.{drop-append-add}
use Rattle.arrow_spec.specs.declared.types.IntegerType.{IntegerType}
use Rattle.arrow_spec.specs.Kinds as kind
use Rattle.arrow_spec.specs.Kinds.{Fields, Kind, Use, dictionary_count, dictionary_counts, have_same_kinds, is_same_kind, uses_in, uses_of}
use Rattle.arrow_spec.proofs.Forms.{count_form, form, forms}
use Rattle.arrow_types.specs.KindCode.{kind_eq, kind_eq_is}
use Rattle.ipc_fields.proofs.SameKinds.{form_is_same, same_by_form}
use Rattle.arrow_arrays.specs.Columns.{columns_of}
use Rattle.arrow_arrays.specs.Heads.{are_of, child_fields, each_of, is_dictionary, values_kind}
use Rattle.arrow_arrays.specs.Parts.{Forest, Parts, none, also, kind_in, kinds_each}
use Rattle.laws_unify.specs.United.{kinds_of, values_kinds}

-- ── forms ──

pub values_form : (k : Kind) → values_kind (form k) ≡ form (values_kind k)
values_form (kind.dictionary t ordered id k) = refl
values_form (kind.extension name metadata k) = values_form k
values_form k = refl

fields_form : (k : Kind) → child_fields (form k) ≡ forms (child_fields k)
fields_form (kind.extension name metadata k) = fields_form k
fields_form k = refl

dictionary_form : (i : IntegerType) (k : Kind) → is_dictionary i (form k) ≡ is_dictionary i k
dictionary_form i (kind.extension name metadata k) = dictionary_form i k
dictionary_form i k = refl

pub same_dictionary : (i : IntegerType) (k l : Kind) → form k ≡ form l → is_dictionary i l ≡ true → is_dictionary i k ≡ true
same_dictionary i k l e h = sym (dictionary_form i k) ∙ ap (is_dictionary i) e ∙ dictionary_form i l ∙ h

pub same_count : (k l : Kind) → form k ≡ form l → dictionary_count k ≡ dictionary_count l
same_count k l e = sym (count_form k) ∙ ap dictionary_count e ∙ count_form l

-- arrays of the fields' kinds, names, nullability and metadata aside; and parts of a kind
abbrev pub Under : Fields → Forest → Type 0
Under kind.none none = Unit {0}
Under kind.none (also p ps) = ⊥
Under (kind.field name nullable metadata k fs) none = ⊥
Under (kind.field name nullable metadata k fs) (also p ps) = (form k ≡ form (kind_in p)) × Under fs ps

abbrev pub PartsUnder : Kind → Forest → Type 0
PartsUnder k none = Unit {0}
PartsUnder k (also p ps) = (form k ≡ form (kind_in p)) × PartsUnder k ps

under : (fs gs : Fields) (cs : Forest) → forms fs ≡ forms gs → are_of gs (kinds_each cs) ≡ true → Under fs cs
under kind.none kind.none none e h = tt
under kind.none kind.none (also p ps) e h = cc
under kind.none (kind.field n c y l gs) cs e h = cc
under (kind.field m b x k fs) kind.none cs e h = cc
under (kind.field m b x k fs) (kind.field n c y l gs) none e h = cc
under (kind.field m b x k fs) (kind.field n c y l gs) (also p ps) e h =
    let both = and_parts (kind_eq l (kind_in p)) (are_of gs (kinds_each ps)) h in
    let same_fields : kind.field [] true [] (form k) (forms fs) ≡ kind.field [] true [] (form l) (forms gs) = e in
    let first : form k ≡ form l = cc in
    let rest : forms fs ≡ forms gs = cc in
    (first ∙ ap form ((kind_eq_is l (kind_in p)).0 both.0), under fs gs ps rest both.1)

-- the children of an array under those of a kind of the same form
pub children_under : (k l : Kind) (cs : Forest) → form k ≡ form l → are_of (child_fields l) (kinds_each cs) ≡ true → Under (child_fields k) cs
children_under k l cs e h = under (child_fields k) (child_fields l) cs (sym (fields_form k) ∙ ap child_fields e ∙ fields_form l) h

pub parts_under : (k l : Kind) (ps : Forest) → form k ≡ form l → list_all (is_same_kind l) (kinds_each ps) ≡ true → PartsUnder k ps
parts_under k l none e h = tt
parts_under k l (also p ps) e h =
    let both = and_parts (is_same_kind l (kind_in p)) (list_all (is_same_kind l) (kinds_each ps)) h in
    (e ∙ form_is_same l (kind_in p) both.0, parts_under k l ps e both.1)

each_alike : (k : Kind) (ps : Forest) → each_of k (kinds_each ps) ≡ true → list_all (is_same_kind k) (kinds_each ps) ≡ true
each_alike k none h = cc
each_alike k (also p ps) h = h

-- the parts of a dictionary under the values of a kind of the same form
pub values_under_them : (k l : Kind) (ps : Forest) → form k ≡ form l → each_of (values_kind l) (kinds_each ps) ≡ true → PartsUnder (values_kind k) ps
values_under_them k l ps e h = parts_under (values_kind k) (values_kind l) ps (sym (values_form k) ∙ ap values_kind e ∙ values_form l) (each_alike (values_kind l) ps h)

-- columns under fields
pub columns_under : (fs : Fields) (ps : Forest) → have_same_kinds fs (columns_of ps) ≡ true → Under fs ps
columns_under kind.none none h = tt
columns_under kind.none (also p ps) h = cc
columns_under (kind.field m b x k fs) none h = cc
columns_under (kind.field m b x k fs) (also p ps) h =
    let both = and_parts (is_same_kind k (kind_in p)) (have_same_kinds fs (columns_of ps)) h in
    (form_is_same k (kind_in p) both.0, columns_under fs ps both.1)

-- parts of a kind are each of every kind of its form
all_under : (k l : Kind) (ps : Forest) → form k ≡ form l → PartsUnder k ps → list_all (is_same_kind l) (kinds_each ps) ≡ true
all_under k l none e h = refl
all_under k l (also p ps) e h = rw (same_by_form l (kind_in p) (sym e ∙ h.0), all_under k l ps e h.1) refl

pub each_under : (k l : Kind) (p : Parts) (ps : Forest) → form k ≡ form l → PartsUnder k (also p ps) → each_of l (kinds_each (also p ps)) ≡ true
each_under k l p ps e h = all_under k l (also p ps) e h

-- ── the values' kinds in preorder ──

abbrev kind_of_use : Use → Kind
kind_of_use u = u.values

first_kinds : (name : List ℕ) (nullable : Bool) (metadata : kind.Metadata) (k : Kind) (fs : Fields) → values_kinds (kind.field name nullable metadata k fs) ≡ kinds_of k ++ values_kinds fs
first_kinds name nullable metadata k fs = map-append kind_of_use (uses_of k) (uses_in fs)

mutual
  count_kinds : (k : Kind) → length (kinds_of k) ≡ dictionary_count k
  count_kinds (kind.«list» o fs) = counts_kinds fs
  count_kinds (kind.fixed_size_list n fs) = counts_kinds fs
  count_kinds (kind.struct fs) = counts_kinds fs
  count_kinds (kind.map sorted fs) = counts_kinds fs
  count_kinds (kind.union mode stated types fs) = counts_kinds fs
  count_kinds (kind.dictionary t ordered id k) = ap suc (count_kinds k)
  count_kinds (kind.extension name metadata k) = count_kinds k
  count_kinds k = refl

  counts_kinds : (fs : Fields) → length (values_kinds fs) ≡ dictionary_counts fs
  counts_kinds kind.none = refl
  counts_kinds (kind.field name nullable metadata k fs) =
      let a = ap length (first_kinds name nullable metadata k fs) in
      let b = length-append (kinds_of k) (values_kinds fs) in
      let c = count_kinds k in
      let d = counts_kinds fs in
      omega (arith, a, b, c, d)

-- from a number on the kinds of a list are those of a kind's dictionaries, and others behind them; and of fields'
abbrev pub Sits : List Kind → ℕ → Kind → Type 0
Sits whole id k = (rest : List Kind) × (drop id whole ≡ kinds_of k ++ rest)

abbrev pub SitsEach : List Kind → ℕ → Fields → Type 0
SitsEach whole id fs = (rest : List Kind) × (drop id whole ≡ values_kinds fs ++ rest)

pub sits_fields : (whole : List Kind) (id : ℕ) (k : Kind) → Sits whole id k → SitsEach whole id (child_fields k)
sits_fields whole id (kind.«list» o fs) s = s
sits_fields whole id (kind.fixed_size_list n fs) s = s
sits_fields whole id (kind.struct fs) s = s
sits_fields whole id (kind.map sorted fs) s = s
sits_fields whole id (kind.union mode stated types fs) s = s
sits_fields whole id (kind.extension name metadata k) s = sits_fields whole id k s
sits_fields whole id k s = (drop id whole, refl)

pub sits_first : (whole : List Kind) (id : ℕ) (name : List ℕ) (nullable : Bool) (metadata : kind.Metadata) (k : Kind) (fs : Fields) → SitsEach whole id (kind.field name nullable metadata k fs) → Sits whole id k
sits_first whole id name nullable metadata k fs s =
    (values_kinds fs ++ s.0, s.1 ∙ ap (λ ks. ks ++ s.0) (first_kinds name nullable metadata k fs) ∙ append_assoc (kinds_of k) (values_kinds fs) s.0)

drop_further : {A : Type 0} (n m : ℕ) (xs ys zs : List A) → drop n xs ≡ ys ++ zs → m ≡ length ys → drop (n + m) xs ≡ zs
drop_further n m xs ys zs e l = sym (drop-drop m n xs) ∙ ap (drop m) e ∙ drop_at ys zs m (sym l)

pub sits_others : (whole : List Kind) (id count : ℕ) (name : List ℕ) (nullable : Bool) (metadata : kind.Metadata) (k : Kind) (fs : Fields) → count ≡ dictionary_count k → SitsEach whole id (kind.field name nullable metadata k fs) → SitsEach whole (id + count) fs
unfolding sits_first
sits_others whole id count name nullable metadata k fs e s =
    let first = sits_first whole id name nullable metadata k fs s in
    (s.0, drop_further id count whole (kinds_of k) (values_kinds fs ++ s.0) first.1 (e ∙ sym (count_kinds k)))

dictionary_kinds : (i : IntegerType) (k : Kind) → is_dictionary i k ≡ true → kinds_of k ≡ values_kind k ∷ kinds_of (values_kind k)
dictionary_kinds i (kind.dictionary t ordered id k) h = refl
dictionary_kinds i (kind.extension name metadata k) h = dictionary_kinds i k h
dictionary_kinds i k h = cc

get_there : {A : Type 0} (n : ℕ) (xs ys : List A) (y : A) → drop n xs ≡ y ∷ ys → slice_get xs n ≡ Some y
get_there zero [] ys y e = cc
get_there zero (x ∷ xs) ys y e = let h : x ≡ y = cc in ap Some h
get_there (suc n) [] ys y e = cc
get_there (suc n) (x ∷ xs) ys y e = get_there n xs ys y e

pub sits_values : (whole : List Kind) (id : ℕ) (i : IntegerType) (k : Kind) → is_dictionary i k ≡ true → Sits whole id k → slice_get whole id ≡ Some (values_kind k)
sits_values whole id i k h s = get_there id whole (kinds_of (values_kind k) ++ s.0) (values_kind k) (s.1 ∙ ap (λ ks. ks ++ s.0) (dictionary_kinds i k h))

pub sits_inside : (whole : List Kind) (id : ℕ) (i : IntegerType) (k : Kind) → is_dictionary i k ≡ true → Sits whole id k → Sits whole (suc id) (values_kind k)
sits_inside whole id i k h s =
    let e : id + 1 ≡ suc id = omega arith in
    (s.0, ap (λ n. drop n whole) (sym e) ∙ drop_further id 1 whole (values_kind k ∷ []) (kinds_of (values_kind k) ++ s.0) (s.1 ∙ ap (λ ks. ks ++ s.0) (dictionary_kinds i k h)) refl)

-- ── each of them stands before the kinds of its own dictionaries ──

abbrev pub AreNested : List Kind → Type 0
AreNested whole = (q : ℕ) (k : Kind) → slice_get whole q ≡ Some k → Sits whole (suc q) k

get_first : {A : Type 0} (xs ys : List A) (q : ℕ) → q < length xs → slice_get (xs ++ ys) q ≡ slice_get xs q
get_first [] ys q h = absurd (omega (arith, h))
get_first (x ∷ xs) ys zero h = refl
get_first (x ∷ xs) ys (suc q) h = get_first xs ys q (omega (arith, h))

get_second : {A : Type 0} (xs ys : List A) (q : ℕ) → slice_get (xs ++ ys) (length xs + q) ≡ slice_get ys q
get_second [] ys q = let e : 0 + q ≡ q = omega arith in ap (slice_get ys) e
get_second (x ∷ xs) ys q = let e : suc (length xs) + q ≡ suc (length xs + q) = omega arith in ap (slice_get (x ∷ (xs ++ ys))) e ∙ get_second xs ys q

nested_both : (xs ys : List Kind) → AreNested xs → AreNested ys → AreNested (xs ++ ys)
nested_both xs ys a b q k e = by (leb_tells (suc q) (length xs))
  where
    by : ((nat_le (suc q) (length xs) ≡ true) × (suc q ≤ length xs)) ⊎ ((nat_le (suc q) (length xs) ≡ false) × (length xs < suc q)) → Sits (xs ++ ys) (suc q) k
    by (inl t) =
        let lt : q < length xs = omega (arith, t.1) in
        let s = a q k (sym (get_first xs ys q lt) ∙ e) in
        (s.0 ++ ys, drop-append-le (suc q) xs ys t.1 ∙ ap (λ zs. zs ++ ys) s.1 ∙ append_assoc (kinds_of k) s.0 ys)
    by (inr t) =
        let i : ℕ = q - length xs in
        let at : length xs + i ≡ q = omega (arith, t.1) in
        let behind : length xs + suc i ≡ suc q = omega (arith, at) in
        let s = b i k (sym (get_second xs ys i) ∙ ap (slice_get (xs ++ ys)) at ∙ e) in
        (s.0, ap (λ n. drop n (xs ++ ys)) (sym behind) ∙ drop-append-add xs ys (suc i) ∙ s.1)

nested_in : (k : Kind) → AreNested (kinds_of k) → AreNested (k ∷ kinds_of k)
nested_in k a zero l e = let same : k ≡ l = cc in ([], ap kinds_of same ∙ sym (append-nil (kinds_of l)))
nested_in k a (suc q) l e = a q l e

none_nested : AreNested []
none_nested q k e = cc

mutual
  kind_nested : (k : Kind) → AreNested (kinds_of k)
  kind_nested (kind.«list» o fs) = kinds_nested fs
  kind_nested (kind.fixed_size_list n fs) = kinds_nested fs
  kind_nested (kind.struct fs) = kinds_nested fs
  kind_nested (kind.map sorted fs) = kinds_nested fs
  kind_nested (kind.union mode stated types fs) = kinds_nested fs
  kind_nested (kind.dictionary t ordered id k) = nested_in k (kind_nested k)
  kind_nested (kind.extension name metadata k) = kind_nested k
  kind_nested k = none_nested

  pub kinds_nested : (fs : Fields) → AreNested (values_kinds fs)
  kinds_nested kind.none = none_nested
  kinds_nested (kind.field name nullable metadata k fs) = subst AreNested (sym (first_kinds name nullable metadata k fs)) (nested_both (kinds_of k) (values_kinds fs) (kind_nested k) (kinds_nested fs))
