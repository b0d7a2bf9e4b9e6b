-- Arrays without rows: which tops types have, and what stands under them.
use Rattle.std.proofs.Common.{◌≡◌, ℕ, zero, suc, ◌+◌, ◌≤◌, ◌<◌, ◌++◌, ◌&&◌, List, [], ◌∷◌, Bool, true, false, Option, Some, None, Result, Ok, Err, IfOk, ℤ, length, get_or, drop, nat_eq, refl, sym, ap, ◌∙◌, subst, arith, add-one}
use Rattle.std.specs.Prelude.{nat_lt}
use Rattle.std.proofs.lemmas.Bool.{and_parts, and_from, eqb-true}
use Rattle.std.proofs.lemmas.List.{length-map}
use Rattle.std.proofs.Math.Seq.{drop-cons}
use Rattle.arrow_spec.specs.declared.types.IntegerType.{IntegerType}
use Rattle.arrow_spec.specs.declared.types.IntegerType.TheVariants as integers
use Rattle.arrow_spec.specs.declared.types.IntervalUnit.TheVariants.{YearMonth}
use Rattle.arrow_spec.specs.declared.types.UnionMode.{UnionMode}
use Rattle.arrow_spec.specs.declared.types.UnionMode.TheVariants.{Dense, Sparse}
use Rattle.arrow_spec.specs.Kinds as kind
use Rattle.arrow_spec.specs.Kinds.{Kind, Fields, none, field, small, large, width, half}
use Rattle.arrow_spec.specs.Schema.{first_is_struct_of_two}
use Rattle.arrow_types.specs.KindCode.{kind_eq}
use Rattle.arrow_types.specs.KindOf.{kind_of, child_of, fields_of}
use Rattle.arrow_types.specs.Physical.{physical_of}
use Rattle.arrow_types.specs.UnionIds.{are_right}
use Rattle.arrow_types.specs.declared.data_type.Field.{Field}
use Rattle.arrow_types.specs.declared.physical.PhysicalType.{PhysicalType}
use Rattle.arrow_types.specs.declared.physical.PhysicalType.TheVariants as physical
use Rattle.arrow_buffers.specs.declared.error.ArrayError.{ArrayError}
use Rattle.arrow_buffers.specs.Layouts.{binary_size}
use Rattle.arrow_arrays.specs.Carried.{is_carried, are_carried}
use Rattle.arrow_arrays.specs.EmptyParts.{empty_leaf, empty_listed, empty_counted, empty_under, empty_forest, empty_parts}
use Rattle.arrow_arrays.specs.EmptyTops.{EmptyUnder, ValuesUnder, is_dense, no_places, empty_indexed, values_in, empty_below}
use Rattle.arrow_arrays.specs.Heads.{listed, mapped, sized, structured, tagged, indexed, is_list, is_map, is_sized, is_struct, is_union, is_dictionary, is_mode, child_fields, are_of, each_of}
use Rattle.arrow_arrays.specs.LeafKinds.{is_leaf_layout}
use Rattle.arrow_arrays.specs.Parts.{Parts, Forest, leaf, nested, also, forest, kind_in, rows_in, kinds_each, fault_in}
use Rattle.arrow_arrays.specs.Parts as parts
use Rattle.arrow_arrays.specs.PartsOf.{parts_of, all_parts_of, forest_of}
use Rattle.arrow_arrays.specs.declared.array.Array.{Array}
use Rattle.arrow_types.proofs.DataTypes.{kind_of_child}
use Rattle.arrow_arrays.proofs.EmptyParts.{union_sound, dictionary_itself, forest-empty, sound-empty, kind-empty, rows-empty, each_itself}
use Rattle.arrow_arrays.proofs.Sliced.{both}

-- what a kind is whose arrays are read, by its layout
abbrev pub fits_layout : PhysicalType → Kind → Bool
fits_layout physical.List k = nat_eq (width (child_fields k)) 1 && is_list small k
fits_layout physical.LargeList k = nat_eq (width (child_fields k)) 1 && is_list large k
fits_layout physical.FixedSizeList k = nat_eq (width (child_fields k)) 1 && is_sized k
fits_layout physical.Map k = nat_eq (width (child_fields k)) 1 && is_map small k
fits_layout physical.Struct k = is_struct k
fits_layout physical.Union k = is_union (is_dense k) k
fits_layout (physical.Dictionary t) k = is_dictionary t k
fits_layout p k = is_leaf_layout p (binary_size k)

first : (a b c : Bool) → ((a && b) && c) ≡ true → (a && b) ≡ true
first a b c h = (and_parts (a && b) c h).0

mode_suits : (mode : UnionMode) (a b : Bool) → (a && b) ≡ true → (is_mode (is_mode true mode) mode && a) ≡ true
mode_suits Dense a b h = (and_parts a b h).0
mode_suits Sparse a b h = (and_parts a b h).0

sized_suits : (size : ℕ) (a b : Bool) (fs : Fields) → ((a && nat_lt 0 size) && b) ≡ true → (a && is_sized (kind.fixed_size_list size fs)) ≡ true
sized_suits zero a b fs h = first a false b h
sized_suits (suc n) a b fs h = and_from a true (and_parts a (nat_lt 0 (suc n)) (first a (nat_lt 0 (suc n)) b h)).0 refl

over : (p : PhysicalType) (name : List ℕ) (metadata : Option (List ℕ)) (k : Kind) → fits_layout p (kind.extension name metadata k) ≡ fits_layout p k
over physical.Null name metadata k = refl
over p name metadata k = refl

-- a kind whose arrays are read has a top of its layout
pub layout_fits : (k : Kind) → is_carried k ≡ true → fits_layout (physical_of k) k ≡ true
layout_fits (kind.integer integers.Int8) h = h
layout_fits (kind.float half) h = h
layout_fits (kind.interval YearMonth) h = h
layout_fits (kind.binary small) h = h
layout_fits (kind.utf8 small) h = h
layout_fits (kind.«list» small fs) h = and_from (nat_eq (width fs) 1) true (and_parts (nat_eq (width fs) 1) (are_carried fs) h).0 refl
layout_fits (kind.«list» large fs) h = and_from (nat_eq (width fs) 1) true (and_parts (nat_eq (width fs) 1) (are_carried fs) h).0 refl
layout_fits (kind.fixed_size_list size fs) h = sized_suits size (nat_eq (width fs) 1) (are_carried fs) fs h
layout_fits (kind.struct fs) h = refl
layout_fits (kind.map sorted fs) h = first (nat_eq (width fs) 1) (first_is_struct_of_two fs) (are_carried fs) h
layout_fits (kind.union mode stated ids fs) h = mode_suits mode (are_right ids (width fs)) (are_carried fs) h
layout_fits (kind.dictionary t ordered id k) h = dictionary_itself t ordered id k
layout_fits (kind.extension name metadata k) h = over (physical_of k) name metadata k ∙ layout_fits k h
layout_fits k h = h

-- the fields of such a kind are of such kinds
pub fields_carried : (k : Kind) → is_carried k ≡ true → are_carried (child_fields k) ≡ true
fields_carried (kind.«list» o fs) h = (and_parts (nat_eq (width fs) 1) (are_carried fs) h).1
fields_carried (kind.fixed_size_list size fs) h = (and_parts (nat_eq (width fs) 1 && nat_lt 0 size) (are_carried fs) h).1
fields_carried (kind.struct fs) h = h
fields_carried (kind.map sorted fs) h = (and_parts (nat_eq (width fs) 1 && first_is_struct_of_two fs) (are_carried fs) h).1
fields_carried (kind.union mode stated ids fs) h = (and_parts (are_right ids (width fs)) (are_carried fs) h).1
fields_carried (kind.extension name metadata k) h = fields_carried k h
fields_carried k h = refl

-- ── sizes of kinds ──

abbrev mutual
  pub kind_size : Kind → ℕ
  kind_size (kind.«list» o fs) = suc (fields_size fs)
  kind_size (kind.fixed_size_list size fs) = suc (fields_size fs)
  kind_size (kind.struct fs) = suc (fields_size fs)
  kind_size (kind.map sorted fs) = suc (fields_size fs)
  kind_size (kind.union mode stated ids fs) = suc (fields_size fs)
  kind_size (kind.dictionary t ordered id k) = suc (kind_size k)
  kind_size (kind.extension name metadata k) = kind_size k
  kind_size k = 1

  pub fields_size : Fields → ℕ
  fields_size none = 0
  fields_size (field name nullable metadata k others) = kind_size k + fields_size others

-- fields, and the values of a dictionary, are smaller
pub size_over : (k : Kind) → suc (fields_size (child_fields k)) ≤ kind_size k
size_over (kind.extension name metadata k) = size_over k
size_over (kind.dictionary t ordered id k) = omega arith
size_over k = omega arith

pub size_of_values : (k v : Kind) → values_in k ≡ Some v → suc (kind_size v) ≤ kind_size k
size_of_values (kind.dictionary t ordered id k) v e = let s : k ≡ v = cc in omega (arith, ap kind_size s)
size_of_values (kind.extension name metadata k) v e = size_of_values k v e
size_of_values k v e = cc

pub values_carried : (k v : Kind) → values_in k ≡ Some v → is_carried k ≡ true → is_carried v ≡ true
values_carried (kind.dictionary t ordered id k) v e c = let s : k ≡ v = cc in ap is_carried (sym s) ∙ c
values_carried (kind.extension name metadata k) v e c = values_carried k v e c
values_carried k v e c = cc

pub child_size : (fs : List Field) (i : ℕ) (x : Field) → i < length fs → x ≡ get_or fs i x → kind_size (kind_of x.dtype) ≤ fields_size (fields_of fs)
child_size [] i x h e = absurd (omega (arith, h))
child_size (f ∷ fs) zero x h e = let k : (child_of f).kind ≡ kind_of x.dtype = ap (λ y. (child_of y).kind) (sym e) ∙ kind_of_child x in omega (arith, ap kind_size k)
child_size (f ∷ fs) (suc i) x h e = omega (arith, child_size fs i x (omega (arith, h)) e)

pub child_carried : (fs : List Field) (i : ℕ) (x : Field) → i < length fs → x ≡ get_or fs i x → are_carried (fields_of fs) ≡ true → is_carried (kind_of x.dtype) ≡ true
child_carried [] i x h e f = absurd (omega (arith, h))
child_carried (c ∷ fs) zero x h e f =
    let k : (child_of c).kind ≡ kind_of x.dtype = ap (λ y. (child_of y).kind) (sym e) ∙ kind_of_child x in
    ap is_carried (sym k) ∙ (and_parts (is_carried (child_of c).kind) (are_carried (fields_of fs)) f).0
child_carried (c ∷ fs) (suc i) x h e f = child_carried fs i x (omega (arith, h)) e (and_parts (is_carried (child_of c).kind) (are_carried (fields_of fs)) f).1

-- ── what stands under a type ──

pub below_values : (k v : Kind) → values_in k ≡ Some v → empty_below k ≡ also (empty_parts v) parts.none
below_values (kind.dictionary t ordered id k) v e = let s : k ≡ v = cc in ap (λ x. also (empty_parts x) parts.none) s
below_values (kind.extension name metadata k) v e = below_values k v e
below_values k v e = cc

pub below_fields : (k : Kind) → values_in k ≡ None → empty_below k ≡ empty_forest (child_fields k)
below_fields (kind.dictionary t ordered id k) e = cc
below_fields (kind.extension name metadata k) e = below_fields k e
below_fields k e = refl

-- several arrays, and more behind them
abbrev pub followed : Forest → Forest → Forest
followed parts.none ds = ds
followed (also p cs) ds = also p (followed cs ds)

pub followed_none : (cs : Forest) → followed cs parts.none ≡ cs
followed_none parts.none = refl
followed_none (also p cs) = ap (also p) (followed_none cs)

-- arrays without rows stand under the first fields
abbrev pub FirstEmpty : List Field → ℕ → List Array → Type 0
FirstEmpty fs i xs = followed (forest_of xs) (empty_forest (fields_of (drop i fs))) ≡ empty_forest (fields_of fs)

followed_more : (xs : List Array) (a : Array) (ds : Forest) → followed (forest_of (xs ++ a ∷ [])) ds ≡ followed (forest_of xs) (also (parts_of a) ds)
followed_more [] a ds = refl
followed_more (x ∷ xs) a ds = ap (also (parts_of x)) (followed_more xs a ds)

left : (fs : List Field) (i : ℕ) (x : Field) → i < length fs → x ≡ get_or fs i x → drop i fs ≡ x ∷ drop (i + 1) fs
left fs i x h e = drop-cons fs i x h ∙ ap (λ y. y ∷ drop (suc i) fs) (sym e) ∙ ap (λ n. x ∷ drop n fs) (sym (add-one i))

pub one_more : (fs : List Field) (i : ℕ) (xs : List Array) (x : Field) (a : Array) (k : Kind) → i < length fs → x ≡ get_or fs i x → k ≡ kind_of x.dtype → parts_of a ≡ empty_parts k → FirstEmpty fs i xs → FirstEmpty fs (i + 1) (xs ++ a ∷ [])
one_more fs i xs x a k h e s p d =
    let rest = empty_forest (fields_of (drop (i + 1) fs)) in
    let here : parts_of a ≡ empty_parts (child_of x).kind = p ∙ ap empty_parts (s ∙ sym (kind_of_child x)) in
    followed_more xs a rest
    ∙ ap (λ y. followed (forest_of xs) (also y rest)) here
    ∙ ap (λ ys. followed (forest_of xs) (empty_forest (fields_of ys))) (sym (left fs i x h e))
    ∙ d

drop_all : {A : Type 0} → (xs : List A) (i : ℕ) → length xs ≤ i → drop i xs ≡ []
drop_all [] zero h = refl
drop_all [] (suc i) h = refl
drop_all (x ∷ xs) zero h = absurd (omega (arith, h))
drop_all (x ∷ xs) (suc i) h = drop_all xs i (omega (arith, h))

pub all_empty : (fs : List Field) (i : ℕ) (xs : List Array) → length fs ≤ i → FirstEmpty fs i xs → forest_of xs ≡ empty_forest (fields_of fs)
all_empty fs i xs h d = sym (followed_none (forest_of xs)) ∙ ap (λ ys. followed (forest_of xs) (empty_forest (fields_of ys))) (sym (drop_all fs i h)) ∙ d

-- as many children as fields
pub as_many : (fs : Fields) (ps : List Parts) → are_of fs (kinds_each (forest ps)) ≡ true → length ps ≡ width fs
as_many none [] h = refl
as_many none (x ∷ ps) h = cc
as_many (field name nullable metadata k others) [] h = cc
as_many (field name nullable metadata k others) (x ∷ ps) h = ap suc (as_many others ps (and_parts (kind_eq k (kind_in x)) (are_of others (kinds_each (forest ps))) h).1)

-- ── tops that are not refused ──

-- the layout's top
pub of_layout : (k : Kind) (p q : PhysicalType) → p ≡ physical_of k → p ≡ q → is_carried k ≡ true → fits_layout q k ≡ true
of_layout k p q e f h = subst (λ r. fits_layout r k ≡ true) (sym e ∙ f) (layout_fits k h)

-- a dictionary's layout
abbrev pub is_keyed : PhysicalType → Bool
is_keyed (physical.Dictionary t) = true
is_keyed p = false

no_values : (k : Kind) → is_keyed (physical_of k) ≡ false → values_in k ≡ None
no_values (kind.dictionary t ordered id k) h = cc
no_values (kind.extension name metadata k) h = no_values k h
no_values k h = refl

-- arrays without rows stand under the fields of another layout
pub fields_empty : (k : Kind) (p q : PhysicalType) (cs : Forest) → p ≡ physical_of k → p ≡ q → is_keyed q ≡ false → is_carried k ≡ true → cs ≡ empty_below k → EmptyUnder (child_fields k) cs
fields_empty k p q cs e f other c s =
    let none : values_in k ≡ None = no_values k (ap is_keyed (sym e ∙ f) ∙ other) in
    subst (EmptyUnder (child_fields k)) (sym (s ∙ below_fields k none)) (forest-empty (child_fields k) (fields_carried k c))

-- and values under a dictionary
values_below : (k : Kind) (t : IntegerType) → is_dictionary t k ≡ true → is_carried k ≡ true → ValuesUnder k (empty_below k)
values_below (kind.dictionary keys ordered id k) t d c = record {
  kinds = ap (λ v. each_of k (v ∷ [])) (kind-empty k k) ∙ each_itself k;
  sound = both (fault_in (empty_parts k)) None (sound-empty k k refl c) refl;
}
values_below (kind.extension name metadata k) t d c = let u = values_below k t d c in record { kinds = u.kinds; sound = u.sound }
values_below k t d c = cc

pub values_empty : (k : Kind) (t : IntegerType) (cs : Forest) → is_dictionary t k ≡ true → is_carried k ≡ true → cs ≡ empty_below k → ValuesUnder k cs
values_empty k t cs d c s = subst (ValuesUnder k) (sym s) (values_below k t d c)

-- and the only child
pub one_child : (k : Kind) (b : Bool) (xs : List Array) → (nat_eq (width (child_fields k)) 1 && b) ≡ true → EmptyUnder (child_fields k) (forest_of xs) → length xs ≡ 1
one_child k b xs h u = sym (length-map xs parts_of) ∙ as_many (child_fields k) (all_parts_of xs) u.kinds ∙ eqb-true (width (child_fields k)) 1 (and_parts (nat_eq (width (child_fields k)) 1) b h).0

pub only_top : (k : Kind) (b : Bool) → (nat_eq (width (child_fields k)) 1 && b) ≡ true → b ≡ true
only_top k b h = (and_parts (nat_eq (width (child_fields k)) 1) b h).1

pub no_union_fault : (k : Kind) (ts : List ℤ) (os : Option (List ℤ)) (cs : Forest) (e : ArrayError) → is_union (is_dense k) k ≡ true → ts ≡ [] → os ≡ no_places (is_dense k) → EmptyUnder (child_fields k) cs → fault_in (nested (tagged (record { kind = k; types = ts; offsets = os })) cs) ≡ Some e → ⊥
no_union_fault k ts os cs e l t o u f =
    let g = rw (t, o) at f in
    let h = union_none k (is_dense k) cs l u in
    cc
  where
    union_none : (k : Kind) (dense : Bool) (cs : Forest) → is_union dense k ≡ true → EmptyUnder (child_fields k) cs → fault_in (nested (tagged (record { kind = k; types = []; offsets = no_places dense })) cs) ≡ None
    union_none k true cs l u = union_sound k (Some []) cs l refl u
    union_none k false cs l u = union_sound k None cs l tt u

pub no_fault : (f : Option ArrayError) (e : ArrayError) → f ≡ None → f ≡ Some e → ⊥
no_fault f e p q = cc

-- where the layout has no children
pub leaf_layout : (k : Kind) (p : PhysicalType) → fits_layout p k ≡ true → (p ≡ physical.List → ⊥) → (p ≡ physical.LargeList → ⊥) → (p ≡ physical.FixedSizeList → ⊥) → (p ≡ physical.Map → ⊥) → (p ≡ physical.Struct → ⊥) → (p ≡ physical.Union → ⊥) → ((t : IntegerType) → p ≡ physical.Dictionary t → ⊥) → is_leaf_layout p (binary_size k) ≡ true
leaf_layout k physical.List h a b c d e f g = absurd (a refl)
leaf_layout k physical.LargeList h a b c d e f g = absurd (b refl)
leaf_layout k physical.FixedSizeList h a b c d e f g = absurd (c refl)
leaf_layout k physical.Map h a b c d e f g = absurd (d refl)
leaf_layout k physical.Struct h a b c d e f g = absurd (e refl)
leaf_layout k physical.Union h a b c d e f g = absurd (f refl)
leaf_layout k (physical.Dictionary t) h a b c d e f g = absurd (g t refl)
leaf_layout k p h a b c d e f g = h

-- ── the whole array ──

-- a layout's top over what stands under it
abbrev pub whole_of : PhysicalType → Kind → Forest → Parts
whole_of physical.List k cs = nested (listed (empty_listed k small)) cs
whole_of physical.LargeList k cs = nested (listed (empty_listed k large)) cs
whole_of physical.FixedSizeList k cs = nested (sized (empty_counted k)) cs
whole_of physical.Map k cs = nested (mapped (empty_listed k small)) cs
whole_of physical.Struct k cs = nested (structured (empty_counted k)) cs
whole_of physical.Union k cs = nested (tagged (record { kind = k; types = []; offsets = no_places (is_dense k) })) cs
whole_of (physical.Dictionary t) k cs = nested (indexed (empty_indexed k t)) cs
whole_of p k cs = leaf (empty_leaf p k)

whole_under : (l k : Kind) → is_dense l ≡ is_dense k → whole_of (physical_of k) l (empty_below k) ≡ empty_under l k
whole_under l (kind.binary small) e = refl
whole_under l (kind.binary large) e = refl
whole_under l (kind.utf8 small) e = refl
whole_under l (kind.utf8 large) e = refl
whole_under l (kind.«list» small fs) e = refl
whole_under l (kind.«list» large fs) e = refl
whole_under l (kind.union Sparse stated ids fs) e = rw e refl
whole_under l (kind.union Dense stated ids fs) e = rw e refl
whole_under l (kind.extension name metadata k) e = whole_under l k e
whole_under l k e = refl

pub whole_at : (k : Kind) (p q : PhysicalType) (cs : Forest) → p ≡ physical_of k → p ≡ q → cs ≡ empty_below k → whole_of q k cs ≡ empty_parts k
whole_at k p q cs e f s = ap (λ r. whole_of r k cs) (sym f ∙ e) ∙ ap (whole_of (physical_of k) k) s ∙ whole_under k k refl

pub whole_told : {E : Type 0} (r : Result Array E) (k : Kind) (p q : PhysicalType) (cs : Forest) → p ≡ physical_of k → p ≡ q → cs ≡ empty_below k → IfOk r (λ a. parts_of a ≡ whole_of q k cs) → IfOk r (λ a. parts_of a ≡ empty_parts k)
whole_told (Ok a) k p q cs e f s h = h ∙ whole_at k p q cs e f s
whole_told (Err x) k p q cs e f s h = tt

-- the same of a layout without children
leaf_whole : (p : PhysicalType) (k : Kind) (cs : Forest) → is_leaf_layout p (binary_size k) ≡ true → whole_of p k cs ≡ leaf (empty_leaf p k)
leaf_whole physical.List k cs h = cc
leaf_whole physical.LargeList k cs h = cc
leaf_whole physical.FixedSizeList k cs h = cc
leaf_whole physical.Map k cs h = cc
leaf_whole physical.Struct k cs h = cc
leaf_whole physical.Union k cs h = cc
leaf_whole (physical.Dictionary t) k cs h = cc
leaf_whole p k cs h = refl

pub leaf_told : {E : Type 0} (r : Result Array E) (k : Kind) (p : PhysicalType) (cs : Forest) → p ≡ physical_of k → is_leaf_layout p (binary_size k) ≡ true → cs ≡ empty_below k → IfOk r (λ a. parts_of a ≡ leaf (empty_leaf p k)) → IfOk r (λ a. parts_of a ≡ empty_parts k)
leaf_told r k p cs e l s h = whole_told r k p p cs e refl s (subst (λ x. IfOk r (λ a. parts_of a ≡ x)) (sym (leaf_whole p k cs l)) h)

-- so it is of its kind, and without rows
pub kind_told : {E : Type 0} (r : Result Array E) (k : Kind) → IfOk r (λ a. parts_of a ≡ empty_parts k) → IfOk r (λ a. kind_in (parts_of a) ≡ k)
kind_told (Ok a) k h = ap kind_in h ∙ kind-empty k k
kind_told (Err x) k h = tt

pub rows_told : {E : Type 0} (r : Result Array E) (k : Kind) → IfOk r (λ a. parts_of a ≡ empty_parts k) → IfOk r (λ a. rows_in (parts_of a) ≡ 0)
rows_told (Ok a) k h = ap rows_in h ∙ rows-empty k k
rows_told (Err x) k h = tt
