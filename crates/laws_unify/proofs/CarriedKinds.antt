-- The kinds that arrays have are carried, and so is each kind of the same form.
use Rattle.std.proofs.Common.{◌≡◌, ◌∙◌, sym, refl, ap, subst, ℕ, zero, suc, List, [], ◌∷◌, ◌++◌, length, Bool, true, false, ◌&&◌, not, Option, Some, None, arith, slice_get}
use Rattle.std.specs.Prelude.{nat_eq, nat_le, nat_lt, if◌then◌else◌, ◌<◌, ◌≤◌, ◌⊎◌}
use Rattle.std.proofs.Common.{inl, inr}
use Rattle.std.proofs.lemmas.Bool.Decides.{leb_tells}
use Rattle.std.specs.List.{list_all}
use Rattle.std.proofs.lemmas.Bool.{and_from, and_parts}
use Rattle.std.proofs.lemmas.List.{map-append}
use Rattle.arrow_spec.specs.declared.types.IntegerType.{IntegerType}
use Rattle.arrow_spec.specs.Kinds as kind
use Rattle.arrow_spec.specs.Kinds.{Fields, Kind, Offsets, is_same_kind, small, large, uses_in, uses_of, width}
use Rattle.arrow_spec.specs.Schema.{first_is_struct_of_two, is_struct_of_two}
use Rattle.arrow_spec.proofs.Forms.{form, forms}
use Rattle.arrow_types.specs.KindCode.{kind_eq, kind_eq_is}
use Rattle.arrow_types.specs.Physical.{physical_of}
use Rattle.arrow_types.specs.UnionIds.{are_right}
use Rattle.arrow_types.specs.declared.physical.PhysicalType.{PhysicalType}
use Rattle.arrow_types.specs.declared.physical.PhysicalType.TheVariants as physical
use Rattle.ipc_fields.proofs.SameKinds.{form_is_same}
use Rattle.arrow_buffers.specs.declared.error.ArrayError.{ArrayError}
use Rattle.arrow_buffers.specs.declared.error.ArrayError.TheVariants.{DataType}
use Rattle.arrow_buffers.specs.Layouts.{binary_size, is_boolean, is_null, is_variable_any, is_view}
use Rattle.arrow_arrays.specs.Carried.{are_carried, is_carried}
use Rattle.arrow_arrays.specs.Heads.{are_of, child_fields, each_of, indexed, is_dictionary, is_list, is_map, is_mode, is_sized, is_struct, is_union, has_offsets, listed, mapped, sized, structured, tagged, values_kind}
use Rattle.arrow_arrays.specs.LeafKinds.{is_leaf_kind, is_leaf_layout}
use Rattle.arrow_arrays.specs.LeafParts.{LeafParts, are_numbers, binary, binary_views, bits, fixed, leaf_fault_in, leaf_kind_in, nulls, number_size, numbers, text, text_views}
use Rattle.arrow_arrays.specs.Parts.{Forest, Parts, also, leaf, nested, none, fault_each, fault_in, kind_in, kinds_each, rows_each}
use Rattle.arrow_arrays.proofs.EmptyTops.{fields_carried}
use Rattle.arrow_arrays.proofs.Sliced.{neither, top_sound}
use Rattle.laws_unify.specs.Single.{AreSingle, IsSingle}
use Rattle.laws_unify.specs.United.{kinds_of, values_kinds}
use Rattle.laws_unify.proofs.ValueKinds.{Under}

-- ── kinds of one form ──

width_form : (fs : Fields) → width (forms fs) ≡ width fs
width_form kind.none = refl
width_form (kind.field n b m k fs) = ap suc (width_form fs)

struct_form : (k : Kind) → is_struct_of_two (form k) ≡ is_struct_of_two k
struct_form (kind.struct fs) = ap (λ w. nat_eq w 2) (width_form fs)
struct_form (kind.extension name metadata k) = struct_form k
struct_form k = refl

two_form : (fs : Fields) → first_is_struct_of_two (forms fs) ≡ first_is_struct_of_two fs
two_form kind.none = refl
two_form (kind.field n b m k fs) = struct_form k

mutual
  carried_form : (k : Kind) → is_carried (form k) ≡ is_carried k
  carried_form (kind.«list» o fs) = rw (width_form fs, carried_forms fs) refl
  carried_form (kind.map sorted fs) = rw (width_form fs, two_form fs, carried_forms fs) refl
  carried_form (kind.fixed_size_list size fs) = rw (width_form fs, carried_forms fs) refl
  carried_form (kind.struct fs) = carried_forms fs
  carried_form (kind.union mode stated ids fs) = rw (width_form fs, carried_forms fs) refl
  carried_form (kind.dictionary t ordered id k) = carried_form k
  carried_form (kind.extension name metadata k) = carried_form k
  carried_form k = refl

  carried_forms : (fs : Fields) → are_carried (forms fs) ≡ are_carried fs
  carried_forms kind.none = refl
  carried_forms (kind.field n b m k fs) = rw (carried_form k, carried_forms fs) refl

pub same_carried : (k l : Kind) → form k ≡ form l → is_carried l ≡ true → is_carried k ≡ true
same_carried k l e h = sym (carried_form k) ∙ ap is_carried e ∙ carried_form l ∙ h

-- ── arrays without children ──

-- what is tested first
first_test : (s : Bool) (e : Option ArrayError) → (if not s then Some DataType else e) ≡ None → s ≡ true
first_test true e h = refl
first_test false e h = cc

null_leaf : (l : PhysicalType) (size : ℕ) → is_null l ≡ true → is_leaf_layout l size ≡ true
null_leaf physical.Null size h = refl
null_leaf l size h = cc

boolean_leaf : (l : PhysicalType) (size : ℕ) → is_boolean l ≡ true → is_leaf_layout l size ≡ true
boolean_leaf physical.Boolean size h = refl
boolean_leaf l size h = cc

number_leaf : (l : PhysicalType) (size : ℕ) → nat_lt 0 (number_size l) ≡ true → is_leaf_layout l size ≡ true
number_leaf (physical.Primitive p) size h = h
number_leaf l size h = cc

bytes_leaf : (l : PhysicalType) (size : ℕ) → is_variable_any false l ≡ true → is_leaf_layout l size ≡ true
bytes_leaf physical.Binary size h = refl
bytes_leaf physical.LargeBinary size h = refl
bytes_leaf l size h = cc

text_leaf : (l : PhysicalType) (size : ℕ) → is_variable_any true l ≡ true → is_leaf_layout l size ≡ true
text_leaf physical.Utf8 size h = refl
text_leaf physical.LargeUtf8 size h = refl
text_leaf l size h = cc

bytes_view_leaf : (l : PhysicalType) (size : ℕ) → is_view false l ≡ true → is_leaf_layout l size ≡ true
bytes_view_leaf physical.BinaryView size h = refl
bytes_view_leaf l size h = cc

text_view_leaf : (l : PhysicalType) (size : ℕ) → is_view true l ≡ true → is_leaf_layout l size ≡ true
text_view_leaf physical.Utf8View size h = refl
text_view_leaf l size h = cc

fixed_leaf : (k : Kind) → nat_lt 0 (binary_size k) ≡ true → is_leaf_kind k ≡ true
fixed_leaf (kind.fixed_size_binary size) h = h
fixed_leaf (kind.extension name metadata k) h = fixed_leaf k h
fixed_leaf k h = cc

leaf_carried : (k : Kind) → is_leaf_kind k ≡ true → is_carried k ≡ true
leaf_carried (kind.«list» small fs) h = cc
leaf_carried (kind.«list» large fs) h = cc
leaf_carried (kind.map sorted fs) h = cc
leaf_carried (kind.fixed_size_list size fs) h = cc
leaf_carried (kind.struct fs) h = cc
leaf_carried (kind.union mode stated ids fs) h = cc
leaf_carried (kind.dictionary t ordered id k) h = cc
leaf_carried (kind.extension name metadata k) h = leaf_carried k h
leaf_carried k h = h

leaf_is_carried : (l : LeafParts) → leaf_fault_in l ≡ None → is_carried (leaf_kind_in l) ≡ true
leaf_is_carried (nulls n) f = leaf_carried n.kind (null_leaf (physical_of n.kind) (binary_size n.kind) (first_test (is_null (physical_of n.kind)) None f))
leaf_is_carried (bits n) f = leaf_carried n.kind (boolean_leaf (physical_of n.kind) (binary_size n.kind) (first_test (is_boolean (physical_of n.kind)) _ f))
leaf_is_carried (numbers n) f =
    let size = number_size (physical_of n.kind) in
    leaf_carried n.kind (number_leaf (physical_of n.kind) (binary_size n.kind) (and_parts (nat_lt 0 size) (list_all (λ bytes. nat_eq (length bytes) size) n.values) (first_test (are_numbers size n.values) _ f)).0)
leaf_is_carried (fixed n) f = leaf_carried n.kind (fixed_leaf n.kind (first_test (nat_lt 0 (binary_size n.kind)) _ f))
leaf_is_carried (binary n) f = leaf_carried n.kind (bytes_leaf (physical_of n.kind) (binary_size n.kind) (first_test (is_variable_any false (physical_of n.kind)) _ f))
leaf_is_carried (text n) f = leaf_carried n.kind (text_leaf (physical_of n.kind) (binary_size n.kind) (first_test (is_variable_any true (physical_of n.kind)) _ f))
leaf_is_carried (binary_views n) f = leaf_carried n.kind (bytes_view_leaf (physical_of n.kind) (binary_size n.kind) (first_test (is_view false (physical_of n.kind)) _ f))
leaf_is_carried (text_views n) f = leaf_carried n.kind (text_view_leaf (physical_of n.kind) (binary_size n.kind) (first_test (is_view true (physical_of n.kind)) _ f))

-- ── tops ──

-- as many children as fields
as_wide : (fs : Fields) (cs : Forest) → are_of fs (kinds_each cs) ≡ true → width fs ≡ length (rows_each cs)
as_wide kind.none none h = refl
as_wide kind.none (also p ps) h = cc
as_wide (kind.field n b m k fs) none h = cc
as_wide (kind.field n b m k fs) (also p ps) h = ap suc (as_wide fs ps (and_parts (kind_eq k (kind_in p)) (are_of fs (kinds_each ps)) h).1)

one_wide : (fs : Fields) (cs : Forest) → are_of fs (kinds_each cs) ≡ true → nat_eq (length (rows_each cs)) 1 ≡ true → nat_eq (width fs) 1 ≡ true
one_wide fs cs h n = ap (λ w. nat_eq w 1) (as_wide fs cs h) ∙ n

list_carried : (o : Offsets) (k : Kind) (cs : Forest) → is_list o k ≡ true → are_of (child_fields k) (kinds_each cs) ≡ true → nat_eq (length (rows_each cs)) 1 ≡ true → are_carried (child_fields k) ≡ true → is_carried k ≡ true
list_carried o (kind.«list» q fs) cs h a n c = and_from (nat_eq (width fs) 1) (are_carried fs) (one_wide fs cs a n) c
list_carried small (kind.extension name metadata k) cs h a n c = list_carried small k cs h a n c
list_carried large (kind.extension name metadata k) cs h a n c = list_carried large k cs h a n c
list_carried small k cs h a n c = cc
list_carried large k cs h a n c = cc

map_carried : (o : Offsets) (k : Kind) (cs : Forest) → is_map o k ≡ true → are_of (child_fields k) (kinds_each cs) ≡ true → nat_eq (length (rows_each cs)) 1 ≡ true → are_carried (child_fields k) ≡ true → is_carried k ≡ true
map_carried small (kind.map sorted fs) cs h a n c = and_from (nat_eq (width fs) 1 && first_is_struct_of_two fs) (are_carried fs) (and_from (nat_eq (width fs) 1) (first_is_struct_of_two fs) (one_wide fs cs a n) h) c
map_carried small (kind.extension name metadata k) cs h a n c = map_carried small k cs h a n c
map_carried large (kind.extension name metadata k) cs h a n c = map_carried large k cs h a n c
map_carried small k cs h a n c = cc
map_carried large k cs h a n c = cc

above : (size : ℕ) → nat_lt 0 (suc size) ≡ true
above size = by (leb_tells 1 (suc size))
  where
    by : ((nat_le 1 (suc size) ≡ true) × (1 ≤ suc size)) ⊎ ((nat_le 1 (suc size) ≡ false) × (suc size < 1)) → nat_lt 0 (suc size) ≡ true
    by (inl h) = h.0
    by (inr h) = let few = h.1 in absurd (omega (arith, few))

sized_carried : (k : Kind) (cs : Forest) → is_sized k ≡ true → are_of (child_fields k) (kinds_each cs) ≡ true → length (rows_each cs) ≡ 1 → are_carried (child_fields k) ≡ true → is_carried k ≡ true
sized_carried (kind.fixed_size_list zero fs) cs h a n c = cc
sized_carried (kind.fixed_size_list (suc size) fs) cs h a n c = and_from (nat_eq (width fs) 1 && nat_lt 0 (suc size)) (are_carried fs) (and_from (nat_eq (width fs) 1) (nat_lt 0 (suc size)) (one_wide fs cs a (ap (λ w. nat_eq w 1) n)) (above size)) c
sized_carried (kind.extension name metadata k) cs h a n c = sized_carried k cs h a n c
sized_carried k cs h a n c = cc

struct_carried : (k : Kind) → is_struct k ≡ true → are_carried (child_fields k) ≡ true → is_carried k ≡ true
struct_carried (kind.struct fs) h c = c
struct_carried (kind.extension name metadata k) h c = struct_carried k h c
struct_carried k h c = cc

union_carried : (dense : Bool) (k : Kind) → is_union dense k ≡ true → are_carried (child_fields k) ≡ true → is_carried k ≡ true
union_carried dense (kind.union mode stated ids fs) h c = and_from (are_right ids (width fs)) (are_carried fs) (and_parts (is_mode dense mode) (are_right ids (width fs)) h).1 c
union_carried dense (kind.extension name metadata k) h c = union_carried dense k h c
union_carried true k h c = cc
union_carried false k h c = cc

dictionary_carried : (t : IntegerType) (k : Kind) → is_dictionary t k ≡ true → is_carried (values_kind k) ≡ true → is_carried k ≡ true
dictionary_carried t (kind.dictionary s ordered id k) h c = c
dictionary_carried t (kind.extension name metadata k) h c = dictionary_carried t k h c
dictionary_carried t k h c = cc

-- ── arrays ──

mutual
  array_carried : (p : Parts) → fault_in p ≡ None → IsSingle p → is_carried (kind_in p) ≡ true
  array_carried (leaf l) f s = leaf_is_carried l f
  array_carried (nested (listed l) cs) f s =
      let t = top_sound (listed l) cs f in
      let u = and_parts (is_list l.width l.kind) (are_of (child_fields l.kind) (kinds_each cs)) t.0.suits in
      list_carried l.width l.kind cs u.0 u.1 t.0.rows (each_carried (child_fields l.kind) cs u.1 t.1 s)
  array_carried (nested (mapped l) cs) f s =
      let t = top_sound (mapped l) cs f in
      let u = and_parts (is_map l.width l.kind) (are_of (child_fields l.kind) (kinds_each cs)) t.0.suits in
      map_carried l.width l.kind cs u.0 u.1 t.0.rows (each_carried (child_fields l.kind) cs u.1 t.1 s)
  array_carried (nested (sized l) cs) f s =
      let t = top_sound (sized l) cs f in
      let u = and_parts (is_sized l.kind) (are_of (child_fields l.kind) (kinds_each cs)) t.0.suits in
      sized_carried l.kind cs u.0 u.1 s.0 (each_carried (child_fields l.kind) cs u.1 t.1 s.1)
  array_carried (nested (structured l) cs) f s =
      let t = top_sound (structured l) cs f in
      let u = and_parts (is_struct l.kind) (are_of (child_fields l.kind) (kinds_each cs)) t.0.suits in
      struct_carried l.kind u.0 (each_carried (child_fields l.kind) cs u.1 t.1 s)
  array_carried (nested (tagged l) cs) f s =
      let t = top_sound (tagged l) cs f in
      let u = and_parts (is_union (has_offsets l.offsets) l.kind) (are_of (child_fields l.kind) (kinds_each cs)) t.0.suits in
      union_carried (has_offsets l.offsets) l.kind u.0 (each_carried (child_fields l.kind) cs u.1 t.1 s)
  array_carried (nested (indexed d) ps) f s =
      let t = top_sound (indexed d) ps f in
      let u = and_parts (is_dictionary d.index d.kind) (each_of (values_kind d.kind) (kinds_each ps)) t.0.suits in
      dictionary_carried d.index d.kind u.0 (values_carried (values_kind d.kind) ps u.1 t.1 s)

  each_carried : (fs : Fields) (ps : Forest) → are_of fs (kinds_each ps) ≡ true → fault_each ps ≡ None → AreSingle ps → are_carried fs ≡ true
  each_carried kind.none ps a f s = refl
  each_carried (kind.field n b m k fs) none a f s = cc
  each_carried (kind.field n b m k fs) (also p ps) a f s =
      let u = and_parts (kind_eq k (kind_in p)) (are_of fs (kinds_each ps)) a in
      let w = neither (fault_in p) (fault_each ps) f in
      and_from (is_carried k) (are_carried fs) (ap is_carried ((kind_eq_is k (kind_in p)).0 u.0) ∙ array_carried p w.0 s.0) (each_carried fs ps u.1 w.1 s.1)

  values_carried : (k : Kind) (ps : Forest) → each_of k (kinds_each ps) ≡ true → fault_each ps ≡ None → AreSingle ps → is_carried k ≡ true
  values_carried k none a f s = cc
  values_carried k (also p ps) a f s =
      let u = and_parts (is_same_kind k (kind_in p)) (list_all (is_same_kind k) (kinds_each ps)) a in
      let w = neither (fault_in p) (fault_each ps) f in
      same_carried k (kind_in p) (form_is_same k (kind_in p) u.0) (array_carried p w.0 s.0)

-- ── fields and their values ──

fields_under_carried : (fs : Fields) (ps : Forest) → Under fs ps → fault_each ps ≡ None → AreSingle ps → are_carried fs ≡ true
fields_under_carried kind.none ps u f s = refl
fields_under_carried (kind.field n b m k fs) none u f s = absurd u
fields_under_carried (kind.field n b m k fs) (also p ps) u f s =
    let w = neither (fault_in p) (fault_each ps) f in
    and_from (is_carried k) (are_carried fs) (same_carried k (kind_in p) u.0 (array_carried p w.0 s.0)) (fields_under_carried fs ps u.1 w.1 s.1)

abbrev AllCarried : List Kind → Type 0
AllCarried ks = (q : ℕ) (k : Kind) → slice_get ks q ≡ Some k → is_carried k ≡ true

none_carried : AllCarried []
none_carried q k e = cc

one_carried : (k : Kind) (ks : List Kind) → is_carried k ≡ true → AllCarried ks → AllCarried (k ∷ ks)
one_carried k ks c a zero l e = let same : k ≡ l = cc in subst (λ m. is_carried m ≡ true) same c
one_carried k ks c a (suc q) l e = a q l e

both_carried : (xs ys : List Kind) → AllCarried xs → AllCarried ys → AllCarried (xs ++ ys)
both_carried [] ys a b = b
both_carried (x ∷ xs) ys a b = one_carried x (xs ++ ys) (a 0 x refl) (both_carried xs ys (λ q k e. a (suc q) k e) b)

mutual
  kind_values : (k : Kind) → is_carried k ≡ true → AllCarried (kinds_of k)
  kind_values (kind.«list» o fs) c = fields_values fs (fields_carried (kind.«list» o fs) c)
  kind_values (kind.map sorted fs) c = fields_values fs (fields_carried (kind.map sorted fs) c)
  kind_values (kind.fixed_size_list size fs) c = fields_values fs (fields_carried (kind.fixed_size_list size fs) c)
  kind_values (kind.struct fs) c = fields_values fs (fields_carried (kind.struct fs) c)
  kind_values (kind.union mode stated ids fs) c = fields_values fs (fields_carried (kind.union mode stated ids fs) c)
  kind_values (kind.dictionary t ordered id k) c = one_carried k (kinds_of k) c (kind_values k c)
  kind_values (kind.extension name metadata k) c = kind_values k c
  kind_values k c = none_carried

  fields_values : (fs : Fields) → are_carried fs ≡ true → AllCarried (values_kinds fs)
  fields_values kind.none c = none_carried
  fields_values (kind.field n b m k fs) c =
      let s = and_parts (is_carried k) (are_carried fs) c in
      subst AllCarried (sym (map-append (λ u. u.values) (uses_of k) (uses_in fs))) (both_carried (kinds_of k) (values_kinds fs) (kind_values k s.0) (fields_values fs s.1))

-- where there is a batch the kinds of all values are carried
pub values_are_carried : (fs : Fields) (ps : Forest) → Under fs ps → fault_each ps ≡ None → AreSingle ps → (q : ℕ) (k : Kind) → slice_get (values_kinds fs) q ≡ Some k → is_carried k ≡ true
values_are_carried fs ps u f s = fields_values fs (fields_under_carried fs ps u f s)
