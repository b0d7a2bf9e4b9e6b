-- The kinds of columns: what of them is not read, and that the others are those of arrays.
use Rattle.std.proofs.Common.{◌≡◌, ℕ, suc, ◌+◌, ◌≤◌, List, [], ◌∷◌, ◌++◌, ◌<◌, length, drop, get_or, Option, Some, None, Bool, true, false, refl, sym, ap, ◌∙◌, arith, subst, zero, inl}
use Rattle.std.specs.Prelude.{slice_get, nat_eq, nat_lt, ◌&&◌, ◌||◌, not, if◌then◌else◌}
use Rattle.arrow_spec.specs.Columns.{is_chosen}
use Rattle.std.proofs.Common.{append-nil}
use Rattle.arrow_types.specs.Child.{one_field}
use Rattle.arrow_spec.specs.declared.types.IntegerType.{IntegerType}
use Rattle.ipc_read.specs.Held.{is_any_dictionary, dictionary_as}
use Rattle.ipc_read.specs.Lists.{is_any_list, as_lists}
use Rattle.std.proofs.lemmas.Bool.{and_parts, and_from}
use Rattle.arrow_spec.specs.declared.error.IpcError.{IpcError}
use Rattle.arrow_spec.specs.declared.error.IpcError.TheVariants.{Unsupported}
use Rattle.arrow_spec.specs.declared.error.Feature.{Feature}
use Rattle.arrow_spec.specs.declared.types.IntegerType.TheVariants as integers
use Rattle.arrow_spec.specs.declared.types.IntervalUnit.TheVariants.{YearMonth, DayTime, MonthDayNano}
use Rattle.arrow_spec.specs.Readings.{Refuses}
use Rattle.arrow_spec.specs.Kinds.{Kind, Fields, Offsets, none, field, width, null, boolean, integer, float, date32, date64, time32, time64, timestamp, duration, interval, decimal, decimal256, binary, utf8, binary_view, utf8_view, fixed_size_binary, «list», fixed_size_list, struct, map, union, dictionary, extension, small, large, half, single, double}
use Rattle.arrow_spec.specs.Schema.{first_is_struct_of_two}
use Rattle.arrow_spec.specs.Features.{float_faults, floats_in, chosen_floats}
use Rattle.arrow_types.specs.KindOf.{kind_of, child_of, fields_of}
use Rattle.arrow_types.specs.Physical.{physical_of, under_extensions}
use Rattle.arrow_types.specs.declared.data_type.Field.{Field}
use Rattle.arrow_types.specs.Schemas.{Keyed, fields_in}
use Rattle.arrow_types.specs.declared.physical.PhysicalType.{PhysicalType}
use Rattle.arrow_types.specs.declared.physical.PhysicalType.TheVariants as physical
use Rattle.arrow_types.specs.declared.physical.PrimitiveType.TheVariants as primitive
use Rattle.arrow_buffers.specs.Layouts.{binary_size}
use Rattle.arrow_arrays.specs.LeafKinds.{is_leaf_kind, is_leaf_layout}
use Rattle.ipc_read.specs.Skips.{is_plain_kind, is_plain_layout}
use Rattle.ipc_read.specs.Batches.{unread_feature, is_column_kind, is_column_layout, are_column_fields, are_column_kinds, are_carried_kinds}
use Rattle.arrow_arrays.specs.Carried.{is_carried, are_carried}
use Rattle.ipc_read.specs.CountedArrays.{is_any_counted, counted_kind}
use Rattle.ipc_read.specs.Unions.{is_any_union, union_as}
use Rattle.arrow_spec.specs.declared.types.UnionMode.{UnionMode}
use Rattle.arrow_types.specs.UnionIds.{are_right}
use Rattle.arrow_arrays.specs.Heads.{ids_in}
use Rattle.ipc_read.proofs.Refusals.{refuses_left, none_of_both}
use Rattle.arrow_types.proofs.DataTypes.{kind_of_child}
use Rattle.ipc_read.proofs.Nested.{wrapped, of_lists, left_child, drop_all}

-- a refusal for a feature
abbrev pub feature_faults : Option Feature → List IpcError
feature_faults None = []
feature_faults (Some f) = Unsupported f ∷ []

pub plain_floats : (k : Kind) → is_plain_kind k ≡ true → float_faults k ≡ feature_faults (unread_feature (physical_of k))
plain_floats (integer integers.Int8) h = refl
plain_floats (float half) h = refl
plain_floats (interval YearMonth) h = refl
plain_floats (binary small) h = refl
plain_floats (utf8 small) h = refl
plain_floats («list» small fs) h = cc
plain_floats («list» large fs) h = cc
plain_floats (fixed_size_list n fs) h = cc
plain_floats (struct fs) h = cc
plain_floats (map sorted fs) h = cc
plain_floats (union mode stated ids fs) h = cc
plain_floats (dictionary i ordered id k) h = cc
plain_floats (extension name metadata k) h = plain_floats k h
plain_floats k h = refl

-- so a kind is refused by what is unread of its layout
pub floats_of : (k : Kind) (layout : PhysicalType) (o : Option Feature) → is_plain_kind k ≡ true → layout ≡ physical_of k → o ≡ unread_feature layout → float_faults k ≡ feature_faults o
floats_of k layout o h l u = plain_floats k h ∙ ap feature_faults (sym (u ∙ ap unread_feature l))

pub kind_refused : (k : Kind) (o : Option Feature) (f : Feature) → float_faults k ≡ feature_faults o → o ≡ Some f → Refuses (Unsupported f) (float_faults k)
kind_refused k o f e h = subst (λ es. Refuses (Unsupported f) es) (sym (e ∙ ap feature_faults h)) (inl refl)

-- a column's kind has no children
pub column_is_plain : (layout : PhysicalType) (size : ℕ) → is_column_layout layout size ≡ true → is_plain_layout layout ≡ true
column_is_plain physical.FixedSizeBinary size h = refl
column_is_plain layout size h = h

none_unread : (o : Option Feature) → feature_faults o ≡ [] → o ≡ None
none_unread None h = refl
none_unread (Some f) h = cc

-- a column's kind of which all is read is that of an array
pub column_is_leaf : (k : Kind) → is_column_layout (physical_of k) (binary_size k) ≡ true → float_faults k ≡ [] → is_leaf_kind k ≡ true
column_is_leaf k h f = by_layout (physical_of k) (binary_size k) h (none_unread _ (sym (plain_floats k (column_is_plain (physical_of k) (binary_size k) h)) ∙ f))
  where
    by_layout : (layout : PhysicalType) (size : ℕ) → is_column_layout layout size ≡ true → unread_feature layout ≡ None → is_leaf_layout layout size ≡ true
    by_layout physical.FixedSizeBinary size h u = h
    by_layout (physical.Primitive primitive.Int8) size h u = refl
    by_layout (physical.Primitive primitive.Int256) size h u = cc
    by_layout (physical.Primitive primitive.Float16) size h u = cc
    by_layout (physical.Primitive primitive.Float32) size h u = cc
    by_layout (physical.Primitive primitive.Float64) size h u = cc
    by_layout physical.List size h u = cc
    by_layout physical.LargeList size h u = cc
    by_layout physical.FixedSizeList size h u = cc
    by_layout physical.Struct size h u = cc
    by_layout physical.Union size h u = cc
    by_layout physical.Map size h u = cc
    by_layout (physical.Dictionary i) size h u = cc
    by_layout layout size h u = refl

-- ── kinds with children ──

mutual
  pub column_carried : (k : Kind) → is_column_kind k ≡ true → float_faults k ≡ [] → is_carried k ≡ true
  column_carried (struct fs) h f = columns_carried fs h f
  column_carried (dictionary t ordered id k) h f = column_carried k h f
  column_carried (extension name metadata k) h f = column_carried k h f
  column_carried («list» o fs) h f = let a = and_parts (nat_eq (width fs) 1) (are_column_fields fs) h in and_from (nat_eq (width fs) 1) (are_carried fs) a.0 (columns_carried fs a.1 f)
  column_carried (map sorted fs) h f =
      let a = and_parts (nat_eq (width fs) 1 && first_is_struct_of_two fs) (are_column_fields fs) h in and_from (nat_eq (width fs) 1 && first_is_struct_of_two fs) (are_carried fs) a.0 (columns_carried fs a.1 f)
  column_carried (fixed_size_list size fs) h f =
      let a = and_parts (nat_eq (width fs) 1 && nat_lt 0 size) (are_column_fields fs) h in and_from (nat_eq (width fs) 1 && nat_lt 0 size) (are_carried fs) a.0 (columns_carried fs a.1 f)
  column_carried (union mode stated ids fs) h f = let a = and_parts (are_right ids (width fs)) (are_column_fields fs) h in and_from (are_right ids (width fs)) (are_carried fs) a.0 (columns_carried fs a.1 f)
  column_carried k h f = column_is_leaf k h f

  columns_carried : (fs : Fields) → are_column_fields fs ≡ true → floats_in fs ≡ [] → are_carried fs ≡ true
  columns_carried none h f = refl
  columns_carried (field name nullable metadata k others) h f =
      let a = and_parts (is_column_kind k) (are_column_fields others) h in
      let b = none_of_both (float_faults k) (floats_in others) f in
      and_from (is_carried k) (are_carried others) (column_carried k a.0 b.0) (columns_carried others a.1 b.1)

pub column_plain : (k : Kind) → is_column_kind k ≡ true → is_any_counted k ≡ false → is_any_list k ≡ false → is_any_union k ≡ false → is_any_dictionary k ≡ false → is_plain_kind k ≡ true
column_plain (struct fs) h s l u d = cc
column_plain (fixed_size_list size fs) h s l u d = cc
column_plain («list» o fs) h s l u d = cc
column_plain (map sorted fs) h s l u d = cc
column_plain (union mode stated ids fs) h s l u d = cc
column_plain (dictionary t ordered id k) h s l u d = cc
column_plain (extension name metadata k) h s l u d = column_plain k h s l u d
column_plain k h s l u d = column_is_plain (physical_of k) (binary_size k) h

pub list_floats : (k : Kind) (o : Offsets) (x : Field) → as_lists k ≡ «list» o (one_field (child_of x)) → float_faults k ≡ float_faults (kind_of x.dtype)
list_floats k o x e =
    let fs = one_field (child_of x) in
    of_lists (λ k. float_faults k ≡ floats_in fs) (λ name metadata k h. h) (λ sorted gs h. h) k («list» o fs) e refl ∙ append-nil (float_faults (child_of x).kind) ∙ ap float_faults (kind_of_child x)

lists_column : (k : Kind) → is_column_kind k ≡ true → is_column_kind (as_lists k) ≡ true
lists_column (map sorted fs) h =
    let a = and_parts (nat_eq (width fs) 1 && first_is_struct_of_two fs) (are_column_fields fs) h in
    and_from (nat_eq (width fs) 1) (are_column_fields fs) (and_parts (nat_eq (width fs) 1) (first_is_struct_of_two fs) a.0).0 a.1
lists_column (extension name metadata k) h = lists_column k h
lists_column k h = h

pub column_list : (k : Kind) (o : Offsets) (x : Field) → as_lists k ≡ «list» o (one_field (child_of x)) → is_column_kind k ≡ true → is_column_kind (kind_of x.dtype) ≡ true
column_list k o x e h =
    let fs = one_field (child_of x) in
    let f : are_column_fields fs ≡ true = (and_parts (nat_eq (width fs) 1) (are_column_fields fs) (sym (ap is_column_kind e) ∙ lists_column k h)).1 in
    ap is_column_kind (sym (kind_of_child x)) ∙ (and_parts (is_column_kind (child_of x).kind) true f).0

column_under : (k : Kind) → is_column_kind k ≡ is_column_kind (under_extensions k)
column_under (extension name metadata k) = column_under k
column_under k = refl

pub column_counted : (k : Kind) (s : Option ℕ) (fs : Fields) → under_extensions k ≡ counted_kind s fs → is_column_kind k ≡ true → are_column_fields fs ≡ true
column_counted k None fs e h = sym (column_under k ∙ ap is_column_kind e) ∙ h
column_counted k (Some size) fs e h = (and_parts (nat_eq (width fs) 1 && nat_lt 0 size) (are_column_fields fs) (sym (column_under k ∙ ap is_column_kind e) ∙ h)).1

pub counted_floats : (k : Kind) (s : Option ℕ) (fs : Fields) → under_extensions k ≡ counted_kind s fs → float_faults k ≡ floats_in fs
counted_floats k None fs e = wrapped (λ k. float_faults k ≡ floats_in fs) (λ name metadata k e. e) k (struct fs) e refl
counted_floats k (Some size) fs e = wrapped (λ k. float_faults k ≡ floats_in fs) (λ name metadata k e. e) k (fixed_size_list size fs) e refl

pub column_union : (k : Kind) (mode : UnionMode) (fs : Fields) → under_extensions k ≡ union_as k mode fs → is_column_kind k ≡ true → are_column_fields fs ≡ true
column_union k mode fs e h = (and_parts (are_right (ids_in k) (width fs)) (are_column_fields fs) (sym (column_under k ∙ ap is_column_kind e) ∙ h)).1

pub union_floats : (k : Kind) (mode : UnionMode) (fs : Fields) → under_extensions k ≡ union_as k mode fs → float_faults k ≡ floats_in fs
union_floats k mode fs e = wrapped (λ k. float_faults k ≡ floats_in fs) (λ name metadata k e. e) k (union_as k mode fs) e refl

pub column_values : (k : Kind) (t : IntegerType) (values : Kind) → under_extensions k ≡ dictionary_as k t values → is_column_kind k ≡ true → is_column_kind values ≡ true
column_values k t values e h = sym (column_under k ∙ ap is_column_kind e) ∙ h

pub values_floats : (k : Kind) (t : IntegerType) (values : Kind) → under_extensions k ≡ dictionary_as k t values → float_faults k ≡ float_faults values
values_floats k t values e = wrapped (λ k. float_faults k ≡ float_faults values) (λ name metadata k e. e) k (dictionary_as k t values) e refl

pub child_column : (cs : List Field) (i : ℕ) (x : Field) → i < length cs → x ≡ get_or cs i x → are_column_fields (fields_of cs) ≡ true → is_column_kind (kind_of x.dtype) ≡ true
child_column [] i x h e f = absurd (omega (arith, h))
child_column (c ∷ cs) zero x h e f =
    let k : (child_of c).kind ≡ kind_of x.dtype = ap (λ y. (child_of y).kind) (sym e) ∙ kind_of_child x in
    ap is_column_kind (sym k) ∙ (and_parts (is_column_kind (child_of c).kind) (are_column_fields (fields_of cs)) f).0
child_column (c ∷ cs) (suc i) x h e f = child_column cs i x (omega (arith, h)) e (and_parts (is_column_kind (child_of c).kind) (are_column_fields (fields_of cs)) f).1

left_floats : (cs : List Field) (i : ℕ) (x : Field) → i < length cs → x ≡ get_or cs i x → floats_in (fields_of (drop i cs)) ≡ float_faults (kind_of x.dtype) ++ floats_in (fields_of (drop (i + 1) cs))
left_floats cs i x h e = ap (λ ys. floats_in (fields_of ys)) (left_child cs i x h e) ∙ ap (λ k. float_faults k ++ floats_in (fields_of (drop (i + 1) cs))) (kind_of_child x)

pub next_floats : (cs : List Field) (i : ℕ) (x : Field) → i < length cs → x ≡ get_or cs i x → float_faults (kind_of x.dtype) ≡ [] → floats_in (fields_of (drop i cs)) ≡ floats_in (fields_of (drop (i + 1) cs))
next_floats cs i x h e f = left_floats cs i x h e ∙ ap (λ es. es ++ floats_in (fields_of (drop (i + 1) cs))) f

pub child_floats : (cs : List Field) (i : ℕ) (x : Field) (e : IpcError) → i < length cs → x ≡ get_or cs i x → Refuses e (float_faults (kind_of x.dtype)) → Refuses e (floats_in (fields_of (drop i cs)))
child_floats cs i x e h g r = subst (λ es. Refuses e es) (sym (left_floats cs i x h g)) (refuses_left (float_faults (kind_of x.dtype)) _ e r)

pub no_floats : (cs : List Field) (i : ℕ) → length cs ≤ i → floats_in (fields_of (drop i cs)) ≡ []
no_floats cs i h = ap (λ ys. floats_in (fields_of ys)) (drop_all cs i h)

-- ── the fields that are left ──

pub drop_at : {A : Type 0} → (s : List A) (i : ℕ) (x : A) → slice_get s i ≡ Some x → drop i s ≡ x ∷ drop (i + 1) s
drop_at [] zero x h = cc
drop_at [] (suc i) x h = cc
drop_at (y ∷ ys) zero x h = cc
drop_at (y ∷ ys) (suc i) x h = let e : suc i + 1 ≡ suc (i + 1) = omega arith in rw e (drop_at ys i x h)

pub none_at : {A : Type 0} → (s : List A) (i : ℕ) → slice_get s i ≡ None → length s ≤ i
none_at [] i h = omega arith
none_at (y ∷ ys) zero h = cc
none_at (y ∷ ys) (suc i) h = omega (arith, none_at ys i h)

pub both_first : (a b : Bool) → (a && b) ≡ true → a ≡ true
both_first true b h = refl
both_first false b h = cc

pub both_second : (a b : Bool) → (a && b) ≡ true → b ≡ true
both_second true b h = h
both_second false b h = cc

pub columns_next : (asked : Option (List ℕ)) (s : List Keyed) (i : ℕ) (x : Keyed) → slice_get s i ≡ Some x → are_column_kinds asked i (drop i s) ≡ true → ((not (is_chosen asked i) || is_column_kind x.1.kind) ≡ true) × (are_column_kinds asked (i + 1) (drop (i + 1) s) ≡ true)
columns_next asked s i x h c =
    let n : suc i ≡ i + 1 = omega arith in
    let e = sym (ap (are_column_kinds asked i) (drop_at s i x h)) ∙ c in
    (both_first _ _ e, ap (λ j. are_column_kinds asked j (drop (i + 1) s)) (sym n) ∙ both_second (not (is_chosen asked i) || is_column_kind x.1.kind) _ e)

pub held_next : (asked : Option (List ℕ)) (s : List Keyed) (i : ℕ) (x : Keyed) → slice_get s i ≡ Some x → (not (is_chosen asked i) || is_carried x.1.kind) ≡ true → are_carried_kinds asked i (drop i s) ≡ are_carried_kinds asked (i + 1) (drop (i + 1) s)
held_next asked s i x h f =
    let n : suc i ≡ i + 1 = omega arith in
    ap (are_carried_kinds asked i) (drop_at s i x h) ∙ ap (λ b. b && are_carried_kinds asked (suc i) (drop (i + 1) s)) f ∙ ap (λ j. are_carried_kinds asked j (drop (i + 1) s)) n

pub floats_next : (asked : Option (List ℕ)) (s : List Keyed) (i : ℕ) (x : Keyed) → slice_get s i ≡ Some x → (if is_chosen asked i then float_faults x.1.kind else []) ≡ [] → chosen_floats asked (fields_in (drop i s)) i ≡ chosen_floats asked (fields_in (drop (i + 1) s)) (i + 1)
floats_next asked s i x h f = let n : suc i ≡ i + 1 = omega arith in ap (λ t. chosen_floats asked (fields_in t) i) (drop_at s i x h) ∙ ap (λ es. es ++ chosen_floats asked (fields_in (drop (i + 1) s)) (suc i)) f ∙ ap (λ j. chosen_floats asked (fields_in (drop (i + 1) s)) j) n

pub floats_refused : (asked : Option (List ℕ)) (s : List Keyed) (i : ℕ) (x : Keyed) (e : IpcError) → slice_get s i ≡ Some x → is_chosen asked i ≡ true → Refuses e (float_faults x.1.kind) → Refuses e (chosen_floats asked (fields_in (drop i s)) i)
floats_refused asked s i x e h is r = subst (λ t. Refuses e (chosen_floats asked (fields_in t) i)) (sym (drop_at s i x h)) (rw is (refuses_left (float_faults x.1.kind) _ e r))

-- a column that is not asked for
pub columns_behind : (asked : Option (List ℕ)) (s : List Keyed) (i : ℕ) → are_column_kinds asked i (drop i s) ≡ true → are_column_kinds asked (i + 1) (drop (i + 1) s) ≡ true
columns_behind asked s i h = by (slice_get s i) refl
  where
    by : (o : Option Keyed) → slice_get s i ≡ o → are_column_kinds asked (i + 1) (drop (i + 1) s) ≡ true
    by (Some x) e = (columns_next asked s i x e h).1
    by None e = let n = none_at s i e in ap (are_column_kinds asked (i + 1)) (drop_all s (i + 1) (omega (arith, n)))

-- the kind of a column that is asked for
pub chosen_kind : (asked : Option (List ℕ)) (i : ℕ) (k : Kind) → is_chosen asked i ≡ true → (not (is_chosen asked i) || is_column_kind k) ≡ true → is_column_kind k ≡ true
chosen_kind asked i k is h = sym (ap (λ b. not b || is_column_kind k) is) ∙ h

pub floats_passed : (asked : Option (List ℕ)) (s : List Keyed) (i : ℕ) → is_chosen asked i ≡ false → chosen_floats asked (fields_in (drop i s)) i ≡ chosen_floats asked (fields_in (drop (i + 1) s)) (i + 1)
floats_passed asked s i h = by (slice_get s i) refl
  where
    by : (o : Option Keyed) → slice_get s i ≡ o → chosen_floats asked (fields_in (drop i s)) i ≡ chosen_floats asked (fields_in (drop (i + 1) s)) (i + 1)
    by (Some x) e = floats_next asked s i x e (rw h refl)
    by None e = let n = none_at s i e in ap (λ t. chosen_floats asked (fields_in t) i) (drop_all s i n) ∙ ap (λ t. chosen_floats asked (fields_in t) (i + 1)) (sym (drop_all s (i + 1) (omega (arith, n))))

pub held_passed : (asked : Option (List ℕ)) (s : List Keyed) (i : ℕ) → is_chosen asked i ≡ false → are_carried_kinds asked i (drop i s) ≡ are_carried_kinds asked (i + 1) (drop (i + 1) s)
held_passed asked s i h = by (slice_get s i) refl
  where
    by : (o : Option Keyed) → slice_get s i ≡ o → are_carried_kinds asked i (drop i s) ≡ are_carried_kinds asked (i + 1) (drop (i + 1) s)
    by (Some x) e = held_next asked s i x e (rw h refl)
    by None e = let n = none_at s i e in ap (are_carried_kinds asked i) (drop_all s i n) ∙ ap (are_carried_kinds asked (i + 1)) (sym (drop_all s (i + 1) (omega (arith, n))))

pub floats_end : (asked : Option (List ℕ)) (s : List Keyed) (i : ℕ) → length s ≤ i → chosen_floats asked (fields_in (drop i s)) i ≡ []
floats_end asked s i h = ap (λ t. chosen_floats asked (fields_in t) i) (drop_all s i h)

pub held_end : (asked : Option (List ℕ)) (s : List Keyed) (i : ℕ) → length s ≤ i → are_carried_kinds asked i (drop i s) ≡ true
held_end asked s i h = ap (are_carried_kinds asked i) (drop_all s i h)
