-- Which array an array is, told by the layout of its kind.
use Rattle.std.proofs.Common.{◌≡◌, Bool, true, false, Option, Some, None, List, Ok, refl, sym, ap, ◌∙◌, nat_lt}
use Rattle.std.specs.Prelude.{not, if◌then◌else◌}
use Rattle.std.proofs.lemmas.Bool.{and_parts}
use Rattle.arrow_spec.specs.declared.error.IpcError.{IpcError}
use Rattle.arrow_spec.specs.Kinds as kind
use Rattle.arrow_spec.specs.Kinds.{Kind, Offsets, small, large}
use Rattle.arrow_types.specs.Physical.{physical_of}
use Rattle.arrow_types.specs.declared.physical.PhysicalType.{PhysicalType}
use Rattle.arrow_types.specs.declared.physical.PhysicalType.TheVariants as physical
use Rattle.arrow_buffers.specs.declared.error.ArrayError.{ArrayError}
use Rattle.arrow_buffers.specs.declared.error.ArrayError.TheVariants.{DataType}
use Rattle.arrow_buffers.specs.Layouts.{is_null, is_boolean, is_variable_any, is_view, binary_size}
use Rattle.arrow_arrays.specs.LeafParts.{LeafParts, nulls, bits, numbers, fixed, binary, text, binary_views, text_views, leaf_kind_in, leaf_fault_in, are_numbers, number_size}
use Rattle.arrow_arrays.specs.Heads.{Head, Indexed, listed, mapped, sized, structured, tagged, indexed, head_kind, suits, is_list, is_map, is_sized, is_struct, is_union, is_dictionary, are_under, has_offsets}
use Rattle.arrow_arrays.specs.Parts.{Parts, leaf, nested, kind_in, fault_in, kinds_each}
use Rattle.arrow_arrays.specs.PartsOf.{parts_of}
use Rattle.arrow_arrays.specs.declared.array.Array.{Array}
use Rattle.arrow_arrays.specs.declared.array.Array.TheVariants as arrays
use Rattle.arrow_arrays.specs.declared.array.ListArray.{ListArray}
use Rattle.arrow_arrays.specs.declared.array.FixedSizeListArray.{FixedSizeListArray}
use Rattle.arrow_arrays.specs.declared.array.MapArray.{MapArray}
use Rattle.arrow_arrays.specs.declared.array.StructArray.{StructArray}
use Rattle.arrow_arrays.specs.declared.array.UnionArray.{UnionArray}
use Rattle.arrow_arrays.proofs.Sliced.{top_sound}
use Rattle.ipc_read.specs.Readings.{is_of_lists}
use Rattle.ipc_read.specs.Skips.{is_childless_layout}
use Rattle.ipc_read.specs.Sources.{Answers}

-- ── arrays without children ──

first_test : (s : Bool) (e : Option ArrayError) → (if not s then Some DataType else e) ≡ None → s ≡ true
first_test true e h = refl
first_test false e h = cc

-- a test that no layout of arrays with children meets
childless_by : (f : PhysicalType → Bool) → f physical.List ≡ false → f physical.LargeList ≡ false → f physical.FixedSizeList ≡ false → f physical.Struct ≡ false → f physical.Union ≡ false → f physical.Map ≡ false
    → (p : PhysicalType) → f p ≡ true → is_childless_layout p ≡ true
childless_by f a b c d e g physical.List h = sym a ∙ h
childless_by f a b c d e g physical.LargeList h = sym b ∙ h
childless_by f a b c d e g physical.FixedSizeList h = sym c ∙ h
childless_by f a b c d e g physical.Struct h = sym d ∙ h
childless_by f a b c d e g physical.Union h = sym e ∙ h
childless_by f a b c d e g physical.Map h = sym g ∙ h
childless_by f a b c d e g p h = refl

fixed_childless : (k : Kind) → nat_lt 0 (binary_size k) ≡ true → is_childless_layout (physical_of k) ≡ true
fixed_childless (kind.fixed_size_binary n) h = refl
fixed_childless (kind.extension name metadata k) h = fixed_childless k h
fixed_childless k h = cc

leaf_childless : (l : LeafParts) → leaf_fault_in l ≡ None → is_childless_layout (physical_of (leaf_kind_in l)) ≡ true
leaf_childless (nulls n) h = childless_by is_null refl refl refl refl refl refl _ (first_test _ _ h)
leaf_childless (bits f) h = childless_by is_boolean refl refl refl refl refl refl _ (first_test _ _ h)
leaf_childless (numbers f) h = childless_by (λ p. are_numbers (number_size p) f.values) refl refl refl refl refl refl _ (first_test _ _ h)
leaf_childless (fixed f) h = fixed_childless f.kind (first_test _ _ h)
leaf_childless (binary p) h = childless_by (is_variable_any false) refl refl refl refl refl refl _ (first_test _ _ h)
leaf_childless (text p) h = childless_by (is_variable_any true) refl refl refl refl refl refl _ (first_test _ _ h)
leaf_childless (binary_views p) h = childless_by (is_view false) refl refl refl refl refl refl _ (first_test _ _ h)
leaf_childless (text_views p) h = childless_by (is_view true) refl refl refl refl refl refl _ (first_test _ _ h)

-- ── arrays with children ──

-- the layout is that of the top
abbrev is_of_top : Head → PhysicalType → Bool
is_of_top (listed l) p = is_of_lists p
is_of_top (mapped l) physical.Map = true
is_of_top (mapped l) p = false
is_of_top (sized c) physical.FixedSizeList = true
is_of_top (sized c) p = false
is_of_top (structured c) physical.Struct = true
is_of_top (structured c) p = false
is_of_top (tagged t) physical.Union = true
is_of_top (tagged t) p = false
is_of_top (indexed d) (physical.Dictionary i) = true
is_of_top (indexed d) p = false

list_layout : (o : Offsets) (k : Kind) → is_list o k ≡ true → is_of_lists (physical_of k) ≡ true
list_layout small (kind.«list» small fs) h = refl
list_layout small (kind.extension name metadata k) h = list_layout small k h
list_layout small k h = cc
list_layout large (kind.«list» large fs) h = refl
list_layout large (kind.extension name metadata k) h = list_layout large k h
list_layout large k h = cc

map_layout : (o : Offsets) (k : Kind) → is_map o k ≡ true → physical_of k ≡ physical.Map
map_layout small (kind.map sorted fs) h = refl
map_layout small (kind.extension name metadata k) h = map_layout small k h
map_layout small k h = cc
map_layout large (kind.extension name metadata k) h = map_layout large k h
map_layout large k h = cc

sized_layout : (k : Kind) → is_sized k ≡ true → physical_of k ≡ physical.FixedSizeList
sized_layout (kind.fixed_size_list n fs) h = refl
sized_layout (kind.extension name metadata k) h = sized_layout k h
sized_layout k h = cc

struct_layout : (k : Kind) → is_struct k ≡ true → physical_of k ≡ physical.Struct
struct_layout (kind.struct fs) h = refl
struct_layout (kind.extension name metadata k) h = struct_layout k h
struct_layout k h = cc

union_layout : (dense : Bool) (k : Kind) → is_union dense k ≡ true → physical_of k ≡ physical.Union
union_layout dense (kind.union mode stated ids fs) h = refl
union_layout dense (kind.extension name metadata k) h = union_layout dense k h
union_layout dense k h = cc

dictionary_layout : (d : Indexed) (k : Kind) → is_dictionary d.index k ≡ true → is_of_top (indexed d) (physical_of k) ≡ true
dictionary_layout d (kind.dictionary index ordered id k) h = refl
dictionary_layout d (kind.extension name metadata k) h = dictionary_layout d k h
dictionary_layout d k h = cc

top_layout : (t : Head) → suits t ≡ true → is_of_top t (physical_of (head_kind t)) ≡ true
top_layout (listed l) h = list_layout l.width l.kind h
top_layout (mapped l) h = ap (is_of_top (mapped l)) (map_layout l.width l.kind h)
top_layout (sized c) h = ap (is_of_top (sized c)) (sized_layout c.kind h)
top_layout (structured c) h = ap (is_of_top (structured c)) (struct_layout c.kind h)
top_layout (tagged t) h = ap (is_of_top (tagged t)) (union_layout (has_offsets t.offsets) t.kind h)
top_layout (indexed d) h = dictionary_layout d d.kind h

-- ── arrays ──

-- the layout is that of the parts
abbrev is_of_parts : Parts → PhysicalType → Bool
is_of_parts (leaf l) p = is_childless_layout p
is_of_parts (nested t cs) p = is_of_top t p

parts_layout : (x : Parts) → fault_in x ≡ None → is_of_parts x (physical_of (kind_in x)) ≡ true
parts_layout (leaf l) h = leaf_childless l h
parts_layout (nested t cs) h = top_layout t (and_parts (suits t) (are_under t (kinds_each cs)) (top_sound t cs h).0.suits).0

lists_alone : (a : Array) (p : PhysicalType) → is_of_lists p ≡ true → is_of_parts (parts_of a) p ≡ true → ((x : ListArray) → a ≡ arrays.List x → ⊥) → ⊥
lists_alone (arrays.List x) p e h n = n x refl
lists_alone a physical.List e h n = cc
lists_alone a physical.LargeList e h n = cc
lists_alone a p e h n = cc

sized_alone : (a : Array) → is_of_parts (parts_of a) physical.FixedSizeList ≡ true → ((x : FixedSizeListArray) → a ≡ arrays.FixedSizeList x → ⊥) → ⊥
sized_alone (arrays.FixedSizeList x) h n = n x refl
sized_alone a h n = cc

struct_alone : (a : Array) → is_of_parts (parts_of a) physical.Struct ≡ true → ((x : StructArray) → a ≡ arrays.Struct x → ⊥) → ⊥
struct_alone (arrays.Struct x) h n = n x refl
struct_alone a h n = cc

map_alone : (a : Array) → is_of_parts (parts_of a) physical.Map ≡ true → ((x : MapArray) → a ≡ arrays.Map x → ⊥) → ⊥
map_alone (arrays.Map x) h n = n x refl
map_alone a h n = cc

union_alone : (a : Array) → is_of_parts (parts_of a) physical.Union ≡ true → ((x : UnionArray) → a ≡ arrays.Union x → ⊥) → ⊥
union_alone (arrays.Union x) h n = n x refl
union_alone a h n = cc

by_layout : (a : Array) (p : PhysicalType) → fault_in (parts_of a) ≡ None → physical_of (kind_in (parts_of a)) ≡ p → is_of_parts (parts_of a) p ≡ true
by_layout a p s e = sym (ap (is_of_parts (parts_of a)) e) ∙ parts_layout (parts_of a) s

-- an array of a layout is no other array

pub only_lists : (a : Array) → fault_in (parts_of a) ≡ None → is_of_lists (physical_of (kind_in (parts_of a))) ≡ true → ((x : ListArray) → a ≡ arrays.List x → ⊥) → ⊥
only_lists a s e n = lists_alone a _ e (parts_layout (parts_of a) s) n

pub only_sized : (a : Array) → fault_in (parts_of a) ≡ None → physical_of (kind_in (parts_of a)) ≡ physical.FixedSizeList → ((x : FixedSizeListArray) → a ≡ arrays.FixedSizeList x → ⊥) → ⊥
only_sized a s e n = sized_alone a (by_layout a _ s e) n

pub only_structs : (a : Array) → fault_in (parts_of a) ≡ None → physical_of (kind_in (parts_of a)) ≡ physical.Struct → ((x : StructArray) → a ≡ arrays.Struct x → ⊥) → ⊥
only_structs a s e n = struct_alone a (by_layout a _ s e) n

pub only_maps : (a : Array) → fault_in (parts_of a) ≡ None → physical_of (kind_in (parts_of a)) ≡ physical.Map → ((x : MapArray) → a ≡ arrays.Map x → ⊥) → ⊥
only_maps a s e n = map_alone a (by_layout a _ s e) n

pub only_unions : (a : Array) → fault_in (parts_of a) ≡ None → physical_of (kind_in (parts_of a)) ≡ physical.Union → ((x : UnionArray) → a ≡ arrays.Union x → ⊥) → ⊥
only_unions a s e n = union_alone a (by_layout a _ s e) n

-- what is read is the same where it is seen as the same

pub answers_of : {X Y Z : Type 0} → (f : X → Y) (x : X) (g : Z → Y) (z : Z) (es : List IpcError) (w : Y) → g z ≡ f x → Answers f (Ok x) es w → Answers g (Ok z) es w
answers_of f x g z es w e a = record { ok = (a.ok.0, e ∙ a.ok.1); err = tt }
