-- Integers of 64 bits in an array.
use Rattle.std.proofs.Common.{◌≡◌, ℕ, ◌<◌, ◌%◌, ◌&&◌, List, Bool, true, false, Option, None, Some, ℤ, pos, length, map, get_or, slice_get, nat_eq, nat_lt, refl, sym, ap, ◌∙◌, subst, arith}
use Rattle.std.specs.Prelude.{if◌then◌else◌, not}
use Rattle.std.specs.Int.{w64}
use Rattle.std.specs.Int.RustNames.{FitsSigned}
use Rattle.std.proofs.lemmas.Bool.{and_parts, lt-ltb}
use Rattle.std.proofs.lemmas.List.{length-map}
use Rattle.std.proofs.lemmas.Option.{slice_get_within}
use Rattle.arrow_spec.specs.Cells.{Cell, null, number}
use Rattle.arrow_spec.specs.Flat.{little}
use Rattle.arrow_spec.specs.Kinds.{Offsets, integer, large, small}
use Rattle.arrow_spec.specs.declared.types.IntegerType.TheVariants.{Int64}
use Rattle.arrow_types.specs.Numbers.{signed_to_bytes}
use Rattle.arrow_types.specs.declared.numbers.interval.days_ms.{days_ms}
use Rattle.arrow_types.specs.declared.numbers.interval.months_days_ns.{months_days_ns}
use Rattle.arrow_types.specs.Physical.{physical_of}
use Rattle.arrow_types.specs.declared.physical.PrimitiveType.{PrimitiveType}
use Rattle.arrow_types.specs.declared.physical.PrimitiveType.TheVariants as primitives
use Rattle.arrow_buffers.specs.Layouts.{binary_size, is_boolean, is_null, is_primitive, is_variable_any, is_view, primitive_number}
use Rattle.arrow_buffers.specs.Variable.{Variable, variable_fault}
use Rattle.arrow_buffers.specs.Views.{view_fault}
use Rattle.arrow_buffers.specs.declared.error.ArrayError.{ArrayError}
use Rattle.arrow_buffers.specs.declared.error.ArrayError.TheVariants.{DataType, Length}
use Rattle.arrow_buffers.specs.Leaf.{Leaf, fixed_fault, fixed_rows, leaf_fault, nulls_fault}
use Rattle.arrow_buffers.specs.Rows.{has_rows, holds_row, is_valid, row_of}
use Rattle.arrow_buffers.proofs.Counts.{get_there}
use Rattle.arrow_buffers.proofs.Masks.{length-masked}
use Rattle.arrow_arrays.specs.LeafParts.{number_cell}
use Rattle.arrow_arrays.specs.Parts.{Forest, cells_in, fault_in, kind_in, kinds_each, nested}
use Rattle.arrow_arrays.specs.Heads.{Head, are_under, has_offsets, head_kind, indexed, is_dictionary, is_list, is_map, is_sized, is_struct, is_union, listed, mapped, sized, structured, suits, tagged}
use Rattle.arrow_arrays.proofs.Sliced.{top_sound}
use Rattle.arrow_arrays.specs.PartsOf.{parts_of}
use Rattle.arrow_arrays.specs.RowLaws.{int64_cell}
use Rattle.arrow_arrays.specs.declared.array.Array.{Array}
use Rattle.arrow_arrays.specs.declared.array.Array.TheVariants as arrays
use Rattle.arrow_arrays.proofs.CellRows.{null_row, valid_number}

-- ── which arrays are of them ──

-- numbers of another type have another layout
pub no_other : {B : Type 0} (p : PrimitiveType) (a b : Array) → a ≡ b → kind_in (parts_of a) ≡ integer Int64 → is_primitive p (physical_of (kind_in (parts_of b))) ≡ true
    → nat_eq 3 (primitive_number p) ≡ false → B
no_other p a b e k l n =
    let kind : kind_in (parts_of b) ≡ integer Int64 = ap (λ x. kind_in (parts_of x)) (sym e) ∙ k in
    let layout : nat_eq 3 (primitive_number p) ≡ true = subst (λ x. is_primitive p (physical_of x) ≡ true) kind l in
    cc

no_binary : {B : Type 0} (p : Variable) → p.kind ≡ integer Int64 → variable_fault false (is_variable_any false (physical_of p.kind)) p ≡ None → B
no_binary p k h = let q : Some DataType ≡ None = subst (λ x. variable_fault false (is_variable_any false (physical_of x)) p ≡ None) k h in cc

no_text : {B : Type 0} (p : Variable) → p.kind ≡ integer Int64 → variable_fault true (is_variable_any true (physical_of p.kind)) p ≡ None → B
no_text p k h = let q : Some DataType ≡ None = subst (λ x. variable_fault true (is_variable_any true (physical_of x)) p ≡ None) k h in cc

no_fixed : {B : Type 0} (f : Leaf ℕ) → f.kind ≡ integer Int64 → fixed_fault f ≡ None → B
no_fixed f k h =
    let rest : Option ArrayError = if not (nat_eq (length f.values % binary_size f.kind) 0 && has_rows f.validity (fixed_rows f)) then Some Length else None in
    let q : Some DataType ≡ None = subst (λ x. (if not (nat_lt 0 (binary_size x)) then Some DataType else rest) ≡ None) k h in cc

no_list : {B : Type 0} (o : Offsets) → is_list o (integer Int64) ≡ true → B
no_list small e = cc
no_list large e = cc

no_map : {B : Type 0} (o : Offsets) → is_map o (integer Int64) ≡ true → B
no_map small e = cc
no_map large e = cc

-- a top has its layout
no_head : {B : Type 0} (h : Head) (cs : Forest) → head_kind h ≡ integer Int64 → fault_in (nested h cs) ≡ None → B
no_head h cs k e = by h k (and_parts (suits h) (are_under h (kinds_each cs)) (top_sound h cs e).0.suits).0
  where
    by : {B : Type 0} (h : Head) → head_kind h ≡ integer Int64 → suits h ≡ true → B
    by (listed l) k s = no_list l.width (subst (λ x. is_list l.width x ≡ true) k s)
    by (mapped l) k s = no_map l.width (subst (λ x. is_map l.width x ≡ true) k s)
    by (sized c) k s = let q : false ≡ true = subst (λ x. is_sized x ≡ true) k s in cc
    by (structured c) k s = let q : false ≡ true = subst (λ x. is_struct x ≡ true) k s in cc
    by (tagged t) k s = let q : false ≡ true = subst (λ x. is_union (has_offsets t.offsets) x ≡ true) k s in cc
    by (indexed d) k s = let q : false ≡ true = subst (λ x. is_dictionary d.index x ≡ true) k s in cc

-- arrays of no numbers have another layout
pub no_numbers : {B : Type 0} (a : Array) → kind_in (parts_of a) ≡ integer Int64 → fault_in (parts_of a) ≡ None
    → ((f : Leaf ℤ) → a ≡ arrays.Int8 f → ⊥) → ((f : Leaf ℤ) → a ≡ arrays.Int16 f → ⊥) → ((f : Leaf ℤ) → a ≡ arrays.Int32 f → ⊥)
    → ((f : Leaf ℤ) → a ≡ arrays.Int64 f → ⊥) → ((f : Leaf ℤ) → a ≡ arrays.Int128 f → ⊥) → ((f : Leaf ℕ) → a ≡ arrays.UInt8 f → ⊥)
    → ((f : Leaf ℕ) → a ≡ arrays.UInt16 f → ⊥) → ((f : Leaf ℕ) → a ≡ arrays.UInt32 f → ⊥) → ((f : Leaf ℕ) → a ≡ arrays.UInt64 f → ⊥)
    → ((f : Leaf days_ms) → a ≡ arrays.DaysMs f → ⊥) → ((f : Leaf months_days_ns) → a ≡ arrays.MonthsDaysNs f → ⊥) → B
no_numbers (arrays.Int8 f) k h n8 n16 n32 n64 n128 u8 u16 u32 u64 d m = absurd (n8 f refl)
no_numbers (arrays.Int16 f) k h n8 n16 n32 n64 n128 u8 u16 u32 u64 d m = absurd (n16 f refl)
no_numbers (arrays.Int32 f) k h n8 n16 n32 n64 n128 u8 u16 u32 u64 d m = absurd (n32 f refl)
no_numbers (arrays.Int64 f) k h n8 n16 n32 n64 n128 u8 u16 u32 u64 d m = absurd (n64 f refl)
no_numbers (arrays.Int128 f) k h n8 n16 n32 n64 n128 u8 u16 u32 u64 d m = absurd (n128 f refl)
no_numbers (arrays.UInt8 f) k h n8 n16 n32 n64 n128 u8 u16 u32 u64 d m = absurd (u8 f refl)
no_numbers (arrays.UInt16 f) k h n8 n16 n32 n64 n128 u8 u16 u32 u64 d m = absurd (u16 f refl)
no_numbers (arrays.UInt32 f) k h n8 n16 n32 n64 n128 u8 u16 u32 u64 d m = absurd (u32 f refl)
no_numbers (arrays.UInt64 f) k h n8 n16 n32 n64 n128 u8 u16 u32 u64 d m = absurd (u64 f refl)
no_numbers (arrays.DaysMs f) k h n8 n16 n32 n64 n128 u8 u16 u32 u64 d m = absurd (d f refl)
no_numbers (arrays.MonthsDaysNs f) k h n8 n16 n32 n64 n128 u8 u16 u32 u64 d m = absurd (m f refl)
no_numbers (arrays.Null n) k h n8 n16 n32 n64 n128 u8 u16 u32 u64 d m =
    let q : Some DataType ≡ None = subst (λ x. nulls_fault (is_null (physical_of x)) ≡ None) k h in cc
no_numbers (arrays.Boolean f) k h n8 n16 n32 n64 n128 u8 u16 u32 u64 d m =
    let q : Some DataType ≡ None = subst (λ x. leaf_fault (is_boolean (physical_of x)) (length f.values) f.validity ≡ None) k h in cc
no_numbers (arrays.Binary p) k h n8 n16 n32 n64 n128 u8 u16 u32 u64 d m = no_binary p k h
no_numbers (arrays.LargeBinary p) k h n8 n16 n32 n64 n128 u8 u16 u32 u64 d m = no_binary p k h
no_numbers (arrays.Utf8 p) k h n8 n16 n32 n64 n128 u8 u16 u32 u64 d m = no_text p k h
no_numbers (arrays.LargeUtf8 p) k h n8 n16 n32 n64 n128 u8 u16 u32 u64 d m = no_text p k h
no_numbers (arrays.BinaryView p) k h n8 n16 n32 n64 n128 u8 u16 u32 u64 d m =
    let q : Some DataType ≡ None = subst (λ x. view_fault false (is_view false (physical_of x)) p ≡ None) k h in cc
no_numbers (arrays.Utf8View p) k h n8 n16 n32 n64 n128 u8 u16 u32 u64 d m =
    let q : Some DataType ≡ None = subst (λ x. view_fault true (is_view true (physical_of x)) p ≡ None) k h in cc
no_numbers (arrays.FixedSizeBinary f) k h n8 n16 n32 n64 n128 u8 u16 u32 u64 d m = no_fixed f k h
no_numbers (arrays.«List» n) k h n8 n16 n32 n64 n128 u8 u16 u32 u64 d m = no_head (listed n.head) n.children k h
no_numbers (arrays.FixedSizeList n) k h n8 n16 n32 n64 n128 u8 u16 u32 u64 d m = no_head (sized n.head) n.children k h
no_numbers (arrays.Map n) k h n8 n16 n32 n64 n128 u8 u16 u32 u64 d m = no_head (mapped n.head) n.children k h
no_numbers (arrays.Struct n) k h n8 n16 n32 n64 n128 u8 u16 u32 u64 d m = no_head (structured n.head) n.children k h
no_numbers (arrays.Union n) k h n8 n16 n32 n64 n128 u8 u16 u32 u64 d m = no_head (tagged n.head) n.children k h
no_numbers (arrays.Dictionary n) k h n8 n16 n32 n64 n128 u8 u16 u32 u64 d m = no_head (indexed n.head) n.children k h

-- ── what stands in a row ──

both : (a b : Bool) → a ≡ true → b ≡ true → (a && b) ≡ true
both true b p q = q
both false b p q = p

chosen : {A : Type 0} (b : Bool) (x y : Option A) → b ≡ true → (if b then x else y) ≡ x
chosen true x y e = refl
chosen false x y e = cc

-- a row that holds a number is not null
pub number_there : (f : Leaf ℤ) (row : ℕ) (z : ℤ) → f.kind ≡ integer Int64 → has_rows f.validity (length f.values) ≡ true → slice_get (cells_in (parts_of (arrays.Int64 f))) row ≡ Some (number z)
    → (x : ℤ) × (row_of f.validity f.values row ≡ Some x) × (FitsSigned w64 x → slice_get (cells_in (parts_of (arrays.Int64 f))) row ≡ Some (number x))
number_there f row z k h s = by (is_valid f.validity row) refl
  where
    cells : List Cell
    cells = map (number_cell f.kind) (map (signed_to_bytes w64 little) f.values)

    length-cells : length cells ≡ length f.values
    length-cells = length-map (map (signed_to_bytes w64 little) f.values) (number_cell f.kind) ∙ length-map f.values (signed_to_bytes w64 little)

    below : row < length f.values
    below =
        let e = length-masked f.validity cells (subst (λ n. has_rows f.validity n ≡ true) (sym length-cells) h) ∙ length-cells in
        let l = slice_get_within (cells_in (parts_of (arrays.Int64 f))) row (number z) s in
        omega (arith, e, l)

    by : (b : Bool) → is_valid f.validity row ≡ b
        → (x : ℤ) × (row_of f.validity f.values row ≡ Some x) × (FitsSigned w64 x → slice_get (cells_in (parts_of (arrays.Int64 f))) row ≡ Some (number x))
    by true v =
        let x = get_or f.values row (pos 0) in
        let there = get_there f.values row (pos 0) below in (
          x,
          chosen (holds_row f.validity (length f.values) row) (slice_get f.values row) None (both (nat_lt row (length f.values)) (is_valid f.validity row) (lt-ltb row (length f.values) below) v) ∙ there,
          λ fits. valid_number (signed_to_bytes w64 little) f row x h v there ∙ ap Some (int64_cell f.kind x fits (subst (λ q. is_primitive primitives.Int64 (physical_of q) ≡ true) (sym k) refl)),
        )
    by false v =
        let n : slice_get (cells_in (parts_of (arrays.Int64 f))) row ≡ Some null = null_row f.validity cells row (length f.values) length-cells h below v in
        let told : Some null ≡ Some (number z) = sym n ∙ s in
        cc
