-- Rows that hold no number meet no filter.
use Rattle.std.proofs.Common.{◌≡◌, ◌∙◌, refl, sym, ap, subst, ℕ, zero, suc, List, [], ◌∷◌, Bool, true, false, Option, Some, None, map, replicate, length, get_or, slice_get}
use Rattle.arrow_spec.specs.Arrays.{cell_or_null, from_on}
use Rattle.arrow_spec.specs.Cells as cells
use Rattle.arrow_spec.specs.Cells.{Cell}
use Rattle.arrow_types.specs.Physical.{physical_of}
use Rattle.arrow_types.specs.declared.physical.PhysicalType.TheVariants as physical
use Rattle.arrow_types.specs.declared.physical.PrimitiveType.{PrimitiveType}
use Rattle.arrow_types.specs.declared.physical.PrimitiveType.TheVariants as primitive
use Rattle.arrow_types.specs.declared.numbers.interval.days_ms.{days_ms}
use Rattle.arrow_types.specs.declared.numbers.interval.months_days_ns.{months_days_ns}
use Rattle.arrow_types.specs.Numbers.{days_ms_to_bytes, months_days_ns_to_bytes}
use Rattle.arrow_spec.specs.Flat.{little}
use Rattle.arrow_arrays.specs.PartsOf.{parts_of}
use Rattle.arrow_arrays.specs.declared.array.Array.{Array}
use Rattle.arrow_arrays.specs.declared.array.Array.TheVariants as arrays
use Rattle.arrow_arrays.specs.declared.array.ListArray.{ListArray}
use Rattle.arrow_arrays.specs.declared.array.FixedSizeListArray.{FixedSizeListArray}
use Rattle.arrow_arrays.specs.declared.array.MapArray.{MapArray}
use Rattle.arrow_arrays.specs.declared.array.StructArray.{StructArray}
use Rattle.arrow_arrays.specs.declared.array.UnionArray.{UnionArray}
use Rattle.arrow_arrays.proofs.NumberParts.{leaf_suits}
use Rattle.arrow_buffers.specs.Layouts.{is_primitive}
use Rattle.arrow_buffers.specs.Leaf.{Leaf, Nulls, leaf_cells, leaf_fault}
use Rattle.arrow_buffers.specs.Rows.{masked, masked_by}
use Rattle.arrow_buffers.specs.Variable.{Variable}
use Rattle.arrow_buffers.specs.Views.{Views}
use Rattle.arrow_arrays.specs.Heads.{Counted, Listed, Tagged, head_cell, listed, mapped, sized, structured, tagged}
use Rattle.arrow_arrays.specs.LeafParts.{as_bytes, binary, binary_views, bits, fixed, layout_cell, nulls, number_cell, numbers, text, text_views}
use Rattle.arrow_arrays.specs.Parts.{Forest, cells_each, leaf, nested}
use Rattle.arrow_arrays.specs.RowLaws.{layout_is}
use Rattle.row_filters.specs.Filters.{meets, row_meets}
use Rattle.filter_types.specs.declared.filter.Filter.{Filter}

-- none of some cells meets a filter
abbrev NoneMeets : List Cell → Type 0
NoneMeets xs = (f : Filter) (row : ℕ) → false ≡ meets f (cell_or_null (slice_get xs row))

none_of : NoneMeets []
none_of f row = refl

none_from : (g : ℕ → Cell) → ((f : Filter) (i : ℕ) → false ≡ meets f (g i)) → (at n : ℕ) → NoneMeets (from_on g at n)
none_from g h at zero f row = refl
none_from g h at (suc n) f zero = h f at
none_from g h at (suc n) f (suc row) = none_from g h (suc at) n f row

none_mapped : {A : Type 0} (g : A → Cell) → ((f : Filter) (x : A) → false ≡ meets f (g x)) → (xs : List A) → NoneMeets (map g xs)
none_mapped g h [] f row = refl
none_mapped g h (x ∷ xs) f zero = h f x
none_mapped g h (x ∷ xs) f (suc row) = none_mapped g h xs f row

none_replicated : (n : ℕ) → NoneMeets (replicate n cells.null)
none_replicated zero f row = refl
none_replicated (suc n) f zero = refl
none_replicated (suc n) f (suc row) = none_replicated n f row

none_masked_by : (bs : List Bool) (xs : List Cell) → NoneMeets xs → NoneMeets (masked_by bs xs)
none_masked_by [] xs h f row = refl
none_masked_by (b ∷ bs) [] h f row = refl
none_masked_by (true ∷ bs) (x ∷ xs) h f zero = h f zero
none_masked_by (false ∷ bs) (x ∷ xs) h f zero = refl
none_masked_by (b ∷ bs) (x ∷ xs) h f (suc row) = none_masked_by bs xs (λ g i. h g (suc i)) f row

none_masked : (v : Option (List Bool)) (xs : List Cell) → NoneMeets xs → NoneMeets (masked v xs)
none_masked None xs h = h
none_masked (Some bs) xs h = none_masked_by bs xs h

-- ── arrays in which no arrays stand ──

nulls_meet : (n : Nulls) (f : Filter) (row : ℕ) → false ≡ row_meets f (leaf (nulls n)) row
nulls_meet n f row = none_replicated n.rows f row

bits_meet : (b : Leaf Bool) (f : Filter) (row : ℕ) → false ≡ row_meets f (leaf (bits b)) row
bits_meet b f row = none_masked b.validity (map cells.bool b.values) (none_mapped cells.bool (λ g x. refl) b.values) f row

fixed_meet : (b : Leaf ℕ) (f : Filter) (row : ℕ) → false ≡ row_meets f (leaf (fixed b)) row
fixed_meet b f row = none_masked b.validity (from_on _ 0 _) (none_from _ (λ g i. refl) 0 _) f row

binary_meet : (p : Variable) (f : Filter) (row : ℕ) → false ≡ row_meets f (leaf (binary p)) row
binary_meet p f row = none_masked p.validity (from_on _ 0 _) (none_from _ (λ g i. refl) 0 _) f row

text_meet : (p : Variable) (f : Filter) (row : ℕ) → false ≡ row_meets f (leaf (text p)) row
text_meet p f row = none_masked p.validity (from_on _ 0 _) (none_from _ (λ g i. refl) 0 _) f row

binary_views_meet : (p : Views) (f : Filter) (row : ℕ) → false ≡ row_meets f (leaf (binary_views p)) row
binary_views_meet p f row = none_masked p.validity (from_on _ 0 _) (none_from _ (λ g i. refl) 0 _) f row

text_views_meet : (p : Views) (f : Filter) (row : ℕ) → false ≡ row_meets f (leaf (text_views p)) row
text_views_meet p f row = none_masked p.validity (from_on _ 0 _) (none_from _ (λ g i. refl) 0 _) f row

-- intervals of more than one number
intervals_meet : {A : Type 0} (t : PrimitiveType) (write : A → List ℕ) (b : Leaf A) → ((f : Filter) (bytes : List ℕ) → false ≡ meets f (layout_cell (physical.Primitive t) bytes)) → is_primitive t (physical_of b.kind) ≡ true → NoneMeets (leaf_cells (number_cell b.kind) (as_bytes write b))
intervals_meet t write b h suits =
    none_masked b.validity (map (number_cell b.kind) (map write b.values)) (none_mapped (number_cell b.kind) (λ g bytes. h g bytes ∙ ap (λ l. meets g (layout_cell l bytes)) (sym (layout_is t (physical_of b.kind) suits))) (map write b.values))

days_meet : {A : Type 0} (write : A → List ℕ) (b : Leaf A) (f : Filter) (row : ℕ) → is_primitive primitive.DaysMs (physical_of b.kind) ≡ true → false ≡ row_meets f (leaf (numbers (as_bytes write b))) row
days_meet write b f row suits = intervals_meet primitive.DaysMs write b (λ g bytes. refl) suits f row

months_meet : {A : Type 0} (write : A → List ℕ) (b : Leaf A) (f : Filter) (row : ℕ) → is_primitive primitive.MonthDayNano (physical_of b.kind) ≡ true → false ≡ row_meets f (leaf (numbers (as_bytes write b))) row
months_meet write b f row suits = intervals_meet primitive.MonthDayNano write b (λ g bytes. refl) suits f row

-- ── arrays in which others stand ──

listed_meet : (h : Listed) (cs : Forest) (f : Filter) (row : ℕ) → false ≡ row_meets f (nested (listed h) cs) row
listed_meet h cs f row = none_masked h.validity (from_on (head_cell (listed h) (cells_each cs)) 0 _) (none_from (head_cell (listed h) (cells_each cs)) (λ g i. refl) 0 _) f row

mapped_meet : (h : Listed) (cs : Forest) (f : Filter) (row : ℕ) → false ≡ row_meets f (nested (mapped h) cs) row
mapped_meet h cs f row = none_masked h.validity (from_on (head_cell (mapped h) (cells_each cs)) 0 _) (none_from (head_cell (mapped h) (cells_each cs)) (λ g i. refl) 0 _) f row

sized_meet : (h : Counted) (cs : Forest) (f : Filter) (row : ℕ) → false ≡ row_meets f (nested (sized h) cs) row
sized_meet h cs f row = none_masked h.validity (from_on (head_cell (sized h) (cells_each cs)) 0 _) (none_from (head_cell (sized h) (cells_each cs)) (λ g i. refl) 0 _) f row

structured_meet : (h : Counted) (cs : Forest) (f : Filter) (row : ℕ) → false ≡ row_meets f (nested (structured h) cs) row
structured_meet h cs f row = none_masked h.validity (from_on (head_cell (structured h) (cells_each cs)) 0 _) (none_from (head_cell (structured h) (cells_each cs)) (λ g i. refl) 0 _) f row

tagged_meet : (h : Tagged) (cs : Forest) (f : Filter) (row : ℕ) → false ≡ row_meets f (nested (tagged h) cs) row
tagged_meet h cs f row = none_masked None (from_on (head_cell (tagged h) (cells_each cs)) 0 _) (none_from (head_cell (tagged h) (cells_each cs)) (λ g i. refl) 0 _) f row

-- ── arrays by their variants ──

pub at_null : (a : Array) (x : Nulls) (f : Filter) (row : ℕ) → a ≡ arrays.Null x → false ≡ row_meets f (parts_of a) row
at_null a x f row is = subst (λ b. false ≡ row_meets f (parts_of b) row) (sym is) (nulls_meet x f row)

pub at_boolean : (a : Array) (x : Leaf Bool) (f : Filter) (row : ℕ) → a ≡ arrays.Boolean x → false ≡ row_meets f (parts_of a) row
at_boolean a x f row is = subst (λ b. false ≡ row_meets f (parts_of b) row) (sym is) (bits_meet x f row)

pub at_binary : (a : Array) (x : Variable) (f : Filter) (row : ℕ) → a ≡ arrays.Binary x → false ≡ row_meets f (parts_of a) row
at_binary a x f row is = subst (λ b. false ≡ row_meets f (parts_of b) row) (sym is) (binary_meet x f row)

pub at_large_binary : (a : Array) (x : Variable) (f : Filter) (row : ℕ) → a ≡ arrays.LargeBinary x → false ≡ row_meets f (parts_of a) row
at_large_binary a x f row is = subst (λ b. false ≡ row_meets f (parts_of b) row) (sym is) (binary_meet x f row)

pub at_utf8 : (a : Array) (x : Variable) (f : Filter) (row : ℕ) → a ≡ arrays.Utf8 x → false ≡ row_meets f (parts_of a) row
at_utf8 a x f row is = subst (λ b. false ≡ row_meets f (parts_of b) row) (sym is) (text_meet x f row)

pub at_large_utf8 : (a : Array) (x : Variable) (f : Filter) (row : ℕ) → a ≡ arrays.LargeUtf8 x → false ≡ row_meets f (parts_of a) row
at_large_utf8 a x f row is = subst (λ b. false ≡ row_meets f (parts_of b) row) (sym is) (text_meet x f row)

pub at_binary_view : (a : Array) (x : Views) (f : Filter) (row : ℕ) → a ≡ arrays.BinaryView x → false ≡ row_meets f (parts_of a) row
at_binary_view a x f row is = subst (λ b. false ≡ row_meets f (parts_of b) row) (sym is) (binary_views_meet x f row)

pub at_utf8_view : (a : Array) (x : Views) (f : Filter) (row : ℕ) → a ≡ arrays.Utf8View x → false ≡ row_meets f (parts_of a) row
at_utf8_view a x f row is = subst (λ b. false ≡ row_meets f (parts_of b) row) (sym is) (text_views_meet x f row)

pub at_fixed_size_binary : (a : Array) (x : Leaf ℕ) (f : Filter) (row : ℕ) → a ≡ arrays.FixedSizeBinary x → false ≡ row_meets f (parts_of a) row
at_fixed_size_binary a x f row is = subst (λ b. false ≡ row_meets f (parts_of b) row) (sym is) (fixed_meet x f row)

pub at_days_ms : (a : Array) (x : Leaf days_ms) (f : Filter) (row : ℕ) → leaf_fault (is_primitive primitive.DaysMs (physical_of x.kind)) (length x.values) x.validity ≡ None → a ≡ arrays.DaysMs x → false ≡ row_meets f (parts_of a) row
at_days_ms a x f row sound is = subst (λ b. false ≡ row_meets f (parts_of b) row) (sym is) (days_meet (days_ms_to_bytes little) x f row (leaf_suits (is_primitive primitive.DaysMs (physical_of x.kind)) (length x.values) x.validity sound))

pub at_months_days_ns : (a : Array) (x : Leaf months_days_ns) (f : Filter) (row : ℕ) → leaf_fault (is_primitive primitive.MonthDayNano (physical_of x.kind)) (length x.values) x.validity ≡ None → a ≡ arrays.MonthsDaysNs x → false ≡ row_meets f (parts_of a) row
at_months_days_ns a x f row sound is = subst (λ b. false ≡ row_meets f (parts_of b) row) (sym is) (months_meet (months_days_ns_to_bytes little) x f row (leaf_suits (is_primitive primitive.MonthDayNano (physical_of x.kind)) (length x.values) x.validity sound))

pub at_list : (a : Array) (x : ListArray) (f : Filter) (row : ℕ) → a ≡ arrays.List x → false ≡ row_meets f (parts_of a) row
at_list a x f row is = subst (λ b. false ≡ row_meets f (parts_of b) row) (sym is) (listed_meet x.head x.children f row)

pub at_fixed_size_list : (a : Array) (x : FixedSizeListArray) (f : Filter) (row : ℕ) → a ≡ arrays.FixedSizeList x → false ≡ row_meets f (parts_of a) row
at_fixed_size_list a x f row is = subst (λ b. false ≡ row_meets f (parts_of b) row) (sym is) (sized_meet x.head x.children f row)

pub at_map : (a : Array) (x : MapArray) (f : Filter) (row : ℕ) → a ≡ arrays.Map x → false ≡ row_meets f (parts_of a) row
at_map a x f row is = subst (λ b. false ≡ row_meets f (parts_of b) row) (sym is) (mapped_meet x.head x.children f row)

pub at_struct : (a : Array) (x : StructArray) (f : Filter) (row : ℕ) → a ≡ arrays.Struct x → false ≡ row_meets f (parts_of a) row
at_struct a x f row is = subst (λ b. false ≡ row_meets f (parts_of b) row) (sym is) (structured_meet x.head x.children f row)

pub at_union : (a : Array) (x : UnionArray) (f : Filter) (row : ℕ) → a ≡ arrays.Union x → false ≡ row_meets f (parts_of a) row
at_union a x f row is = subst (λ b. false ≡ row_meets f (parts_of b) row) (sym is) (tagged_meet x.head x.children f row)

-- the item at a place that there is, or null
pub or_null : (xs : List Cell) (i : ℕ) → cell_or_null (slice_get xs i) ≡ get_or xs i cells.null
or_null [] i = refl
or_null (x ∷ xs) zero = refl
or_null (x ∷ xs) (suc i) = or_null xs i
