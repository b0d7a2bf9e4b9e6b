-- The rows to which a row leads are rows of its child.
use Rattle.std.proofs.Common.{◌≡◌, ℕ, zero, suc, ◌+◌, ◌*◌, ◌^◌, ◌≤◌, ◌<◌, List, true, Some, ap, sym, subst, ◌∙◌, arith}
use Rattle.std.proofs.Math.Nat.{mul-le-mul_left}
use Rattle.arrow_spec.specs.declared.types.IntegerType.{IntegerType}
use Rattle.arrow_spec.specs.Counts.{magnitude}
use Rattle.view_types.specs.declared.layout.Layout.{Layout}
use Rattle.view_types.specs.declared.layout.Layout.TheVariants.{Null, Boolean, Number, DayTime, MonthDayNano, Bytes, Views as Viewed, FixedBytes, Lists, FixedLists, Struct, Union, Dictionary}
use Rattle.view_types.specs.Views.{Top, View, Views, none, also, is_valid_in, child_at, count_of, number_in, rows_at, rows_each, rows_of}
use Rattle.view_types.specs.Sound.{AreEnds, HaveRows, IsSet, SpanFits, Stands, ends_after}
use Rattle.view_types.specs.Spans.{has_spans, part_among}
use Rattle.view_types.proofs.Children.{rows_are, rows_there}

-- a row that is not null is one that the validity says so
pub set_of : (l : Layout) (t : Top) (row : ℕ) → is_valid_in l t row ≡ true → IsSet t row
set_of Null t row h = cc
set_of Boolean t row h = h
set_of (Number i) t row h = h
set_of DayTime t row h = h
set_of MonthDayNano t row h = h
set_of (Bytes is_large is_text) t row h = h
set_of (Viewed is_text) t row h = h
set_of (FixedBytes n) t row h = h
set_of (Lists is_large) t row h = h
set_of (FixedLists n) t row h = h
set_of Struct t row h = h
set_of (Union mode) t row h = h
set_of (Dictionary i) t row h = h

rows_of_each : (cs : Views) (n i : ℕ) (v : View) → HaveRows cs n → child_at cs i ≡ Some v → rows_of v ≡ n
rows_of_each none n i v h e = cc
rows_of_each (also w ws) n zero v h e = let q : w ≡ v = cc in ap rows_of (sym q) ∙ h.0
rows_of_each (also w ws) n (suc i) v h e = rows_of_each ws n i v h.1 e

-- each child of a struct has its rows
pub struct_rows : (l : Layout) (t : Top) (cs : Views) (i : ℕ) (v : View) → l ≡ Struct → Stands l t cs → child_at cs i ≡ Some v → rows_of v ≡ t.rows
struct_rows l t cs i v e s h = rows_of_each cs t.rows i v (subst (λ x. Stands x t cs) e s) h

-- so many values of a size lie before others
pub one_more : (size row rows n : ℕ) → row < rows → size * rows ≤ n → size * row + size ≤ n
one_more size row rows n h k =
    let more : suc row ≤ rows = omega (arith, h) in
    let below : size * suc row ≤ size * rows = mul-le-mul_left size more in
    omega (arith, below, k)

pub spans_fit : (l : Layout) (t : Top) (cs : Views) (row : ℕ) → Stands l t cs → row < t.rows → IsSet t row → has_spans l ≡ true → SpanFits l t cs row
spans_fit (Lists is_large) t cs row s h v e = let b = s.rows row h in omega (arith, b.rise, b.within)
spans_fit (FixedLists n) t cs row s h v e = one_more n row t.rows (rows_at cs 0) h s.rows
spans_fit (Union mode) t cs row s h v e = s.rows row h
spans_fit (Dictionary i) t cs row s h v e = s.rows row h v
spans_fit Null t cs row s h v e = cc
spans_fit Boolean t cs row s h v e = cc
spans_fit (Number i) t cs row s h v e = cc
spans_fit DayTime t cs row s h v e = cc
spans_fit MonthDayNano t cs row s h v e = cc
spans_fit (Bytes is_large is_text) t cs row s h v e = cc
spans_fit (Viewed is_text) t cs row s h v e = cc
spans_fit (FixedBytes n) t cs row s h v e = cc
spans_fit Struct t cs row s h v e = cc

-- what that says of the child
pub span_within : (cs : Views) (child first count : ℕ) → first + count ≤ rows_at cs child → (v : View) → child_at cs child ≡ Some v → first + count ≤ rows_of v
span_within cs child first count h v e = omega (arith, h, rows_are cs child v e)

pub span_there : (cs : Views) (child first count : ℕ) → first + count ≤ rows_at cs child → 0 < count → child < count_of cs
span_there cs child first count h some = rows_there cs child (omega (arith, h, some))

-- a row's first item can be counted
pub first_item : (l : Layout) (size : ℕ) (t : Top) (cs : Views) (row : ℕ) → l ≡ FixedLists size → Stands l t cs → row < t.rows → size * row < 2 ^ 64
first_item l size t cs row e s h =
    let f = subst (λ x. Stands x t cs) e s in
    let less : row ≤ t.rows = omega (arith, h) in
    let below : size * row ≤ size * t.rows = mul-le-mul_left size less in
    omega (arith, below, f.few)

-- a key leads to a row of its part
pub keyed_fit : (l : Layout) (t : Top) (cs : Views) (row : ℕ) (i : IntegerType) (key part first : ℕ) → l ≡ Dictionary i → Stands l t cs → row < t.rows → IsSet t row → key ≡ magnitude (number_in t i row)
    → part ≡ (part_among (rows_each cs) key).0 → first ≡ (part_among (rows_each cs) key).1 → first + 1 ≤ rows_at cs part
keyed_fit l t cs row i key part first e s h v k p f =
    let keys = subst (λ x. Stands x t cs) e s in
    rw (p, f, k) (keys.rows row h v)

pub ends_known : (l : Layout) (i : IntegerType) (ends : List ℕ) (cs : Views) → l ≡ Dictionary i → AreEnds l ends cs → ends ≡ ends_after 0 (rows_each cs)
ends_known l i ends cs e h = subst (λ x. AreEnds x ends cs) e h
