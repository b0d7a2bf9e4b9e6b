-- The bytes of a number stand in the input at its place.
use Rattle.std.proofs.Common.{◌≡◌, ℕ, ◌+◌, ◌*◌, ◌≤◌, ◌<◌, List, Some, length, take, drop, pos, ℤ, refl, sym, ap, subst, ◌∙◌, arith}
use Rattle.std.specs.Prelude.{if◌then◌else◌}
use Rattle.std.specs.Int.{Width, w32, w64, byte_len, cast_signed}
use Rattle.std.proofs.lemmas.Bool.{le-leb}
use Rattle.arrow_spec.specs.declared.types.IntegerType.{IntegerType}
use Rattle.arrow_spec.specs.declared.types.IntegerType.TheVariants as integers
use Rattle.arrow_spec.specs.Flat.{fold_number, part}
use Rattle.arrow_spec.specs.Arrays.{integer_width, is_unsigned, or_0}
use Rattle.view_types.specs.declared.layout.Range.{Range}
use Rattle.view_types.specs.declared.layout.Layout.{Layout}
use Rattle.view_types.specs.declared.layout.Layout.TheVariants.{Number, DayTime, MonthDayNano}
use Rattle.view_types.specs.Ranges.{Lies}
use Rattle.view_types.specs.Sound.{Stands, Values}
use Rattle.view_types.specs.Views.{Interval, Top, Views, interval_there, number_in, number_there, order_of, part_in, part_of_row, place_in, signed_at}
use Rattle.view_types.proofs.Fits.{one_more}
use Rattle.view_types.proofs.Ranged.{part_length}
use Rattle.view_types.proofs.Rooms.{piece}

-- a part of a range is a part of the whole
within : (b : List ℕ) (at n : ℕ) → at + n ≤ length b → part b at n ≡ Some (take n (drop at b))
within b at n h = rw (le-leb (at + n) (length b) h) refl

part_there : (input : List ℕ) (r : Range) (k n : ℕ) → Lies input r → k + n ≤ r.length → part (part_in input r) k n ≡ part input (r.at + k) n
part_there input r k n lies h =
    within (part_in input r) k n (omega (arith, h, part_length input r lies)) ∙ ap (λ b. Some b) (piece input r.at r.length k n h) ∙ sym (within input (r.at + k) n (omega (arith, h, lies)))

room_of : (i : IntegerType) (row rows n : ℕ) → byte_len (integer_width i) * rows ≤ n → row < rows → byte_len (integer_width i) * row + byte_len (integer_width i) ≤ n
room_of integers.Int8 row rows n r h = let s : 1 * rows ≤ n = r in let g : 1 * row + 1 ≤ n = omega (arith, s, h) in g
room_of integers.Int16 row rows n r h = let s : 2 * rows ≤ n = r in let g : 2 * row + 2 ≤ n = omega (arith, s, h) in g
room_of integers.Int32 row rows n r h = let s : 4 * rows ≤ n = r in let g : 4 * row + 4 ≤ n = omega (arith, s, h) in g
room_of integers.Int64 row rows n r h = let s : 8 * rows ≤ n = r in let g : 8 * row + 8 ≤ n = omega (arith, s, h) in g
room_of integers.Int128 row rows n r h = let s : 16 * rows ≤ n = r in let g : 16 * row + 16 ≤ n = omega (arith, s, h) in g
room_of integers.UInt8 row rows n r h = let s : 1 * rows ≤ n = r in let g : 1 * row + 1 ≤ n = omega (arith, s, h) in g
room_of integers.UInt16 row rows n r h = let s : 2 * rows ≤ n = r in let g : 2 * row + 2 ≤ n = omega (arith, s, h) in g
room_of integers.UInt32 row rows n r h = let s : 4 * rows ≤ n = r in let g : 4 * row + 4 ≤ n = omega (arith, s, h) in g
room_of integers.UInt64 row rows n r h = let s : 8 * rows ≤ n = r in let g : 8 * row + 8 ≤ n = omega (arith, s, h) in g

-- The number of a row is the one whose bytes stand at the row's place.
pub number_stands : (t : Top) (i : IntegerType) (row : ℕ) → Values t (byte_len (integer_width i)) → row < t.rows → number_in t i row ≡ number_there (Number i) t (place_in (Number i) t row)
number_stands t i row v h =
    ap (λ n. if is_unsigned i then pos n else cast_signed (integer_width i) n)
    (ap (λ b. or_0 (fold_number (order_of t.is_big) (integer_width i) b)) (part_there t.input t.first (byte_len (integer_width i) * row) (byte_len (integer_width i)) v.lies (room_of i row t.rows t.first.length v.room h)))

-- and of a view under the layout of numbers
pub stands_there : (l : Layout) (t : Top) (cs : Views) (i : IntegerType) (row : ℕ) → l ≡ Number i → Stands l t cs → row < t.rows → number_in t i row ≡ number_there l t (place_in l t row)
stands_there l t cs i row e s h = subst (λ l. Stands l t cs → number_in t i row ≡ number_there l t (place_in l t row)) (sym e) (λ s. number_stands t i row s h) s

-- ── intervals ──

-- a number inside a row's bytes stands at its place
part_stands : (t : Top) (stride at : ℕ) (w : Width) (row : ℕ) → Values t stride → row < t.rows → at + byte_len w ≤ stride → part_of_row t stride at w row ≡ signed_at t.input (t.first.at + stride * row + at) w (order_of t.is_big)
part_stands t stride at w row v h small =
    let more : stride * row + stride ≤ t.first.length = one_more stride row t.rows t.first.length h v.room in
    let room : stride * row + at + byte_len w ≤ t.first.length = omega (arith, more, small) in
    let e : t.first.at + (stride * row + at) ≡ t.first.at + stride * row + at = omega arith in
    ap (λ b. cast_signed w (or_0 (fold_number (order_of t.is_big) w b))) (part_there t.input t.first (stride * row + at) (byte_len w) v.lies room ∙ ap (λ n. part t.input n (byte_len w)) e)

at_first : (t : Top) (stride : ℕ) (w : Width) (row : ℕ) → Values t stride → row < t.rows → byte_len w ≤ stride → part_of_row t stride 0 w row ≡ signed_at t.input (t.first.at + stride * row) w (order_of t.is_big)
at_first t stride w row v h small = let e : t.first.at + stride * row + 0 ≡ t.first.at + stride * row = omega arith in part_stands t stride 0 w row v h (omega (arith, small)) ∙ ap (λ n. signed_at t.input n w (order_of t.is_big)) e

interval_same : (a b c x y z : ℤ) → a ≡ x → b ≡ y → c ≡ z → let p : Interval = record { first = a; second = b; nanoseconds = c } in let q : Interval = record { first = x; second = y; nanoseconds = z } in p ≡ q
interval_same a b c x y z h k l = rw (h, k, l) refl

-- The interval of a row is the one whose bytes stand at the row's place.
pub day_time_stands : (l : Layout) (t : Top) (cs : Views) (row : ℕ) (a b c : ℤ) → l ≡ DayTime → Stands l t cs → row < t.rows → a ≡ part_of_row t 8 0 w32 row → b ≡ part_of_row t 8 4 w32 row → c ≡ pos 0
    → let p : Interval = record { first = a; second = b; nanoseconds = c } in p ≡ interval_there l t (place_in l t row)
day_time_stands l t cs row a b c e s h x y z =
    subst (λ l. Stands l t cs → (let p : Interval = record { first = a; second = b; nanoseconds = c } in p ≡ interval_there l t (place_in l t row))) (sym e)
    (λ s. interval_same a b c _ _ _ (x ∙ at_first t 8 w32 row s h (omega arith)) (y ∙ part_stands t 8 4 w32 row s h (omega arith)) z) s

pub month_day_nano_stands : (l : Layout) (t : Top) (cs : Views) (row : ℕ) (a b c : ℤ) → l ≡ MonthDayNano → Stands l t cs → row < t.rows → a ≡ part_of_row t 16 0 w32 row → b ≡ part_of_row t 16 4 w32 row → c ≡ part_of_row t 16 8 w64 row
    → let p : Interval = record { first = a; second = b; nanoseconds = c } in p ≡ interval_there l t (place_in l t row)
month_day_nano_stands l t cs row a b c e s h x y z =
    subst (λ l. Stands l t cs → (let p : Interval = record { first = a; second = b; nanoseconds = c } in p ≡ interval_there l t (place_in l t row))) (sym e)
    (λ s. interval_same a b c _ _ _ (x ∙ at_first t 16 w32 row s h (omega arith)) (y ∙ part_stands t 16 4 w32 row s h (omega arith)) (z ∙ part_stands t 16 8 w64 row s h (omega arith))) s
