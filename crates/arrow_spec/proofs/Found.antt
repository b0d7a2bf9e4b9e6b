-- Numbers, offsets and slots that are read where their bytes stand.
use Rattle.std.proofs.Common.{◌≡◌, ◌^◌, ◌+◌, ◌-◌, ◌*◌, subst, ◌<◌, ◌≤◌, ℕ, suc, List, ◌++◌, length, Some, None, Ok, refl, sym, ap, ◌∙◌, arith, true, false}
use Rattle.std.specs.Prelude.{pos, nat_le}
use Rattle.std.specs.Int.{Width, w8, w16, w32, w64, w128, to_le_bytes, cast_signed}
use Rattle.std.proofs.lemmas.List.{length-append}
use Rattle.std.proofs.lemmas.Bool.{le-leb, lt-leb}
use Rattle.std.proofs.lemmas.Nat.{from_le_bytes-to_le_bytes_8}
use Rattle.std.proofs.lemmas.Int.{to_z_pos}
use Rattle.arrow_spec.specs.Readings.{bind}
use Rattle.arrow_spec.specs.Flat.{Table, num, little, fold_number, in_range, unsigned_at, table_at, slot, target}
use Rattle.arrow_spec.proofs.Standing.{part-stands, stands_right, u16-stands, u32-stands}
use Rattle.arrow_spec.specs.Held.{Stands, IsSmall}

pub right_at : (b : List ℕ) (k : ℕ) (xs ys : List ℕ) (j : ℕ) → j ≡ k + length xs → Stands b k (xs ++ ys) → Stands b j ys
right_at b k xs ys j e h = subst (λ n. Stands b n ys) (sym e) (stands_right b k xs ys h)

pub within : (b : List ℕ) (k : ℕ) (xs : List ℕ) → Stands b k xs → k + length xs ≤ length b
within b k xs h = omega (arith, ap length h.whole, length-append h.front (xs ++ h.back), length-append xs h.back, h.place)

pub number_stands : (w : Width) (b : List ℕ) (k n : ℕ) → IsSmall w n → Stands b k (to_le_bytes w n) → unsigned_at w b k ≡ Ok n
number_stands w8 b k n small h = ap (λ found. in_range (fold_number little w8 found)) (part-stands b k (to_le_bytes w8 n) h) ∙ ap Ok (omega arith)
number_stands w16 b k n small h = ap in_range (u16-stands b k n small h)
number_stands w32 b k n small h = ap in_range (u32-stands b k n small h)
number_stands w64 b k n small h = ap (λ found. in_range (fold_number little w64 found)) (part-stands b k (to_le_bytes w64 n) h) ∙ ap Ok (from_le_bytes-to_le_bytes_8 n small)
number_stands w128 b k n small h = absurd small

pub target_stands : (b : List ℕ) (at q : ℕ) → at ≤ q → q < 2 ^ 32 → Stands b at (to_le_bytes w32 (q - at)) → target b at ≡ Ok q
unfolding bind
target_stands b at q below small h =
    let same : at + (q - at) ≡ q = omega arith in
    let n : unsigned_at w32 b at ≡ Ok (q - at) = number_stands w32 b at (q - at) (omega arith) h in
    rw (n, same) refl

pub table_stands : (b : List ℕ) (p v : ℕ) → 4 ≤ v → v < 2 ^ 15 → v ≤ p → Stands b p (to_le_bytes w32 v) → Stands b (p - v) (to_le_bytes w16 v) → table_at b p ≡ Ok (record { place = p; vtable = p - v; size = v })
unfolding table_at bind
table_stands b p v low high inside back size =
    let back' : num b p w32 little ≡ Some v = u32-stands b p v (omega arith) back in
    let size' : num b (p - v) w16 little ≡ Some v = u16-stands b (p - v) v (omega arith) size in
    let signed : cast_signed w32 v ≡ pos v = to_z_pos w32 v (omega arith) in
    rw (back', signed, le-leb v p inside, size') (rw (le-leb 4 v low) refl)

pub slot_past : (b : List ℕ) (t : Table) (i : ℕ) → t.size < 4 + 2 * i + 2 → slot b t i ≡ Ok None
unfolding slot
slot_past b t i past =
    let test : nat_le (4 + 2 * i + 2) t.size ≡ false = lt-leb _ _ past in
    rw (slot, test) refl

pub slot_none : (b : List ℕ) (t : Table) (i : ℕ) → 4 + 2 * i + 2 ≤ t.size → Stands b (t.vtable + 4 + 2 * i) (to_le_bytes w16 0) → slot b t i ≡ Ok None
unfolding slot bind
slot_none b t i inside h =
    let test : nat_le (4 + 2 * i + 2) t.size ≡ true = le-leb _ _ inside in
    let entry : unsigned_at w16 b (t.vtable + 4 + 2 * i) ≡ Ok 0 = number_stands w16 b _ 0 (omega arith) h in
    rw (slot, test, entry) refl

pub slot_some : (b : List ℕ) (t : Table) (i at : ℕ) → 4 + 2 * i + 2 ≤ t.size → t.place < at → at < t.place + 2 ^ 16 → Stands b (t.vtable + 4 + 2 * i) (to_le_bytes w16 (at - t.place)) → slot b t i ≡ Ok (Some at)
unfolding slot bind
slot_some b t i at inside low high h =
    let test : nat_le (4 + 2 * i + 2) t.size ≡ true = le-leb _ _ inside in
    let entry : unsigned_at w16 b (t.vtable + 4 + 2 * i) ≡ Ok (at - t.place) = number_stands w16 b _ (at - t.place) (omega arith) h in
    let form : at - t.place ≡ suc (at - t.place - 1) = omega arith in
    let same : t.place + suc (at - t.place - 1) ≡ at = omega arith in
    rw (slot, test, entry, form, same) refl
