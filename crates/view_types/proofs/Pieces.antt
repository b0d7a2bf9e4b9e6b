-- The bytes of a row stand in the input.
use Rattle.std.proofs.Common.{◌≡◌, ℕ, suc, ◌+◌, ◌-◌, ◌*◌, ◌≤◌, ◌<◌, take, drop, Bool, refl, sym, ap, ◌∙◌, arith}
use Rattle.std.proofs.lemmas.Bool.{le-leb, lt-leb}
use Rattle.arrow_spec.specs.Arrays.{u32_of}
use Rattle.view_types.specs.declared.layout.Range.{Range}
use Rattle.view_types.specs.Sound.{Between, Leads, Values}
use Rattle.view_types.specs.Views.{Top, offset_in, part_in, range_at, row_of, view_in, viewed}
use Rattle.view_types.proofs.Rooms.{piece}

-- of a row between two offsets
pub row_stands : (t : Top) (is_large : Bool) (row from to : ℕ) → from ≡ offset_in t is_large row → to ≡ offset_in t is_large (suc row) → Between t is_large t.second.length row
    → part_in t.input (record { at = t.second.at + from; length = to - from }) ≡ row_of t is_large row
row_stands t is_large row from to e f b =
    let inside : offset_in t is_large row + (offset_in t is_large (suc row) - offset_in t is_large row) ≤ t.second.length = omega (arith, b.rise, b.within) in
    ap (λ n. take (to - n) (drop (t.second.at + n) t.input)) e
    ∙ ap (λ n. take (n - offset_in t is_large row) (drop (t.second.at + offset_in t is_large row) t.input)) f
    ∙ sym (piece t.input t.second.at t.second.length (offset_in t is_large row) (offset_in t is_large (suc row) - offset_in t is_large row) inside)

-- of a row of one number of bytes
pub fixed_stands : (t : Top) (row size : ℕ) → size * row + size ≤ t.first.length → part_in t.input (record { at = t.first.at + size * row; length = size }) ≡ take size (drop (size * row) (part_in t.input t.first))
fixed_stands t row size h = sym (piece t.input t.first.at t.first.length (size * row) size h)

-- of a row behind a view
pub short_stands : (t : Top) (row n : ℕ) → Values t 16 → row < t.rows → n ≡ u32_of (view_in t row) 0 → n ≤ 12 → part_in t.input (record { at = t.first.at + 16 * row + 4; length = n }) ≡ viewed t (view_in t row)
short_stands t row n v h e short =
    let P = part_in t.input t.first in
    let len : u32_of (view_in t row) 0 ≤ 12 = omega (arith, e, short) in
    let inner : 4 + n ≤ 16 = omega (arith, short) in
    let outer : (16 * row + 4) + n ≤ t.first.length = omega (arith, v.room, h, short) in
    let place : t.first.at + 16 * row + 4 ≡ t.first.at + (16 * row + 4) = omega arith in
    ap (λ k. take n (drop k t.input)) place
    ∙ sym (piece t.input t.first.at t.first.length (16 * row + 4) n outer)
    ∙ sym (piece P (16 * row) 16 4 n inner)
    ∙ ap (λ k. take k (drop 4 (view_in t row))) e
    ∙ rw (le-leb (u32_of (view_in t row) 0) 12 len) refl

pub long_stands : (t : Top) (row n off : ℕ) (r : Range) → n ≡ u32_of (view_in t row) 0 → 12 < n → off ≡ u32_of (view_in t row) 12 → r ≡ range_at t.buffers (u32_of (view_in t row) 8) → Leads t row
    → part_in t.input (record { at = r.at + off; length = n }) ≡ viewed t (view_in t row)
long_stands t row n off r e long f q l =
    let len : 12 < u32_of (view_in t row) 0 = omega (arith, e, long) in
    let inside : off + n ≤ r.length = rw (q, e, f) l.within in
    sym (piece t.input r.at r.length off n inside)
    ∙ ap (λ k. take k (drop off (part_in t.input r))) e
    ∙ ap (λ k. take (u32_of (view_in t row) 0) (drop k (part_in t.input r))) f
    ∙ ap (λ x. take (u32_of (view_in t row) 0) (drop (u32_of (view_in t row) 12) (part_in t.input x))) q
    ∙ rw (lt-leb (u32_of (view_in t row) 0) 12 len) refl
