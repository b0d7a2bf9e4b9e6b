-- Offsets that are counted from the first, one by one.
use Rattle.std.proofs.Common.{◌≡◌, ℕ, zero, suc, ◌+◌, ◌-◌, ◌*◌, ◌/◌, ◌%◌, ◌^◌, ◌≤◌, ◌<◌, List, ◌∷◌, ◌++◌, length, take, drop, map, get_or, Bool, true, false, inl, inr, refl, sym, ap, subst, ◌∙◌, arith, add-one, length-take, length-drop}
use Rattle.std.specs.Prelude.{ℤ, pos, negsuc, if◌then◌else◌}
use Rattle.std.specs.Int.{w32, w64, byte_len, cast_signed}
use Rattle.std.proofs.Math.Nat.{mul-suc, mul-add, mul-mod_right, mul-div_cancel_left, le_of_mul-le-mul_left}
use Rattle.std.proofs.Math.Seq.{take-add}
use Rattle.std.proofs.Math.ListN.{get_or-map}
use Rattle.std.proofs.lemmas.Bool.{cases_lt}
use Rattle.std.proofs.lemmas.Int.{to_z_pos}
use Rattle.std.proofs.Math.Facts.{to_z-neg}
use Rattle.std.proofs.lemmas.List.{length-map, take_all}
use Rattle.std.proofs.lemmas.Slice.{take-put_mid}
use borrow.Rule.Slice.PartMut.{put_mid}
use Rattle.arrow_spec.specs.Flat.{Order, from_bytes}
use Rattle.arrow_spec.specs.Counts.{magnitude}
use Rattle.arrow_spec.specs.Arrays.{from_on, offset_width}
use Rattle.arrow_spec.proofs.CellLists.{from_on-same}
use Rattle.arrow_types.specs.Numbers.{to_bytes, signed_from_bytes, offsets_by}
use Rattle.arrow_types.specs.NumberLaws.{unsigned_width}
use Rattle.arrow_types.specs.BytesBack.{number_fits, take_bytes, drop_bytes, unsigned_same}
use Rattle.arrow_buffers.specs.Rows.{part}
use Rattle.arrow_buffers.specs.Items.{items_at}
use Rattle.arrow_buffers.specs.Variable.{place_at, are_offsets}
use Rattle.arrow_buffers.proofs.Counts.{found}
use Rattle.arrow_buffers.proofs.Parts.{length-from_on, get-from_on}
use Rattle.arrow_buffers.proofs.Items.{item_inside}
use Rattle.arrow_buffers.proofs.Rising.{offset_risen, offset_between}
use Rattle.ipc_bodies.specs.Pieces.{rebased, offset_bytes, held_offsets, AreCounted}
use Rattle.ipc_bodies.proofs.Lists.{length_flat, flat_at, mul_next, part_more}
use Rattle.ipc_bodies.specs.Places.{IsPiece}
use Rattle.ipc_bodies.proofs.Turning.{IsWidth, IsWhole, whole_piece, count_whole}

-- the bytes of an offset
abbrev pub width_by : Bool → ℕ
width_by is_large = byte_len (offset_width (offsets_by is_large))

above : (is_large : Bool) → 0 < width_by is_large
above true = omega arith
above false = omega arith

pub length_held : (is_large : Bool) (order : Order) (bytes : List ℕ) → length (held_offsets is_large order bytes) ≡ length bytes / width_by is_large
length_held is_large order bytes = length-from_on _ 0 (length bytes / width_by is_large)

pub length_counted : (order : Order) (is_large : Bool) (offsets : List ℤ) → length (offset_bytes order (offsets_by is_large) offsets) ≡ width_by is_large * length offsets
length_counted order is_large offsets =
    length_flat (λ n. to_bytes order (offset_width (offsets_by is_large)) n) (width_by is_large) (unsigned_width (offset_width (offsets_by is_large)) order) (rebased offsets)
    ∙ ap (λ n. width_by is_large * n) (length-map offsets (λ x. magnitude x - place_at offsets 0))

-- the bytes of the i-th
pub counted_at : (order : Order) (is_large : Bool) (offsets : List ℤ) (i : ℕ) → i < length offsets
    → take (width_by is_large) (drop (width_by is_large * i) (offset_bytes order (offsets_by is_large) offsets)) ≡ to_bytes order (offset_width (offsets_by is_large)) (place_at offsets i - place_at offsets 0)
counted_at order is_large offsets i h =
    let w = offset_width (offsets_by is_large) in
    let f = λ (x : ℤ). magnitude x - place_at offsets 0 in
    flat_at (λ n. to_bytes order w n) (width_by is_large) (unsigned_width w order) (rebased offsets) i (f (pos 0)) (omega (arith, h, length-map offsets f))
    ∙ ap (to_bytes order w) (get_or-map f offsets i (pos 0))

pub length_view : (wanted order : Order) (is_large : Bool) (bytes : List ℕ) → length bytes % width_by is_large ≡ 0 → length (offset_bytes wanted (offsets_by is_large) (held_offsets is_large order bytes)) ≡ length bytes
length_view wanted order is_large bytes h =
    length_counted wanted is_large (held_offsets is_large order bytes) ∙ ap (λ n. width_by is_large * n) (length_held is_large order bytes) ∙ count_whole (width_by is_large) (length bytes) (above is_large) h

-- a number of 32 bits that is not negative, and one of 64
small_same : (n m : ℕ) → n < 2 ^ 32 → cast_signed w32 n ≡ pos m → n ≡ m
small_same n m h e =
    elim (cases_lt n (2 ^ 31)) [
      | inl lt ↦ let p : pos n ≡ pos m = sym (to_z_pos w32 n lt) ∙ e in cc
      | inr ge ↦
          let k = 2 ^ 32 - 1 - n in
          let back : 2 ^ 32 - suc k ≡ n = omega (arith, h) in
          let p : negsuc k ≡ pos m = sym (to_z-neg w32 k (omega (arith, ge))) ∙ ap (cast_signed w32) back ∙ e in
          cc
    ]

large_same : (n m : ℕ) → n < 2 ^ 64 → cast_signed w64 n ≡ pos m → n ≡ m
large_same n m h e =
    elim (cases_lt n (2 ^ 63)) [
      | inl lt ↦ let p : pos n ≡ pos m = sym (to_z_pos w64 n lt) ∙ e in cc
      | inr ge ↦
          let k = 2 ^ 64 - 1 - n in
          let back : 2 ^ 64 - suc k ≡ n = omega (arith, h) in
          let p : negsuc k ≡ pos m = sym (to_z-neg w64 k (omega (arith, ge))) ∙ ap (cast_signed w64) back ∙ e in
          cc
    ]

same_by : (is_large : Bool) (n m : ℕ) → n < (if is_large then 2 ^ 64 else 2 ^ 32) → cast_signed (offset_width (offsets_by is_large)) n ≡ pos m → n ≡ m
same_by true n m h e = large_same n m h e
same_by false n m h e = small_same n m h e

-- what the i-th offset is as a number without a sign
pub record IsPlaced (is_large : Bool) (order : Order) (bytes : List ℕ) (i n : ℕ) : Type 0 where
  pub place : n ≡ place_at (held_offsets is_large order bytes) i
  pub behind : place_at (held_offsets is_large order bytes) 0 ≤ n

pub is_placed : (is_large : Bool) (order : Order) (bytes item : List ℕ) (limit first i n : ℕ) → AreCounted is_large order bytes limit first → i < length bytes / width_by is_large → item ≡ take (width_by is_large) (drop (width_by is_large * i) bytes)
    → n ≡ from_bytes order (offset_width (offsets_by is_large)) item → n < (if is_large then 2 ^ 64 else 2 ^ 32) → IsPlaced is_large order bytes i n
is_placed is_large order bytes item limit first i n a h e s fits =
    let w = offset_width (offsets_by is_large) in
    let offsets = held_offsets is_large order bytes in
    let count : length offsets ≡ length bytes / width_by is_large = length_held is_large order bytes in
    let below : i < length offsets = omega (arith, h, count) in
    let f = λ (j : ℕ). signed_from_bytes w order (take (width_by is_large) (drop (0 + width_by is_large * j) bytes)) in
    let from : 0 + i ≡ i = omega arith in
    let start : 0 + width_by is_large * i ≡ width_by is_large * i = omega arith in
    let there = (found offsets i (f (0 + i)) (get-from_on f 0 (length bytes / width_by is_large) i h)).at (pos 0) in
    let risen = offset_risen offsets limit i a.rise below in
    let signed : cast_signed w n ≡ pos (place_at offsets i) =
    ap (cast_signed w) (s ∙ ap (from_bytes order w) e) ∙ ap (λ k. signed_from_bytes w order (take (width_by is_large) (drop k bytes))) (sym start) ∙ ap f (sym from) ∙ sym there ∙ risen.placed in
    let same : n ≡ place_at offsets i = same_by is_large n (place_at offsets i) fits signed in
    record { place = same; behind = subst (λ k. place_at offsets 0 ≤ k) (sym same) (offset_between offsets limit 0 a.rise i (omega arith) below) }

map_told : {A B : Type 0} (g : A → B) (f : ℕ → A) (at n : ℕ) → map g (from_on f at n) ≡ from_on (λ j. g (f j)) at n
map_told g f at zero = refl
map_told g f at (suc n) = ap (λ r. g (f at) ∷ r) (map_told g f (suc at) n)

-- the offsets that stand in the bytes of offsets of a type
held_numbers : {A : Type 0} (read : Order → List ℕ → A) (number : A → ℤ) (is_large : Bool) (order : Order) (bytes : List ℕ) (xs : List A)
    → ((b : List ℕ) → number (read order b) ≡ signed_from_bytes (offset_width (offsets_by is_large)) order b) → items_at read (width_by is_large) order bytes 0 (length xs) ≡ xs → length bytes / width_by is_large ≡ length xs
    → held_offsets is_large order bytes ≡ map number xs
held_numbers read number is_large order bytes xs law items count =
    let w = width_by is_large in
    let f = λ (j : ℕ). read order (take w (drop (0 + w * j) bytes)) in
    let g = λ (j : ℕ). signed_from_bytes (offset_width (offsets_by is_large)) order (take w (drop (0 + w * j) bytes)) in
    ap (from_on g 0) count ∙ from_on-same g (λ j. number (f j)) 0 (length xs) (λ k l. sym (law (take w (drop (0 + w * k) bytes)))) ∙ sym (map_told number f 0 (length xs)) ∙ ap (map number) items

-- what is known of the bytes of offsets that rise
pub record OfNumbers (is_large : Bool) (order : Order) (bytes : List ℕ) (limit first : ℕ) (offsets : List ℤ) : Type 0 where
  pub same : held_offsets is_large order bytes ≡ offsets
  pub counted : AreCounted is_large order bytes limit first

pub of_numbers : {A : Type 0} (read : Order → List ℕ → A) (number : A → ℤ) (is_large : Bool) (order : Order) (width : ℕ) (bytes : List ℕ) (xs : List A) (limit first : ℕ) → width ≡ width_by is_large
    → ((b : List ℕ) → number (read order b) ≡ signed_from_bytes (offset_width (offsets_by is_large)) order b) → items_at read width order bytes 0 (length xs) ≡ xs → length bytes ≡ width * length xs
    → are_offsets (map number xs) limit ≡ true → limit < 2 ^ 64 → first ≡ place_at (map number xs) 0 → OfNumbers is_large order bytes limit first (map number xs)
of_numbers read number is_large order width bytes xs limit first e law items size rise small starts =
    let w = width_by is_large in
    let own : items_at read w order bytes 0 (length xs) ≡ xs = subst (λ v. items_at read v order bytes 0 (length xs) ≡ xs) e items in
    let long : length bytes ≡ w * length xs = size ∙ ap (λ v. v * length xs) e in
    let count : length bytes / w ≡ length xs = ap (λ n. n / w) long ∙ mul-div_cancel_left (length xs) (above is_large) in
    let same = held_numbers read number is_large order bytes xs law own count in
    record {
      same = same;
      counted = record {
        rise = ap (λ o. are_offsets o limit) same ∙ rise;
        whole = ap (λ n. n % w) long ∙ mul-mod_right w (length xs);
        starts = starts ∙ ap (λ o. place_at o 0) (sym same);
        small = small;
      };
    }

-- ── offsets that stand as they are wanted ──

fits_by : (is_large : Bool) (order : Order) (item : List ℕ) → ((i : ℕ) → get_or item i 0 < 2 ^ 8) → from_bytes order (offset_width (offsets_by is_large)) item < (if is_large then 2 ^ 64 else 2 ^ 32)
fits_by true order item s = number_fits w64 order item s
fits_by false order item s = number_fits w32 order item s

-- the bytes of the i-th stand
item_stands : (is_large : Bool) (order : Order) (bytes : List ℕ) (limit i : ℕ) → AreCounted is_large order bytes limit 0 → ((j : ℕ) → get_or bytes j 0 < 2 ^ 8) → i < length bytes / width_by is_large
    → take (width_by is_large) (drop (width_by is_large * i) (offset_bytes order (offsets_by is_large) (held_offsets is_large order bytes))) ≡ take (width_by is_large) (drop (width_by is_large * i) bytes)
item_stands is_large order bytes limit i a s h =
    let width = offset_width (offsets_by is_large) in
    let w = width_by is_large in
    let offsets = held_offsets is_large order bytes in
    let c = length bytes / w in
    let item = take w (drop (w * i) bytes) in
    let own : (j : ℕ) → get_or item j 0 < 2 ^ 8 = take_bytes w (drop (w * i) bytes) (drop_bytes (w * i) bytes s) in
    let n = from_bytes order width item in
    let placed = is_placed is_large order bytes item limit 0 i n a h refl refl (fits_by is_large order item own) in
    let all : w * c ≡ length bytes = count_whole w (length bytes) (above is_large) a.whole in
    let inside : 0 + w * i + w ≤ length bytes = item_inside 0 w i c (length bytes) h (omega (arith, all)) in
    let end : w * i + w ≤ length bytes = omega (arith, inside) in
    let long : length item ≡ w = length-take w (drop (w * i) bytes) ∙ omega (arith, end, length-drop (w * i) bytes) in
    let place : place_at offsets i - place_at offsets 0 ≡ n = omega (arith, placed.place, a.starts) in
    counted_at order is_large offsets i (omega (arith, h, length_held is_large order bytes)) ∙ ap (to_bytes order width) place ∙ unsigned_same width order item long own

stands_through : (is_large : Bool) (order : Order) (bytes : List ℕ) (limit k : ℕ) → AreCounted is_large order bytes limit 0 → ((j : ℕ) → get_or bytes j 0 < 2 ^ 8) → k ≤ length bytes / width_by is_large
    → take (width_by is_large * k) (offset_bytes order (offsets_by is_large) (held_offsets is_large order bytes)) ≡ take (width_by is_large * k) bytes
stands_through is_large order bytes limit zero a s h = let none : width_by is_large * 0 ≡ 0 = omega arith in rw none refl
stands_through is_large order bytes limit (suc k) a s h =
    let w = width_by is_large in
    let all = offset_bytes order (offsets_by is_large) (held_offsets is_large order bytes) in
    let more : w * suc k ≡ w * k + w = mul-suc w k in
    ap (λ n. take n all) more
    ∙ take-add (w * k) w all
    ∙ ap (λ l. l ++ take w (drop (w * k) all)) (stands_through is_large order bytes limit k a s (omega (arith, h)))
    ∙ ap (λ l. take (w * k) bytes ++ l) (item_stands is_large order bytes limit k a s (omega (arith, h)))
    ∙ sym (take-add (w * k) w bytes)
    ∙ ap (λ n. take n bytes) (sym more)

pub stand_already : (is_large : Bool) (order : Order) (bytes : List ℕ) (limit : ℕ) → AreCounted is_large order bytes limit 0 → ((j : ℕ) → get_or bytes j 0 < 2 ^ 8) → offset_bytes order (offsets_by is_large) (held_offsets is_large order bytes) ≡ bytes
stand_already is_large order bytes limit a s =
    let w = width_by is_large in
    let all = offset_bytes order (offsets_by is_large) (held_offsets is_large order bytes) in
    let c = length bytes / w in
    let whole : w * c ≡ length bytes = count_whole w (length bytes) (above is_large) a.whole in
    let long : length all ≡ w * c = length_counted order is_large (held_offsets is_large order bytes) ∙ ap (λ n. w * n) (length_held is_large order bytes) in
    sym (take_all (w * c) all (omega (arith, long))) ∙ stands_through is_large order bytes limit c a s (omega arith) ∙ take_all (w * c) bytes (omega (arith, whole))

-- ── pieces of offsets ──

counted_width : (is_large : Bool) → IsWidth (width_by is_large)
counted_width true = inr (inr (inr (inl refl)))
counted_width false = inr (inr (inl refl))

-- the i-th offset of a piece
pub record OffsetIn (w at i n all : ℕ) : Type 0 where
  pub from : at + w * i ≡ w * (at / w + i)
  pub inside : at + w * i + w ≤ all
  pub below : at / w + i < all / w
  pub room : w * i + w ≤ n

offset_in : (w at n all i : ℕ) → 0 < w → all % w ≡ 0 → IsWhole w at n → at + n ≤ all → i < n / w → OffsetIn w at i n all
offset_in w at n all i h e whole within k =
    let q = at / w in
    let sum : w * (q + i) ≡ w * q + w * i = mul-add w q i in
    let end : at + w * (n / w) ≤ all = omega (arith, within, whole.count) in
    let there : at + w * i + w ≤ all = item_inside at w i (n / w) all k end in
    let own : 0 + w * i + w ≤ n = item_inside 0 w i (n / w) n k (omega (arith, whole.count)) in
    let total : w * (all / w) ≡ all = count_whole w all h e in
    let next : w * suc (q + i) ≡ w + w * (q + i) = mul_next w (q + i) in
    let less : suc (q + i) ≤ all / w = le_of_mul-le-mul_left (let m : w * suc (q + i) ≤ w * (all / w) = omega (arith, next, sum, whole.from, there, total) in m) h in
    record { from = omega (arith, sum, whole.from); inside = there; below = omega (arith, less); room = omega (arith, own) }

-- a piece of the bytes that are seen is one of those that are held
pub own_piece : (wanted order : Order) (is_large : Bool) (bytes view : List ℕ) (at n : ℕ) → length bytes % width_by is_large ≡ 0 → offset_bytes wanted (offsets_by is_large) (held_offsets is_large order bytes) ≡ view → IsPiece at n (length view) → IsPiece at n (length bytes)
own_piece wanted order is_large bytes view at n h e piece = subst (IsPiece at n) (ap length (sym e) ∙ length_view wanted order is_large bytes h) piece

pub whole_offsets : (is_large : Bool) (at n all : ℕ) → all % width_by is_large ≡ 0 → IsPiece at n all → IsWhole (width_by is_large) at n
whole_offsets is_large at n all e piece = whole_piece (width_by is_large) at n all (counted_width is_large) e piece

pub at_offset : (is_large : Bool) (v at n all i : ℕ) → v ≡ width_by is_large → all % width_by is_large ≡ 0 → IsPiece at n all → i < n / v → OffsetIn v at i n all
at_offset is_large v at n all i e h piece k =
    subst (λ w. i < n / w → OffsetIn w at i n all) (sym e) (λ l. offset_in (width_by is_large) at n all i (above is_large) h (whole_offsets is_large at n all h piece) piece.within l) k

-- the number of its bytes
pub held_at : (is_large : Bool) (order : Order) (bytes item : List ℕ) (limit first at n i number v k : ℕ) → v ≡ width_by is_large → AreCounted is_large order bytes limit first → OffsetIn v at i n (length bytes) → k ≡ v → item ≡ take k (drop (at + v * i) bytes)
    → number ≡ from_bytes order (offset_width (offsets_by is_large)) item → number < (if is_large then 2 ^ 64 else 2 ^ 32) → IsPlaced is_large order bytes (at / v + i) number
held_at is_large order bytes item limit first at n i number v k e a o hk hi hn fits =
    let j = at / v + i in
    let below : j < length bytes / width_by is_large = subst (λ w. j < length bytes / w) e o.below in
    let there : item ≡ take (width_by is_large) (drop (width_by is_large * j) bytes) =
    hi ∙ ap (λ m. take m (drop (at + v * i) bytes)) (hk ∙ e) ∙ ap (λ m. take (width_by is_large) (drop m bytes)) (o.from ∙ ap (λ w. w * j) e) in
    is_placed is_large order bytes item limit first j number a below there hn fits

-- an offset more has been written
pub count_step : (wanted order : Order) (is_large : Bool) (bytes view : List ℕ) (limit first at n i number v a k : ℕ) (written out : List ℕ) → v ≡ width_by is_large → AreCounted is_large order bytes limit first → offset_bytes wanted (offsets_by is_large) (held_offsets is_large order bytes) ≡ view
    → OffsetIn v at i n (length bytes) → IsPlaced is_large order bytes (at / v + i) number → written ≡ to_bytes wanted (offset_width (offsets_by is_large)) (number - first) → length out ≡ n → a ≡ v * i → take (v * i) out ≡ part at (v * i) view
    → take (v * (i + 1)) (put_mid a k out written) ≡ part at (v * (i + 1)) view
count_step wanted order is_large bytes view limit first at n i number v a k written out e c hv o p hw long ha inv =
    let width = offset_width (offsets_by is_large) in
    let offsets = held_offsets is_large order bytes in
    let j = at / v + i in
    let own : j < length bytes / width_by is_large = subst (λ w. j < length bytes / w) e o.below in
    let below : j < length offsets = omega (arith, own, length_held is_large order bytes) in
    let place : place_at offsets j - place_at offsets 0 ≡ number - first = omega (arith, p.place, c.starts) in
    let there : take v (drop (at + v * i) view) ≡ written =
    ap (λ m. take v (drop m view)) (o.from ∙ ap (λ w. w * j) e) ∙ ap (λ w. take w (drop (width_by is_large * j) view)) e ∙ ap (λ l. take (width_by is_large) (drop (width_by is_large * j) l)) (sym hv)
    ∙ counted_at wanted is_large offsets j below ∙ ap (to_bytes wanted width) place ∙ sym hw in
    let size : length written ≡ v = ap length hw ∙ unsigned_width width wanted (number - first) ∙ sym e in
    let more : v * (i + 1) ≡ v * i + v = rw add-one (let m : v * suc i ≡ v + v * i = mul_next v i in omega (arith, m)) in
    take-put_mid a k out written (v * (i + 1)) (omega (arith, more, ha, size)) (omega (arith, ha, o.room, long))
    ∙ ap (λ m. take m out ++ written) ha
    ∙ ap (λ l. l ++ written) inv
    ∙ ap (λ l. part at (v * i) view ++ l) (sym there)
    ∙ part_more view at (v * i) v
    ∙ ap (λ m. part at m view) (sym more)
