-- Offsets with the same bytes are the same, and rows between the same offsets are as long.
use Rattle.std.proofs.Common.{◌≡◌, ℕ, ◌+◌, ◌*◌, ◌≤◌, ◌<◌, List, ℤ, length, map, take, drop, sym, ap, ◌∙◌, arith}
use Rattle.std.specs.Prelude.{pos}
use Rattle.std.proofs.lemmas.List.{get_or-drop, get_or-take}
use Rattle.arrow_spec.specs.Counts.{magnitude}
use Rattle.arrow_spec.specs.Flat.{Order}
use Rattle.arrow_spec.proofs.CellLists.{from_on-same}
use Rattle.arrow_buffers.specs.Items.{items_at}
use Rattle.arrow_buffers.specs.Rows.{part}
use Rattle.arrow_buffers.specs.Variable.{place_at}
use Rattle.arrow_buffers.proofs.Items.{item_inside, part-items, part_inside}
use Rattle.arrow_buffers.proofs.Parts.{map-part, part-part}
use Rattle.same_rows.specs.Lengths.{HaveSameLengths}

-- so many items stand within the bytes of all
pub items_inside : {A : Type 0} (w o n size : ℕ) (xs : List A) → o + n ≤ length xs → size ≡ w * length xs → w * o + w * n ≤ size
items_inside w o n size xs h e =
    let p : 0 + w * o + w * n ≤ w * length xs = part_inside 0 w o n (length xs) (w * length xs) h (omega arith) in
    omega (arith, p, e)

-- items are those that stand in their part of the bytes
items_of_part : {A : Type 0} (read : Order → List ℕ → A) (w : ℕ) (order : Order) (bytes : List ℕ) (at n : ℕ) → items_at read w order bytes at n ≡ items_at read w order (part at (w * n) bytes) 0 n
items_of_part read w order bytes at n =
    from_on-same (λ j. read order (take w (drop (at + w * j) bytes))) (λ j. read order (take w (drop (0 + w * j) (part at (w * n) bytes)))) 0 n (λ j lt.
    let inside : 0 + w * j + w ≤ w * n = item_inside 0 w j n (w * n) (omega (arith, lt)) (omega arith) in
    let place : w * j ≡ 0 + w * j = omega arith in
    ap (read order) (part-part bytes at (w * n) (w * j) w (omega (arith, inside))) ∙ ap (λ p. read order (take w (drop p (part at (w * n) bytes)))) place)

-- so items with the same bytes are the same
pub same_items : {A : Type 0} (read : Order → List ℕ → A) (w : ℕ) (order : Order) (xs ys : List A) (bs cs : List ℕ) (from start count : ℕ)
    → items_at read w order bs 0 (length xs) ≡ xs → items_at read w order cs 0 (length ys) ≡ ys → from + count ≤ length xs → start + count ≤ length ys → part (w * from) (w * count) bs ≡ part (w * start) (w * count) cs
    → part from count xs ≡ part start count ys
same_items read w order xs ys bs cs from start count a b h k e =
    let here : 0 + w * from ≡ w * from = omega arith in
    let there : 0 + w * start ≡ w * start = omega arith in
    ap (part from count) (sym a)
    ∙ sym (part-items read w order bs 0 from count (length xs) h)
    ∙ ap (λ p. items_at read w order bs p count) here
    ∙ items_of_part read w order bs (w * from) count
    ∙ ap (λ part. items_at read w order part 0 count) e
    ∙ sym (items_of_part read w order cs (w * start) count)
    ∙ ap (λ p. items_at read w order cs p count) (sym there)
    ∙ part-items read w order cs 0 start count (length ys) k
    ∙ ap (part start count) b

place_in_part : (o m k : ℕ) (offsets : List ℤ) → k < m → place_at (part o m offsets) k ≡ place_at offsets (o + k)
place_in_part o m k offsets h = ap magnitude (get_or-take m (drop o offsets) k (pos 0) h ∙ get_or-drop o offsets k (pos 0))

-- rows between the same offsets are as long
pub same_lengths : {A : Type 0} (number : A → ℤ) (xs ys : List A) (from start count : ℕ) → part from (count + 1) xs ≡ part start (count + 1) ys → HaveSameLengths (map number xs) from (map number ys) start count
same_lengths number xs ys from start count e = record {
  same = λ k le. (let p : place_at (map number xs) (from + k) ≡ place_at (map number ys) (start + k) = place k le in
      let q : place_at (map number xs) from ≡ place_at (map number ys) start = ap (place_at (map number xs)) (omega arith) ∙ place 0 (omega arith) ∙ ap (place_at (map number ys)) (omega arith) in omega (arith, p, q));
}
  where
    place : (k : ℕ) → k ≤ count → place_at (map number xs) (from + k) ≡ place_at (map number ys) (start + k)
    place k le =
        sym (place_in_part from (count + 1) k (map number xs) (omega arith))
        ∙ ap (λ os. place_at os k) (sym (map-part number from (count + 1) xs) ∙ ap (map number) e ∙ map-part number start (count + 1) ys)
        ∙ place_in_part start (count + 1) k (map number ys) (omega arith)
