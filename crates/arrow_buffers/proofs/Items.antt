-- Items that stand in bytes: their number, a part of them, one more of them, and their bytes.
use Rattle.std.proofs.Common.{◌≡◌, ℕ, zero, suc, ◌+◌, ◌-◌, Some, slice_get, ◌*◌, ◌^◌, ◌<◌, ◌≤◌, List, [], ◌∷◌, ◌++◌, length, take, drop, get_or, refl, sym, ◌∙◌, ap, arith, add-one, length-append, length-drop}
use Rattle.std.specs.List.{flat_map}
use Rattle.std.specs.Int.{w8}
use Rattle.std.proofs.Math.Nat.{mul-suc, mul-add, mul-le-mul_left}
use Rattle.std.proofs.lemmas.List.{drop-drop, take_all, length-take-le, take-append-le, drop-append-le}
use Rattle.std.proofs.Math.Seq.{take-add, drop-append_seam}
use Rattle.arrow_spec.specs.Flat.{Order, little, big, from_bytes}
use Rattle.arrow_spec.specs.Arrays.{from_on}
use Rattle.arrow_types.specs.Numbers.{unsigned_from_bytes}
use Rattle.arrow_types.specs.BytesBack.{later, take_bytes, drop_bytes}
use Rattle.arrow_buffers.specs.Rows.{part}
use Rattle.arrow_buffers.specs.Items.{items_at}
use Rattle.arrow_spec.proofs.CellLists.{from_on-same}
use Rattle.arrow_buffers.proofs.Parts.{part-part, length-part, part-from_on, shift-from_on, get-from_on}

-- ── places ──

-- the place of an item, told from another item on
place_later : (at w o k : ℕ) → at + w * o + w * k ≡ at + w * (o + k)
place_later at w o k = rw (mul-add w o k) (omega arith)

-- an item ends within the bytes
pub item_inside : (at w i n end : ℕ) → i < n → at + w * n ≤ end → at + w * i + w ≤ end
item_inside at w i n end h k =
    let e : w * suc i ≡ w * i + w = mul-suc w i in
    let m : w * suc i ≤ w * n = mul-le-mul_left w h in
    omega (arith, e, m, k)

pub part_inside : (at w o c n end : ℕ) → o + c ≤ n → at + w * n ≤ end → at + w * o + w * c ≤ end
part_inside at w o c n end h k =
    let e = place_later at w o c in
    let m : w * (o + c) ≤ w * n = mul-le-mul_left w h in
    omega (arith, e, m, k)

-- ── lists told item by item ──

from_on_next : {A : Type 0} (f : ℕ → A) (at n : ℕ) → from_on f at (suc n) ≡ from_on f at n ++ f (at + n) ∷ []
from_on_next f at zero = ap (λ k. f k ∷ []) (omega arith)
from_on_next f at (suc n) = ap (λ r. f at ∷ r) (from_on_next f (suc at) n ∙ ap (λ k. from_on f (suc at) n ++ f k ∷ []) (omega arith))

-- the items from a later one on, told from 0
moved : {A : Type 0} (f : ℕ → A) (o n : ℕ) → from_on (λ j. f (o + j)) 0 n ≡ from_on f (0 + o) n
moved f o n = shift-from_on (λ j. f (o + j)) f 0 (0 + o) n (λ k l. ap f (omega arith))

-- ── items ──

-- items from a later one on are a part of the items
pub part-items : {A : Type 0} (read : Order → List ℕ → A) (w : ℕ) (order : Order) (bytes : List ℕ) (at o c n : ℕ) → o + c ≤ n
    → items_at read w order bytes (at + w * o) c ≡ part o c (items_at read w order bytes at n)
part-items read w order bytes at o c n h =
    let f = λ (j : ℕ). read order (take w (drop (at + w * j) bytes)) in
    from_on-same (λ j. read order (take w (drop (at + w * o + w * j) bytes))) (λ j. f (o + j)) 0 c
    (λ k l. ap (λ p. read order (take w (drop p bytes))) (place_later at w o k))
    ∙ moved f o c
    ∙ part-from_on f 0 n o c h

-- bytes that stand before others keep what they are
part_before : (at n : ℕ) (bytes more : List ℕ) → at + n ≤ length bytes → take n (drop at (bytes ++ more)) ≡ take n (drop at bytes)
part_before at n bytes more h =
    ap (take n) (drop-append-le at bytes more (omega (arith, h))) ∙ take-append-le n (drop at bytes) more (omega (arith, h, length-drop at bytes))

-- the bytes of one more item behind those of others
pub items_more : {A : Type 0} (read : Order → List ℕ → A) (w : ℕ) (order : Order) (bytes more : List ℕ) (n : ℕ) → length bytes ≡ w * n → length more ≡ w
    → items_at read w order (bytes ++ more) 0 (n + 1) ≡ items_at read w order bytes 0 n ++ read order more ∷ []
items_more read w order bytes more n e l =
    let next = λ (j : ℕ). read order (take w (drop (0 + w * j) (bytes ++ more))) in
    let end : 0 + w * n ≤ length bytes = omega (arith, e) in
    let same : (k : ℕ) → k < 0 + n → next k ≡ read order (take w (drop (0 + w * k) bytes)) =
    λ k h. ap (λ b. read order b) (part_before (0 + w * k) w bytes more (item_inside 0 w k n (length bytes) (omega (arith, h)) end)) in
    let before = from_on-same next (λ j. read order (take w (drop (0 + w * j) bytes))) 0 n same in
    let from : 0 + n ≡ n = omega arith in
    let start : 0 + w * n ≡ w * n = omega arith in
    let place : 0 + w * (0 + n) ≡ w * n = ap (λ k. 0 + w * k) from ∙ start in
    let last : take w (drop (0 + w * (0 + n)) (bytes ++ more)) ≡ more =
    ap (λ k. take w (drop k (bytes ++ more))) (place ∙ sym e) ∙ ap (take w) (drop-append_seam bytes more) ∙ take_all w more (omega (arith, l)) in
    rw add-one (from_on_next next 0 n ∙ ap (λ xs. xs ++ next (0 + n) ∷ []) before
    ∙ ap (λ b. items_at read w order bytes 0 n ++ read order b ∷ []) last)

pub size_more : (w n : ℕ) (bytes more : List ℕ) → length bytes ≡ w * n → length more ≡ w → length (bytes ++ more) ≡ w * (n + 1)
size_more w n bytes more e l = let m : w * suc n ≡ w * n + w = mul-suc w n in rw add-one (omega (arith, m, e, l, length-append bytes more))

-- ── bytes ──

one_byte : (order : Order) (xs : List ℕ) → from_bytes order w8 (take 1 xs) ≡ get_or xs 0 0
one_byte little [] = refl
one_byte little (x ∷ xs) = refl
one_byte big [] = refl
one_byte big (x ∷ xs) = refl

heads : (xs : List ℕ) (n : ℕ) → n ≤ length xs → from_on (λ j. get_or (drop j xs) 0 0) 0 n ≡ take n xs
heads xs zero h = refl
heads [] (suc n) h = absurd (omega (arith, h))
heads (x ∷ xs) (suc n) h = ap (λ r. x ∷ r) (sym (later (λ j. get_or (drop j (x ∷ xs)) 0 0) 0 n) ∙ heads xs n (omega (arith, h)))

-- items of one byte are the bytes
pub byte_items : (order : Order) (bytes : List ℕ) (at n : ℕ) → at + n ≤ length bytes
    → items_at (unsigned_from_bytes w8) 1 order bytes at n ≡ part at n bytes
byte_items order bytes at n h =
    let place : (j : ℕ) → drop (at + 1 * j) bytes ≡ drop j (drop at bytes) = λ j. ap (λ k. drop k bytes) (omega arith) ∙ sym (drop-drop j at bytes) in
    from_on-same (λ j. unsigned_from_bytes w8 order (take 1 (drop (at + 1 * j) bytes))) (λ j. get_or (drop j (drop at bytes)) 0 0) 0 n
    (λ k l. ap (λ b. unsigned_from_bytes w8 order (take 1 b)) (place k) ∙ one_byte order (drop k (drop at bytes)))
    ∙ heads (drop at bytes) n (omega (arith, h, length-drop at bytes))

place_next : (w k : ℕ) → w * suc k ≡ w + w * k
place_next w k = let m : w * suc k ≡ w * k + w = mul-suc w k in omega (arith, m)

-- what is written of items that were read, item by item, from the first byte on
written_from : {A : Type 0} (write : A → List ℕ) (read : List ℕ → A) (w : ℕ)
    → ((b : List ℕ) → length b ≡ w → ((i : ℕ) → get_or b i 0 < 2 ^ 8) → write (read b) ≡ b)
    → (xs : List ℕ) (n : ℕ) → ((i : ℕ) → get_or xs i 0 < 2 ^ 8) → w * n ≤ length xs
    → flat_map write (from_on (λ j. read (take w (drop (w * j) xs))) 0 n) ≡ take (w * n) xs
written_from write read w law xs zero s h = let none : 0 ≡ w * 0 = omega arith in ap (λ k. take k xs) none
written_from {A} write read w law xs (suc n) s h =
    let m : w * suc n ≡ w + w * n = place_next w n in
    let f : ℕ → A = λ j. read (take w (drop (w * j) xs)) in
    let none : w * 0 ≡ 0 = omega arith in
    let first : write (f 0) ≡ take w xs =
    ap (λ k. write (read (take w (drop k xs)))) none ∙ law (take w xs) (length-take-le w xs (omega (arith, h, m))) (take_bytes w xs s) in
    let next = sym (later f 0 n) ∙ from_on-same (λ j. f (suc j)) (λ j. read (take w (drop (w * j) (drop w xs)))) 0 n
    (λ k l. ap (λ b. read (take w b)) (ap (λ p. drop p xs) (place_next w k) ∙ sym (drop-drop (w * k) w xs))) in
    let rest = written_from write read w law (drop w xs) n (drop_bytes w xs s) (omega (arith, h, m, length-drop w xs)) in
    ap (λ b. b ++ flat_map write (from_on f 1 n)) first
    ∙ ap (λ r. take w xs ++ flat_map write r) next
    ∙ ap (λ r. take w xs ++ r) rest
    ∙ sym (take-add w (w * n) xs)
    ∙ ap (λ k. take k xs) (sym m)

-- what is written of items in the order in which they stand is their bytes
pub written_items : {A : Type 0} (write : A → List ℕ) (read : Order → List ℕ → A) (w : ℕ) (order : Order)
    → ((b : List ℕ) → length b ≡ w → ((i : ℕ) → get_or b i 0 < 2 ^ 8) → write (read order b) ≡ b)
    → (bytes : List ℕ) (at n : ℕ) → ((i : ℕ) → get_or bytes i 0 < 2 ^ 8) → at + w * n ≤ length bytes
    → flat_map write (items_at read w order bytes at n) ≡ part at (w * n) bytes
written_items write read w order law bytes at n s h =
    let place = from_on-same (λ j. read order (take w (drop (at + w * j) bytes))) (λ j. read order (take w (drop (w * j) (drop at bytes)))) 0 n
    (λ k l. ap (λ b. read order (take w b)) (sym (drop-drop (w * k) at bytes))) in
    ap (flat_map write) place
    ∙ written_from write (read order) w law (drop at bytes) n (drop_bytes at bytes s) (omega (arith, h, length-drop at bytes))

-- an item that is read from its bytes
pub get-item : {A : Type 0} (read : Order → List ℕ → A) (w v u : ℕ) (order said : Order) (bytes here : List ℕ) (at n i : ℕ) (xs : List A) (x : A)
    → items_at read w order bytes at n ≡ xs → i < n → order ≡ said → here ≡ bytes → v ≡ w → u ≡ w
    → x ≡ read said (take (at + v * i + u - (at + v * i)) (drop (at + v * i) here)) → slice_get xs i ≡ Some x
get-item read w v u order said bytes here at n i xs x e h o b s t r =
    let f = λ (j : ℕ). read order (take w (drop (at + w * j) bytes)) in
    let from : 0 + i ≡ i = omega arith in
    let long : at + w * i + w - (at + w * i) ≡ w = omega arith in
    let found : read said (take (at + v * i + u - (at + v * i)) (drop (at + v * i) here)) ≡ f i =
    ap (λ k. read said (take (at + v * i + k - (at + v * i)) (drop (at + v * i) here))) t
    ∙ ap (λ k. read said (take (at + k * i + w - (at + k * i)) (drop (at + k * i) here))) s
    ∙ ap (λ k. read said (take k (drop (at + w * i) here))) long
    ∙ ap (λ k. read said (take w (drop (at + w * i) k))) b
    ∙ ap (λ k. read k (take w (drop (at + w * i) bytes))) (sym o) in
    ap (λ ys. slice_get ys i) (sym e) ∙ get-from_on f 0 n i h ∙ ap Some (ap f from ∙ sym (r ∙ found))

-- all of the bytes
pub whole_bytes : (order : Order) (bytes held : List ℕ) (n : ℕ) → held ≡ bytes → n ≡ length bytes
    → items_at (unsigned_from_bytes w8) 1 order held 0 n ≡ bytes
whole_bytes order bytes held n e l = byte_items order held 0 n (omega (arith, l, ap length e)) ∙ ap (take n) e ∙ take_all n bytes (omega (arith, l))

-- the bytes that items stand in are what is written of them
pub held_items : {A : Type 0} (write : Order → A → List ℕ) (read : Order → List ℕ → A) (w v : ℕ) (order said : Order)
    → ((b : List ℕ) → length b ≡ w → ((i : ℕ) → get_or b i 0 < 2 ^ 8) → write order (read order b) ≡ b)
    → (bytes here : List ℕ) (at n : ℕ) (xs : List A) → ((i : ℕ) → get_or here i 0 < 2 ^ 8) → at + w * n ≤ length bytes
    → items_at read w order bytes at n ≡ xs → here ≡ bytes → v ≡ w → order ≡ said
    → part at (v * n) here ≡ flat_map (write said) xs
held_items write read w v order said law bytes here at n xs s h e b t o =
    let long : v * n ≡ w * n = ap (λ k. k * n) t in
    let inside : at + w * n ≤ length here = omega (arith, h, ap length b) in
    ap (λ k. take k (drop at here)) long
    ∙ sym (written_items (write order) read w order law here at n s inside)
    ∙ ap (λ ys. flat_map (write order) (items_at read w order ys at n)) b
    ∙ ap (flat_map (write order)) e
    ∙ ap (λ r. flat_map (write r) xs) o

-- items are read again from their own bytes
pub items_again : {A : Type 0} (read : Order → List ℕ → A) (w : ℕ) (order : Order) (bytes : List ℕ) (at n : ℕ) → items_at read w order (part at (w * n) bytes) 0 n ≡ items_at read w order bytes at n
items_again read w order bytes at n =
    from_on-same (λ j. read order (take w (drop (0 + w * j) (part at (w * n) bytes)))) (λ j. read order (take w (drop (at + w * j) bytes))) 0 n (λ k l.
    (let inside : 0 + w * k + w ≤ w * n = item_inside 0 w k n (w * n) (omega (arith, l)) (omega arith) in
    let place : at + (0 + w * k) ≡ at + w * k = omega arith in
    ap (read order) (sym (part-part bytes at (w * n) (0 + w * k) w inside) ∙ ap (λ p. part p w bytes) place)))

-- the bytes of a range, held anew
pub range_again : (bytes here same range held : List ℕ) (at w v n : ℕ) → here ≡ bytes → same ≡ bytes → v ≡ w → at + w * n ≤ length bytes → range ≡ part at (v * n) here
    → held ≡ items_at (unsigned_from_bytes w8) 1 little same at (length range) → held ≡ part at (w * n) bytes
range_again bytes here same range held at w v n h s e inside r k =
    let own : range ≡ part at (w * n) bytes = r ∙ ap (λ l. part at (v * n) l) h ∙ ap (λ u. part at (u * n) bytes) e in
    let long : length range ≡ w * n = ap length own ∙ length-part bytes at (w * n) inside in
    k ∙ ap (λ l. items_at (unsigned_from_bytes w8) 1 little l at (length range)) s ∙ ap (items_at (unsigned_from_bytes w8) 1 little bytes at) long ∙ byte_items little bytes at (w * n) inside
