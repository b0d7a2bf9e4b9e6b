-- Numbers are read in the order that their bytes were turned to.
use Rattle.std.proofs.Common.{◌≡◌, ℕ, suc, ◌+◌, ◌*◌, ◌-◌, ◌≤◌, List, [], ◌++◌, length, take, drop, get_or, Some, refl, sym, ap, subst, ◌∙◌, arith, append-nil, length-append, length-take, length-drop, append_assoc, reverse}
use Rattle.std.specs.Int.{Width, w8, w16, w32, w64, w128, byte_len, from_le_bytes, from_be_bytes}
use Rattle.std.proofs.lemmas.List.{get_or-reverse, length-reverse, take-append-drop, drop-drop}
use Rattle.arrow_spec.specs.Flat.{Order, little, big, part, num, fold_number}
use Rattle.arrow_spec.specs.Held.{Stands}
use Rattle.arrow_spec.specs.Counts.{RecordBatch}
use Rattle.arrow_spec.specs.Arrays.{buf, unsigned_in, or_0}
use Rattle.arrow_spec.proofs.Standing.{part-stands, stands_left}
use Rattle.arrow_spec.proofs.Found.{right_at}
use Rattle.arrow_types.specs.NumberLaws.{turned_2, turned_4, turned_8, turned_16}
use Rattle.arrow_types.specs.declared.physical.PrimitiveType.TheVariants as primitive
use Rattle.arrow_arrays.specs.LeafParts.{unsigned_at}
use Rattle.ipc_bodies.specs.Pieces.{in_order}

-- all bytes of a number turned
abbrev pub by_order : Order → List ℕ → List ℕ
by_order little bytes = bytes
by_order big bytes = reverse bytes

pub length-by_order : (order : Order) (bytes : List ℕ) → length (by_order order bytes) ≡ length bytes
length-by_order little bytes = refl
length-by_order big bytes = length-reverse bytes

back_at : (xs : List ℕ) (n k j : ℕ) → length xs ≡ n → suc (k + j) ≡ n → get_or (reverse xs) k 0 ≡ get_or xs j 0
back_at xs n k j e h = get_or-reverse xs k 0 (omega arith) ∙ (let same : length xs - 1 - k ≡ j = omega arith in ap (λ i. get_or xs i 0) same)

-- turned bytes are the same number in the other order
turned : (w : Width) (xs : List ℕ) → length xs ≡ byte_len w → from_be_bytes w (reverse xs) ≡ from_le_bytes w xs
turned w8 xs e = back_at xs 1 0 0 e refl
turned w16 xs e = rw (back_at xs 2 0 1 e refl, back_at xs 2 1 0 e refl) (turned_2 _ _)
turned w32 xs e = rw (back_at xs 4 0 3 e refl, back_at xs 4 1 2 e refl, back_at xs 4 2 1 e refl, back_at xs 4 3 0 e refl) (turned_4 _ _ _ _)
turned w64 xs e =
    rw (back_at xs 8 0 7 e refl, back_at xs 8 1 6 e refl, back_at xs 8 2 5 e refl, back_at xs 8 3 4 e refl, back_at xs 8 4 3 e refl, back_at xs 8 5 2 e refl, back_at xs 8 6 1 e refl, back_at xs 8 7 0 e refl) (turned_8 _ _ _ _ _ _ _ _)
turned w128 xs e =
    rw (
      back_at xs 16 0 15 e refl,
      back_at xs 16 1 14 e refl,
      back_at xs 16 2 13 e refl,
      back_at xs 16 3 12 e refl,
      back_at xs 16 4 11 e refl,
      back_at xs 16 5 10 e refl,
      back_at xs 16 6 9 e refl,
      back_at xs 16 7 8 e refl,
      back_at xs 16 8 7 e refl,
      back_at xs 16 9 6 e refl,
      back_at xs 16 10 5 e refl,
      back_at xs 16 11 4 e refl,
      back_at xs 16 12 3 e refl,
      back_at xs 16 13 2 e refl,
      back_at xs 16 14 1 e refl,
      back_at xs 16 15 0 e refl,
    )
    (turned_16 _ _ _ _ _ _ _ _ _ _ _ _ _ _ _ _)

pub itself : (xs : List ℕ) → Stands xs 0 xs
itself xs = record { front = []; back = []; whole = sym (append-nil xs); place = refl }

-- the bytes of a width that stand at a place are taken there
pub part_there : (b : List ℕ) (x n : ℕ) (xs : List ℕ) → length xs ≡ n → Stands b x xs → part b x n ≡ Some xs
part_there b x n xs e s = ap (part b x) (sym e) ∙ part-stands b x xs s

-- a number where its turned bytes stand
pub num_there : (w : Width) (order : Order) (b : List ℕ) (x : ℕ) (xs : List ℕ) → length xs ≡ byte_len w → Stands b x (by_order order xs) → num b x w order ≡ Some (from_le_bytes w xs)
num_there w little b x xs e s = ap (fold_number little w) (part_there b x (byte_len w) xs e s)
num_there w big b x xs e s = ap (fold_number big w) (part_there b x (byte_len w) (reverse xs) (length-reverse xs ∙ e) s) ∙ ap Some (turned w xs e)

-- it is the one of its own bytes
pub num_same : (w : Width) (order : Order) (b bytes : List ℕ) (x at : ℕ) (xs : List ℕ) → length xs ≡ byte_len w → Stands b x (by_order order xs) → Stands bytes at xs → num b x w order ≡ num bytes at w little
num_same w order b bytes x at xs e s own = num_there w order b x xs e s ∙ sym (num_there w little bytes at xs e own)

pub unsigned_read : (w : Width) (order : Order) (m : RecordBatch) (i row : ℕ) (b xs : List ℕ) → m.order ≡ order → buf m i ≡ b → length xs ≡ byte_len w → Stands b (byte_len w * row) (by_order order xs) → unsigned_in m w i row ≡ unsigned_at w 0 xs
unfolding unsigned_in
unsigned_read w order m i row b xs o held e s = rw (held, o) (ap or_0 (num_same w order b xs (byte_len w * row) 0 xs e s (itself xs)))

-- ── intervals ──

-- days and milliseconds stand one after the other
pub record Halves (order : Order) (b : List ℕ) (k : ℕ) (x : List ℕ) : Type 0 where
  pub first : Stands b k (by_order order (take 4 x))
  pub second : Stands b (k + 4) (by_order order (drop 4 x))

split_halves : (order : Order) (b : List ℕ) (k : ℕ) (x : List ℕ) → 4 ≤ length x → Stands b k (by_order order (take 4 x) ++ by_order order (drop 4 x)) → Halves order b k x
split_halves order b k x h s =
    let first = by_order order (take 4 x) in
    let second = by_order order (drop 4 x) in
    let l : length first ≡ 4 = length-by_order order (take 4 x) ∙ (let m : length (take 4 x) ≡ 4 = omega (arith, length-take 4 x) in m) in
    record { first = stands_left b k first second s; second = right_at b k first second (k + 4) (omega arith) s }

pub halves : (order : Order) (b : List ℕ) (k : ℕ) (x : List ℕ) → length x ≡ 8 → Stands b k (in_order order primitive.DaysMs x) → Halves order b k x
halves little b k x e s = split_halves little b k x (omega arith) (subst (Stands b k) (sym (take-append-drop 4 x)) s)
halves big b k x e s = split_halves big b k x (omega arith) s

-- months, days and nanoseconds too
pub record Thirds (order : Order) (b : List ℕ) (k : ℕ) (x : List ℕ) : Type 0 where
  pub first : Stands b k (by_order order (take 4 x))
  pub second : Stands b (k + 4) (by_order order (take 4 (drop 4 x)))
  pub third : Stands b (k + 8) (by_order order (drop 8 x))

split_thirds : (order : Order) (b : List ℕ) (k : ℕ) (x : List ℕ) → 8 ≤ length x → Stands b k ((by_order order (take 4 x) ++ by_order order (take 4 (drop 4 x))) ++ by_order order (drop 8 x)) → Thirds order b k x
split_thirds order b k x h s =
    let first = by_order order (take 4 x) in
    let second = by_order order (take 4 (drop 4 x)) in
    let third = by_order order (drop 8 x) in
    let l : length first ≡ 4 = length-by_order order (take 4 x) ∙ (let m : length (take 4 x) ≡ 4 = omega (arith, length-take 4 x) in m) in
    let n : length second ≡ 4 = length-by_order order (take 4 (drop 4 x)) ∙ (let m : length (take 4 (drop 4 x)) ≡ 4 = omega (arith, length-take 4 (drop 4 x), length-drop 4 x) in m) in
    let both : Stands b k (first ++ second) = stands_left b k (first ++ second) third s in
    record { first = stands_left b k first second both; second = right_at b k first second (k + 4) (omega arith) both; third = right_at b k (first ++ second) third (k + 8) (omega (arith, length-append first second)) s }

in_thirds : (x : List ℕ) → (take 4 x ++ take 4 (drop 4 x)) ++ drop 8 x ≡ x
in_thirds x =
    let rest : take 4 (drop 4 x) ++ drop 8 x ≡ drop 4 x = ap (λ t. take 4 (drop 4 x) ++ t) (sym (drop-drop 4 4 x)) ∙ take-append-drop 4 (drop 4 x) in
    append_assoc (take 4 x) (take 4 (drop 4 x)) (drop 8 x) ∙ ap (λ t. take 4 x ++ t) rest ∙ take-append-drop 4 x

pub thirds : (order : Order) (b : List ℕ) (k : ℕ) (x : List ℕ) → length x ≡ 16 → Stands b k (in_order order primitive.MonthDayNano x) → Thirds order b k x
thirds little b k x e s = split_thirds little b k x (omega arith) (subst (Stands b k) (sym (in_thirds x)) s)
thirds big b k x e s = split_thirds big b k x (omega arith) s
