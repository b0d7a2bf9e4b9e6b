-- Numbers that are turned from one order into the other.
use Rattle.std.proofs.Common.{◌≡◌, ◌⊎◌, ℕ, zero, suc, ◌+◌, ◌-◌, ◌*◌, ◌/◌, ◌%◌, ◌≤◌, ◌<◌, List, [], ◌∷◌, ◌++◌, length, take, drop, inl, inr, refl, sym, ap, subst, ◌∙◌, arith, reverse, append_assoc, append-nil, add-one, length-append, length-take, length-drop}
use Rattle.std.specs.List.{flat_map}
use Rattle.std.proofs.Math.Nat.{suc-add, mul-add, mul-mod_right, le_of_mul-le-mul_left, mul-div_cancel_left}
use Rattle.std.proofs.Math.Seq.{take-add}
use Rattle.std.proofs.lemmas.List.{drop-drop, drop-take, take-take, take-append-drop, reverse-reverse, length-reverse}
use borrow.Rule.Slice.PartMut.{put_mid, post_of}
use Rattle.arrow_spec.specs.Flat.{Order, little, big}
use Rattle.arrow_types.specs.Physical.{primitive_size}
use Rattle.arrow_types.specs.declared.physical.PrimitiveType.{PrimitiveType}
use Rattle.arrow_types.specs.declared.physical.PrimitiveType.TheVariants as primitive
use Rattle.arrow_buffers.specs.Rows.{part}
use Rattle.arrow_buffers.proofs.Parts.{length-part}
use Rattle.ipc_bodies.specs.Pieces.{in_order, turned, turned_items, AreNumbers}
use Rattle.ipc_bodies.specs.Places.{IsPiece}
use Rattle.ipc_bodies.proofs.Lists.{seam_take, seam_drop, mul_next, length_flat}

-- ── one number ──

pub length_turn : (p : PrimitiveType) (b : List ℕ) → length (in_order big p b) ≡ length b
length_turn primitive.DaysMs b = omega (arith, length-append (reverse (take 4 b)) (reverse (drop 4 b)), length-reverse (take 4 b), length-reverse (drop 4 b), length-take 4 b, length-drop 4 b)
length_turn primitive.MonthDayNano b =
    let x = reverse (take 4 b) in
    let y = reverse (take 4 (drop 4 b)) in
    let z = reverse (drop 8 b) in
    omega (arith, length-append (x ++ y) z, length-append x y, length-reverse (take 4 b), length-reverse (take 4 (drop 4 b)), length-reverse (drop 8 b), length-take 4 b, length-take 4 (drop 4 b), length-drop 4 b, length-drop 8 b)
length_turn p b = length-reverse b

in_thirds : (x : List ℕ) → (take 4 x ++ take 4 (drop 4 x)) ++ drop 8 x ≡ x
in_thirds x =
    let rest : take 4 (drop 4 x) ++ drop 8 x ≡ drop 4 x = ap (λ t. take 4 (drop 4 x) ++ t) (sym (drop-drop 4 4 x)) ∙ take-append-drop 4 (drop 4 x) in
    append_assoc (take 4 x) (take 4 (drop 4 x)) (drop 8 x) ∙ ap (λ t. take 4 x ++ t) rest ∙ take-append-drop 4 x

-- a number that is turned twice
turn_twice : (p : PrimitiveType) (b : List ℕ) → length b ≡ primitive_size p → in_order big p (in_order big p b) ≡ b
turn_twice primitive.DaysMs b e =
    let x = reverse (take 4 b) in
    let y = reverse (drop 4 b) in
    let l : length x ≡ 4 = length-reverse (take 4 b) ∙ (let m : length (take 4 b) ≡ 4 = omega (arith, length-take 4 b, e) in m) in
    ap (λ l. reverse l ++ reverse (drop 4 (x ++ y))) (seam_take x y 4 l)
    ∙ ap (λ l. reverse x ++ reverse l) (seam_drop x y 4 l)
    ∙ ap (λ l. l ++ reverse y) (reverse-reverse (take 4 b))
    ∙ ap (λ l. take 4 b ++ l) (reverse-reverse (drop 4 b))
    ∙ take-append-drop 4 b
turn_twice primitive.MonthDayNano b e =
    let x = reverse (take 4 b) in
    let y = reverse (take 4 (drop 4 b)) in
    let z = reverse (drop 8 b) in
    let all = (x ++ y) ++ z in
    let l : length x ≡ 4 = length-reverse (take 4 b) ∙ (let m : length (take 4 b) ≡ 4 = omega (arith, length-take 4 b, e) in m) in
    let k : length y ≡ 4 = length-reverse (take 4 (drop 4 b)) ∙ (let m : length (take 4 (drop 4 b)) ≡ 4 = omega (arith, length-take 4 (drop 4 b), length-drop 4 b, e) in m) in
    let j : length (x ++ y) ≡ 8 = omega (arith, length-append x y, l, k) in
    let right : all ≡ x ++ (y ++ z) = append_assoc x y z in
    let one : take 4 all ≡ x = ap (take 4) right ∙ seam_take x (y ++ z) 4 l in
    let two : take 4 (drop 4 all) ≡ y = ap (λ t. take 4 (drop 4 t)) right ∙ ap (take 4) (seam_drop x (y ++ z) 4 l) ∙ seam_take y z 4 k in
    let three : drop 8 all ≡ z = seam_drop (x ++ y) z 8 j in
    ap (λ t. (reverse t ++ reverse (take 4 (drop 4 all))) ++ reverse (drop 8 all)) one
    ∙ ap (λ t. (reverse x ++ reverse t) ++ reverse (drop 8 all)) two
    ∙ ap (λ t. (reverse x ++ reverse y) ++ reverse t) three
    ∙ ap (λ t. (t ++ reverse y) ++ reverse z) (reverse-reverse (take 4 b))
    ∙ ap (λ t. (take 4 b ++ t) ++ reverse z) (reverse-reverse (take 4 (drop 4 b)))
    ∙ ap (λ t. (take 4 b ++ take 4 (drop 4 b)) ++ t) (reverse-reverse (drop 8 b))
    ∙ in_thirds b
turn_twice p b e = reverse-reverse b

-- what is written in one order, turned, is what is written in the other
pub turned_law : {A : Type 0} (write : Order → A → List ℕ) (p : PrimitiveType) (held wanted : Order) → (held ≡ wanted → ⊥) → ((order : Order) (x : A) → in_order order p (write little x) ≡ write order x) → ((order : Order) (x : A) → length (write order x) ≡ primitive_size p) → (x : A) → in_order big p (write held x) ≡ write wanted x
turned_law write p little little n law size x = absurd (n refl)
turned_law write p big big n law size x = absurd (n refl)
turned_law write p little big n law size x = law big x
turned_law write p big little n law size x = ap (in_order big p) (sym (law big x)) ∙ turn_twice p (write little x) (size little x)

pub size_of : {A : Type 0} (write : Order → A → List ℕ) (p : PrimitiveType) (w : ℕ) → primitive_size p ≡ w → ((order : Order) (x : A) → length (write order x) ≡ w) → (order : Order) (x : A) → length (write order x) ≡ primitive_size p
size_of write p w e law order x = law order x ∙ sym e

-- ── several numbers ──

-- one number more
pub turned_next : (p : PrimitiveType) (n : ℕ) (xs : List ℕ) → turned_items p (n + 1) xs ≡ turned_items p n xs ++ in_order big p (take (primitive_size p) (drop (primitive_size p * n) xs))
turned_next p n xs = rw add-one (next p n xs)
  where
    next : (p : PrimitiveType) (n : ℕ) (xs : List ℕ) → turned_items p (suc n) xs ≡ turned_items p n xs ++ in_order big p (take (primitive_size p) (drop (primitive_size p * n) xs))
    next p zero xs =
        let none : 0 ≡ primitive_size p * 0 = omega arith in
        append-nil (in_order big p (take (primitive_size p) xs)) ∙ ap (λ k. in_order big p (take (primitive_size p) (drop k xs))) none
    next p (suc n) xs =
        let w = primitive_size p in
        let one = in_order big p (take w xs) in
        ap (λ l. one ++ l) (next p n (drop w xs))
        ∙ sym (append_assoc one (turned_items p n (drop w xs)) (in_order big p (take w (drop (w * n) (drop w xs)))))
        ∙ ap (λ l. (one ++ turned_items p n (drop w xs)) ++ in_order big p (take w l)) (drop-drop (w * n) w xs ∙ ap (λ k. drop k xs) (sym (mul_next w n)))

-- the first number has its bytes
one_long : (p : PrimitiveType) (n : ℕ) (xs : List ℕ) → primitive_size p * suc n ≤ length xs → length (in_order big p (take (primitive_size p) xs)) ≡ primitive_size p
one_long p n xs h = length_turn p (take (primitive_size p) xs) ∙ length-take (primitive_size p) xs ∙ omega (arith, h, mul_next (primitive_size p) n)

rest_long : (p : PrimitiveType) (n : ℕ) (xs : List ℕ) → primitive_size p * suc n ≤ length xs → primitive_size p * n ≤ length (drop (primitive_size p) xs)
rest_long p n xs h = omega (arith, h, mul_next (primitive_size p) n, length-drop (primitive_size p) xs)

pub length_turned_items : (p : PrimitiveType) (n : ℕ) (xs : List ℕ) → primitive_size p * n ≤ length xs → length (turned_items p n xs) ≡ primitive_size p * n
length_turned_items p zero xs h = omega arith
length_turned_items p (suc n) xs h =
    let w = primitive_size p in
    omega (arith, length-append (in_order big p (take w xs)) (turned_items p n (drop w xs)), one_long p n xs h, length_turned_items p n (drop w xs) (rest_long p n xs h), mul_next w n)

turned_drop : (p : PrimitiveType) (i k : ℕ) (xs : List ℕ) → primitive_size p * i ≤ length xs → drop (primitive_size p * i) (turned_items p (i + k) xs) ≡ turned_items p k (drop (primitive_size p * i) xs)
turned_drop p zero k xs h =
    let none : primitive_size p * 0 ≡ 0 = omega arith in
    let same : 0 + k ≡ k = omega arith in
    rw (none, same) refl
turned_drop p (suc i) k xs h =
    let w = primitive_size p in
    let one = in_order big p (take w xs) in
    let rest = turned_items p (i + k) (drop w xs) in
    ap (λ n. drop (w * suc i) (turned_items p n xs)) (suc-add i k)
    ∙ ap (λ n. drop n (one ++ rest)) (mul_next w i)
    ∙ sym (drop-drop (w * i) w (one ++ rest))
    ∙ ap (drop (w * i)) (seam_drop one rest w (one_long p i xs h))
    ∙ turned_drop p i k (drop w xs) (rest_long p i xs h)
    ∙ ap (turned_items p k) (drop-drop (w * i) w xs ∙ ap (λ n. drop n xs) (sym (mul_next w i)))

turned_take : (p : PrimitiveType) (n k : ℕ) (xs : List ℕ) → primitive_size p * n ≤ length xs → take (primitive_size p * n) (turned_items p (n + k) xs) ≡ turned_items p n xs
turned_take p zero k xs h = let none : primitive_size p * 0 ≡ 0 = omega arith in rw none refl
turned_take p (suc n) k xs h =
    let w = primitive_size p in
    let one = in_order big p (take w xs) in
    let rest = turned_items p (n + k) (drop w xs) in
    ap (λ m. take (w * suc n) (turned_items p m xs)) (suc-add n k)
    ∙ ap (λ m. take m (one ++ rest)) (mul_next w n)
    ∙ take-add w (w * n) (one ++ rest)
    ∙ ap (λ l. l ++ take (w * n) (drop w (one ++ rest))) (seam_take one rest w (one_long p n xs h))
    ∙ ap (λ l. one ++ take (w * n) l) (seam_drop one rest w (one_long p n xs h))
    ∙ ap (λ l. one ++ l) (turned_take p n k (drop w xs) (rest_long p n xs h))

turned_within : (p : PrimitiveType) (n : ℕ) (xs : List ℕ) → turned_items p n (take (primitive_size p * n) xs) ≡ turned_items p n xs
turned_within p zero xs = refl
turned_within p (suc n) xs =
    let w = primitive_size p in
    let m : w * suc n ≡ w + w * n = mul_next w n in
    let first : take w (take (w * suc n) xs) ≡ take w xs = take-take w (w * suc n) xs (omega (arith, m)) in
    let later : drop w (take (w * suc n) xs) ≡ take (w * n) (drop w xs) = ap (λ k. drop w (take k xs)) m ∙ drop-take w (w * n) xs in
    ap (λ l. in_order big p l ++ turned_items p n (drop w (take (w * suc n) xs))) first
    ∙ ap (λ l. in_order big p (take w xs) ++ turned_items p n l) later
    ∙ ap (λ l. in_order big p (take w xs) ++ l) (turned_within p n (drop w xs))

-- a part of numbers that are turned
turned_part : (p : PrimitiveType) (i n k : ℕ) (xs : List ℕ) → primitive_size p * (i + n) ≤ length xs → part (primitive_size p * i) (primitive_size p * n) (turned_items p (i + (n + k)) xs) ≡ turned_items p n (part (primitive_size p * i) (primitive_size p * n) xs)
turned_part p i n k xs h =
    let w = primitive_size p in
    let m : w * (i + n) ≡ w * i + w * n = mul-add w i n in
    ap (take (w * n)) (turned_drop p i (n + k) xs (omega (arith, h, m)))
    ∙ turned_take p n k (drop (w * i) xs) (omega (arith, h, m, length-drop (w * i) xs))
    ∙ sym (turned_within p n (drop (w * i) xs))

-- ── pieces ──

-- a width of numbers
abbrev pub IsWidth : ℕ → Type 0
IsWidth w = (w ≡ 1) ⊎ ((w ≡ 2) ⊎ ((w ≡ 4) ⊎ ((w ≡ 8) ⊎ (w ≡ 16))))

primitive_width : (p : PrimitiveType) → 0 < primitive_size p → IsWidth (primitive_size p)
primitive_width primitive.Int8 h = inl refl
primitive_width primitive.Int16 h = inr (inl refl)
primitive_width primitive.Int32 h = inr (inr (inl refl))
primitive_width primitive.Int64 h = inr (inr (inr (inl refl)))
primitive_width primitive.Int128 h = inr (inr (inr (inr refl)))
primitive_width primitive.Int256 h = absurd (omega (arith, h))
primitive_width primitive.UInt8 h = inl refl
primitive_width primitive.UInt16 h = inr (inl refl)
primitive_width primitive.UInt32 h = inr (inr (inl refl))
primitive_width primitive.UInt64 h = inr (inr (inr (inl refl)))
primitive_width primitive.Float16 h = absurd (omega (arith, h))
primitive_width primitive.Float32 h = absurd (omega (arith, h))
primitive_width primitive.Float64 h = absurd (omega (arith, h))
primitive_width primitive.DaysMs h = inr (inr (inr (inl refl)))
primitive_width primitive.MonthDayNano h = inr (inr (inr (inr refl)))

-- a piece of numbers begins with a number and ends with one
pub record IsWhole (w at n : ℕ) : Type 0 where
  pub from : at ≡ w * (at / w)
  pub count : n ≡ w * (n / w)

whole_1 : (at n all : ℕ) → all % 1 ≡ 0 → at % 64 ≡ 0 → (n % 64 ≡ 0) ⊎ (at + n ≡ all) → IsWhole 1 at n
whole_1 at n all a f (inl t) = record { from = omega (arith, f); count = omega (arith, t) }
whole_1 at n all a f (inr t) = record { from = omega (arith, f); count = omega (arith, f, t, a) }

whole_2 : (at n all : ℕ) → all % 2 ≡ 0 → at % 64 ≡ 0 → (n % 64 ≡ 0) ⊎ (at + n ≡ all) → IsWhole 2 at n
whole_2 at n all a f (inl t) = record { from = omega (arith, f); count = omega (arith, t) }
whole_2 at n all a f (inr t) = record { from = omega (arith, f); count = omega (arith, f, t, a) }

whole_4 : (at n all : ℕ) → all % 4 ≡ 0 → at % 64 ≡ 0 → (n % 64 ≡ 0) ⊎ (at + n ≡ all) → IsWhole 4 at n
whole_4 at n all a f (inl t) = record { from = omega (arith, f); count = omega (arith, t) }
whole_4 at n all a f (inr t) = record { from = omega (arith, f); count = omega (arith, f, t, a) }

whole_8 : (at n all : ℕ) → all % 8 ≡ 0 → at % 64 ≡ 0 → (n % 64 ≡ 0) ⊎ (at + n ≡ all) → IsWhole 8 at n
whole_8 at n all a f (inl t) = record { from = omega (arith, f); count = omega (arith, t) }
whole_8 at n all a f (inr t) = record { from = omega (arith, f); count = omega (arith, f, t, a) }

whole_16 : (at n all : ℕ) → all % 16 ≡ 0 → at % 64 ≡ 0 → (n % 64 ≡ 0) ⊎ (at + n ≡ all) → IsWhole 16 at n
whole_16 at n all a f (inl t) = record { from = omega (arith, f); count = omega (arith, t) }
whole_16 at n all a f (inr t) = record { from = omega (arith, f); count = omega (arith, f, t, a) }

pub whole_piece : (w at n all : ℕ) → IsWidth w → all % w ≡ 0 → IsPiece at n all → IsWhole w at n
whole_piece w at n all (inl e) a p = subst (λ v. all % v ≡ 0 → IsWhole v at n) (sym e) (λ b. whole_1 at n all b p.from p.to) a
whole_piece w at n all (inr (inl e)) a p = subst (λ v. all % v ≡ 0 → IsWhole v at n) (sym e) (λ b. whole_2 at n all b p.from p.to) a
whole_piece w at n all (inr (inr (inl e))) a p = subst (λ v. all % v ≡ 0 → IsWhole v at n) (sym e) (λ b. whole_4 at n all b p.from p.to) a
whole_piece w at n all (inr (inr (inr (inl e)))) a p = subst (λ v. all % v ≡ 0 → IsWhole v at n) (sym e) (λ b. whole_8 at n all b p.from p.to) a
whole_piece w at n all (inr (inr (inr (inr e)))) a p = subst (λ v. all % v ≡ 0 → IsWhole v at n) (sym e) (λ b. whole_16 at n all b p.from p.to) a

-- ── all numbers ──

pub count_whole : (w n : ℕ) → 0 < w → n % w ≡ 0 → w * (n / w) ≡ n
count_whole w n h e = omega (arith, h, e)

pub length_turned : (p : PrimitiveType) (bytes : List ℕ) → AreNumbers p bytes → length (turned p bytes) ≡ length bytes
length_turned p bytes a =
    let w = primitive_size p in
    let all : w * (length bytes / w) ≡ length bytes = count_whole w (length bytes) a.above a.whole in
    length_turned_items p (length bytes / w) bytes (omega (arith, all)) ∙ all

-- a piece of the bytes, turned by itself
pub turned_piece : (p : PrimitiveType) (bytes : List ℕ) (at n : ℕ) → AreNumbers p bytes → IsPiece at n (length (turned p bytes)) → turned p (part at n bytes) ≡ part at n (turned p bytes)
turned_piece p bytes at n a piece =
    let w = primitive_size p in
    let c = length bytes / w in
    let same : length (turned p bytes) ≡ length bytes = length_turned p bytes a in
    let own : IsPiece at n (length bytes) = subst (IsPiece at n) same piece in
    let whole = whole_piece w at n (length bytes) (primitive_width p a.above) a.whole own in
    let all : w * c ≡ length bytes = count_whole w (length bytes) a.above a.whole in
    let i = at / w in
    let k = n / w in
    let sum : w * (i + k) ≡ w * i + w * k = mul-add w i k in
    let inside : w * (i + k) ≤ w * c = omega (arith, sum, whole.from, whole.count, own.within, all) in
    let below : i + k ≤ c = le_of_mul-le-mul_left inside a.above in
    let rest : i + (k + (c - (i + k))) ≡ c = omega (arith, below) in
    let long : length (part at n bytes) ≡ n = length-part bytes at n own.within in
    let cut = turned_part p i k (c - (i + k)) bytes (omega (arith, inside, all)) in
    ap (λ m. turned_items p (m / w) (part at n bytes)) long
    ∙ ap (λ m. turned_items p k (part m n bytes)) whole.from
    ∙ ap (λ m. turned_items p k (part (w * i) m bytes)) whole.count
    ∙ sym cut
    ∙ ap (λ m. part (w * i) (w * k) (turned_items p m bytes)) rest
    ∙ ap (λ m. part m (w * k) (turned p bytes)) (sym whole.from)
    ∙ ap (λ m. part at m (turned p bytes)) (sym whole.count)

-- numbers that are written in one order, turned, are written in the other
turned_each : {A : Type 0} (p : PrimitiveType) (f g : A → List ℕ) → ((x : A) → length (f x) ≡ primitive_size p) → ((x : A) → in_order big p (f x) ≡ g x) → (xs : List A) → turned_items p (length xs) (flat_map f xs) ≡ flat_map g xs
turned_each p f g size law [] = refl
turned_each p f g size law (x ∷ xs) =
    let w = primitive_size p in
    let rest = flat_map f xs in
    ap (λ l. in_order big p l ++ turned_items p (length xs) (drop w (f x ++ rest))) (seam_take (f x) rest w (size x))
    ∙ ap (λ l. in_order big p (f x) ++ turned_items p (length xs) l) (seam_drop (f x) rest w (size x))
    ∙ ap (λ l. l ++ turned_items p (length xs) rest) (law x)
    ∙ ap (λ l. g x ++ l) (turned_each p f g size law xs)

pub numbers_whole : {A : Type 0} (p : PrimitiveType) (f : A → List ℕ) → 0 < primitive_size p → ((x : A) → length (f x) ≡ primitive_size p) → (xs : List A) → AreNumbers p (flat_map f xs)
numbers_whole p f above size xs = record { above = above; whole = ap (λ n. n % primitive_size p) (length_flat f (primitive_size p) size xs) ∙ mul-mod_right (primitive_size p) (length xs) }

pub turned_numbers : {A : Type 0} (p : PrimitiveType) (f g : A → List ℕ) → 0 < primitive_size p → ((x : A) → length (f x) ≡ primitive_size p) → ((x : A) → in_order big p (f x) ≡ g x) → (xs : List A) → turned p (flat_map f xs) ≡ flat_map g xs
turned_numbers p f g above size law xs =
    let w = primitive_size p in
    let count : length (flat_map f xs) / w ≡ length xs = ap (λ n. n / w) (length_flat f w size xs) ∙ mul-div_cancel_left (length xs) above in
    ap (λ n. turned_items p n (flat_map f xs)) count ∙ turned_each p f g size law xs

-- ── a number turned in its place ──

pub turn_other : (p : PrimitiveType) (b : List ℕ) → (p ≡ primitive.DaysMs → ⊥) → (p ≡ primitive.MonthDayNano → ⊥) → in_order big p b ≡ reverse b
turn_other primitive.DaysMs b n m = absurd (n refl)
turn_other primitive.MonthDayNano b n m = absurd (m refl)
turn_other p b n m = refl

-- ── pieces of numbers, and numbers in their place ──

pub piece_of : (p : PrimitiveType) (bytes view : List ℕ) (at n : ℕ) → turned p bytes ≡ view → IsPiece at n (length view) → IsPiece at n (length (turned p bytes))
piece_of p bytes view at n e h = subst (λ l. IsPiece at n (length l)) (sym e) h

pub piece_numbers : (p : PrimitiveType) (bytes : List ℕ) (at n : ℕ) → AreNumbers p bytes → IsPiece at n (length (turned p bytes)) → AreNumbers p (part at n bytes)
piece_numbers p bytes at n a piece =
    let w = primitive_size p in
    let own : IsPiece at n (length bytes) = subst (IsPiece at n) (length_turned p bytes a) piece in
    let whole = whole_piece w at n (length bytes) (primitive_width p a.above) a.whole own in
    let long : length (part at n bytes) ≡ w * (n / w) = length-part bytes at n own.within ∙ whole.count in
    record { above = a.above; whole = ap (λ k. k % w) long ∙ mul-mod_right w (n / w) }

-- the next number is turned
pub turn_step : (p : PrimitiveType) (old numbers number : List ℕ) (i a k : ℕ) → primitive_size p * (i + 1) ≤ length old → numbers ≡ turned_items p i old ++ drop (primitive_size p * i) old → a ≡ primitive_size p * i → k ≡ primitive_size p → number ≡ in_order big p (take k (drop a numbers))
    → put_mid a k numbers number ≡ turned_items p (i + 1) old ++ drop (primitive_size p * (i + 1)) old
turn_step p old numbers number i a k inside e ha hk s =
    let w = primitive_size p in
    let done = turned_items p i old in
    let rest = drop (w * i) old in
    let m : w * (i + 1) ≡ w * i + w = rw add-one (let q : w * suc i ≡ w + w * i = mul_next w i in omega (arith, q)) in
    let long : length done ≡ w * i = length_turned_items p i old (omega (arith, inside, m)) in
    let front : take a numbers ≡ done = ap (take a) e ∙ seam_take done rest a (long ∙ sym ha) in
    let back : drop a numbers ≡ rest = ap (drop a) e ∙ seam_drop done rest a (long ∙ sym ha) in
    let one : number ≡ in_order big p (take w rest) = s ∙ ap (λ l. in_order big p (take k l)) back ∙ ap (λ n. in_order big p (take n rest)) hk in
    let post : post_of a k numbers ≡ drop (w * (i + 1)) old = ap (drop k) back ∙ ap (λ n. drop n rest) hk ∙ drop-drop w (w * i) old ∙ ap (λ n. drop n old) (sym m) in
    ap (λ l. l ++ (number ++ post_of a k numbers)) front
    ∙ ap (λ l. done ++ (l ++ post_of a k numbers)) one
    ∙ ap (λ l. done ++ (in_order big p (take w rest) ++ l)) post
    ∙ sym (append_assoc done (in_order big p (take w rest)) (drop (w * (i + 1)) old))
    ∙ ap (λ l. l ++ drop (w * (i + 1)) old) (sym (turned_next p i old))

-- a part that has been copied
pub copied_part : (bytes held copied : List ℕ) (at n : ℕ) → copied ≡ take (at + n - at) (drop at held) → held ≡ bytes → copied ≡ part at n bytes
copied_part bytes held copied at n e h = let k : at + n - at ≡ n = omega arith in e ∙ ap (λ m. take m (drop at held)) k ∙ ap (part at n) h
