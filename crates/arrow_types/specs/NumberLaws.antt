-- What is written as bytes reads back, and the number at a place is that of the bytes there.
use Rattle.std.proofs.Common.{◌≡◌, true, false, ℕ, zero, suc, ◌+◌, ◌-◌, ◌*◌, ◌/◌, ◌%◌, ◌^◌, ◌<◌, ◌≤◌, List, length, take, drop, Some, None, ℤ, pos, negsuc, cond, refl, sym, ◌∙◌, ap, arith}
use Rattle.std.specs.Option.{option_map}
use Rattle.std.specs.Int.{Width, w8, w16, w32, w64, w128, byte_len, byte_at, byte_worth, sum_through, cast_signed, cast_unsigned}
use Rattle.std.specs.Int.RustNames.{FitsSigned}
use Rattle.std.proofs.Math.Arith.{mod-mul}
use Rattle.std.proofs.Math.Nat.{mod-eq_of_lt, pow-suc}
use Rattle.std.proofs.lemmas.Int.{to_z-of_z}
use Rattle.std.proofs.lemmas.Bool.{le-leb}
use Rattle.arrow_spec.specs.Flat.{Order, little, big, part, fold_number}
use Rattle.arrow_types.specs.Numbers.{signed_to_bytes, signed_from_bytes, signed_num, unsigned_to_bytes, unsigned_from_bytes, unsigned_num, ReadsOffsets}
use mir.Val.{bits}

pow-positive : (k : ℕ) → 0 < 256 ^ k
pow-positive zero = omega arith
pow-positive (suc k) = let h : 0 < 256 ^ k = pow-positive k in rw (pow-suc 256 k) (omega arith)

-- the lowest bytes of n, each at its worth
sum-bytes : (n k : ℕ) → sum_through (λ i. byte_worth i (byte_at i n)) k ≡ n % 256 ^ suc k
sum-bytes n zero = refl
sum-bytes n (suc k) =
    let last : n % (256 * 256 ^ suc k) ≡ (n / 256 ^ suc k % 256) * 256 ^ suc k + n % 256 ^ suc k = mod-mul n (omega arith) (pow-positive (suc k)) in
    let power : 256 ^ suc (suc k) ≡ 256 * 256 ^ suc k = rw (pow-suc 256 (suc k)) (omega arith) in
    ap (λ s. s + (n / 256 ^ suc k % 256) * 256 ^ suc k) (sum-bytes n k) ∙
    (let e : n % 256 ^ suc k + (n / 256 ^ suc k % 256) * 256 ^ suc k ≡ n % (256 * 256 ^ suc k) = omega arith in e) ∙ ap (λ p. n % p) (sym power)

pub turned_2 : (a b : ℕ) → b + a ≡ a + b
turned_2 a b = omega arith

pub turned_4 : (a b c d : ℕ) → d + c + b + a ≡ a + b + c + d
turned_4 a b c d = omega arith

pub turned_8 : (a b c d e f g h : ℕ) → h + g + f + e + d + c + b + a ≡ a + b + c + d + e + f + g + h
turned_8 a b c d e f g h = omega arith

pub turned_16 : (a b c d e f g h i j k l m n o p : ℕ) → p + o + n + m + l + k + j + i + h + g + f + e + d + c + b + a
    ≡ a + b + c + d + e + f + g + h + i + j + k + l + m + n + o + p
turned_16 a b c d e f g h i j k l m n o p = omega arith

abbrev lowest : ℕ → ℕ → ℕ
lowest n k = sum_through (λ i. byte_worth i (byte_at i n)) k

whole : (n k : ℕ) → n < 256 ^ suc k → lowest n k ≡ n
whole n k h = sum-bytes n k ∙ mod-eq_of_lt h

pub unsigned_back : (w : Width) (order : Order) (n : ℕ) → n < 2 ^ bits w → unsigned_from_bytes w order (unsigned_to_bytes w order n) ≡ n
unsigned_back w8 little n h = whole n 0 h
unsigned_back w8 big n h = whole n 0 h
unsigned_back w16 little n h = whole n 1 h
unsigned_back w16 big n h = turned_2 _ _ ∙ whole n 1 h
unsigned_back w32 little n h = whole n 3 h
unsigned_back w32 big n h = turned_4 _ _ _ _ ∙ whole n 3 h
unsigned_back w64 little n h = whole n 7 h
unsigned_back w64 big n h = turned_8 _ _ _ _ _ _ _ _ ∙ whole n 7 h
unsigned_back w128 little n h = whole n 15 h
unsigned_back w128 big n h = turned_16 _ _ _ _ _ _ _ _ _ _ _ _ _ _ _ _ ∙ whole n 15 h

pub unsigned_width : (w : Width) (order : Order) (n : ℕ) → length (unsigned_to_bytes w order n) ≡ byte_len w
unsigned_width w8 little n = refl
unsigned_width w8 big n = refl
unsigned_width w16 little n = refl
unsigned_width w16 big n = refl
unsigned_width w32 little n = refl
unsigned_width w32 big n = refl
unsigned_width w64 little n = refl
unsigned_width w64 big n = refl
unsigned_width w128 little n = refl
unsigned_width w128 big n = refl

part-inside : (bytes : List ℕ) (at n : ℕ) → at + n ≤ length bytes → part bytes at n ≡ Some (take n (drop at bytes))
part-inside bytes at n h = ap (λ b. cond b (Some (take n (drop at bytes))) None) (le-leb (at + n) (length bytes) h)

pub unsigned_agrees : (w : Width) (bytes : List ℕ) (at : ℕ) (order : Order) → at + byte_len w ≤ length bytes
    → unsigned_num w bytes at order ≡ Some (unsigned_from_bytes w order (take (byte_len w) (drop at bytes)))
unsigned_agrees w bytes at order h = ap (fold_number order w) (part-inside bytes at (byte_len w) h)

fits-pos : (w : Width) (n : ℕ) → FitsSigned w (pos n) → n < 2 ^ bits w
fits-pos w8 n h = omega (arith, h.sfits)
fits-pos w16 n h = omega (arith, h.sfits)
fits-pos w32 n h = omega (arith, h.sfits)
fits-pos w64 n h = omega (arith, h.sfits)
fits-pos w128 n h = omega (arith, h.sfits)

below-power : (w : Width) (n : ℕ) → 2 ^ bits w - suc n < 2 ^ bits w
below-power w8 n = omega arith
below-power w16 n = omega arith
below-power w32 n = omega arith
below-power w64 n = omega arith
below-power w128 n = omega arith

unsigned-fits : (w : Width) (z : ℤ) → FitsSigned w z → cast_unsigned w z < 2 ^ bits w
unsigned-fits w (pos n) h = fits-pos w n h
unsigned-fits w (negsuc n) h = below-power w n

pub signed_back : (w : Width) (order : Order) (z : ℤ) → FitsSigned w z → signed_from_bytes w order (signed_to_bytes w order z) ≡ z
signed_back w order z h = ap (cast_signed w) (unsigned_back w order (cast_unsigned w z) (unsigned-fits w z h)) ∙ to_z-of_z w z h

pub signed_width : (w : Width) (order : Order) (z : ℤ) → length (signed_to_bytes w order z) ≡ byte_len w
signed_width w order z = unsigned_width w order (cast_unsigned w z)

pub signed_agrees : (w : Width) (bytes : List ℕ) (at : ℕ) (order : Order) → at + byte_len w ≤ length bytes
    → signed_num w bytes at order ≡ Some (signed_from_bytes w order (take (byte_len w) (drop at bytes)))
signed_agrees w bytes at order h = ap (option_map (cast_signed w)) (unsigned_agrees w bytes at order h)

pub pos_same : (x y : ℕ) → pos x ≡ pos y → x ≡ y
pos_same x y e = cc

pub above : (n : ℕ) → 0 < suc n
above n = omega arith

pub small_reads : ReadsOffsets false 4 (2 ^ 31) (λ z. z) (signed_from_bytes w32)
small_reads = record { sized = refl; reads = λ order bytes. refl; above = omega arith }

pub large_reads : ReadsOffsets true 8 (2 ^ 63) (λ z. z) (signed_from_bytes w64)
large_reads = record { sized = refl; reads = λ order bytes. refl; above = omega arith }
