-- How many bits from one on are not set: of some bits and those behind them, and of the eight bits of a byte.
use Rattle.std.proofs.Common.{◌≡◌, ℕ, zero, suc, ◌+◌, ◌-◌, ◌*◌, ◌/◌, ◌%◌, ◌^◌, ◌≤◌, ◌<◌, List, [], ◌∷◌, ◌++◌, Bool, true, false, cond, get_or, refl, sym, ap, ◌∙◌, arith}
use Rattle.std.specs.Prelude.{not, nat_eq, slice_index}
use Rattle.std.specs.List.{count_by}
use Rattle.std.specs.Int.{bit_at}
use Rattle.std.proofs.Math.Nat.{suc-add, pow-suc, mul_comm, div-div-eq-div-mul}
use Rattle.std.proofs.lemmas.Nat.Bits.{bit_at_lowest}
use Rattle.std.proofs.lemmas.List.Sums.{count_by-le-length, sum_by-append}
use Rattle.std.specs.Int.RustNames.{count_ones}
use Rattle.arrow_spec.specs.Arrays.{bit, from_on}
use Rattle.arrow_buffers.proofs.Parts.{shift-from_on, length-from_on}
use lib.Count.{ones_step, ones-le}

abbrev pub unset : (ℕ → Bool) → ℕ → ℕ → ℕ
unset f at n = count_by not (from_on f at n)

pub unset_few : (f : ℕ → Bool) (at n : ℕ) → unset f at n ≤ n
unset_few f at n = omega (arith, count_by-le-length not (from_on f at n), length-from_on f at n)

pub from_on_split : (f : ℕ → Bool) (at a b : ℕ) → from_on f at (a + b) ≡ from_on f at a ++ from_on f (at + a) b
from_on_split f at zero b =
    let e : 0 + b ≡ b = omega arith in
    let g : at ≡ at + 0 = omega arith in
    ap (from_on f at) e ∙ ap (λ k. from_on f k b) g
from_on_split f at (suc a) b =
    let e : suc at + a ≡ at + suc a = omega arith in
    rw suc-add (ap (λ r. f at ∷ r) (from_on_split f (suc at) a b ∙ ap (λ k. from_on f (suc at) a ++ from_on f k b) e))

-- some bits, and those behind them
pub unset_split : (f : ℕ → Bool) (at a b : ℕ) → unset f at (a + b) ≡ unset f at a + unset f (at + a) b
unset_split f at a b = ap (count_by not) (from_on_split f at a b) ∙ sum_by-append (λ x. cond (not x) 1 0) (from_on f at a) (from_on f (at + a) b)

one_bit : (b : Bool) → count_by not (b ∷ []) ≡ cond b 0 1
one_bit true = refl
one_bit false = refl

-- one more bit
pub unset_next : (f : ℕ → Bool) (at n : ℕ) → unset f at (n + 1) ≡ unset f at n + cond (f (at + n)) 0 1
unset_next f at n = unset_split f at n 1 ∙ ap (λ k. unset f at n + k) (one_bit (f (at + n)))

digit_above : (n i : ℕ) → bit_at n (suc i) ≡ bit_at (n / 2) i
digit_above n i = ap (λ p. n / p % 2) (pow-suc 2 i ∙ mul_comm (2 ^ i) 2) ∙ ap (λ q. q % 2) (sym (div-div-eq-div-mul n 2 (2 ^ i)))

lowest : (d : ℕ) → d < 2 → cond (nat_eq d 1) 0 1 + d ≡ 1
lowest zero h = refl
lowest (suc zero) h = refl
lowest (suc (suc d)) h = absurd (omega (arith, h))

-- the digits of a number that are not set, and those that are
pub unset_digits : (k n : ℕ) → n < 2 ^ k → unset (λ j. nat_eq (bit_at n j) 1) 0 k + count_ones n ≡ k
unset_digits zero n h = omega (arith, ones-le 0 n h)
unset_digits (suc k) n h =
    let digit : ℕ → ℕ → Bool = λ m j. nat_eq (bit_at m j) 1 in
    let power : 2 ^ suc k ≡ 2 ^ k * 2 = pow-suc 2 k in
    let rest = unset_digits k (n / 2) (omega (arith, h, power)) in
    let ones : count_ones n ≡ n % 2 + count_ones (n / 2) = ones_step n in
    let first : unset (digit n) 0 1 ≡ cond (nat_eq (n % 2) 1) 0 1 = one_bit (digit n 0) ∙ ap (λ d. cond (nat_eq d 1) 0 1) (bit_at_lowest n) in
    let same : (j : ℕ) → j < k → digit n (0 + 1 + j) ≡ digit (n / 2) (0 + j) = λ j l.
    (let s : 0 + 1 + j ≡ suc j = omega arith in
    let z : j ≡ 0 + j = omega arith in
    ap (digit n) s ∙ ap (λ d. nat_eq d 1) (digit_above n j) ∙ ap (digit (n / 2)) z) in
    let above : unset (digit n) (0 + 1) k ≡ unset (digit (n / 2)) 0 k = ap (count_by not) (shift-from_on (digit n) (digit (n / 2)) (0 + 1) 0 k same) in
    let more : suc k ≡ 1 + k = omega arith in
    omega (arith, ap (unset (digit n) 0) more, unset_split (digit n) 0 1 k, rest, ones, first, above, lowest (n % 2) (omega arith))

-- the bits of a byte
pub byte_bits : (bytes : List ℕ) (q : ℕ) → from_on (bit bytes) (8 * q) 8 ≡ from_on (λ j. nat_eq (bit_at (get_or bytes q 0) j) 1) 0 8
byte_bits bytes q =
    shift-from_on (bit bytes) (λ j. nat_eq (bit_at (get_or bytes q 0) j) 1) (8 * q) 0 8 (λ k l.
    (let over : (8 * q + k) / 8 ≡ q = omega (arith, l) in
    let under : (8 * q + k) % 8 ≡ 0 + k = omega (arith, l) in
    ap (λ i. nat_eq (bit_at (slice_index bytes i) ((8 * q + k) % 8)) 1) over ∙ ap (λ i. nat_eq (bit_at (slice_index bytes q) i) 1) under))

-- the bits of one more byte
pub unset_byte : (bytes : List ℕ) (from i : ℕ) → get_or bytes (from + i) 0 < 2 ^ 8
    → unset (bit bytes) (8 * from) (8 * (i + 1)) + count_ones (get_or bytes (from + i) 0) ≡ unset (bit bytes) (8 * from) (8 * i) + 8
unset_byte bytes from i h =
    let more : 8 * (i + 1) ≡ 8 * i + 8 = omega arith in
    let place : 8 * from + 8 * i ≡ 8 * (from + i) = omega arith in
    let split = ap (unset (bit bytes) (8 * from)) more ∙ unset_split (bit bytes) (8 * from) (8 * i) 8 in
    let here : unset (bit bytes) (8 * from + 8 * i) 8 ≡ unset (λ j. nat_eq (bit_at (get_or bytes (from + i) 0) j) 1) 0 8 =
    ap (λ k. unset (bit bytes) k 8) place ∙ ap (count_by not) (byte_bits bytes (from + i)) in
    omega (arith, split, here, unset_digits 8 (get_or bytes (from + i) 0) h)

-- bits up to whole bytes, the whole bytes, and the bits behind them
pub unset_parts : (f : ℕ → Bool) (at n from to : ℕ) → at ≤ 8 * from → from ≤ to → 8 * to ≤ at + n
    → unset f at (8 * from - at) + unset f (8 * from) (8 * (to - from)) + unset f (8 * to) (at + n - 8 * to) ≡ unset f at n
unset_parts f at n from to low mid high =
    let a = 8 * from - at in
    let b = 8 * (to - from) in
    let d = at + n - 8 * to in
    let all : a + (b + d) ≡ n = omega (arith, low, mid, high) in
    let one : at + a ≡ 8 * from = omega (arith, low) in
    let two : 8 * from + b ≡ 8 * to = omega (arith, mid) in
    let front = unset_split f at a (b + d) in
    let back = unset_split f (8 * from) b d in
    omega (arith, ap (unset f at) all, front, ap (λ k. unset f k (b + d)) one, back, ap (λ k. unset f k d) two)

pub unset_more : (f : ℕ → Bool) (at n : ℕ) → false ≡ f (at + n) → unset f at (n + 1) ≡ unset f at n + 1
unset_more f at n e = unset_next f at n ∙ ap (λ b. unset f at n + cond b 0 1) (sym e)

pub unset_same : (f : ℕ → Bool) (at n : ℕ) → true ≡ f (at + n) → unset f at (n + 1) ≡ unset f at n
unset_same f at n e = omega (arith, unset_next f at n ∙ ap (λ b. unset f at n + cond b 0 1) (sym e))
