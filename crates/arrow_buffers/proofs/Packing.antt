-- The bits of whole bytes are packed as these bytes.
use Rattle.std.proofs.Common.{◌≡◌, ℕ, zero, suc, ◌+◌, ◌*◌, ◌/◌, ◌%◌, ◌^◌, ◌<◌, ◌≤◌, List, [], ◌∷◌, ◌++◌, Bool, true, false, length, take, drop, get_or, refl, sym, ap, ◌∙◌, arith}
use Rattle.std.specs.Prelude.{nat_eq, if◌then◌else◌}
use Rattle.std.specs.Int.{bit_at}
use Rattle.std.proofs.Math.Arith.{mod-mul}
use Rattle.std.proofs.Math.Seq.{drop-cons}
use Rattle.arrow_spec.specs.Arrays.{bit, from_on}
use Rattle.arrow_spec.specs.Framing.{packed, packed_from}
use Rattle.arrow_buffers.specs.Rows.{part}
use Rattle.arrow_buffers.specs.Bits.{bits_from}
use Rattle.arrow_buffers.proofs.Unset.{from_on_split, byte_bits}

add_digit : (d p low : ℕ) → d < 2 → (if nat_eq d 1 then low + p else low) ≡ d * p + low
add_digit zero p low h = omega arith
add_digit (suc zero) p low h = omega arith
add_digit (suc (suc d)) p low h = absurd (omega (arith, h))

-- the digit of a number at a power, and those below it
one_more : (b p : ℕ) → 0 < p → (if nat_eq (b / p % 2) 1 then b % p + p else b % p) ≡ b % (2 * p)
one_more b p h = add_digit (b / p % 2) p (b % p) (omega arith) ∙ sym (mod-mul b (omega arith) h)

-- a byte's eight digits
eight_bits : (b : ℕ) (rest : List Bool) → b < 2 ^ 8 → packed_from 1 0 (from_on (λ j. nat_eq (bit_at b j) 1) 0 8 ++ rest) ≡ b ∷ packed_from 1 0 rest
eight_bits b rest h =
    let d : ℕ → Bool = λ j. nat_eq (bit_at b j) 1 in
    let none : b % 1 ≡ 0 = omega arith in
    let whole : b % 256 ≡ b = omega (arith, h) in
    ap (λ y. packed_from 1 y (d 0 ∷ d 1 ∷ d 2 ∷ d 3 ∷ d 4 ∷ d 5 ∷ d 6 ∷ d 7 ∷ rest)) (sym none)
    ∙ ap (λ y. packed_from 2 y (d 1 ∷ d 2 ∷ d 3 ∷ d 4 ∷ d 5 ∷ d 6 ∷ d 7 ∷ rest)) (one_more b 1 (omega arith))
    ∙ ap (λ y. packed_from 4 y (d 2 ∷ d 3 ∷ d 4 ∷ d 5 ∷ d 6 ∷ d 7 ∷ rest)) (one_more b 2 (omega arith))
    ∙ ap (λ y. packed_from 8 y (d 3 ∷ d 4 ∷ d 5 ∷ d 6 ∷ d 7 ∷ rest)) (one_more b 4 (omega arith))
    ∙ ap (λ y. packed_from 16 y (d 4 ∷ d 5 ∷ d 6 ∷ d 7 ∷ rest)) (one_more b 8 (omega arith))
    ∙ ap (λ y. packed_from 32 y (d 5 ∷ d 6 ∷ d 7 ∷ rest)) (one_more b 16 (omega arith))
    ∙ ap (λ y. packed_from 64 y (d 6 ∷ d 7 ∷ rest)) (one_more b 32 (omega arith))
    ∙ ap (λ y. packed_from 128 y (d 7 ∷ rest)) (one_more b 64 (omega arith))
    ∙ ap (λ y. y ∷ packed_from 1 0 rest) (one_more b 128 (omega arith) ∙ whole)

-- one byte, and the bits behind it
byte_first : (bytes : List ℕ) (q more : ℕ) → get_or bytes q 0 < 2 ^ 8 → packed (bits_from bytes (8 * q) (8 + more)) ≡ get_or bytes q 0 ∷ packed (bits_from bytes (8 * suc q) more)
byte_first bytes q more h =
    let next : 8 * q + 8 ≡ 8 * suc q = omega arith in
    ap packed (from_on_split (bit bytes) (8 * q) 8 more ∙ ap (λ l. l ++ from_on (bit bytes) (8 * q + 8) more) (byte_bits bytes q))
    ∙ eight_bits (get_or bytes q 0) (from_on (bit bytes) (8 * q + 8) more) h
    ∙ ap (λ k. get_or bytes q 0 ∷ packed (bits_from bytes k more)) next

pub whole_packed : (bytes : List ℕ) (q n rest : ℕ) → ((i : ℕ) → get_or bytes i 0 < 2 ^ 8) → q + n ≤ length bytes → take n (packed (bits_from bytes (8 * q) (8 * n + rest))) ≡ part q n bytes
whole_packed bytes q zero rest s h = refl
whole_packed bytes q (suc n) rest s h =
    let more : 8 * suc n + rest ≡ 8 + (8 * n + rest) = omega arith in
    ap (λ k. take (suc n) (packed (bits_from bytes (8 * q) k))) more
    ∙ ap (take (suc n)) (byte_first bytes q (8 * n + rest) (s q))
    ∙ ap (λ l. get_or bytes q 0 ∷ l) (whole_packed bytes (suc q) n rest s (omega (arith, h)))
    ∙ sym (ap (take (suc n)) (drop-cons bytes q 0 (omega (arith, h))))
