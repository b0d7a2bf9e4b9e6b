-- Bits that are packed one by one.
use Rattle.std.proofs.Common.{◌≡◌, ℕ, suc, zero, ◌+◌, ◌*◌, ◌/◌, ◌^◌, ◌<◌, ◌≤◌, List, [], ◌∷◌, ◌++◌, length, drop, get_or, Bool, true, false, refl, sym, ap, subst, ◌∙◌, arith, append_assoc, append-nil}
use Rattle.std.specs.Prelude.{nat_eq, nat_lt, if◌then◌else◌}
use Rattle.std.proofs.Math.Seq.{drop-cons}
use Rattle.std.proofs.lemmas.List.{drop_all}
use Rattle.std.proofs.Math.Nat.{pow-suc}
use Rattle.arrow_spec.specs.Arrays.{bit, from_on}
use Rattle.arrow_spec.specs.Framing.{packed, packed_from}
use Rattle.arrow_spec.proofs.PackedBits.{packed_bit, length-packed}
use Rattle.arrow_buffers.specs.Bits.{bits_from, with_bit}
use Rattle.arrow_buffers.proofs.Parts.{shift-from_on}

-- the bytes so far, and the bits of the next one
pub record Packs (bits : List Bool) (out : List ℕ) (byte place i : ℕ) : Type 0 where
  pub few : place ≤ 7
  pub low : byte < 2 ^ place
  pub all : packed bits ≡ out ++ packed_from (2 ^ place) byte (drop i bits)

weight_below : (k : ℕ) → k < 7 → nat_eq (2 ^ k) 128 ≡ false
weight_below zero h = refl
weight_below (suc zero) h = refl
weight_below (suc (suc zero)) h = refl
weight_below (suc (suc (suc zero))) h = refl
weight_below (suc (suc (suc (suc zero)))) h = refl
weight_below (suc (suc (suc (suc (suc zero))))) h = refl
weight_below (suc (suc (suc (suc (suc (suc zero)))))) h = refl
weight_below (suc (suc (suc (suc (suc (suc (suc k))))))) h = absurd (omega (arith, h))

weight_above : (k : ℕ) → 0 < k → k ≤ 7 → nat_eq (2 ^ k) 1 ≡ false
weight_above zero h few = absurd (omega (arith, h))
weight_above (suc zero) h few = refl
weight_above (suc (suc zero)) h few = refl
weight_above (suc (suc (suc zero))) h few = refl
weight_above (suc (suc (suc (suc zero)))) h few = refl
weight_above (suc (suc (suc (suc (suc zero))))) h few = refl
weight_above (suc (suc (suc (suc (suc (suc zero)))))) h few = refl
weight_above (suc (suc (suc (suc (suc (suc (suc zero))))))) h few = refl
weight_above (suc (suc (suc (suc (suc (suc (suc (suc k)))))))) h few = absurd (omega (arith, few))

pub below_next : (b : Bool) (byte place : ℕ) → byte < 2 ^ place → with_bit byte place b < 2 ^ suc place
below_next true byte place h = omega (arith, h, pow-suc 2 place)
below_next false byte place h = omega (arith, h, pow-suc 2 place)

pub begun : (bits : List Bool) → Packs bits [] 0 0 0
begun bits = record { few = omega arith; low = omega arith; all = refl }

pub goes_on : (bits : List Bool) (out : List ℕ) (byte place i : ℕ) → Packs bits out byte place i → i < length bits → place < 7 → Packs bits out (with_bit byte place (get_or bits i false)) (place + 1) (i + 1)
goes_on bits out byte place i s inside more =
    let up : suc i ≡ i + 1 = omega arith in
    let behind : suc place ≡ place + 1 = omega arith in
    subst (λ p. Packs bits out (with_bit byte place (get_or bits i false)) p (i + 1)) behind (subst (Packs bits out (with_bit byte place (get_or bits i false)) (suc place)) up (
    let b = get_or bits i false in
    let weight : 2 ^ place * 2 ≡ 2 ^ suc place = omega (arith, pow-suc 2 place) in
    record {
      few = omega (arith, more);
      low = below_next b byte place s.low;
      all = s.all ∙ ap (λ l. out ++ packed_from (2 ^ place) byte l) (drop-cons bits i false inside)
          ∙ ap (λ t. out ++ (if t then ((if b then byte + 2 ^ place else byte) ∷ packed_from 1 0 (drop (suc i) bits)) else packed_from (2 ^ place * 2) (if b then byte + 2 ^ place else byte) (drop (suc i) bits))) (weight_below place more)
          ∙ ap (λ w. out ++ packed_from w (if b then byte + 2 ^ place else byte) (drop (suc i) bits)) weight;
    }))

pub full : (bits : List Bool) (out : List ℕ) (byte i : ℕ) → Packs bits out byte 7 i → i < length bits → Packs bits (out ++ with_bit byte 7 (get_or bits i false) ∷ []) 0 0 (i + 1)
full bits out byte i s inside =
    let up : suc i ≡ i + 1 = omega arith in
    subst (Packs bits (out ++ with_bit byte 7 (get_or bits i false) ∷ []) 0 0) up (
    let b = get_or bits i false in
    record {
      few = omega arith;
      low = omega arith;
      all = s.all ∙ ap (λ l. out ++ packed_from (2 ^ 7) byte l) (drop-cons bits i false inside) ∙ sym (append_assoc out ((if b then byte + 2 ^ 7 else byte) ∷ []) (packed_from 1 0 (drop (suc i) bits)));
    })

pub ends_whole : (bits : List Bool) (out : List ℕ) (byte i : ℕ) → Packs bits out byte 0 i → length bits ≤ i → out ≡ packed bits
ends_whole bits out byte i s past = sym (s.all ∙ ap (λ l. out ++ packed_from 1 byte l) (drop_all i bits past) ∙ append-nil out)

pub ends_within : (bits : List Bool) (out : List ℕ) (byte place i : ℕ) → Packs bits out byte place i → length bits ≤ i → 0 < place → out ++ byte ∷ [] ≡ packed bits
ends_within bits out byte place i s past more =
    sym (s.all ∙ ap (λ l. out ++ packed_from (2 ^ place) byte l) (drop_all i bits past) ∙ ap (λ t. out ++ (if t then [] else (byte ∷ []))) (weight_above place more s.few))

-- a list by its items
by_items : (d : Bool) (xs : List Bool) → from_on (λ j. get_or xs j d) 0 (length xs) ≡ xs
by_items d [] = refl
by_items d (x ∷ xs) = ap (λ l. x ∷ l) (shift-from_on (λ j. get_or (x ∷ xs) j d) (λ j. get_or xs j d) 1 0 (length xs) (λ k below. one_on k) ∙ by_items d xs)
  where
    one_on : (k : ℕ) → get_or (x ∷ xs) (1 + k) d ≡ get_or xs (0 + k) d
    one_on k = let e : 1 + k ≡ suc k = omega arith in let z : 0 + k ≡ k = omega arith in rw (e, z) refl

-- packed bits are read back
pub packed_back : (bits : List Bool) → bits_from (packed bits) 0 (length bits) ≡ bits
packed_back bits = shift-from_on (bit (packed bits)) (λ j. get_or bits j false) 0 0 (length bits) (λ k below. back k below) ∙ by_items false bits
  where
    back : (k : ℕ) → k < length bits → bit (packed bits) (0 + k) ≡ get_or bits (0 + k) false
    back k below = let z : 0 + k ≡ k = omega arith in rw z (packed_bit bits k below)

pub room : (bits : List Bool) → length bits ≤ 8 * length (packed bits)
room bits = omega (arith, length-packed bits)

pub ruleset packed_bits_back = (packed_back, room)
