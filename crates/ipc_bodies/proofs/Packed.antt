-- Packed bits, byte by byte.
use Rattle.std.proofs.Common.{◌≡◌, ℕ, zero, suc, ◌+◌, ◌-◌, ◌*◌, ◌/◌, ◌^◌, ◌≤◌, ◌<◌, List, [], ◌∷◌, ◌++◌, Bool, true, false, length, take, drop, get_or, slice_get, Some, min, refl, sym, ap, ◌∙◌, arith, cond, length-drop, length-take}
use Rattle.std.proofs.Math.Nat.{pow-suc}
use Rattle.std.proofs.lemmas.List.{drop_more, drop-drop, get_or-drop, get_or-take, take_min, take_more, take_all}
use Rattle.arrow_spec.specs.Framing.{packed}
use Rattle.arrow_spec.proofs.PackedBits.{length-packed}
use Rattle.arrow_buffers.specs.Rows.{part}
use Rattle.arrow_buffers.proofs.Counts.{found}
use Rattle.arrow_buffers.proofs.Parts.{length-part}
use Rattle.ipc_bodies.specs.Pieces.{byte_by}

-- the first byte, and those behind it
first_byte : (bits : List Bool) → 0 < length bits → get_or (packed bits) 0 0 ≡ byte_by 1 0 (take 8 bits)
first_byte [] h = absurd (omega (arith, h))
first_byte (a ∷ []) h = refl
first_byte (a ∷ b ∷ []) h = refl
first_byte (a ∷ b ∷ c ∷ []) h = refl
first_byte (a ∷ b ∷ c ∷ d ∷ []) h = refl
first_byte (a ∷ b ∷ c ∷ d ∷ e ∷ []) h = refl
first_byte (a ∷ b ∷ c ∷ d ∷ e ∷ f ∷ []) h = refl
first_byte (a ∷ b ∷ c ∷ d ∷ e ∷ f ∷ g ∷ []) h = refl
first_byte (a ∷ b ∷ c ∷ d ∷ e ∷ f ∷ g ∷ i ∷ bits) h = refl

later_bytes : (bits : List Bool) → drop 1 (packed bits) ≡ packed (drop 8 bits)
later_bytes [] = refl
later_bytes (a ∷ []) = refl
later_bytes (a ∷ b ∷ []) = refl
later_bytes (a ∷ b ∷ c ∷ []) = refl
later_bytes (a ∷ b ∷ c ∷ d ∷ []) = refl
later_bytes (a ∷ b ∷ c ∷ d ∷ e ∷ []) = refl
later_bytes (a ∷ b ∷ c ∷ d ∷ e ∷ f ∷ []) = refl
later_bytes (a ∷ b ∷ c ∷ d ∷ e ∷ f ∷ g ∷ []) = refl
later_bytes (a ∷ b ∷ c ∷ d ∷ e ∷ f ∷ g ∷ i ∷ bits) = refl

packed_drop : (bits : List Bool) (i : ℕ) → drop i (packed bits) ≡ packed (drop (8 * i) bits)
packed_drop bits zero = refl
packed_drop bits (suc i) =
    let next : suc i ≡ 1 + i = omega arith in
    let place : 8 + 8 * i ≡ 8 * suc i = omega arith in
    ap (λ k. drop k (packed bits)) next ∙ sym (drop-drop i 1 (packed bits)) ∙ ap (drop i) (later_bytes bits) ∙ packed_drop (drop 8 bits) i ∙ ap packed (drop-drop (8 * i) 8 bits ∙ ap (λ k. drop k bits) place)

-- a byte begins within the bits
pub byte_within : (bits : List Bool) (i : ℕ) → i < length (packed bits) → 8 * i < length bits
byte_within bits i h = omega (arith, h, length-packed bits)

-- the bits of a byte
pub packed_at : (bits : List Bool) (i n : ℕ) → i < length (packed bits) → n ≡ min (length bits - 8 * i) 8 → byte_by 1 0 (part (8 * i) n bits) ≡ get_or (packed bits) i 0
packed_at bits i n h e =
    let rest = drop (8 * i) bits in
    let long : length rest ≡ length bits - 8 * i = length-drop (8 * i) bits in
    let few : n ≡ min 8 (length rest) = omega (arith, e, long) in
    let zero_on : i + 0 ≡ i = omega arith in
    ap (λ k. byte_by 1 0 (take k rest)) few
    ∙ ap (byte_by 1 0) (take_min 8 rest)
    ∙ sym (first_byte rest (omega (arith, long, byte_within bits i h)))
    ∙ ap (λ l. get_or l 0 0) (sym (packed_drop bits i))
    ∙ get_or-drop i (packed bits) 0 0
    ∙ ap (λ k. get_or (packed bits) k 0) zero_on

-- one bit more
pub bit_more : (bits : List Bool) (first n i w byte : ℕ) (b : Bool) (made more : ℕ) → i < n → first + n ≤ length bits → slice_get bits (first + i) ≡ Some b → more ≡ cond b (byte + w) byte
    → byte_by w byte (drop i (part first n bits)) ≡ made → byte_by (w * 2) more (drop (i + 1) (part first n bits)) ≡ made
bit_more bits first n i w byte b made more h k g m e =
    let xs = part first n bits in
    let at : get_or xs i b ≡ b = get_or-take n (drop first bits) i b h ∙ get_or-drop first bits i b ∙ (found bits (first + i) b g).at b in
    let long : length xs ≡ n = length-part bits first n k in
    let cut : drop i xs ≡ b ∷ drop (i + 1) xs = drop_more xs i b (omega (arith, long, h)) ∙ ap (λ x. x ∷ drop (i + 1) xs) at in
    ap (λ y. byte_by (w * 2) y (drop (i + 1) xs)) m ∙ sym (ap (byte_by w byte) cut) ∙ e

pub power_few : (i : ℕ) → i ≤ 8 → 2 ^ i ≤ 256
power_few zero h = omega arith
power_few (suc zero) h = omega arith
power_few (suc (suc zero)) h = omega arith
power_few (suc (suc (suc zero))) h = omega arith
power_few (suc (suc (suc (suc zero)))) h = omega arith
power_few (suc (suc (suc (suc (suc zero))))) h = omega arith
power_few (suc (suc (suc (suc (suc (suc zero)))))) h = omega arith
power_few (suc (suc (suc (suc (suc (suc (suc zero))))))) h = omega arith
power_few (suc (suc (suc (suc (suc (suc (suc (suc zero)))))))) h = omega arith
power_few (suc (suc (suc (suc (suc (suc (suc (suc (suc i))))))))) h = absurd (omega (arith, h))

pub power_next : (i w : ℕ) → w ≡ 2 ^ i → w * 2 ≡ 2 ^ (i + 1)
power_next i w e = ap (λ k. k * 2) e ∙ sym (pow-suc 2 i) ∙ ap (λ k. 2 ^ k) (omega arith)

pub bit_below : (w byte more : ℕ) (b : Bool) → byte < w → more ≡ cond b (byte + w) byte → more < w * 2
bit_below w byte more true h e = omega (arith, h, e)
bit_below w byte more false h e = omega (arith, h, e)

-- the whole bytes, and the one behind them
pub bytes_then : (bits : List Bool) (i : ℕ) (byte : ℕ) → i < length (packed bits) → length (packed bits) ≤ i + 1 → byte ≡ get_or (packed bits) i 0 → take i (packed bits) ++ byte ∷ [] ≡ packed bits
bytes_then bits i byte h k e =
    ap (λ y. take i (packed bits) ++ y ∷ []) e ∙ sym (take_more (packed bits) i 0 h) ∙ take_all (i + 1) (packed bits) k

pub whole_count : (bits : List Bool) → length (take (length bits / 8) (packed bits)) ≡ length bits / 8
whole_count bits = length-take (length bits / 8) (packed bits) ∙ omega (arith, length-packed bits)
