-- Packed bits are read back, and how many bytes they take.
use Rattle.std.proofs.Common.{◌≡◌, ℕ, suc, zero, ◌+◌, ◌-◌, ◌*◌, ◌/◌, ◌%◌, ◌^◌, ◌<◌, ◌≤◌, List, [], ◌∷◌, ◌++◌, length, get_or, refl, sym, ap, subst, ◌∙◌, arith, length-append, append_assoc, append-nil, true, false, Bool, inl, inr}
use Rattle.std.specs.Prelude.{nat_eq, if◌then◌else◌}
use Rattle.std.specs.Int.{bit_at}
use Rattle.std.proofs.lemmas.Bool.{cases_lt}
use Rattle.std.proofs.lemmas.List.{get_or_append_left, get_or-append_right}
use Rattle.std.proofs.Math.Nat.{pow-suc, pow-succ'}
use Rattle.std.proofs.lemmas.Nat.Bits.{bit_at-suc, bit_at_lowest}
use Rattle.arrow_spec.specs.Arrays.{bit}
use Rattle.arrow_spec.specs.Framing.{packed, packed_from}

one_if : Bool → ℕ
one_if b = if b then 1 else 0

-- the number of some bits, the lowest first
number_of : List Bool → ℕ
number_of [] = 0
number_of (b ∷ bs) = one_if b + 2 * number_of bs

one_back : (b : Bool) (n : ℕ) → nat_eq ((one_if b + 2 * n) % 2) 1 ≡ b
unfolding one_if
one_back true n = let e : (1 + 2 * n) % 2 ≡ 1 = omega arith in rw e refl
one_back false n = let e : (0 + 2 * n) % 2 ≡ 0 = omega arith in rw e refl

half_back : (b : Bool) (n : ℕ) → (one_if b + 2 * n) / 2 ≡ n
unfolding one_if
half_back true n = omega arith
half_back false n = omega arith

number_bit : (bs : List Bool) (j : ℕ) → j < length bs → nat_eq (bit_at (number_of bs) j) 1 ≡ get_or bs j false
unfolding number_of
number_bit [] j h = absurd (omega (arith, h))
number_bit (b ∷ bs) zero h = ap (λ n. nat_eq n 1) (bit_at_lowest (one_if b + 2 * number_of bs)) ∙ one_back b (number_of bs)
number_bit (b ∷ bs) (suc j) h = ap (λ n. nat_eq n 1) (bit_at-suc (one_if b + 2 * number_of bs) j ∙ ap (λ n. bit_at n j) (half_back b (number_of bs))) ∙ number_bit bs j (omega (arith, h))

number_more : (bs : List Bool) (b : Bool) → (if b then number_of bs + 2 ^ length bs else number_of bs) ≡ number_of (bs ++ b ∷ [])
unfolding number_of one_if
number_more [] true = refl
number_more [] false = refl
number_more (x ∷ bs) true = let e = number_more bs true in omega (arith, e, pow-succ' 2 (length bs))
number_more (x ∷ bs) false = let e = number_more bs false in omega (arith, e)

weight_first : (k : ℕ) → 0 < k → k ≤ 7 → nat_eq (2 ^ k) 1 ≡ false
weight_first zero h few = absurd (omega (arith, h))
weight_first (suc zero) h few = refl
weight_first (suc (suc zero)) h few = refl
weight_first (suc (suc (suc zero))) h few = refl
weight_first (suc (suc (suc (suc zero)))) h few = refl
weight_first (suc (suc (suc (suc (suc zero))))) h few = refl
weight_first (suc (suc (suc (suc (suc (suc zero)))))) h few = refl
weight_first (suc (suc (suc (suc (suc (suc (suc zero))))))) h few = refl
weight_first (suc (suc (suc (suc (suc (suc (suc (suc k)))))))) h few = absurd (omega (arith, few))

weight_below : (k : ℕ) → k < 7 → nat_eq (2 ^ k) 128 ≡ false
weight_below zero h = refl
weight_below (suc zero) h = refl
weight_below (suc (suc zero)) h = refl
weight_below (suc (suc (suc zero))) h = refl
weight_below (suc (suc (suc (suc zero)))) h = refl
weight_below (suc (suc (suc (suc (suc zero))))) h = refl
weight_below (suc (suc (suc (suc (suc (suc zero)))))) h = refl
weight_below (suc (suc (suc (suc (suc (suc (suc k))))))) h = absurd (omega (arith, h))

weight_last : (k : ℕ) → 7 ≡ k → nat_eq (2 ^ k) 128 ≡ true
weight_last k e = subst (λ j. nat_eq (2 ^ j) 128 ≡ true) e refl

packed_from-length : (bs : List Bool) (k byte : ℕ) → k ≤ 7 → length (packed_from (2 ^ k) byte bs) ≡ (k + length bs + 7) / 8
packed_from-length [] zero byte few = refl
packed_from-length [] (suc k) byte few = let test : nat_eq (2 ^ suc k) 1 ≡ false = weight_first (suc k) (omega arith) few in rw test (omega (arith, few))
packed_from-length (b ∷ bs) k byte few =
    elim (cases_lt k 7) [
      | inl lt ↦
          let test : nat_eq (2 ^ k) 128 ≡ false = weight_below k lt in
          let twice : 2 ^ k * 2 ≡ 2 ^ suc k = sym (pow-suc 2 k) in
          let rest = packed_from-length bs (suc k) (if b then byte + 2 ^ k else byte) (omega (arith, lt)) in
          rw (test, twice) (rest ∙ omega arith)
      | inr ge ↦
          let last : 7 ≡ k = omega (arith, ge, few) in
          let test : nat_eq (2 ^ k) 128 ≡ true = weight_last k last in
          let rest : length (packed_from 1 0 bs) ≡ (0 + length bs + 7) / 8 = packed_from-length bs 0 0 (omega arith) in
          rw test (omega (arith, rest, last))
    ]

-- eight rows a byte
pub length-packed : (bits : List Bool) → length (packed bits) ≡ (length bits + 7) / 8
length-packed bits = packed_from-length bits 0 0 (omega arith) ∙ omega arith

one_byte : (n : ℕ) (j : ℕ) (others : List ℕ) → j < 8 → bit (n ∷ others) j ≡ nat_eq (bit_at n j) 1
one_byte n j others h =
    let first : j / 8 ≡ 0 = omega (arith, h) in
    let at : j % 8 ≡ j = omega (arith, h) in
    rw (first, at) refl

next_byte : (n : ℕ) (i j : ℕ) (others : List ℕ) → j ≡ 8 + i → bit (n ∷ others) j ≡ bit others i
next_byte n i j others h =
    let more : j / 8 ≡ suc (i / 8) = omega (arith, h) in
    let at : j % 8 ≡ i % 8 = omega (arith, h) in
    rw (more, at) refl

-- bits behind some bits of a byte that are known
packed_from-bit : (bs p : List Bool) (j : ℕ) → length p ≤ 7 → j < length p + length bs → bit (packed_from (2 ^ length p) (number_of p) bs) j ≡ get_or (p ++ bs) j false
unfolding number_of
packed_from-bit [] p j few h =
    let test : nat_eq (2 ^ length p) 1 ≡ false = weight_first (length p) (omega (arith, h)) few in
    let known : nat_eq (bit_at (number_of p) j) 1 ≡ get_or p j false = number_bit p j (omega (arith, h)) in
    rw (test, append-nil p) (one_byte (number_of p) j [] (omega (arith, h, few)) ∙ known)
packed_from-bit (b ∷ bs) p j few h =
    let q = p ++ b ∷ [] in
    let more : length q ≡ suc (length p) = omega (arith, length-append p (b ∷ [])) in
    let byte : (if b then number_of p + 2 ^ length p else number_of p) ≡ number_of q = number_more p b in
    let whole : get_or (q ++ bs) j false ≡ get_or (p ++ b ∷ bs) j false = ap (λ l. get_or l j false) (append_assoc p (b ∷ []) bs) in
    elim (cases_lt (length p) 7) [
      | inl lt ↦
          let test : nat_eq (2 ^ length p) 128 ≡ false = weight_below (length p) lt in
          let twice : 2 ^ length p * 2 ≡ 2 ^ length q = sym (pow-suc 2 (length p)) ∙ ap (λ k. 2 ^ k) (sym more) in
          rw (test, byte, twice) (packed_from-bit bs q j (omega (arith, lt, more)) (omega (arith, h, more)) ∙ whole)
      | inr ge ↦
          let last : 7 ≡ length p = omega (arith, ge, few) in
          let test : nat_eq (2 ^ length p) 128 ≡ true = weight_last (length p) last in
          rw (test, byte) (elim (cases_lt j 8) [
            | inl here ↦ one_byte (number_of q) j (packed_from 1 0 bs) here ∙ number_bit q j (omega (arith, here, last, more)) ∙ sym (get_or_append_left q bs false j (omega (arith, here, last, more))) ∙ whole
            | inr later ↦
                let at : j ≡ 8 + (j - 8) = omega (arith, later) in
                let rest : bit (packed_from 1 0 bs) (j - 8) ≡ get_or bs (j - 8) false = packed_from-bit bs [] (j - 8) (omega arith) (omega (arith, h, later, last)) in
                next_byte (number_of q) (j - 8) j (packed_from 1 0 bs) at ∙ rest ∙ sym (get_or-append_right q bs 8 j false (omega (arith, last, more)) later) ∙ whole
          ])
    ]

-- each bit is read again
pub packed_bit : (bits : List Bool) (row : ℕ) → row < length bits → bit (packed bits) row ≡ get_or bits row false
unfolding number_of
packed_bit bits row h = packed_from-bit bits [] row (omega arith) (omega (arith, h))
