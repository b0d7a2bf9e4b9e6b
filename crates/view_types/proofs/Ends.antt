-- Where each of some parts ends among the rows of all.
use Rattle.std.proofs.Common.{◌≡◌, ℕ, zero, suc, ◌+◌, ◌-◌, ◌≤◌, ◌<◌, List, [], ◌∷◌, length, get_or, true, false, refl, ap, sym, subst, ◌∙◌, arith}
use Rattle.std.specs.Prelude.{nat_lt}
use Rattle.std.proofs.lemmas.Bool.{lt-ltb, le-ltb}
use Rattle.view_types.specs.Sound.{ends_after}
use Rattle.view_types.specs.Spans.{IsInOrder, part_among, start_of}

pub length-ends : (b : ℕ) (ns : List ℕ) → length (ends_after b ns) ≡ length ns
length-ends b [] = refl
length-ends b (m ∷ ms) = ap suc (length-ends (b + m) ms)

ends_low : (b : ℕ) (ns : List ℕ) (j : ℕ) → j < length (ends_after b ns) → b ≤ get_or (ends_after b ns) j 0
ends_low b [] j h = absurd (omega (arith, h))
ends_low b (m ∷ ms) zero h = omega arith
ends_low b (m ∷ ms) (suc j) h = omega (arith, ends_low (b + m) ms j (omega (arith, h)))

-- they rise
pub ends_rise : (b : ℕ) (ns : List ℕ) → IsInOrder (ends_after b ns)
ends_rise b [] i j h l = absurd (omega (arith, l))
ends_rise b (m ∷ ms) zero zero h l = omega arith
ends_rise b (m ∷ ms) zero (suc j) h l = ends_low (b + m) ms j (omega (arith, l))
ends_rise b (m ∷ ms) (suc i) zero h l = absurd (omega (arith, h))
ends_rise b (m ∷ ms) (suc i) (suc j) h l = ends_rise (b + m) ms i j (omega (arith, h)) (omega (arith, l))

start_same : (b : ℕ) (ends : List ℕ) (k : ℕ) → start_of b ends k ≡ get_or (b ∷ ends) k 0
start_same b ends zero = refl
start_same b ends (suc k) = refl

-- a row among all is in the part whose end is the first behind it
pub record Found (ns : List ℕ) (b n k : ℕ) : Type 0 where
  pub part : (part_among ns n).0 ≡ k
  pub row : (part_among ns n).1 + start_of b (ends_after b ns) k ≡ b + n

first_found : (m : ℕ) (ms : List ℕ) (b n : ℕ) → nat_lt n m ≡ true → Found (m ∷ ms) b n 0
first_found m ms b n e = record { part = rw e refl; row = rw e (omega arith) }

later_found : (m : ℕ) (ms : List ℕ) (b n k : ℕ) → nat_lt n m ≡ false → (b + m) + (n - m) ≡ b + n → Found ms (b + m) (n - m) k → Found (m ∷ ms) b n (suc k)
later_found m ms b n k e s f = record {
  part = rw e (ap suc f.part);
  row = rw e (ap (λ z. (part_among ms (n - m)).1 + z) (sym (start_same (b + m) (ends_after (b + m) ms) k)) ∙ f.row ∙ s);
}

pub found : (ns : List ℕ) (b n k : ℕ) → k ≤ length (ends_after b ns) → ((i : ℕ) → i < k → get_or (ends_after b ns) i 0 ≤ b + n) → (k < length (ends_after b ns) → b + n < get_or (ends_after b ns) k 0) → Found ns b n k
found [] b n zero h lo hi = record { part = refl; row = omega arith }
found [] b n (suc k) h lo hi = absurd (omega (arith, h))
found (m ∷ ms) b n zero h lo hi =
    let l : b + n < b + m = hi (omega arith) in
    first_found m ms b n (lt-ltb n m (omega (arith, l)))
found (m ∷ ms) b n (suc k) h lo hi =
    let l : b + m ≤ b + n = lo 0 (omega arith) in
    let s : (b + m) + (n - m) ≡ b + n = omega (arith, l) in
    later_found m ms b n k (le-ltb n m (omega (arith, l))) s
    (found ms (b + m) (n - m) k (omega (arith, h)) (λ i below. rw s (lo (suc i) (omega (arith, below)))) (λ below. rw s (hi (omega (arith, below)))))

-- a part starts at or before what its ends are at most
pub start_below : (ends : List ℕ) (key k : ℕ) → ((i : ℕ) → i < k → get_or ends i 0 ≤ key) → start_of 0 ends k ≤ key
start_below ends key zero h = omega arith
start_below ends key (suc k) h = h k (omega arith)

-- what was found, where the ends are those of some rows
pub found_by : (ends ns : List ℕ) (n k start : ℕ) → ends ≡ ends_after 0 ns → k ≤ length ends → ((i : ℕ) → i < k → get_or ends i 0 ≤ n) → (k < length ends → n < get_or ends k 0) → start ≡ start_of 0 ends k → (k ≡ (part_among ns n).0) × (n - start ≡ (part_among ns n).1)
found_by ends ns n k start e h lo hi s =
    let z : 0 + n ≡ n = omega arith in
    let f = found ns 0 n k (subst (λ xs. k ≤ length xs) e h) (λ i below. rw z (subst (λ xs. get_or xs i 0 ≤ n) e (lo i below))) (λ below. rw z (subst (λ xs. n < get_or xs k 0) e (hi (subst (λ xs. k < length xs) (sym e) below)))) in
    (sym f.part, omega (arith, f.row, s, ap (λ xs. start_of 0 xs k) e))
