-- A test at each of the rows below a number.
use Rattle.std.proofs.Common.{◌≡◌, ℕ, zero, suc, ◌+◌, ◌<◌, Bool, true, false, refl, add-one, inl, inr, arith}
use Rattle.std.proofs.lemmas.Bool.{or_parts, or_from, or_left, or_right, cases_eq}
use Rattle.std.specs.Prelude.{not, ◌&&◌}
use Rattle.arrow_spec.specs.Faults.{some_row}

pub none_below : (bad : ℕ → Bool) (n : ℕ) → some_row bad n ≡ false → (k : ℕ) → k < n → bad k ≡ false
none_below bad zero e k h = absurd (omega arith)
none_below bad (suc n) e k h =
    let p = or_parts (some_row bad n) (bad n) e in
    elim (cases_eq k n) [
      | inl q ↦ rw q p.1
      | inr q ↦ none_below bad n p.0 k (omega arith)
    ]

pub none_from : (bad : ℕ → Bool) (n : ℕ) → ((k : ℕ) → k < n → bad k ≡ false) → some_row bad n ≡ false
none_from bad zero h = refl
none_from bad (suc n) h = or_from (some_row bad n) (bad n) (none_from bad n (λ k l. h k (omega arith))) (h n (omega arith))

-- a test that fails at no row so far, and at none of the next, fails at none so far
pub none_more : (bad : ℕ → Bool) (n : ℕ) → some_row bad n ≡ false → bad n ≡ false → some_row bad (n + 1) ≡ false
none_more bad n e f = rw add-one (or_from (some_row bad n) (bad n) e f)

pub some_at : (bad : ℕ → Bool) (n k : ℕ) → k < n → bad k ≡ true → some_row bad n ≡ true
some_at bad zero k h e = absurd (omega arith)
some_at bad (suc n) k h e =
    elim (cases_eq k n) [
      | inl q ↦ or_right (some_row bad n) (bad n) (rw (← q) e)
      | inr q ↦ or_left (some_row bad n) (bad n) (some_at bad n k (omega arith) e)
    ]

-- what a test says of one row
pub bad_here : (valid good : Bool) → valid ≡ true → good ≡ false → (valid && not good) ≡ true
bad_here valid good p q = rw (p, q) refl

pub fine_here : (valid good : Bool) → good ≡ true → (valid && not good) ≡ false
fine_here true good q = rw q refl
fine_here false good q = refl

pub null_here : (valid good : Bool) → valid ≡ false → (valid && not good) ≡ false
null_here valid good p = rw p refl
