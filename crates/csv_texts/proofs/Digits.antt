-- Digits that are written one after another.
use Rattle.std.proofs.Common.{◌≡◌, ◌≢◌, ◌∙◌, refl, ap, ℕ, zero, suc, ◌+◌, ◌-◌, ◌%◌, ◌/◌, List, [], ◌∷◌, ◌++◌, append_assoc, arith}
use Rattle.csv_texts.specs.Texts.{last_digits}

pub last_step : (count n : ℕ) (old mid new : List ℕ) → count ≢ 0 → mid ≡ old ++ last_digits (count - 1) (n / 10) → new ≡ mid ++ (48 + n % 10) ∷ [] → new ≡ old ++ last_digits count n
last_step zero n old mid new some h k = absurd (some refl)
last_step (suc c) n old mid new some h k =
    let e : suc c - 1 ≡ c = omega arith in
    k ∙ ap (λ xs. xs ++ (48 + n % 10) ∷ []) (h ∙ ap (λ i. old ++ last_digits i (n / 10)) e) ∙ append_assoc old (last_digits c (n / 10)) ((48 + n % 10) ∷ [])
