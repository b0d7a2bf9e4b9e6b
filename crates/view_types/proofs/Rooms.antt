-- Pieces of ranges.
use Rattle.std.proofs.Common.{◌≡◌, ℕ, ◌+◌, ◌-◌, ◌≤◌, List, take, drop, sym, ap, ◌∙◌, arith}
use Rattle.std.proofs.lemmas.List.{take-take, drop-drop, drop-take}

-- a piece of a part stands in the whole
pub piece : {A : Type 0} (xs : List A) (at n from count : ℕ) → from + count ≤ n → take count (drop from (take n (drop at xs))) ≡ take count (drop (at + from) xs)
piece xs at n from count h =
    let e : from + (n - from) ≡ n = omega (arith, h) in
    let le : count ≤ n - from = omega (arith, h) in
    ap (λ k. take count (drop from (take k (drop at xs)))) (sym e) ∙ ap (take count) (drop-take from (n - from) (drop at xs)) ∙ take-take count (n - from) (drop from (drop at xs)) le
    ∙ ap (take count) (drop-drop from at xs)
