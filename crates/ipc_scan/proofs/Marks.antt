-- Marks, one after another.
use Rattle.std.proofs.Common.{◌≡◌, ◌∙◌, refl, sym, ap, arith, ℕ, zero, suc, ◌+◌, ◌<◌, ◌≤◌, List, [], ◌∷◌, length, take, get_or, Bool, true, false, add-one}
use Rattle.std.specs.Prelude.{◌||◌}
use Rattle.laws_scan.specs.Filtered.{any_marked, marked_count}

or_true : (b : Bool) → (b || true) ≡ true
or_true true = refl
or_true false = refl

-- one that is set
pub any_at : (marks : List Bool) (i : ℕ) → i < length marks → get_or marks i false ≡ true → any_marked marks ≡ true
any_at [] i less set = absurd (omega (arith, less))
any_at (b ∷ bs) zero less set = ap (λ x. x || any_marked bs) set
any_at (b ∷ bs) (suc i) less set = ap (λ x. b || x) (any_at bs i (omega (arith, less)) set) ∙ or_true b

any_step : (marks : List Bool) (i : ℕ) → get_or marks i false ≡ false → any_marked (take i marks) ≡ false → any_marked (take (suc i) marks) ≡ false
any_step [] i clear none = refl
any_step (true ∷ bs) zero clear none = cc
any_step (false ∷ bs) zero clear none = refl
any_step (true ∷ bs) (suc i) clear none = cc
any_step (false ∷ bs) (suc i) clear none = any_step bs i clear none

-- one more that is not
pub any_next : (marks : List Bool) (i : ℕ) → get_or marks i false ≡ false → any_marked (take i marks) ≡ false → any_marked (take (i + 1) marks) ≡ false
any_next marks i clear none = ap (λ n. any_marked (take n marks)) (add-one i) ∙ any_step marks i clear none

-- ── how many ──

set_step : (marks : List Bool) (i : ℕ) → get_or marks i false ≡ true → marked_count (take (suc i) marks) ≡ suc (marked_count (take i marks))
set_step [] i set = cc
set_step (true ∷ bs) zero set = refl
set_step (false ∷ bs) zero set = cc
set_step (true ∷ bs) (suc i) set = ap suc (set_step bs i set)
set_step (false ∷ bs) (suc i) set = set_step bs i set

clear_step : (marks : List Bool) (i : ℕ) → get_or marks i false ≡ false → marked_count (take (suc i) marks) ≡ marked_count (take i marks)
clear_step [] zero clear = refl
clear_step [] (suc i) clear = refl
clear_step (true ∷ bs) zero clear = cc
clear_step (false ∷ bs) zero clear = refl
clear_step (true ∷ bs) (suc i) clear = ap suc (clear_step bs i clear)
clear_step (false ∷ bs) (suc i) clear = clear_step bs i clear

pub count_set : (marks : List Bool) (i n m : ℕ) → get_or marks i false ≡ true → n ≡ marked_count (take i marks) → m ≡ n + 1 → m ≡ marked_count (take (i + 1) marks)
count_set marks i n m set is more =
    let step = set_step marks i set in
    let at = ap (λ k. marked_count (take k marks)) (add-one i) in
    omega (arith, step, at, is, more)

pub count_clear : (marks : List Bool) (i n m : ℕ) → get_or marks i false ≡ false → n ≡ marked_count (take i marks) → m ≡ n → m ≡ marked_count (take (i + 1) marks)
count_clear marks i n m clear is same = same ∙ is ∙ sym (clear_step marks i clear) ∙ ap (λ k. marked_count (take k marks)) (sym (add-one i))

pub count_within : (marks : List Bool) → marked_count marks ≤ length marks
count_within [] = omega arith
count_within (true ∷ bs) = let h = count_within bs in omega (arith, h)
count_within (false ∷ bs) = let h = count_within bs in omega (arith, h)
