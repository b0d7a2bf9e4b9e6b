-- Lists of what stands in rows from one on.
use Rattle.std.proofs.Common.{◌≡◌, ℕ, zero, suc, ◌+◌, ◌<◌, refl, arith}
use Rattle.arrow_spec.specs.Arrays.{from_on}

-- they are the same where the same stands in each row
pub from_on-same : {A : Type 0} (f g : ℕ → A) (i n : ℕ) → ((j : ℕ) → j < i + n → f j ≡ g j) → from_on f i n ≡ from_on g i n
from_on-same f g i zero h = refl
from_on-same f g i (suc n) h = rw (h i (omega arith), from_on-same f g (suc i) n (λ j lt. h j (omega (arith, lt)))) refl
