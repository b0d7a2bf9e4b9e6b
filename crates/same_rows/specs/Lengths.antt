-- Rows between offsets that are as long as others. (Arrow Columnar Format, "Variable-size Binary Layout".)
use Rattle.std.specs.Prelude.{◌≡◌, ℕ, ◌+◌, ◌-◌, ◌≤◌, List, ℤ}
use Rattle.arrow_buffers.specs.Variable.{place_at}

-- so many rows from one place on end as far from their first byte as those from another
pub record HaveSameLengths (offsets : List ℤ) (from : ℕ) (others : List ℤ) (start count : ℕ) : Type 0 where
  pub same : (k : ℕ) → k ≤ count → place_at offsets (from + k) - place_at offsets from ≡ place_at others (start + k) - place_at others start
