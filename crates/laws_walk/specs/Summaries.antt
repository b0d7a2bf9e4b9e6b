-- The numbers that a walk tells of what it wrote.
use Rattle.std.specs.Prelude.{◌≡◌, ℕ, List, length, sum_by}
use Rattle.arrow_spec.specs.Files.{ArrowTable}
use Rattle.laws_walk.specs.declared.summary.Summary.{Summary}

-- the numbers of a summary
pub record IsSummary (s : Summary) (table : ArrowTable) (x : List ℕ) : Type 0 where
  pub batches : s.batches ≡ length table.batches
  pub rows : s.rows ≡ sum_by (λ batch. batch.rows) table.batches
  pub bytes : s.bytes ≡ length x
