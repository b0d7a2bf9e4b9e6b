-- Rows as runs of rows that stand one behind another.
use Rattle.std.specs.Prelude.{ℕ, ◌+◌, ◌*◌, ◌≤◌, List, [], ◌∷◌}
use Rattle.std.specs.List.{AllByRecursion, flat_map}
use Rattle.arrow_spec.specs.Needed.{numbers_from}
use Rattle.array_filter.specs.declared.runs.Run.{Run}

-- the numbers of a run's rows
abbrev pub rows_of : Run → List ℕ
rows_of r = numbers_from r.from r.count

-- of several runs, one behind another
abbrev pub rows_in_runs : List Run → List ℕ
rows_in_runs runs = flat_map rows_of runs

-- from a row on, no run begins before the one before it ends, and the last ends within so many rows
abbrev pub Climb : ℕ → List Run → ℕ → Type 0
Climb low [] n = low ≤ n
Climb low (r ∷ runs) n = (low ≤ r.from) × Climb (r.from + r.count) runs n

-- each run of rows of one size lies within so many bytes
abbrev pub AreWithin : ℕ → List Run → ℕ → Type 0
AreWithin size runs n = AllByRecursion (λ (r : Run). size * r.from + size * r.count ≤ n) runs
