-- Tables of which the rows that meet a filter are left.
use Rattle.std.specs.Prelude.{ℕ, suc, List, [], ◌∷◌, Bool, true, false, map, ◌||◌, slice_get, if◌then◌else◌}
use Rattle.arrow_spec.specs.Files.{ArrowTable, TableBatch, column_or_none}
use Rattle.array_filter.specs.Rows.{marked}
use Rattle.row_filters.specs.Filters.{marks_of}
use Rattle.filter_types.specs.declared.filter.Filter.{Filter}

-- some row is marked
abbrev pub any_marked : List Bool → Bool
any_marked [] = false
any_marked (b ∷ bs) = b || any_marked bs

-- how many are
abbrev pub marked_count : List Bool → ℕ
marked_count [] = 0
marked_count (true ∷ bs) = suc (marked_count bs)
marked_count (false ∷ bs) = marked_count bs

-- the marked rows of a batch
abbrev pub marked_batch : List Bool → TableBatch → TableBatch
marked_batch marks x = record { rows = marked_count marks; columns = map (λ column. marked marks column) x.columns; custom = x.custom }

-- the marks of a batch's rows, by the filter's column
abbrev pub batch_marks : Filter → TableBatch → List Bool
batch_marks f x = marks_of f (column_or_none (slice_get x.columns f.column))

-- the batches with a marked row, as far as their rows are marked
abbrev pub filtered_batches : Filter → List TableBatch → List TableBatch
filtered_batches f [] = []
filtered_batches f (x ∷ xs) = if any_marked (batch_marks f x) then marked_batch (batch_marks f x) x ∷ filtered_batches f xs else filtered_batches f xs

-- the rows of a table that meet a filter, without empty batches
abbrev pub filtered : Filter → ArrowTable → ArrowTable
filtered f t = record { metadata = t.metadata; custom = t.custom; fields = t.fields; batches = filtered_batches f t.batches }
