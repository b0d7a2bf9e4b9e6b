-- Worked scans.
use Rattle.std.proofs.Common.{◌≡◌, ℕ, List, [], ◌∷◌, Option, Some, None, Ok, refl}
use Rattle.std.specs.Prelude.{ℤ, pos, negsuc, codes, map, true, false}
use Rattle.arrow_spec.specs.Cells as cells
use Rattle.arrow_spec.specs.Cells.{Cell}
use Rattle.arrow_spec.specs.Files.{ArrowTable, Asked, FileBlock, TableBatch, meta_of, to_read, dictionaries_of, dictionaries_read}
use Rattle.arrow_spec.specs.Readings.{refusals, meaning, ◌>>=◌}
use Rattle.arrow_spec.specs.declared.error.IpcError.TheVariants.{Projection, Unsupported}
use Rattle.arrow_spec.specs.declared.error.Feature.TheVariants.{Predicate}
use Rattle.laws_worked.proofs.WorkedFiles.{three_columns_file, two_batches_file}
use Rattle.laws_worked.proofs.Vectors.{int32_file}
use Rattle.laws_worked.proofs.Int32Table.{computed}
use Rattle.laws_walk.specs.Walks.{asked_by, blocks_walked, walk_reading}
use Rattle.laws_scan.specs.Scan.{block_marks, marked_rows, scan_block, block_scanned, scan_table, met, scan_cost}
use Rattle.row_filters.specs.Filters.{marks_of}
use Rattle.filter_types.specs.declared.filter.Filter.{Filter}
use Rattle.filter_types.specs.declared.filter.FilterOp.{FilterOp}
use Rattle.filter_types.specs.declared.filter.FilterOp.TheVariants.{Equal, NotEqual, Less, LessOrEqual, Greater, GreaterOrEqual}

abbrev on : ℕ → FilterOp → ℕ → Filter
on c op n = record { column = c; op = op; number = pos n }

abbrev columns : Option ArrowTable → List (List (List Cell))
columns None = []
columns (Some t) = each t.batches
  where
    each : List TableBatch → List (List (List Cell))
    each [] = []
    each (x ∷ xs) = x.columns ∷ each xs

abbrev int : ℕ → Cell
int n = cells.number (pos n)

unfoldable scanned : ℕ
unfolding computed blocks_walked walk_reading block_marks marked_rows scan_block scan_table block_scanned
scanned = 0

-- of two batches the second has the rows
two_batches : columns (scan_table two_batches_file (on 0 GreaterOrEqual 4) None) ≡ ((int 4 ∷ int 5 ∷ int 6 ∷ int 7 ∷ []) ∷ []) ∷ []
unfolding scanned
two_batches = refl

-- no row
no_row : columns (scan_table three_columns_file (on 0 GreaterOrEqual 5) (Some (2 ∷ []))) ≡ []
unfolding scanned
no_row = refl

first_row : columns (scan_table int32_file (on 0 Less 3) None) ≡ ((int 1 ∷ []) ∷ []) ∷ []
unfolding scanned
first_row = refl

-- a null meets no comparison
nulls_are_not : columns (scan_table int32_file (on 0 NotEqual 3) None) ≡ ((int 1 ∷ []) ∷ []) ∷ []
unfolding scanned
nulls_are_not = refl

no_column : refusals (walk_reading to_read int32_file (met (on 1 Equal 0) None) None) ≡ Projection 1 ∷ []
unfolding scanned
no_column = refl

of_texts : refusals (walk_reading to_read three_columns_file (met (on 1 Equal 0) None) None) ≡ Unsupported Predicate ∷ []
unfolding scanned
of_texts = refl

-- the filter's column too, in another order
another_order : columns (scan_table three_columns_file (on 2 Greater 10) (Some (2 ∷ 1 ∷ 0 ∷ []))) ≡ ((int 20 ∷ []) ∷ (cells.text (codes "yz") ∷ []) ∷ (int 2 ∷ []) ∷ []) ∷ []
unfolding scanned
another_order = refl

-- what a block's walk costs: of F1 its message of 152 bytes, a validity of 1 and 12 of values, twice where a row is there
cost_of : List ℕ → Filter → Option (List ℕ) → Option (List ℕ)
unfolding scanned
cost_of b f cs = meaning (meta_of b >>= λ meta. dictionaries_of b meta [] (dictionaries_read meta.blocks meta.dictionaries) >>= λ d. Ok (each (asked_by b meta (met f cs) d) meta.blocks))
  where
    each : Asked → List FileBlock → List ℕ
    each a [] = []
    each a (block ∷ blocks) = scan_cost f b a block ∷ each a blocks

hit_cost : cost_of int32_file (on 0 Less 3) None ≡ Some (178 ∷ [])
unfolding scanned cost_of
hit_cost = refl

no_hit_cost : cost_of int32_file (on 0 Less 0) None ≡ Some (165 ∷ [])
unfolding scanned cost_of
no_hit_cost = refl

-- each comparison, of numbers below, at and above, of a null and of a text
each_comparison : map (λ op. marks_of (on 0 op 5) (int 4 ∷ int 5 ∷ int 6 ∷ cells.null ∷ cells.text (codes "5") ∷ [])) (Equal ∷ NotEqual ∷ Less ∷ LessOrEqual ∷ Greater ∷ GreaterOrEqual ∷ [])
    ≡ (false ∷ true ∷ false ∷ false ∷ false ∷ []) ∷ (true ∷ false ∷ true ∷ false ∷ false ∷ []) ∷ (true ∷ false ∷ false ∷ false ∷ false ∷ []) ∷ (true ∷ true ∷ false ∷ false ∷ false ∷ [])
    ∷ (false ∷ false ∷ true ∷ false ∷ false ∷ []) ∷ (false ∷ true ∷ true ∷ false ∷ false ∷ []) ∷ []
each_comparison = refl

-- numbers below 0, and the least and the greatest of 128 bits
abbrev least : ℤ
least = negsuc 170141183460469231731687303715884105727

signed_numbers : marks_of (record { column = 0; op = Less; number = negsuc 0 }) (cells.number (negsuc 1) ∷ cells.number (negsuc 0) ∷ int 0 ∷ cells.number least ∷ int 170141183460469231731687303715884105727 ∷ []) ≡ true ∷ false ∷ false ∷ true ∷ false ∷ []
signed_numbers = refl
