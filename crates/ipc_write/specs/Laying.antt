-- What is laid so far, and the rows that are still to be laid.
use Rattle.std.specs.Prelude.{◌≡◌, ℕ, ◌<◌, ◌≤◌, ◌^◌, List, ◌++◌, length, true, false, Option, Some, None}
use Rattle.arrow_buffers.specs.Views.{Views, view_rows}
use Rattle.arrow_arrays.specs.LeafParts.{binary_views, text_views}
use Rattle.arrow_arrays.specs.Parts.{Parts, leaf}
use Rattle.ipc_write.specs.Compaction.{Laid, laid_from, laid_anew, value_length, views_need_compaction, compacted}

-- views, buffers and a buffer that is begun, and behind them n rows from one on
abbrev pub all_laid : Views → ℕ → ℕ → List ℕ → List (List ℕ) → List ℕ → Laid
all_laid p row n views buffers begun =
    let rest = laid_from p row (length buffers) begun n in
    record { views = views ++ rest.views; buffers = buffers ++ rest.buffers }

-- there is an array that is laid anew exactly where that is asked for
abbrev pub IsCompact : Views → Option Views → Type 0
IsCompact p None = views_need_compaction p ≡ false
IsCompact p (Some q) = (views_need_compaction p ≡ true) × (q ≡ compacted p)

-- the lengths of the values and the numbers of the buffers that are laid are numbers of 32 bits
pub record LaidFits (p : Views) : Type 0 where
  pub lengths : (row : ℕ) → row < view_rows p.views → value_length p row < 2 ^ 32
  pub buffers : length (laid_anew p).buffers ≤ 2 ^ 32

-- the same of the views of a column that are laid anew
abbrev pub ColumnFits : Parts → Type 0
ColumnFits (leaf (binary_views p)) = views_need_compaction p ≡ true → LaidFits p
ColumnFits (leaf (text_views p)) = views_need_compaction p ≡ true → LaidFits p
ColumnFits p = Unit
