-- The texts of the rows of some arrays.
use Rattle.std.specs.Prelude.{ℕ, zero, suc, List, [], ◌∷◌, ◌++◌}
use Rattle.csv.specs.Writing.{default_writer, row_text}
use Rattle.arrow_types.specs.Child.{Child}
use Rattle.arrow_types.specs.Schemas.{Keyed}
use Rattle.arrow_arrays.specs.Parts.{Parts, kind_in}
use Rattle.csv_texts.specs.Texts.{cell_text}
use Rattle.csv_rows.specs.Values.{cell_at}

-- of each array the text of its cell in a row
abbrev pub shown_cells : List Parts → ℕ → List (List ℕ)
shown_cells [] row = []
shown_cells (p ∷ ps) row = cell_text (kind_in p) (cell_at p row) ∷ shown_cells ps row

-- so many rows from one on
abbrev pub shown_rows : List Parts → ℕ → ℕ → List ℕ
shown_rows ps row zero = []
shown_rows ps row (suc n) = row_text default_writer (shown_cells ps row) ++ shown_rows ps (suc row) n

-- the names of the fields of a schema
abbrev pub shown_names : List Keyed → List (List ℕ)
shown_names [] = []
shown_names (p ∷ ps) = p.1.name ∷ shown_names ps
