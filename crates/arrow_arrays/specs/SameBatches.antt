-- When two record batches are the same: as many rows, the same schema, columns that hold the same, and the same pairs.
use Rattle.std.specs.Prelude.{◌≡◌, List, map}
use Rattle.arrow_arrays.specs.Batches.{Batch}
use Rattle.arrow_arrays.specs.BatchCode.{Holding}
use Rattle.arrow_arrays.specs.CellCode.{Content}
use Rattle.arrow_arrays.specs.Parts.{Parts, kind_in, cells_in}

-- what columns hold: their kinds and their cells
abbrev pub contents_in : List Parts → List Content
contents_in = map (λ p. (kind_in p, cells_in p))

pub record SameBatch (a b : Batch) : Type 0 where
  pub rows : a.height ≡ b.height
  pub schema : a.schema ≡ b.schema
  pub columns : contents_in a.arrays ≡ contents_in b.arrays
  pub custom : a.custom ≡ b.custom

-- all that a batch holds
abbrev pub holding_of : Batch → Holding
holding_of b = record { rows = b.height; schema = b.schema; columns = contents_in b.arrays; custom = b.custom }
