-- What is read back of a stream.
use Rattle.std.specs.Prelude.{◌≡◌, List, [], ◌∷◌, ℕ, Option, Some, None}
use Rattle.arrow_spec.specs.Files.{ArrowTable}
use Rattle.arrow_spec.specs.Streams.{closed, stream_table}
use Rattle.arrow_arrays.specs.Batches.{Batch}
use Rattle.arrow_arrays.specs.Parts.{Parts}
use Rattle.ipc_transcode.specs.Below.{IsSummary}
use Rattle.ipc_transcode.specs.Below.{Summary}

-- a stream that is closed means a table, of which the summary has the numbers
pub record IsStreamOfTable (t : ArrowTable) (s : Summary) (x : List ℕ) : Type 0 where
  pub is_closed : closed x
  pub says : stream_table x None ≡ Some t
  pub summary : IsSummary s t x

-- the first column of the first batch
abbrev pub first_column : List Parts → Option Parts
first_column [] = None
first_column (p ∷ ps) = Some p

abbrev pub first_parts : List Batch → Option Parts
first_parts [] = None
first_parts (b ∷ bs) = first_column b.arrays
