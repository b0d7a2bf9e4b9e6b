-- What is asked of a cursor over the record batches of a file, and where a call leaves it.
use Rattle.std.specs.Prelude.{ℕ, ◌+◌, Option, Some, None, Result, Ok, Err}
use Rattle.arrow_spec.specs.declared.error.IpcError.{IpcError}
use Rattle.arrow_spec.specs.Files.{what_is_left}
use Rattle.arrow_arrays.specs.Batches.{Batch}

-- what is left of a limit behind a call: less by the rows of the batch that it gave
abbrev pub left_after : Option ℕ → Option (Result Batch IpcError) → Option ℕ
left_after left None = left
left_after left (Some (Ok x)) = what_is_left left x.height
left_after left (Some (Err e)) = left

-- the current block behind a call: the next one, unless there was none to read
abbrev pub block_after : {X : Type 0} → ℕ → Option X → ℕ
block_after block None = block
block_after block (Some x) = block + 1
