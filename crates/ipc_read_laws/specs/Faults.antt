-- Why an array at a place is refused, and how many bytes are fetched for it at most.
use Rattle.std.specs.Prelude.{ℕ, zero, suc, ◌+◌, List, [], ◌∷◌, ◌++◌}
use Rattle.arrow_spec.specs.declared.error.IpcError.{IpcError}
use Rattle.arrow_spec.specs.Kinds.{Kind}
use Rattle.arrow_spec.specs.Counts.{RecordBatch, Place, magnitude}
use Rattle.arrow_spec.specs.Arrays.{Dictionaries, range_of}
use Rattle.arrow_spec.specs.Faults.{count_faults, array_faults}
use Rattle.arrow_spec.specs.Needed.{looked_at}

-- its nodes, buffers or view counts are not all there, or the array is damaged
unfoldable pub read_faults : RecordBatch → Dictionaries → Kind → Place → ℕ → List IpcError
read_faults m d k p rows = count_faults m k p ++ array_faults m d k p rows

-- the stated length of the i-th buffer
abbrev pub stated : RecordBatch → ℕ → ℕ
stated m i = magnitude (range_of m i).length

-- the stated lengths of some buffers together
abbrev pub stated_of : RecordBatch → List ℕ → ℕ
stated_of m [] = 0
stated_of m (i ∷ is) = stated m i + stated_of m is

-- the stated lengths of the buffers that are looked at; none where there are no rows
abbrev pub fetched_at_most : RecordBatch → Kind → Place → ℕ → ℕ
fetched_at_most m k p zero = 0
fetched_at_most m k p (suc n) = stated_of m (looked_at m k p)
