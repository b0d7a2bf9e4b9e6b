-- The data buffers that a count says, as they stand behind one another.
use Rattle.std.specs.Prelude.{ℕ, zero, suc, ◌+◌, List, [], length, nat_lt}
use Rattle.arrow_spec.specs.declared.error.IpcError.{IpcError}
use Rattle.arrow_spec.specs.declared.error.IpcError.TheVariants.{OutOfSpec}
use Rattle.arrow_spec.specs.declared.error.OutOfSpecKind.TheVariants.{ExpectedBuffer}
use Rattle.arrow_spec.specs.Counts.{RecordBatch}
use Rattle.arrow_spec.specs.Arrays.{buf, from_on}
use Rattle.arrow_spec.specs.Faults.{cause, if_sound, ranges_faults}
use Rattle.ipc_read.specs.Sources.{faults_where}

-- they are not all there, or where there are rows one of them leaves the body
abbrev pub data_causes : RecordBatch → ℕ → ℕ → ℕ → List IpcError
data_causes m i rows count = if_sound (cause (nat_lt (length m.buffers) (i + count)) (OutOfSpec ExpectedBuffer)) (faults_where rows (ranges_faults m i count))

-- their bytes; none are read where there are no rows
abbrev pub data_of : RecordBatch → ℕ → ℕ → ℕ → List (List ℕ)
data_of m i zero count = []
data_of m i (suc n) count = from_on (buf m) i count
