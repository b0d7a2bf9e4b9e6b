-- The columns of a record batch, one after another.
use Rattle.std.specs.Prelude.{ℕ, List, [], ◌∷◌}
use Rattle.arrow_spec.specs.Kinds.{Fields, none, field}
use Rattle.arrow_spec.specs.Counts.{RecordBatch, Place, after}
use Rattle.arrow_arrays.specs.Parts.{Parts}
use Rattle.ipc_read_laws.specs.Held.{Held}
use Rattle.ipc_read_laws.specs.PartsRead.{parts_read}

-- the parts of columns that stand from a place on
abbrev pub columns_read : RecordBatch → Held → Fields → Place → ℕ → List Parts
columns_read m h none p rows = []
columns_read m h (field name nullable metadata k others) p rows = parts_read m h k p rows ∷ columns_read m h others (after m k p) rows
