-- How many rows the children of an array are read for. (Arrow Columnar Format, "Physical Memory Layout".)
use Rattle.std.specs.Prelude.{ℕ, List, [], ◌∷◌}
use Rattle.arrow_spec.specs.Kinds.{Fields, none, field}
use Rattle.arrow_spec.specs.Counts.{RecordBatch, Place, magnitude, after}
use Rattle.arrow_spec.specs.Arrays.{node_of}
use Rattle.ipc_read.specs.declared.child_rows.ChildRows.{ChildRows}
use Rattle.ipc_read.specs.declared.child_rows.ChildRows.TheVariants.{Same, Stated}

-- the same for each, or as many as its node says
abbrev pub rows_by : ChildRows → RecordBatch → Place → ℕ
rows_by (Same n) m p = n
rows_by Stated m p = magnitude (node_of m p.node).length

-- those of each of some children that stand from a place on
abbrev pub rows_of_each : RecordBatch → Fields → Place → (Place → ℕ) → List ℕ
rows_of_each m none p rows = []
rows_of_each m (field name nullable metadata k others) p rows = rows p ∷ rows_of_each m others (after m k p) rows
