-- Places behind one another in a record batch's tables, and what is missing between them. (Message.fbs, RecordBatch.)
use Rattle.std.specs.Prelude.{◌+◌, ◌-◌, ◌≤◌, List, ◌++◌, length, take, drop, nat_lt}
use Rattle.arrow_spec.specs.declared.error.IpcError.{IpcError}
use Rattle.arrow_spec.specs.declared.error.IpcError.TheVariants.{OutOfSpec}
use Rattle.arrow_spec.specs.declared.error.OutOfSpecKind.TheVariants.{MissingVariadicCount, UnexpectedNegativeInteger}
use Rattle.arrow_spec.specs.Kinds.{Fields}
use Rattle.arrow_spec.specs.Counts.{RecordBatch, Place, nodes_of, buffers_of, views_of}
use Rattle.arrow_spec.specs.Faults.{cause, some_negative, counts_faults}

-- the place behind several arrays, of which the first stands at a place
abbrev pub behind : RecordBatch → Fields → Place → Place
behind m fs p = record { node = p.node + nodes_of fs; buffer = p.buffer + buffers_of m.version m.variadic fs p.view; view = p.view + views_of fs }

-- one place stands behind another, or is the same
pub record IsBehind (p q : Place) : Type 0 where
  pub nodes : p.node ≤ q.node
  pub buffers : p.buffer ≤ q.buffer
  pub views : p.view ≤ q.view

-- nodes, buffers and view counts between two places are not all there, or one of the counts is negative
abbrev pub place_faults : RecordBatch → Place → Place → List IpcError
place_faults m p q = counts_faults m q ++ (cause (nat_lt (length m.variadic) q.view) (OutOfSpec MissingVariadicCount)
    ++ cause (some_negative (take (q.view - p.view) (drop p.view m.variadic))) (OutOfSpec UnexpectedNegativeInteger))
