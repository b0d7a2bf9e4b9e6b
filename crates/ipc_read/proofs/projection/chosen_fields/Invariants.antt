use Rattle.std.proofs.Common.{◌≡◌, ◌++◌, ◌≤◌, drop, length}
use Rattle.ipc_read_laws.specs.Projection.{chosen, columns_of}
use Rattle.ipc_read.proofs.projection.chosen_fields.Given as goal

abbrev pub invariant-loop-i : goal.invariant-loop-i
invariant-loop-i l = record {
  copied : l.columns ++ chosen (columns_of l.projection) l.i (drop l.i l.schema) ≡ chosen (columns_of l.projection) 0 l.schema;
  within : l.i ≤ length l.schema;
}
