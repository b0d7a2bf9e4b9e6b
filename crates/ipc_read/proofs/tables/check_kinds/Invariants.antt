use Rattle.std.proofs.Common.{◌≡◌, drop, true}
use Rattle.std.specs.Prelude.{◌≤◌, length}
use Rattle.arrow_spec.specs.Features.{chosen_floats}
use Rattle.arrow_types.specs.Schemas.{fields_in}
use Rattle.ipc_read.specs.Batches.{are_column_kinds, are_carried_kinds}
use Rattle.ipc_read_laws.specs.Projection.{columns_of}
use Rattle.ipc_read.proofs.tables.check_kinds.Given as goal

abbrev pub invariant-loop-i : goal.invariant-loop-i
invariant-loop-i l = record {
  within : l.i ≤ length l.schema;
  floats : chosen_floats (columns_of l.projection) (fields_in l.schema) 0 ≡ chosen_floats (columns_of l.projection) (fields_in (drop l.i l.schema)) l.i;
  columns : are_column_kinds (columns_of l.projection) l.i (drop l.i l.schema) ≡ true;
  held : are_carried_kinds (columns_of l.projection) 0 l.schema ≡ are_carried_kinds (columns_of l.projection) l.i (drop l.i l.schema);
}
