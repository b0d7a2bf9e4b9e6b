use Rattle.std.proofs.Common.{◌≡◌, drop}
use Rattle.arrow_arrays.specs.PartsOf.{all_parts_of}
use Rattle.ipc_write_arrays.specs.OutputsOf.{outputs_of}
use Rattle.ipc_write.specs.Encoding.{no_outputs, added, AllMean}
use Rattle.ipc_write.proofs.columns.plan_columns.Given as goal

abbrev pub invariant-loop-array : goal.invariant-loop-array
invariant-loop-array l = record {
  planned : added (all_parts_of (drop l.array-index l.arrays)) (outputs_of l.columns) ≡ added (all_parts_of l.arrays) no_outputs;
  means : AllMean l.height (all_parts_of (drop l.array-index l.arrays)) → AllMean l.height (all_parts_of l.arrays);
}
