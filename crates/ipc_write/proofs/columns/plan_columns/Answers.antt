use Rattle.std.proofs.Common.{◌+◌, drop, ap, arith}
use Rattle.arrow_arrays.specs.PartsOf.{parts_of, all_parts_of}
use Rattle.ipc_write_arrays.specs.OutputsOf.{outputs_of}
use Rattle.ipc_write.specs.Encoding.{no_outputs, added}
use Rattle.ipc_write.proofs.ColumnSteps.{next_parts, next_added, height_of, columns_done}
use Rattle.ipc_write.proofs.Meanings.{next_means, means_done}
use Rattle.ipc_write.proofs.columns.plan_columns.Goals as goal

pub add_column-requires : goal.add_column-requires
add_column-requires c = omega (arith, height_of c.args.arrays.now c.loop-array.array-index c.array-item.result c.args.height c.array-item.is c.loop-array-test.true c.requires.heights, c.requires.few)

pub loop-array-preserved : goal.loop-array-preserved
loop-array-preserved c =
    let xs = c.args.arrays.now in
    let i = c.loop-array.array-index in
    let x = c.array-item.result in
    record {
      planned = next_added (all_parts_of (drop i xs)) (all_parts_of (drop (i + 1) xs)) (parts_of x) (outputs_of c.loop-array.columns) (outputs_of c.add_column.new.columns) (added (all_parts_of xs) no_outputs) (next_parts xs i x c.array-item.is c.loop-array-test.true) c.in_ok-add_column.ensures.adds c.loop-array.invariant.planned;
      means = next_means xs i x c.args.height c.array-item.is c.loop-array-test.true c.requires.heights c.in_ok-add_column.ensures.means c.loop-array.invariant.means;
    }

pub returns-clause-planned : goal.returns-clause-planned
returns-clause-planned c = columns_done c.args.arrays.now c.loop-array.array-index (outputs_of c.loop-array.columns) (omega arith) c.loop-array.invariant.planned

pub returns-clause-means : goal.returns-clause-means
returns-clause-means c = means_done c.args.arrays.now c.loop-array.array-index c.args.height (omega arith) c.loop-array.invariant.means

pub loop-array-init : goal.loop-array-init
loop-array-init c = record { planned = ap (added (all_parts_of c.args.arrays.now)) c.new-columns.ensures; means = λ h. h }
