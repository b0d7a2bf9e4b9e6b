use Rattle.std.proofs.Common.{arith}
use Rattle.arrow_arrays.specs.PartsOf.{all_parts_of}
use Rattle.ipc_write_arrays.specs.OutputsOf.{outputs_of}
use Rattle.ipc_write_arrays.proofs.Adding.{if_ok}
use Rattle.ipc_write.proofs.Messages.{batch_planned, many_rows}
use Rattle.ipc_write.proofs.Meanings.{batch_means}
use Rattle.ipc_write.proofs.ViewCounts.{columns_fit}
use Rattle.ipc_write.proofs.encode.batch_plan.Goals as goal

pub returns-then-rows-gt-MOST_ROWS-clause-makes : goal.returns-then-rows-gt-MOST_ROWS-clause-makes
returns-then-rows-gt-MOST_ROWS-clause-makes c = many_rows c.args.limit c.args.batch.now (omega (arith, c.height-rows.ensures.rows, c.if-rows-gt-MOST_ROWS.true))

pub returns-clause-makes : goal.returns-clause-makes
returns-clause-makes c =
    batch_planned c.message_plan.result c.args.limit c.height-rows.result c.args.batch.now (outputs_of c.in_ok-columns.columns) (all_parts_of c.arrays.result.now) c.custom_metadata.result c.height-rows.ensures.rows c.arrays.ensures c.custom_metadata.ensures.pairs c.in_ok-columns.ensures.planned c.message_plan.ensures.makes

pub returns-clause-may : goal.returns-clause-may
returns-clause-may c =
    let ps = all_parts_of c.arrays.result.now in
    let b = c.args.batch.now in
    let means = batch_means c.height-rows.result ps b c.height-rows.ensures.rows c.arrays.ensures c.in_ok-columns.ensures.means in
    if_ok c.message_plan.result (λ fit. record {
      means = means;
      nodes = columns_fit ps b.arrays (outputs_of c.in_ok-columns.columns) c.arrays.ensures c.in_ok-columns.ensures.planned fit;
      whole = c.is_whole.ensures;
    }) c.message_plan.ensures.fit
