use Rattle.std.proofs.Common.{◌≡◌, None, rules}
use Rattle.ipc_write_arrays.proofs.Adding.{if_ok}
use Rattle.ipc_write.proofs.Meanings.{all_cells}
use Rattle.ipc_write.proofs.Messages.{plans_made}
use Rattle.ipc_write.proofs.encode.plan_any_batch.Goals as goal

pub returns-clause-plans : goal.returns-clause-plans
returns-clause-plans c =
    let none : c.args.options.now.compression ≡ None = search rules in
    plans_made c.batch_plan.result c.args.options.now c.args.batch.now none c.batch_plan.ensures.makes

pub returns-clause-cells : goal.returns-clause-cells
returns-clause-cells c = if_ok c.batch_plan.result (λ may. all_cells c.args.batch.now.height c.args.batch.now.arrays may.means) c.batch_plan.ensures.may
