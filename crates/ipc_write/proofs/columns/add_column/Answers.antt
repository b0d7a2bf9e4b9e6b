use Rattle.arrow_arrays.specs.PartsOf.{parts_of}
use Rattle.ipc_write.proofs.Meanings.{may_little, top_means}
use Rattle.ipc_write.proofs.columns.add_column.Goals as goal

pub plan-requires-clause-order : goal.plan-requires-clause-order
plan-requires-clause-order c = may_little (parts_of c.args.array.now)

pub plan-added-requires-clause-order : goal.plan-added-requires-clause-order
plan-added-requires-clause-order c = may_little (parts_of c.in-Some.compacted)

pub returns-clause-means : goal.returns-clause-means
returns-clause-means c =
    let stands = rw c.in-Some.is at c.in_ok-compacted.ensures.top in
    top_means c.plan-added.result (parts_of c.args.array.now) (parts_of c.in-Some.compacted) c.len-rows.ensures.sound c.in_ok-compacted.ensures.fits stands.0 c.plan-added.ensures.means
