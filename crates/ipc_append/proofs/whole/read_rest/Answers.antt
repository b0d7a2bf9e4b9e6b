use Rattle.std.proofs.Common.{refl, ◌∙◌}
use Rattle.ipc_append.proofs.WholeSteps.{all_read_of, kept_since, memory_handed, memory_wanted, none_kept, none_read_of, one_read_of, read_refused}
use Rattle.ipc_append.proofs.whole.read_rest.Goals as goal

pub loop-init : goal.loop-init
loop-init g c = (none_read_of _ _ _ c.new-batches.ensures.items c.requires.more, none_kept _ _ _, refl)

pub returns-in_err-batch-clause-gives : goal.returns-in_err-batch-clause-gives
returns-in_err-batch-clause-gives g c = read_refused _ _ _ _ _ _ _ c.in_err-batch.field-0.0 c.from_residual.result c.from_residual.ensures.1 c.loop.invariant.0 c.in_err-batch.ensures.gives

pub returns-in_err-push-in-Some-clause-gives : goal.returns-in_err-push-in-Some-clause-gives
returns-in_err-push-in-Some-clause-gives g c = memory_handed _ _ _ c.from_residual-in_err-push-in-Some.result c.from_residual-in_err-push-in-Some.ensures.1 refl

pub returns-in-None-clause-gives : goal.returns-in-None-clause-gives
returns-in-None-clause-gives g c = all_read_of _ _ _ _ _ _ _ _ c.in-None.is c.loop.invariant.0 c.in_ok-batch.ensures.gives

pub loop-preserved : goal.loop-preserved
loop-preserved g c = (one_read_of _ _ _ _ _ _ _ _ _ c.in-Some.batch c.in-Some.is c.in_ok-push-in-Some.ensures.items c.loop.invariant.0 c.in_ok-batch.ensures.gives, kept_since _ _ _ _ _ c.loop.invariant.1 c.in_ok-batch.ensures.kept, c.in_ok-batch.ensures.faults_stay ∙ c.loop.invariant.2)

pub returns-clause-gives : goal.returns-clause-gives
returns-clause-gives g c = memory_wanted _ _
