use Rattle.std.specs.Vec.Iter.{into_iter_items}
use Rattle.ipc_unify.specs.Steps.{Same, lists_of}
use Rattle.ipc_unify.proofs.BatchSteps.{BatchesOver}
use Rattle.ipc_unify.proofs.batches.batches_over.Given as goal

abbrev pub invariant-loop-batch : goal.invariant-loop-batch
invariant-loop-batch l = record { over : BatchesOver (lists_of l.fn.lists.items) l.fn.batches.items l.over.items (into_iter_items l.batch-iterator); same : Same l.fn.lists.items l.lists.items }
