use Rattle.ipc_unify.specs.Steps.{Same, lists_of}
use Rattle.ipc_unify.proofs.OverSteps.{PartsOver}
use Rattle.ipc_unify.proofs.over.parts_over.Given as goal

abbrev pub invariant-loop-part : goal.invariant-loop-part
invariant-loop-part l = record { over : PartsOver (lists_of l.fn.lists.items) l.parts l.number l.over.items l.part-index; same : Same l.fn.lists.items l.lists.items }
