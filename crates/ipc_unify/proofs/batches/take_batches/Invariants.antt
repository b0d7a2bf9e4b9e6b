use Rattle.std.proofs.Common.{◌≡◌, drop, take}
use Rattle.laws_unify.specs.Stands.{AreSound}
use Rattle.laws_unify.specs.United.{taken_batches}
use Rattle.ipc_unify.specs.Steps.{AreKept, lists_of}
use Rattle.ipc_unify.proofs.batches.take_batches.Given as goal

abbrev pub invariant-loop-batch : goal.invariant-loop-batch
invariant-loop-batch l = record {
  walk : taken_batches (drop l.batch-index l.batches) (lists_of l.lists.items) ≡ taken_batches l.batches (lists_of l.fn.lists.items);
  kept : AreKept l.lists.items;
  sound : AreSound (take l.batch-index l.batches);
}
