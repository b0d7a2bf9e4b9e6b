use Rattle.std.proofs.Common.{◌≡◌, ◌∙◌, ◌≤◌, length, take, sym, ap, subst, arith}
use Rattle.std.proofs.lemmas.List.{take_all}
use Rattle.arrow_arrays.specs.Parts.{forest}
use Rattle.laws_unify.specs.Stands.{AreSound}
use Rattle.laws_unify.specs.United.{taken_each}
use Rattle.ipc_unify.specs.Steps.{lists_of}
use Rattle.ipc_unify.proofs.BatchSteps.{batch_taken, batches_taken, next_sound}
use Rattle.ipc_unify.proofs.batches.take_batches.Goals as goal

pub loop-batch-preserved : goal.loop-batch-preserved
loop-batch-preserved c =
    let bs = c.args.batches.now in
    let i = c.loop-batch.batch-index in
    let b = c.batch-item.result in
    let inv = c.loop-batch.invariant in
    let us = lists_of c.loop-batch.lists.items in
    record {
      walk = batch_taken bs i b us (lists_of c.take_arrays.new.lists.items) _ c.loop-batch-test.true c.batch-item.is (c.in_ok-take_arrays.ensures.lists ∙ ap (λ ps. taken_each (forest ps) 0 us) c.columns.ensures) inv.walk;
      kept = c.in_ok-take_arrays.ensures.kept;
      sound = next_sound bs i b c.loop-batch-test.true c.batch-item.is inv.sound c.height-rows.ensures.sound;
    }

pub returns-clause-lists : goal.returns-clause-lists
returns-clause-lists c = batches_taken c.args.batches.now c.loop-batch.batch-index (lists_of c.loop-batch.lists.items) _ (omega (arith, c.loop-batch-test.false)) c.loop-batch.invariant.walk

pub returns-clause-sound : goal.returns-clause-sound
returns-clause-sound c = subst AreSound (take_all c.loop-batch.batch-index c.args.batches.now (omega (arith, c.loop-batch-test.false))) c.loop-batch.invariant.sound
