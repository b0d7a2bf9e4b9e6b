use Rattle.std.proofs.Common.{◌≡◌, ◌++◌, ◌∷◌, [], arith, rules}
use Rattle.std.proofs.lemmas.Grind.{common_steps}
use Rattle.std.specs.Vec.Iter.{into_iter_items}
use Rattle.laws_unify.specs.Over.{Lists}
use Rattle.ipc_unify.specs.Steps.{lists_of}
use Rattle.ipc_unify.proofs.BatchSteps.{batch_next, batches_begin, batches_done, batches_more}
use Rattle.ipc_unify.proofs.OverSteps.{refused_by, same_itself, same_through}
use Rattle.ipc_unify.proofs.batches.batches_over.Goals as goal

pub loop-batch-init : goal.loop-batch-init
loop-batch-init c = record { over = batches_begin (lists_of c.args.lists.now.items) c.args.batches.items c.new-over.result.items _ c.new-over.ensures.items c.into_iter-batch-iterator.ensures.into_iter_gives.0 c.requires.may; same = same_itself c.args.lists.now.items c.requires.kept }

pub over_lists-requires-clause-stands : goal.over_lists-requires-clause-stands
over_lists-requires-clause-stands c =
    let inv = c.loop-batch.invariant in
    let next : into_iter_items c.loop-batch.batch-iterator ≡ c.in-Some.batch ∷ into_iter_items c.next.new.self = c.in-Some.ensures.steps.0 in
    (batch_next (lists_of c.args.lists.now.items) (lists_of c.loop-batch.lists.items) c.args.batches.items c.loop-batch.over.items _ _ c.in-Some.batch inv.same.lists inv.over next).stands

pub over_lists-requires-clause-sound : goal.over_lists-requires-clause-sound
over_lists-requires-clause-sound c =
    let inv = c.loop-batch.invariant in
    let next : into_iter_items c.loop-batch.batch-iterator ≡ c.in-Some.batch ∷ into_iter_items c.next.new.self = c.in-Some.ensures.steps.0 in
    (batch_next (lists_of c.args.lists.now.items) (lists_of c.loop-batch.lists.items) c.args.batches.items c.loop-batch.over.items _ _ c.in-Some.batch inv.same.lists inv.over next).sound

pub returns-in_err-over_lists-clause-refused : goal.returns-in_err-over_lists-clause-refused
returns-in_err-over_lists-clause-refused c =
    let inv = c.loop-batch.invariant in
    let next : into_iter_items c.loop-batch.batch-iterator ≡ c.in-Some.batch ∷ into_iter_items c.next.new.self = c.in-Some.ensures.steps.0 in
    refused_by c.from_residual.result c.in_err-over_lists.field-0.0 _ _ c.from_residual.ensures.1
    (batch_next (lists_of c.args.lists.now.items) (lists_of c.loop-batch.lists.items) c.args.batches.items c.loop-batch.over.items _ _ c.in-Some.batch inv.same.lists inv.over next).large c.in_err-over_lists.ensures.refused

pub loop-batch-preserved : goal.loop-batch-preserved
loop-batch-preserved c =
    let inv = c.loop-batch.invariant in
    let next : into_iter_items c.loop-batch.batch-iterator ≡ c.in-Some.batch ∷ into_iter_items c.next.new.self = c.in-Some.ensures.steps.0 in
    let new = c.in_ok-over_lists.field-0 in
    let grown : c.push.new.self.items ≡ c.loop-batch.over.items ++ new ∷ [] = search (rules, c.in_ok-push.ensures.items) in
    record {
      over = batches_more (lists_of c.args.lists.now.items) (lists_of c.loop-batch.lists.items) c.args.batches.items c.loop-batch.over.items _ _ c.push.new.self.items c.in-Some.batch new inv.same.lists inv.over next c.in_ok-over_lists.ensures.batch c.in_ok-over_lists.ensures.fits grown;
      same = same_through c.args.lists.now.items c.loop-batch.lists.items c.over_lists.new.lists.items inv.same c.in_ok-over_lists.ensures.same;
    }

pub returns-clause-batches : goal.returns-clause-batches
returns-clause-batches c =
    let none_left : into_iter_items c.loop-batch.batch-iterator ≡ [] = grind (arith, common_steps) in
    (batches_done (lists_of c.args.lists.now.items) c.args.batches.items c.loop-batch.over.items _ c.loop-batch.invariant.over none_left).batches

pub returns-clause-fits : goal.returns-clause-fits
returns-clause-fits c =
    let none_left : into_iter_items c.loop-batch.batch-iterator ≡ [] = grind (arith, common_steps) in
    (batches_done (lists_of c.args.lists.now.items) c.args.batches.items c.loop-batch.over.items _ c.loop-batch.invariant.over none_left).large
