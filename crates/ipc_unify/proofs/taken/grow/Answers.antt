use Rattle.std.proofs.Common.{◌≡◌, ◌∙◌, ◌+◌, ◌-◌, ◌<◌, ◌≤◌, ◌++◌, ◌∷◌, [], length, ap, arith, rules}
use Rattle.std.proofs.lemmas.List.{length-append}
use Rattle.ipc_unify.specs.Steps.{lists_of}
use Rattle.ipc_unify.proofs.ListSteps.{kept_more, lists_more}
use Rattle.ipc_unify.proofs.taken.grow.Goals as goal

pub loop-alloc-preserved : goal.loop-alloc-preserved
loop-alloc-preserved c =
    let ls = c.loop-alloc.lists.items in
    let l = c.new.result in
    let grown : c.push.new.self.items ≡ ls ++ l ∷ [] = search (rules, c.in_ok-push.ensures.items) in
    record {
      same = ap lists_of grown ∙ lists_more ls l c.new.ensures.parts ∙ c.loop-alloc.invariant.same;
      kept = kept_more ls c.push.new.self.items l c.loop-alloc.invariant.kept c.new.ensures.kept grown;
    }
