use Rattle.std.proofs.Common.{◌≡◌, ◌++◌, ◌∷◌, [], length, ap, ◌∙◌, arith, length-append}
use Rattle.std.specs.Option.{option_to_list}
use Rattle.ipc_dictionaries.specs.Changes.{undone}
use Rattle.ipc_dictionaries.specs.Tracker.{held_in}
use Rattle.ipc_dictionaries.proofs.ChangeSteps.{last_stands, one_fewer, all_undone}
use Rattle.ipc_dictionaries.proofs.changes.undo.Goals as goal

pub give_back-requires : goal.give_back-requires
give_back-requires c =
    let more = c.pop.new.self.items in
    last_stands more c.loop-turn.changes.items c.in-Some.change (held_in c.loop-turn.dictionaries) (c.pop.ensures.items ∙ ap (λ o. more ++ option_to_list o) c.in-Some.is) c.loop-turn.invariant.can

pub loop-turn-preserved : goal.loop-turn-preserved
loop-turn-preserved c =
    let more = c.pop.new.self.items in
    let change = c.in-Some.change in
    let e = c.pop.ensures.items ∙ ap (λ o. more ++ option_to_list o) c.in-Some.is in
    let both = one_fewer more c.loop-turn.changes.items change (held_in c.loop-turn.dictionaries) (held_in c.give_back.new.dictionaries) (λ q. undone c.args.changes.items (held_in c.args.dictionaries.now) q) e c.give_back.ensures c.loop-turn.invariant.can c.loop-turn.invariant.given in
    record {
      can = both.0;
      given = both.1;
      left = omega (arith, c.loop-turn.invariant.left, ap length e, length-append more (change ∷ []));
    }

pub unreachable-requires : goal.unreachable-requires
unreachable-requires c = omega (arith, c.loop-turn.invariant.left, c.in-None.ensures.cases, c.loop-turn-test.true)

pub returns : goal.returns
returns c =
    let none : length c.loop-turn.changes.items ≡ 0 = omega (arith, c.loop-turn.invariant.left, c.loop-turn-test.false) in
    all_undone c.loop-turn.changes.items (held_in c.loop-turn.dictionaries) (λ q. undone c.args.changes.items (held_in c.args.dictionaries.now) q) none c.loop-turn.invariant.given
