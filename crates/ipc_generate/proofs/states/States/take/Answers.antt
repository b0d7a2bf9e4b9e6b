use Rattle.std.proofs.Common.{◌∙◌}
use Rattle.ipc_generate.proofs.Recurrence.{no_states, none_behind, one_behind, one_state}
use Rattle.ipc_generate.proofs.states.States.take.Goals as goal

pub loop-row-init : goal.loop-row-init
loop-row-init c = record {
  at = none_behind c.args.self.now.at;
  states = no_states c.args.self.now.at c.reserve.new.self.items (c.in_ok-reserve.ensures.items ∙ c.new-states.ensures.items);
}

pub loop-row-preserved : goal.loop-row-preserved
loop-row-preserved c =
    let at = one_behind c.args.self.now.at c.loop-row.self.at c.step-self.result c.loop-row.row c.loop-row.invariant.at c.step-self.ensures in
    record {
      at = at;
      states = one_state c.args.self.now.at c.step-self.result c.loop-row.row c.loop-row.states.items c.push.new.self.items c.loop-row.invariant.states at c.in_ok-push.ensures.items;
    }
