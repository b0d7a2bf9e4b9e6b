use Rattle.std.proofs.Common.{◌≡◌}
use Rattle.ipc_generate.specs.Arrays.{states_behind}
use Rattle.ipc_generate.specs.Table.{state}
use Rattle.ipc_generate.proofs.states.States.take.Given as goal

abbrev pub invariant-loop-row : goal.invariant-loop-row
invariant-loop-row l = record {
  at : l.self.at ≡ state l.fn.self.at l.row;
  states : l.states.items ≡ states_behind l.fn.self.at l.row;
}
