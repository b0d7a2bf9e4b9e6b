use Rattle.std.proofs.Common.{◌≤◌, ◌-◌, ◌^◌}
use Rattle.ipc_tool.proofs.Digits.{Taken}
use Rattle.ipc_tool.proofs.input.decode_feed.Given as goal

abbrev pub invariant-pieces : goal.invariant-pieces
invariant-pieces g l = record {
  taken : Taken (g.I.Feed.rest l.fn.input) (g.I.Feed.rest l.input) l.taken l.decoder;
  short : l.taken ≤ 2 ^ 27;
  reads : g.I.Feed.faults l.fn.input ≤ g.I.Feed.faults l.input;
}

abbrev pub decreases-pieces : goal.decreases-pieces
decreases-pieces g l = 2 ^ 27 - l.taken
