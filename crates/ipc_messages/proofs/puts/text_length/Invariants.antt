use Rattle.std.proofs.Common.{◌≡◌, ◌≤◌, ◌+◌, ◌*◌, ◌^◌, map, take}
use Rattle.ipc_messages.specs.Messages.{planned_sizes, total}
use Rattle.ipc_messages.proofs.puts.text_length.Given as goal

abbrev pub invariant-loop-message : goal.invariant-loop-message
invariant-loop-message l = record {
  total : l.length ≡ total (map planned_sizes (take l.message-index l.messages));
  few : l.length ≤ l.message-index * (2 ^ 64 + 2 ^ 63);
}
