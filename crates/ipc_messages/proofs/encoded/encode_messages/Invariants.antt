use Rattle.std.proofs.Common.{map, drop}
use Rattle.ipc_dictionaries.specs.Walks.{to_send}
use Rattle.ipc_messages.proofs.MessageSteps.{IsLeft}
use Rattle.ipc_messages.proofs.encoded.encode_messages.Given as goal

abbrev pub invariant-loop-message : goal.invariant-loop-message
invariant-loop-message l = IsLeft l.options l.encoded.items (map to_send (drop l.message-index l.messages)) (map to_send l.messages)
