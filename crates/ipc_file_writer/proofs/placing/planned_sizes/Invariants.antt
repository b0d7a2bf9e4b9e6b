use Rattle.std.proofs.Common.{◌≡◌, map, take}
use Rattle.ipc_messages.specs.Messages.{planned_sizes}
use Rattle.ipc_file_writer.specs.Blocks.{message_sizes}
use Rattle.ipc_file_writer.proofs.placing.planned_sizes.Given as goal

abbrev pub invariant-loop-message : goal.invariant-loop-message
invariant-loop-message l = map message_sizes l.sizes.items ≡ map planned_sizes (take l.message-index l.messages)
