use Rattle.std.proofs.Common.{◌≡◌, map, take}
use Rattle.ipc_messages.specs.Framed.{framed_sizes}
use Rattle.ipc_file_writer.specs.Blocks.{message_sizes}
use Rattle.ipc_file_writer.proofs.placing.framed_sizes.Given as goal

abbrev pub invariant-loop-message : goal.invariant-loop-message
invariant-loop-message l = map message_sizes l.sizes.items ≡ map framed_sizes (take l.message-index l.messages)
