use Rattle.ipc_file_writer.proofs.PlacedBlocks.{HaveBlocks}
use Rattle.ipc_file_writer.proofs.placing.placed_messages.Given as goal

abbrev pub invariant-loop-sizes : goal.invariant-loop-sizes
invariant-loop-sizes l = HaveBlocks l.at l.messages l.sizes-index l.blocks.items l.end
