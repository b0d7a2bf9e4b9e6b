use Rattle.std.proofs.Common.{arith, map}
use Rattle.std.proofs.lemmas.List.{length-map}
use Rattle.ipc_file_writer.specs.Blocks.{message_sizes}
use Rattle.ipc_file_writer.proofs.PlacedBlocks.{some_block}
use Rattle.ipc_file_writer.proofs.placing.chunk_blocks.Goals as goal

pub unreachable-requires : goal.unreachable-requires
unreachable-requires c =
    omega (arith, some_block c.args.at (map message_sizes c.args.messages.now) c.in_ok-placed.placed c.in_ok-placed.ensures, length-map c.args.messages.now message_sizes, c.in-None.ensures.cases, c.requires.batch)
