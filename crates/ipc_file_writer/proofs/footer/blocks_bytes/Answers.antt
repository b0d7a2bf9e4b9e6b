use Rattle.std.proofs.Common.{ap, arith, map, ◌∙◌}
use Rattle.std.specs.List.{flat_map}
use Rattle.std.proofs.lemmas.List.{take_all}
use Rattle.arrow_spec.specs.Footers.{block_bytes}
use Rattle.ipc_messages.specs.Below.{file_block}
use Rattle.ipc_file_writer.proofs.BlockBytes.{bytes_more}
use Rattle.ipc_file_writer.proofs.footer.blocks_bytes.Goals as goal

pub put_block-requires : goal.put_block-requires
put_block-requires c = c.requires c.loop-block.block-index _ c.loop-block-test.true

pub loop-block-preserved : goal.loop-block-preserved
loop-block-preserved c =
    bytes_more c.args.blocks.now c.loop-block.block-index _ c.loop-block.out.items c.put_block.new.out.items c.loop-block-test.true c.loop-block.invariant c.in_ok-put_block.ensures

pub returns : goal.returns
returns c = c.loop-block.invariant ∙ ap (λ xs. flat_map block_bytes (map file_block xs)) (take_all c.loop-block.block-index c.args.blocks.now (omega arith))
