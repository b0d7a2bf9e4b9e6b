use Rattle.std.proofs.Common.{arith, inr, map}
use Rattle.std.proofs.lemmas.List.{take_all}
use Rattle.ipc_messages.proofs.Below.{handed}
use Rattle.ipc_file_writer.specs.Blocks.{PlacesAll, message_sizes}
use Rattle.ipc_file_writer.proofs.PlacedBlocks.{all_blocks, no_blocks, one_less, one_more}
use Rattle.ipc_file_writer.proofs.placing.placed_messages.Goals as goal

pub loop-sizes-init : goal.loop-sizes-init
loop-sizes-init c = no_blocks c.args.at c.args.messages.now _ c.requires c.in_ok-blocks.ensures.items

pub place_block-requires : goal.place_block-requires
place_block-requires c = c.loop-sizes.invariant.place

pub loop-sizes-preserved : goal.loop-sizes-preserved
loop-sizes-preserved c =
    one_more c.args.at c.args.messages.now c.loop-sizes.sizes-index _ c.loop-sizes.blocks.items c.push.new.self.items c.loop-sizes.end c.in_ok-placed.placed
    c.loop-sizes-test.true c.in_ok-placed.ensures c.in_ok-push.ensures.items c.loop-sizes.invariant

pub returns-in_err-placed : goal.returns-in_err-placed
returns-in_err-placed c =
    let ms = c.args.messages.now in
    let e = c.in_err-placed.field-0.0 in
    handed (λ r. PlacesAll r c.args.at (map message_sizes ms)) c.from_residual-in_err-placed.result e c.from_residual-in_err-placed.ensures.1
    (inr (
      c.in_err-placed.ensures.0,
      one_less c.args.at ms c.loop-sizes.sizes-index _ c.loop-sizes.blocks.items c.loop-sizes.end c.loop-sizes-test.true
          c.in_err-placed.ensures.1 c.loop-sizes.invariant,
    ))

pub returns : goal.returns
returns c =
    all_blocks c.args.at c.args.messages.now c.loop-sizes.sizes-index _ (take_all c.loop-sizes.sizes-index c.args.messages.now (omega arith)) c.loop-sizes.invariant
