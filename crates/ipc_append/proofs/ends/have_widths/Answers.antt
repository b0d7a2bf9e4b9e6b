use Rattle.std.proofs.Common.{arith}
use Rattle.ipc_append.proofs.Places.{all_wide, one_wide}
use Rattle.ipc_append.proofs.ends.have_widths.Goals as goal

pub loop-block-init : goal.loop-block-init
loop-block-init c = λ h. h

pub loop-block-preserved : goal.loop-block-preserved
loop-block-preserved c = one_wide c.args.blocks.now c.loop-block.block-index _ c.loop-block-test.true c.has_width.ensures c.loop-block.invariant

pub returns : goal.returns
returns c = all_wide c.args.blocks.now c.loop-block.block-index (omega arith) c.loop-block.invariant
