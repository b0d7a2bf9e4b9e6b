use Rattle.std.proofs.Common.{◌+◌, ap, arith, drop, ◌∙◌}
use Rattle.ipc_append.proofs.Places.{all_done, one_more, one_refused}
use Rattle.ipc_append.specs.Places.{Tells, farthest}
use Rattle.ipc_file_writer.proofs.Below.{handed}
use Rattle.ipc_append.proofs.ends.farthest.Goals as goal

pub returns-in_err-behind : goal.returns-in_err-behind
returns-in_err-behind c =
    let e = c.in_err-behind.field-0.0 in
    handed (λ r. Tells r (farthest c.args.place c.args.blocks.now)) c.from_residual.result e c.from_residual.ensures.1
    (one_refused e c.loop-block.end c.args.place c.args.blocks.now c.loop-block.block-index _ c.loop-block-test.true c.in_err-behind.ensures c.loop-block.invariant)

pub loop-block-preserved : goal.loop-block-preserved
loop-block-preserved c =
    ap (λ n. farthest n (drop (c.loop-block.block-index + 1) c.args.blocks.now)) c.max-end.ensures
    ∙ one_more c.loop-block.end c.args.place c.args.blocks.now c.loop-block.block-index _ c.in_ok-behind.behind c.loop-block-test.true c.in_ok-behind.ensures c.loop-block.invariant

pub returns : goal.returns
returns c = all_done c.loop-block.end c.args.place c.args.blocks.now c.loop-block.block-index (omega arith) c.loop-block.invariant
