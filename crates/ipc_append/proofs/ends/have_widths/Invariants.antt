use Rattle.std.proofs.Common.{drop}
use Rattle.ipc_append.specs.Places.{HaveWidths}
use Rattle.ipc_append.proofs.ends.have_widths.Given as goal

abbrev pub invariant-loop-block : goal.invariant-loop-block
invariant-loop-block l = HaveWidths (drop l.block-index l.blocks) → HaveWidths l.blocks
