use Rattle.std.proofs.Common.{◌≡◌, drop}
use Rattle.ipc_append.specs.Places.{farthest}
use Rattle.ipc_append.proofs.ends.farthest.Given as goal

abbrev pub invariant-loop-block : goal.invariant-loop-block
invariant-loop-block l = farthest l.end (drop l.block-index l.blocks) ≡ farthest l.place l.blocks
