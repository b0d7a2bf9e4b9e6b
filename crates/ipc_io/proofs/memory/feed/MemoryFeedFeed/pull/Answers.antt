use Rattle.std.proofs.Common.{arith}
use Rattle.std.proofs.lemmas.Grind.{common_steps}
use Rattle.ipc_io.proofs.Pieces.{piece_off}
use Rattle.ipc_io.proofs.memory.feed.MemoryFeedFeed.pull.Goals as goal

pub returns-clause-bytes : goal.returns-clause-bytes
returns-clause-bytes c = (
  grind (arith, common_steps, piece_off),
  λ h k. grind (arith, common_steps),
)
