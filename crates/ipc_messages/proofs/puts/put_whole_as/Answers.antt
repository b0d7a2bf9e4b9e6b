use Rattle.std.proofs.Common.{◌≡◌}
use Rattle.ipc_messages.proofs.Putting.{fault_wants}
use Rattle.ipc_messages.proofs.puts.put_whole_as.Goals as goal

pub returns-in-Bytes-clause-wants : goal.returns-in-Bytes-clause-wants
returns-in-Bytes-clause-wants g c = λ some. fault_wants c.put_whole.result _ _ c.put_whole.ensures.whole

pub returns-in-HexText-clause-whole : goal.returns-in-HexText-clause-whole
returns-in-HexText-clause-whole g c = λ e. absurd (cc)
