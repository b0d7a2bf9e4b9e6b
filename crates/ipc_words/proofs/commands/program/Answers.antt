use Rattle.std.proofs.Common.{rules}
use Rattle.ipc_words.specs.Requests.{commands}
use Rattle.ipc_words.proofs.Building.{with_all}
use Rattle.ipc_words.proofs.commands.program.Goals as goal

pub returns : goal.returns
unfolding commands
returns c = with_all _ (search rules)
