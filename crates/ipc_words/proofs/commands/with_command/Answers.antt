use Rattle.std.proofs.Common.{IfOk, subst}
use Rattle.ipc_words.specs.Commands.{HasCommands, IsCommand}
use Rattle.ipc_words.proofs.Building.{with_last_command}
use Rattle.ipc_words.proofs.commands.with_command.Goals as goal

pub returns : goal.returns
returns c = λ es e program command.
    with_last_command _ _ _ es e (subst (λ r. IfOk r (HasCommands es)) c.in_ok-program.was program) (subst (λ r. IfOk r (IsCommand e)) c.in_ok-command.was command) c.subcommand.ensures
