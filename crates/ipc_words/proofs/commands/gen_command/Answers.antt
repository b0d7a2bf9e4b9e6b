use Rattle.ipc_words.proofs.Building.{begun, with_about, with_last_arg}
use Rattle.ipc_words.proofs.commands.gen_command.Goals as goal

pub returns : goal.returns
returns c = with_last_arg _ _ _ _ _ (with_about _ _ _ _ (begun _ _ c.new.ensures.app c.new.ensures.local) c.about.ensures) c.number_word.ensures c.arg.ensures
