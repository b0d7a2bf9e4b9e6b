use Rattle.ipc_words.proofs.Building.{begun, with_about, with_arg, with_last_arg}
use Rattle.ipc_words.proofs.commands.scan_command.Goals as goal

pub returns : goal.returns
returns c = with_last_arg _ _ _ _ _ (with_arg _ _ _ _ _ (with_arg _ _ _ _ _ (with_arg _ _ _ _ _ (with_about _ _ _ _ (begun _ _ c.new.ensures.app c.new.ensures.local) c.about.ensures) c.filter_word.ensures c.in_ok-arg.ensures) c.columns_option.ensures c.in_ok-arg-2.ensures) c.raw_flag.ensures c.in_ok-arg-3.ensures) c.name_word.ensures c.arg-4.ensures
