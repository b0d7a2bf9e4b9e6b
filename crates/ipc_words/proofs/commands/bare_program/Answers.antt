use Rattle.ipc_words.proofs.Building.{begun, with_about, with_after_help, with_bin_name, with_command_required, with_no_binary_name, with_no_help_command, with_version}
use Rattle.ipc_words.proofs.commands.bare_program.Goals as goal

pub returns : goal.returns
returns c = record {
  reads = with_command_required _ _ _ (with_no_help_command _ _ _ (with_no_binary_name _ _ _ (with_version _ _ _ _ (with_after_help _ _ _ _ (with_about _ _ _ _ (with_bin_name _ _ _ (begun _ _ c.new.ensures.app c.new.ensures.local) c.in_ok-bin_name.ensures.0) c.about.ensures) c.after_help.ensures) c.version.ensures) c.no_binary_name.ensures) c.disable_help_subcommand.ensures) c.subcommand_required-program.ensures;
}
