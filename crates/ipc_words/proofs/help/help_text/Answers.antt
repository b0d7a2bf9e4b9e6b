use Rattle.std.proofs.Common.{sym}
use Rattle.clap.specs.Words.{app_of}
use Rattle.ipc_words.specs.Views.{texts}
use Rattle.ipc_words.proofs.Parsing.{shows_none, text_shows}
use Rattle.ipc_words.proofs.help.help_text.Goals as goal

pub returns-in-Ok : goal.returns-in-Ok
returns-in-Ok c = sym (shows_none (app_of c.in_ok-command.command) (texts c.args.words.now) c.in_ok-command.ensures.reads c.in-Ok.ensures.kinds)

pub returns : goal.returns
returns c = text_shows c.text_of.result (app_of c.in_ok-command.command) (texts c.args.words.now) c.in-Err.error c.in_ok-command.ensures.reads c.in-Err.ensures.kinds c.text_of.ensures
