use Rattle.clap.specs.Words.{app_of, subcommand_rows_of}
use Rattle.ipc_words.specs.Requests.{asked, request_of}
use Rattle.ipc_words.specs.Views.{texts}
use Rattle.ipc_words.proofs.CommandNames.{asked_at, refused_at}
use Rattle.ipc_words.proofs.Parsing.{failed, passed}
use Rattle.ipc_words.proofs.words.read_words.Goals as goal

pub returns-in-Ok-clause-asked : goal.returns-in-Ok-clause-asked
returns-in-Ok-clause-asked c =
    let same = passed (app_of c.in_ok-command.command) (texts c.args.words.now) c.in-Ok.matches c.in_ok-command.ensures.reads c.in-Ok.ensures.matches c.in-Ok.ensures.kinds in
    asked_at (request_of (texts c.args.words.now)) (asked (subcommand_rows_of c.in-Ok.matches)) c.read_matches.result same c.read_matches.ensures.asked

pub returns-in-Ok-clause-refused : goal.returns-in-Ok-clause-refused
returns-in-Ok-clause-refused c =
    let same = passed (app_of c.in_ok-command.command) (texts c.args.words.now) c.in-Ok.matches c.in_ok-command.ensures.reads c.in-Ok.ensures.matches c.in-Ok.ensures.kinds in
    refused_at (request_of (texts c.args.words.now)) (asked (subcommand_rows_of c.in-Ok.matches)) c.read_matches.result same c.read_matches.ensures.refused

pub returns-in-Err-clause-refused : goal.returns-in-Err-clause-refused
returns-in-Err-clause-refused c = λ is. failed (app_of c.in_ok-command.command) (texts c.args.words.now) c.in-Err.error c.in_ok-command.ensures.reads c.in-Err.ensures.kinds (c.refusal.ensures is)
