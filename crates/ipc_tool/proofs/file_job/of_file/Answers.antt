use Rattle.std.proofs.Common.{None, option_map, subst, sym}
use Rattle.ipc_words.specs.Views.{text}
use Rattle.ipc_tool.specs.FileTasks.{file_task}
use Rattle.ipc_tool.specs.Outside.{outside_of}
use Rattle.ipc_tool.specs.Tasks.{Does}
use Rattle.ipc_tool.proofs.FileTasks.{input_refused}
use Rattle.ipc_tool.proofs.Tasks.{does_at}
use Rattle.ipc_tool.proofs.file_job.of_file.Goals as goal

pub returns-in_err-bytes-in-None-clause-does : goal.returns-in_err-bytes-in-None-clause-does
returns-in_err-bytes-in-None-clause-does g c =
    let job = g.J.PutsFile.job c.args.job.now in
    let old = outside_of g.H.Shelf.held g.H.Shelf.faults g.I.Feed.rest g.I.Feed.faults g.W.Sink.written g.W.Sink.faults g.W.Sink.wants c.args.shelf.now c.args.input.now c.args.output.now in
    let new = outside_of g.H.Shelf.held g.H.Shelf.faults g.I.Feed.rest g.I.Feed.faults g.W.Sink.written g.W.Sink.faults g.W.Sink.wants c.args.shelf.now c.read_hex.new.input c.args.output.now in
    subst (λ name. Does (file_task job (option_map text name)) c.from_residual.result old new) (sym c.in-None.is) (does_at (file_task job None) c.from_residual.result c.in_err-bytes-in-None.field-0.0 old new c.from_residual.ensures.1 (input_refused job old (g.I.Feed.rest c.read_hex.new.input) (g.I.Feed.faults c.read_hex.new.input) c.in_err-bytes-in-None.field-0.0 c.in_err-bytes-in-None.ensures.cause))
