use Rattle.std.proofs.Common.{◌≡◌, [], subst, sym}
use Rattle.ipc_words.specs.Views.{request_view}
use Rattle.ipc_tool.specs.Commands.{task_of}
use Rattle.ipc_tool.specs.Outside.{outside_of}
use Rattle.ipc_tool.specs.Tasks.{Does}
use Rattle.ipc_tool.proofs.CatNames.{no_names}
use Rattle.ipc_tool.proofs.commands.perform.Goals as goal

pub returns-in-Append-clause-does : goal.returns-in-Append-clause-does
returns-in-Append-clause-does g c =
    let old = outside_of g.H.Shelf.held g.H.Shelf.faults g.I.Feed.rest g.I.Feed.faults g.W.Sink.written g.W.Sink.faults g.W.Sink.wants c.args.shelf.now c.args.input.now c.args.output.now in
    let new = outside_of g.H.Shelf.held g.H.Shelf.faults g.I.Feed.rest g.I.Feed.faults g.W.Sink.written g.W.Sink.faults g.W.Sink.wants c.append_input.new.shelf c.append_input.new.input c.append_input.new.output in
    subst (λ request. Does (task_of (request_view request)) c.append_input.result old new) (sym c.in-Append.is) c.append_input.ensures.does

pub returns-in-Gen-clause-does : goal.returns-in-Gen-clause-does
returns-in-Gen-clause-does g c =
    let old = outside_of g.H.Shelf.held g.H.Shelf.faults g.I.Feed.rest g.I.Feed.faults g.W.Sink.written g.W.Sink.faults g.W.Sink.wants c.args.shelf.now c.args.input.now c.args.output.now in
    let new = outside_of g.H.Shelf.held g.H.Shelf.faults g.I.Feed.rest g.I.Feed.faults g.W.Sink.written g.W.Sink.faults g.W.Sink.wants c.put_generated_line.new.shelf c.put_generated_line.new.input c.put_generated_line.new.output in
    subst (λ request. Does (task_of (request_view request)) c.put_generated_line.result old new) (sym c.in-Gen.is) c.put_generated_line.ensures.does

pub returns-in-Cat-clause-does : goal.returns-in-Cat-clause-does
returns-in-Cat-clause-does g c =
    let old = outside_of g.H.Shelf.held g.H.Shelf.faults g.I.Feed.rest g.I.Feed.faults g.W.Sink.written g.W.Sink.faults g.W.Sink.wants c.args.shelf.now c.args.input.now c.args.output.now in
    let new = outside_of g.H.Shelf.held g.H.Shelf.faults g.I.Feed.rest g.I.Feed.faults g.W.Sink.written g.W.Sink.faults g.W.Sink.wants c.cat_files.new.shelf c.cat_files.new.input c.cat_files.new.output in
    subst (λ request. Does (task_of (request_view request)) c.cat_files.result old new) (sym c.in-Cat.is) c.cat_files.ensures.does

pub returns-in-Cat-clause-unopened : goal.returns-in-Cat-clause-unopened
returns-in-Cat-clause-unopened g c =
    subst (λ request. (task_of (request_view request)).opens ≡ [] → c.cat_files.new.shelf ≡ c.args.shelf.now) (sym c.in-Cat.is) (λ none. absurd (no_names c.in-Cat.cat.names.items c.in-Cat.cat.some none))

pub returns-in-Log-clause-does : goal.returns-in-Log-clause-does
returns-in-Log-clause-does g c =
    let old = outside_of g.H.Shelf.held g.H.Shelf.faults g.I.Feed.rest g.I.Feed.faults g.W.Sink.written g.W.Sink.faults g.W.Sink.wants c.args.shelf.now c.args.input.now c.args.output.now in
    let new = outside_of g.H.Shelf.held g.H.Shelf.faults g.I.Feed.rest g.I.Feed.faults g.W.Sink.written g.W.Sink.faults g.W.Sink.wants c.log_target.new.shelf c.log_target.new.input c.log_target.new.output in
    subst (λ request. Does (task_of (request_view request)) c.log_target.result old new) (sym c.in-Log.is) c.log_target.ensures.does
