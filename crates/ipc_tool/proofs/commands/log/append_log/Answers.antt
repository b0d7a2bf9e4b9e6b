use Rattle.std.proofs.Common.{◌∙◌, inl, refl}
use Rattle.std.proofs.KnownBytes.{Keeps-refl}
use Rattle.ipc_tool.specs.Commands.Log.{log_append_task}
use Rattle.ipc_tool.specs.Outside.{outside_of}
use Rattle.ipc_tool.proofs.LogSteps.{at_log, log_count_put, log_stops, survives_read}
use Rattle.ipc_tool.proofs.Tasks.{does_at}
use Rattle.ipc_tool.proofs.commands.log.append_log.Goals as goal

pub returns-in_err-stream-clause-does : goal.returns-in_err-stream-clause-does
returns-in_err-stream-clause-does g c = does_at (log_append_task c.args.target.now) _ _ _ _ c.from_residual.ensures.1 (log_stops c.args.target.now _ _ _ (inl (record { cause = c.in_err-stream.ensures.cause; held = refl; written = Keeps-refl (g.W.Sink.written c.args.output.now) })))

pub returns-in_err-append_to_vault-clause-does : goal.returns-in_err-append_to_vault-clause-does
returns-in_err-append_to_vault-clause-does g c =
    does_at (log_append_task c.args.target.now) _ _ _ _ c.from_residual-in_err-append_to_vault.ensures.1 (at_log c.args.target.now _ _ _ c.in_ok-stream.stream c.in_ok-stream.ensures.stream c.in_err-append_to_vault.ensures.refused (Keeps-refl (g.W.Sink.written c.args.output.now)))

pub returns-in_err-append_to_vault-clause-survives : goal.returns-in_err-append_to_vault-clause-survives
returns-in_err-append_to_vault-clause-survives g c = survives_read c.in_ok-stream.stream c.args.target.now (outside_of g.H.Shelf.held g.H.Shelf.faults g.I.Feed.rest g.I.Feed.faults g.W.Sink.written g.W.Sink.faults g.W.Sink.wants c.args.shelf.now c.args.input.now c.args.output.now) _ _ c.in_ok-stream.ensures.stream c.in_err-append_to_vault.ensures.survives

pub returns-clause-does : goal.returns-clause-does
returns-clause-does g c = log_count_put c.args.target.now _ _ _ c.in_ok-stream.stream _ c.in_ok-stream.ensures.stream c.in_ok-stream.ensures.at_end c.in_ok-append_to_vault.ensures.appended (c.len.ensures ∙ c.in_ok-stream.stream.batches.ok.0) c.put_count.ensures.text c.put_count.ensures.refused

pub returns-clause-survives : goal.returns-clause-survives
returns-clause-survives g c = survives_read c.in_ok-stream.stream c.args.target.now (outside_of g.H.Shelf.held g.H.Shelf.faults g.I.Feed.rest g.I.Feed.faults g.W.Sink.written g.W.Sink.faults g.W.Sink.wants c.args.shelf.now c.args.input.now c.args.output.now) _ _ c.in_ok-stream.ensures.stream c.in_ok-append_to_vault.ensures.survives
