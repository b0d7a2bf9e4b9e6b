use Rattle.std.proofs.Common.{◌∙◌, Err, ap, inl, refl}
use Rattle.std.proofs.KnownBytes.{Keeps-refl}
use Rattle.ipc_tool.specs.Commands.Log.{show_task}
use Rattle.ipc_tool.specs.Outside.{outside_of}
use Rattle.ipc_tool.proofs.LogShows.{log_not_opened, log_shown_of, log_stops_of, over_opened, show_survives}
use Rattle.ipc_tool.proofs.Tasks.{does_at}
use Rattle.ipc_tool.proofs.commands.log.show_log.Goals as goal

pub returns-in_err-vault-clause-does : goal.returns-in_err-vault-clause-does
returns-in_err-vault-clause-does g c = does_at (show_task c.args.raw c.args.target.now) _ _ _ _ c.from_residual.ensures.1 (log_not_opened c.args.raw c.args.target.now _ _ refl _ (record { error = c.in_err-vault.field-0.0; is = refl; unknown = λ is. c.open_vault.ensures.unknown (c.in_err-vault.was ∙ ap Err is); failed = λ is. c.open_vault.ensures.cause.failed (c.in_err-vault.was ∙ ap Err is); kept = c.open_vault.ensures.held }) (Keeps-refl (g.W.Sink.written c.args.output.now)))

pub returns-in_err-vault-clause-survives : goal.returns-in_err-vault-clause-survives
returns-in_err-vault-clause-survives g c = inl c.open_vault.ensures.left

pub returns-in_err-done-clause-does : goal.returns-in_err-done-clause-does
returns-in_err-done-clause-does g c =
    does_at (show_task c.args.raw c.args.target.now) _ _ _ _ c.from_residual-in_err-done.ensures.1
    (log_stops_of c.args.raw c.args.target.now _ _ refl _ _ c.in_ok-vault.ensures.vault (over_opened _ _ _ _ _ c.in_ok-vault.ensures.held c.close_vault.ensures.held) _ _ _ _ c.open_vault.ensures.cause.later c.close_vault.ensures.cause _ c.in_ok-vault.ensures.no_faults _ c.in_err-done.field-0.0 c.in_err-done.was c.put_shown-vault.ensures.left c.put_shown-vault.ensures.cause c.put_shown-vault.ensures.complete c.put_shown-vault.ensures.bytes)

pub returns-in_err-done-clause-survives : goal.returns-in_err-done-clause-survives
returns-in_err-done-clause-survives g c = show_survives c.args.target.now (outside_of g.H.Shelf.held g.H.Shelf.faults g.I.Feed.rest g.I.Feed.faults g.W.Sink.written g.W.Sink.faults g.W.Sink.wants c.args.shelf.now c.args.input.now c.args.output.now) _ (g.H.Vault.LogDisk.images_since c.put_shown-vault.result.0) _ c.in_ok-vault.ensures.fresh _ _ _ c.in_ok-vault.ensures.vault c.in_ok-vault.ensures.synced c.put_shown-vault.ensures.since c.close_vault.ensures.left

pub returns-clause-does : goal.returns-clause-does
returns-clause-does g c = log_shown_of c.args.raw c.args.target.now _ _ refl _ _ c.in_ok-vault.ensures.vault (over_opened _ _ _ _ _ c.in_ok-vault.ensures.held c.close_vault.ensures.held) _ _ c.in_ok-done.was c.put_shown-vault.ensures.done _ _ _ _ c.put_shown-vault.ensures.bytes

pub returns-clause-survives : goal.returns-clause-survives
returns-clause-survives g c = show_survives c.args.target.now (outside_of g.H.Shelf.held g.H.Shelf.faults g.I.Feed.rest g.I.Feed.faults g.W.Sink.written g.W.Sink.faults g.W.Sink.wants c.args.shelf.now c.args.input.now c.args.output.now) _ (g.H.Vault.LogDisk.images_since c.put_shown-vault.result.0) _ c.in_ok-vault.ensures.fresh _ _ _ c.in_ok-vault.ensures.vault c.in_ok-vault.ensures.synced c.put_shown-vault.ensures.since c.close_vault.ensures.left
