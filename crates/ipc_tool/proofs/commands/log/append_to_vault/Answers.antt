use Rattle.std.proofs.Common.{inl, inr, refl}
use Rattle.ipc_tool.proofs.Adding.{IfErr-at}
use Rattle.ipc_tool.proofs.LogSteps.{err_of, log_grown, log_left, log_survives, ok_of}
use Rattle.ipc_tool.proofs.commands.log.append_to_vault.Goals as goal

pub returns-in_err-vault-clause-survives : goal.returns-in_err-vault-clause-survives
returns-in_err-vault-clause-survives g c = inl c.open_vault.ensures.left

pub returns-in_err-done-clause-refused : goal.returns-in_err-done-clause-refused
returns-in_err-done-clause-refused g c =
    IfErr-at _ _ _ c.from_residual-in_err-done.ensures.1 (inr (
      c.in_err-done.field-0.0,
      refl,
      log_left c.args.target.now _ _ _ c.args.stream.now _ _ c.in_ok-vault.ensures.vault c.in_ok-vault.ensures.held c.close_vault.ensures.held c.in_err-done.field-0.0 _ _ _ _ _ c.in_ok-vault.ensures.no_faults (err_of _ _ _ c.in_err-done.was c.append_to_log-vault.ensures.refused) c.open_vault.ensures.cause.later c.close_vault.ensures.cause,
    ))

pub returns-in_err-done-clause-survives : goal.returns-in_err-done-clause-survives
returns-in_err-done-clause-survives g c = log_survives c.args.target.now _ _ _ c.args.stream.now _ _ c.in_ok-vault.ensures.vault c.in_ok-vault.ensures.held c.close_vault.ensures.held (g.H.Vault.LogDisk.images_since c.append_to_log-vault.result.0) _ c.in_ok-vault.ensures.fresh _ _ _ c.in_ok-vault.ensures.synced c.append_to_log-vault.ensures.any_moment c.close_vault.ensures.left

pub returns-clause-appended : goal.returns-clause-appended
returns-clause-appended g c = log_grown c.args.target.now _ _ _ c.args.stream.now _ _ c.in_ok-vault.ensures.vault c.in_ok-vault.ensures.held c.close_vault.ensures.held _ (ok_of _ _ _ c.in_ok-done.was c.append_to_log-vault.ensures.done)

pub returns-clause-survives : goal.returns-clause-survives
returns-clause-survives g c = log_survives c.args.target.now _ _ _ c.args.stream.now _ _ c.in_ok-vault.ensures.vault c.in_ok-vault.ensures.held c.close_vault.ensures.held (g.H.Vault.LogDisk.images_since c.append_to_log-vault.result.0) _ c.in_ok-vault.ensures.fresh _ _ _ c.in_ok-vault.ensures.synced c.append_to_log-vault.ensures.any_moment c.close_vault.ensures.left
