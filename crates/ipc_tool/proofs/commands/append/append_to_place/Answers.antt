use Rattle.std.proofs.Common.{inr, refl}
use Rattle.ipc_tool.proofs.Adding.{IfErr-at}
use Rattle.ipc_tool.proofs.AppendSteps.{place_left}
use Rattle.ipc_tool.proofs.commands.append.append_to_place.Goals as goal

pub returns-in_err-count-clause-refused : goal.returns-in_err-count-clause-refused
returns-in_err-count-clause-refused g c =
    IfErr-at _ _ _ c.from_residual-in_err-count.ensures.1 (inr (c.in_err-count.field-0.0, refl, place_left c.args.target.now _ _ _ _ c.args.stream.now _ _ _ _ _ _ _ _ c.in_ok-place.ensures.place c.in_ok-place.ensures.no_faults c.append_options.ensures c.in_err-count.ensures.refused c.in_err-count.ensures.says c.open_place.ensures.cause.later c.close_place.ensures.cause c.in_ok-place.ensures.held c.close_place.ensures.held))
