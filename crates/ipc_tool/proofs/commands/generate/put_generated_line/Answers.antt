use Rattle.std.proofs.Common.{◌≡◌, refl, rules, subst}
use Rattle.std.proofs.KnownBytes.{Keeps-refl}
use Rattle.ipc_round_trip.specs.Line.{IsLineOf}
use Rattle.ipc_tool.specs.Commands.Gen.{generated_task}
use Rattle.ipc_tool.proofs.GenSteps.{line_put, no_line}
use Rattle.ipc_tool.proofs.Tasks.{does_at}
use Rattle.ipc_tool.proofs.commands.generate.put_generated_line.Goals as goal

pub returns-in_err-text-clause-does : goal.returns-in_err-text-clause-does
returns-in_err-text-clause-does g c =
    does_at (generated_task c.args.seed) _ _ _ _ c.from_residual.ensures.1 (no_line c.args.seed _ _ c.in_err-text.field-0.0 (record { held = refl; shelf_faults = refl; rest = refl }) (Keeps-refl (g.W.Sink.written c.args.output.now)) c.in_err-text.ensures.refused)

pub returns-clause-does : goal.returns-clause-does
returns-clause-does g c =
    let same : c.in_ok-text.text.items ≡ c.deref.result.now = search rules in
    line_put c.args.seed _ _ c.put_line.result c.deref.result.now (record { held = refl; shelf_faults = refl; rest = refl }) (subst (IsLineOf c.args.seed) same c.in_ok-text.ensures.line) c.put_line.ensures.text c.put_line.ensures.refused
