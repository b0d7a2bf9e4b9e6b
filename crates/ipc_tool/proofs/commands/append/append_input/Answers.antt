use Rattle.std.proofs.Common.{inl, refl}
use Rattle.std.proofs.KnownBytes.{Keeps-refl}
use Rattle.ipc_tool.specs.Commands.Append.{append_task}
use Rattle.ipc_tool.proofs.AppendSteps.{at_place, count_put, stops_does}
use Rattle.ipc_tool.proofs.Tasks.{does_at}
use Rattle.ipc_tool.proofs.commands.append.append_input.Goals as goal

pub returns-in_err-stream : goal.returns-in_err-stream
returns-in_err-stream g c = record {
  does = does_at (append_task c.args.target.now) _ _ _ _ c.from_residual.ensures.1 (stops_does c.args.target.now _ _ _ (inl (record { cause = c.in_err-stream.ensures.cause; held = refl; written = Keeps-refl (g.W.Sink.written c.args.output.now) })));
}

pub returns-in_err-count : goal.returns-in_err-count
returns-in_err-count g c = record {
  does = does_at (append_task c.args.target.now) _ _ _ _ c.from_residual-in_err-count.ensures.1 (at_place c.args.target.now _ _ _ c.in_ok-stream.stream c.in_ok-stream.ensures.stream c.in_err-count.ensures.refused (Keeps-refl (g.W.Sink.written c.args.output.now)));
}

pub returns : goal.returns
returns g c = record {
  does = count_put c.args.target.now _ _ _ c.in_ok-stream.stream c.in_ok-count.count c.in_ok-stream.ensures.stream c.in_ok-stream.ensures.at_end c.in_ok-count.ensures.appended c.in_ok-count.ensures.count c.put_count.ensures.text c.put_count.ensures.refused;
}
