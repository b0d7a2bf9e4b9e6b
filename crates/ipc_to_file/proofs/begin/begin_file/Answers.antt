use Rattle.std.proofs.Common.{Err, Ok}
use Rattle.ipc_append.proofs.Handed.{refused}
use Rattle.ipc_bodies.specs.Puts.{moved}
use Rattle.ipc_to_file.proofs.Puts.{begun, memory_stops, not_begun, sink_same, start_counts}
use Rattle.ipc_to_file.proofs.begin.begin_file.Goals as goal

pub returns-in_err-core-clause-stops : goal.returns-in_err-core-clause-stops
returns-in_err-core-clause-stops g c = refused _ c.from_residual.result _ c.from_residual.ensures.1 (λ bs. memory_stops _ bs _ _ _ _ _ c.in_err-core.ensures.err)

pub returns-in_err-core-clause-sink : goal.returns-in_err-core-clause-sink
returns-in_err-core-clause-sink g c = sink_same _ _ _ _

pub returns-in_err-start-clause-stops : goal.returns-in_err-start-clause-stops
returns-in_err-start-clause-stops g c =
    refused _ c.from_residual-in_err-start.result c.in_err-start.field-0.0 c.from_residual-in_err-start.ensures.1 (λ bs. not_begun c.args.metadata c.requires.may _ _ (moved _ _ _ _ _ _) c.in_ok-core.ensures.new _ bs c.in_err-start.ensures.starts)

pub returns-in_err-start-clause-sink : goal.returns-in_err-start-clause-sink
returns-in_err-start-clause-sink g c =
    let counts = start_counts (moved (g.W.Sink.written c.args.sink.now) (g.W.Sink.written c.start.new.sink) (g.W.Sink.faults c.args.sink.now) (g.W.Sink.faults c.start.new.sink) (g.W.Sink.wants c.args.sink.now) (g.W.Sink.wants c.start.new.sink)) (Err c.in_err-start.field-0.0) c.in_ok-core.core c.start.new.self c.in_err-start.ensures.starts in
    record { faults = counts.faults; wants = counts.wants; references = c.in_err-start.ensures.same_references }

pub returns-clause-begun : goal.returns-clause-begun
returns-clause-begun g c = begun c.args.metadata c.requires.may _ _ (moved _ _ _ _ _ _) c.in_ok-core.ensures.new c.in_ok-start.ensures.starts

pub returns-clause-sink : goal.returns-clause-sink
returns-clause-sink g c =
    let counts = start_counts (moved (g.W.Sink.written c.args.sink.now) (g.W.Sink.written c.start.new.sink) (g.W.Sink.faults c.args.sink.now) (g.W.Sink.faults c.start.new.sink) (g.W.Sink.wants c.args.sink.now) (g.W.Sink.wants c.start.new.sink)) (Ok tt) c.in_ok-core.core c.start.new.self c.in_ok-start.ensures.starts in
    record { faults = counts.faults; wants = counts.wants; references = c.in_ok-start.ensures.same_references }
