use Rattle.std.proofs.Common.{Err, None, Ok}
use Rattle.ipc_append.proofs.Handed.{refused}
use Rattle.ipc_bodies.specs.Puts.{moved}
use Rattle.ipc_to_file.proofs.Batches.{going, not_ok, stops, write_counts}
use Rattle.ipc_to_file.proofs.write.write_batch.Goals as goal

pub returns-in_err-write-clause-stops : goal.returns-in_err-write-clause-stops
returns-in_err-write-clause-stops g c = λ m us start before is next.
    refused _ c.from_residual.result c.in_err-write.field-0.0 c.from_residual.ensures.1 (stops m us _ _ start (moved _ _ _ _ _ _) before c.args.batch.now is next c.height-rows.ensures.sound _ c.in_err-write.ensures.writes)

pub returns-in_err-write-clause-going : goal.returns-in_err-write-clause-going
returns-in_err-write-clause-going g c = λ m us start before is next. not_ok c.from_residual.result _ _ c.from_residual.ensures.1

pub returns-in_err-write-clause-sink : goal.returns-in_err-write-clause-sink
returns-in_err-write-clause-sink g c =
    let counts = write_counts (moved (g.W.Sink.written c.args.sink.now) (g.W.Sink.written c.write.new.sink) (g.W.Sink.faults c.args.sink.now) (g.W.Sink.faults c.write.new.sink) (g.W.Sink.wants c.args.sink.now) (g.W.Sink.wants c.write.new.sink)) (Err c.in_err-write.field-0.0) c.args.core.now c.write.new.self c.args.batch.now None c.in_err-write.ensures.writes in
    record { faults = counts.faults; wants = counts.wants; references = c.in_err-write.ensures.same_references }

pub returns-clause-going : goal.returns-clause-going
returns-clause-going g c = λ m us start before is next. going m us _ _ start (moved _ _ _ _ _ _) before c.args.batch.now is next c.height-rows.ensures.sound c.in_ok-write.ensures.writes

pub returns-clause-sink : goal.returns-clause-sink
returns-clause-sink g c =
    let counts = write_counts (moved (g.W.Sink.written c.args.sink.now) (g.W.Sink.written c.write.new.sink) (g.W.Sink.faults c.args.sink.now) (g.W.Sink.faults c.write.new.sink) (g.W.Sink.wants c.args.sink.now) (g.W.Sink.wants c.write.new.sink)) (Ok tt) c.args.core.now c.write.new.self c.args.batch.now None c.in_ok-write.ensures.writes in
    record { faults = counts.faults; wants = counts.wants; references = c.in_ok-write.ensures.same_references }
