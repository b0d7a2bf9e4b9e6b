use Rattle.std.proofs.Common.{Err, Ok}
use Rattle.ipc_append.proofs.Handed.{handed}
use Rattle.ipc_bodies.specs.Puts.{moved}
use Rattle.ipc_to_file.specs.Writing.{EndsFile}
use Rattle.ipc_to_file.proofs.Ends.{ended, finish_counts, not_ended}
use Rattle.ipc_to_file.proofs.write.end_file.Goals as goal

pub returns-in_err-finish-clause-ends : goal.returns-in_err-finish-clause-ends
returns-in_err-finish-clause-ends g c = λ m us start bs is.
    handed (λ r. EndsFile r m start (g.W.Sink.written c.finish.new.sink) bs (g.W.Sink.faults c.args.sink.now) (g.W.Sink.faults c.finish.new.sink)) c.from_residual.result c.in_err-finish.field-0.0 c.from_residual.ensures.1 (not_ended m is.may _ _ start (moved _ _ _ _ _ _) bs is.put _ c.in_err-finish.ensures.finishes)

pub returns-in_err-finish-clause-sink : goal.returns-in_err-finish-clause-sink
returns-in_err-finish-clause-sink g c =
    let counts = finish_counts (moved (g.W.Sink.written c.args.sink.now) (g.W.Sink.written c.finish.new.sink) (g.W.Sink.faults c.args.sink.now) (g.W.Sink.faults c.finish.new.sink) (g.W.Sink.wants c.args.sink.now) (g.W.Sink.wants c.finish.new.sink)) (Err c.in_err-finish.field-0.0) c.args.core.now c.finish.new.self c.in_err-finish.ensures.finishes in
    record { faults = counts.faults; wants = counts.wants; references = c.in_err-finish.ensures.same_references }

pub returns-clause-ends : goal.returns-clause-ends
returns-clause-ends g c = λ m us start bs is. ended m is.may _ _ start (moved _ _ _ _ _ _) bs is.put _ c.byte_count.ensures c.in_ok-finish.ensures.finishes

pub returns-clause-sink : goal.returns-clause-sink
returns-clause-sink g c =
    let counts = finish_counts (moved (g.W.Sink.written c.args.sink.now) (g.W.Sink.written c.finish.new.sink) (g.W.Sink.faults c.args.sink.now) (g.W.Sink.faults c.finish.new.sink) (g.W.Sink.wants c.args.sink.now) (g.W.Sink.wants c.finish.new.sink)) (Ok tt) c.args.core.now c.finish.new.self c.in_ok-finish.ensures.finishes in
    record { faults = counts.faults; wants = counts.wants; references = c.in_ok-finish.ensures.same_references }
