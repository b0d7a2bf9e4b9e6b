use Rattle.ipc_bodies.specs.Puts.{moved}
use Rattle.ipc_log_streams.proofs.Ending.{ended_if, refused_if}
use Rattle.ipc_log_streams.proofs.Writers.{finish_keeps}
use Rattle.ipc_log_streams.proofs.put.end.Goals as goal

pub returns-clause-ended : goal.returns-clause-ended
returns-clause-ended g c =
    let w = g.W.Sink in
    let m = moved (w.written c.args.sink.now) (w.written c.finish.new.sink) (w.faults c.args.sink.now) (w.faults c.finish.new.sink) (w.wants c.args.sink.now) (w.wants c.finish.new.sink) in
    ended_if c.finish.result c.args.writer.now c.finish.new.self m c.requires.writer c.finish.ensures.finishes

pub returns-clause-refused : goal.returns-clause-refused
returns-clause-refused g c =
    let w = g.W.Sink in
    let m = moved (w.written c.args.sink.now) (w.written c.finish.new.sink) (w.faults c.args.sink.now) (w.faults c.finish.new.sink) (w.wants c.args.sink.now) (w.wants c.finish.new.sink) in
    (refused_if c.finish.result c.args.writer.now c.finish.new.self m c.requires.writer c.finish.ensures.finishes).0

pub returns-clause-cause : goal.returns-clause-cause
returns-clause-cause g c =
    let w = g.W.Sink in
    let m = moved (w.written c.args.sink.now) (w.written c.finish.new.sink) (w.faults c.args.sink.now) (w.faults c.finish.new.sink) (w.wants c.args.sink.now) (w.wants c.finish.new.sink) in
    (refused_if c.finish.result c.args.writer.now c.finish.new.self m c.requires.writer c.finish.ensures.finishes).1

pub returns-clause-sink : goal.returns-clause-sink
returns-clause-sink g c =
    let w = g.W.Sink in
    let m = moved (w.written c.args.sink.now) (w.written c.finish.new.sink) (w.faults c.args.sink.now) (w.faults c.finish.new.sink) (w.wants c.args.sink.now) (w.wants c.finish.new.sink) in
    let falls = finish_keeps _ m c.finish.result c.args.writer.now c.finish.new.self c.finish.ensures.finishes in
    record { faults = falls.faults; wants = falls.wants; references = c.finish.ensures.same_references }
