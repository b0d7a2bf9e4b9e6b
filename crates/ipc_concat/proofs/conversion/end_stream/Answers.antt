use Rattle.std.proofs.Common.{◌≡◌, Err, refl}
use Rattle.ipc_bodies.specs.Puts.{moved}
use Rattle.laws_walk.proofs.Below.{is_err}
use Rattle.ipc_concat.proofs.Ending.{end_cause, ends_badly, ends_well, with_cause}
use Rattle.ipc_concat.proofs.conversion.end_stream.Goals as goal

pub returns-in_err-finish-clause-ends : goal.returns-in_err-finish-clause-ends
returns-in_err-finish-clause-ends g c = λ x bs enc a opened some.
    let e : c.from_residual.result ≡ Err c.in_err-finish.field-0.0 = is_err _ _ _ c.from_residual.ensures.0 c.from_residual.ensures.1 (λ f h. h) in
    ends_badly x bs c.args.stream.now c.from_residual.result c.finish.new.self (moved (g.W.Sink.written c.args.sink.now) (g.W.Sink.written c.finish.new.sink) (g.W.Sink.faults c.args.sink.now) (g.W.Sink.faults c.finish.new.sink) (g.W.Sink.wants c.args.sink.now) (g.W.Sink.wants c.finish.new.sink)) c.in_err-finish.field-0.0 c.requires.going c.in_err-finish.ensures.finishes e enc a opened some

pub returns-in_err-finish-clause-cause : goal.returns-in_err-finish-clause-cause
returns-in_err-finish-clause-cause g c =
    let e : c.from_residual.result ≡ Err c.in_err-finish.field-0.0 = is_err _ _ _ c.from_residual.ensures.0 c.from_residual.ensures.1 (λ f h. h) in
    with_cause c.from_residual.result c.in_err-finish.field-0.0 _ e (end_cause c.args.stream.now c.finish.new.self (moved (g.W.Sink.written c.args.sink.now) (g.W.Sink.written c.finish.new.sink) (g.W.Sink.faults c.args.sink.now) (g.W.Sink.faults c.finish.new.sink) (g.W.Sink.wants c.args.sink.now) (g.W.Sink.wants c.finish.new.sink)) c.in_err-finish.field-0.0 c.requires.going c.in_err-finish.ensures.finishes)

pub returns-clause-ends : goal.returns-clause-ends
returns-clause-ends g c = λ x bs enc a opened some.
    ends_well x bs c.args.stream.now _ c.finish.new.self (moved (g.W.Sink.written c.args.sink.now) (g.W.Sink.written c.finish.new.sink) (g.W.Sink.faults c.args.sink.now) (g.W.Sink.faults c.finish.new.sink) (g.W.Sink.wants c.args.sink.now) (g.W.Sink.wants c.finish.new.sink)) _ c.requires.going c.in_ok-finish.ensures.finishes refl refl c.byte_count.ensures refl enc a opened some
