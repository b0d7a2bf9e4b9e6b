use Rattle.std.proofs.Common.{◌≡◌, Err, IfErr, None, Some, arith, rules, subst, sym}
use Rattle.ipc_files.proofs.Errors.{is_err}
use Rattle.ipc_flight.specs.Runs.{Begins, an_error, begun, no_item, refused}
use Rattle.ipc_flight.proofs.stream_consumer.FlightstreamConsumer.new.Goals as goal

pub returns-in_default-clause-refused : goal.returns-in_default-clause-refused
returns-in_default-clause-refused g c =
    let none : c.next.result ≡ None = first_of (search rules, grind arith) in
    no_item (subst (λ r. g.I.Iterator.next_gives c.args.messages r c.next.new.self) none c.next.ensures.steps)

pub returns-in_err-first-clause-refused : goal.returns-in_err-first-clause-refused
returns-in_err-first-clause-refused g c =
    let x = c.in_err-first.field-0.0 in
    let e : c.from_residual.result ≡ Err x = is_err _ _ _ c.from_residual.ensures.0 c.from_residual.ensures.1 (λ f h. h) in
    subst (λ r. IfErr r (λ e. Begins g.I.Iterator.next_gives c.args.messages (Err e))) (sym e) (an_error (subst (λ r. g.I.Iterator.next_gives c.args.messages (Some r) c.next.new.self) c.in_err-first.was c.in-Some.ensures.steps))

pub returns-in_err-consumer-clause-refused : goal.returns-in_err-consumer-clause-refused
returns-in_err-consumer-clause-refused g c =
    let x = c.in_err-consumer.field-0.0 in
    let e : c.from_residual-in_err-consumer.result ≡ Err x = is_err _ _ _ c.from_residual-in_err-consumer.ensures.0 c.from_residual-in_err-consumer.ensures.1 (λ f h. h) in
    subst (λ r. IfErr r (λ e. Begins g.I.Iterator.next_gives c.args.messages (Err e))) (sym e) (refused (subst (λ r. g.I.Iterator.next_gives c.args.messages (Some r) c.next.new.self) c.in_ok-first.was c.in-Some.ensures.steps) c.in_err-consumer.ensures.gives)

pub returns-clause-begun : goal.returns-clause-begun
returns-clause-begun g c = begun (subst (λ r. g.I.Iterator.next_gives c.args.messages (Some r) c.next.new.self) c.in_ok-first.was c.in-Some.ensures.steps) c.in_ok-consumer.ensures.gives
