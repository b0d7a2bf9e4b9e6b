use Rattle.std.proofs.Common.{◌≡◌, ◌∙◌, Err, None, Ok, Some, arith, rules, subst}
use Rattle.arrow_spec.specs.Arrays.{Dictionaries}
use Rattle.ipc_files.specs.Below.{HoldsCells, held_in}
use Rattle.ipc_files.proofs.Errors.{is_err}
use Rattle.ipc_streams.specs.Starts.{stream_schema}
use Rattle.ipc_flight.specs.Consumed.{TakesHanded}
use Rattle.ipc_flight.specs.Hands.{handed_of}
use Rattle.ipc_flight.proofs.ItemRuns.{one_passed, passed_batch, passed_end, passed_error, passed_refused}
use Rattle.ipc_flight.proofs.stream_consumer.FlightstreamConsumer.next_batch.Goals as goal

pub returns-in_err-message-clause-runs : goal.returns-in_err-message-clause-runs
returns-in_err-message-clause-runs g c = λ d holds.
    let x = c.in_err-message.field-0.0 in
    let e : c.from_residual.result ≡ Err x = is_err _ _ _ c.from_residual.ensures.0 c.from_residual.ensures.1 (λ f h. h) in
    passed_error g.I.Iterator.next_gives (stream_schema c.args.self.now.consumer.metadata) c.args.self.now.messages c.messages.self.messages c.next.new.self d (held_in c.messages.self.consumer.dictionaries) c.from_residual.result x e (c.messages.invariant.passed d holds)
    (subst (λ r. g.I.Iterator.next_gives c.messages.self.messages (Some r) c.next.new.self) c.in_err-message.was c.in-Some.ensures.steps)

pub returns-in_err-taken-clause-runs : goal.returns-in_err-taken-clause-runs
returns-in_err-taken-clause-runs g c = λ d holds.
    let x = c.in_err-taken.field-0.0 in
    let h = held_in c.messages.self.consumer.dictionaries in
    let h' = held_in c.consume.new.self.dictionaries in
    let e : c.from_residual-in_err-taken.result ≡ Err x = is_err _ _ _ c.from_residual-in_err-taken.ensures.0 c.from_residual-in_err-taken.ensures.1 (λ f k. k) in
    passed_refused g.I.Iterator.next_gives (stream_schema c.args.self.now.consumer.metadata) c.args.self.now.messages c.messages.self.messages c.next.new.self d h h' c.in_ok-message.message c.from_residual-in_err-taken.result x e (c.messages.invariant.passed d holds)
    (subst (λ r. g.I.Iterator.next_gives c.messages.self.messages (Some r) c.next.new.self) c.in_ok-message.was c.in-Some.ensures.steps)
    (subst (λ m. (q : Dictionaries) → HoldsCells q h → TakesHanded q (stream_schema m) (handed_of c.in_ok-message.message) h' (Err x)) c.messages.invariant.metadata c.in_err-taken.ensures.takes) c.in_err-taken.ensures.refused

pub returns-in-Some-taken-clause-runs : goal.returns-in-Some-taken-clause-runs
returns-in-Some-taken-clause-runs g c = λ d holds.
    let h = held_in c.messages.self.consumer.dictionaries in
    let h' = held_in c.consume.new.self.dictionaries in
    let b = c.in-Some-taken.batch in
    let takes : (q : Dictionaries) → HoldsCells q h → TakesHanded q (stream_schema c.messages.self.consumer.metadata) (handed_of c.in_ok-message.message) h' (Ok (Some b))
    = subst (λ o. (q : Dictionaries) → HoldsCells q h → TakesHanded q (stream_schema c.messages.self.consumer.metadata) (handed_of c.in_ok-message.message) h' (Ok o)) c.in-Some-taken.is c.in_ok-taken.ensures.takes in
    passed_batch g.I.Iterator.next_gives (stream_schema c.args.self.now.consumer.metadata) c.args.self.now.messages c.messages.self.messages c.next.new.self d h h' c.in_ok-message.message b (c.messages.invariant.passed d holds)
    (subst (λ r. g.I.Iterator.next_gives c.messages.self.messages (Some r) c.next.new.self) c.in_ok-message.was c.in-Some.ensures.steps)
    (subst (λ m. (q : Dictionaries) → HoldsCells q h → TakesHanded q (stream_schema m) (handed_of c.in_ok-message.message) h' (Ok (Some b))) c.messages.invariant.metadata takes)

pub messages-preserved : goal.messages-preserved
messages-preserved g c =
    let h = held_in c.messages.self.consumer.dictionaries in
    let h' = held_in c.consume.new.self.dictionaries in
    let none : c.in_ok-taken.taken ≡ None = first_of (search rules, grind arith) in
    let takes : (q : Dictionaries) → HoldsCells q h → TakesHanded q (stream_schema c.messages.self.consumer.metadata) (handed_of c.in_ok-message.message) h' (Ok None)
    = subst (λ o. (q : Dictionaries) → HoldsCells q h → TakesHanded q (stream_schema c.messages.self.consumer.metadata) (handed_of c.in_ok-message.message) h' (Ok o)) none c.in_ok-taken.ensures.takes in
    record {
      passed = λ d holds. one_passed g.I.Iterator.next_gives (stream_schema c.args.self.now.consumer.metadata) c.args.self.now.messages c.messages.self.messages c.next.new.self d h h' c.in_ok-message.message (c.messages.invariant.passed d holds)
          (subst (λ r. g.I.Iterator.next_gives c.messages.self.messages (Some r) c.next.new.self) c.in_ok-message.was c.in-Some.ensures.steps)
          (subst (λ m. (q : Dictionaries) → HoldsCells q h → TakesHanded q (stream_schema m) (handed_of c.in_ok-message.message) h' (Ok None)) c.messages.invariant.metadata takes);
      metadata = c.in_ok-taken.ensures.metadata ∙ c.messages.invariant.metadata;
      can = c.in-Some.ensures.goes.keeps;
      finite = (c.in-Some.ensures.goes.on c.messages.invariant.finite).1;
    }

pub returns-clause-runs : goal.returns-clause-runs
returns-clause-runs g c = λ d holds.
    let none : c.next.result ≡ None = first_of (search rules, grind arith) in
    passed_end g.I.Iterator.next_gives (stream_schema c.args.self.now.consumer.metadata) c.args.self.now.messages c.messages.self.messages c.next.new.self d (held_in c.messages.self.consumer.dictionaries) (c.messages.invariant.passed d holds) (subst (λ r. g.I.Iterator.next_gives c.messages.self.messages r c.next.new.self) none c.next.ensures.steps)
