use Rattle.std.proofs.Common.{◌≡◌, ◌∙◌, ◌<◌, Err, None, Some, arith, false, refl, rules, subst, sym, true}
use Rattle.arrow_spec.specs.declared.error.IpcError.TheVariants.{TooMany}
use Rattle.arrow_spec.specs.declared.error.Counted.TheVariants as counted
use Rattle.arrow_spec.specs.Readings.{Refuses, refusals}
use Rattle.arrow_spec.specs.Streams.{stream_batch, stream_dictionary}
use Rattle.ipc_files.specs.Below.{held_in, HoldsCells}
use Rattle.ipc_files.proofs.Errors.{is_err}
use Rattle.ipc_files.proofs.ReadBatches.{kinds_cause}
use Rattle.ipc_streams.specs.Steps.{step_within}
use Rattle.ipc_streams.proofs.Handed.{decoded_cause}
use Rattle.ipc_streams.proofs.TakenArrays.{behind_batch, behind_values, leaves_behind}
use Rattle.ipc_streams.proofs.TakenCalls.{message_not_taken}
use Rattle.ipc_streams.proofs.TakenMessages.{batch_refuses, framed, given_at, given_ok, step_of_batch, step_of_values, values_refuse}
use Rattle.ipc_streams.proofs.TakenSteps.{floats_refuse, head_has, head_refuses, no_room}
use Rattle.ipc_streams.proofs.cursor.StreamCursor.take_message.Goals as goal

pub returns-in_err-check : goal.returns-in_err-check
returns-in_err-check g c =
    let x = c.in_err-check.field-0.0 in
    let e : c.from_residual.result ≡ Err x = is_err _ _ _ c.from_residual.ensures.0 c.from_residual.ensures.1 (λ f h. h) in
    message_not_taken g.F.Feed.rest g.F.Feed.faults g.F.Feed.references c.args.feed.now _ c.args.self.now _ c.args.bytes.now c.args.left c.from_residual.result x e (kinds_cause x _ _ c.in_err-check.ensures.cause) (record { columns = refl; is_finished = refl; feed = search rules })
    (λ s d b reads holds told. floats_refuse c.args.left s d (framed c.args.bytes.now b) x (c.in_err-check.ensures.exact s reads).err)

pub returns-in_err-head : goal.returns-in_err-head
returns-in_err-head g c =
    let x = c.in_err-head.field-0.0 in
    let e : c.from_residual-in_err-head.result ≡ Err x = is_err _ _ _ c.from_residual-in_err-head.ensures.0 c.from_residual-in_err-head.ensures.1 (λ f h. h) in
    message_not_taken g.F.Feed.rest g.F.Feed.faults g.F.Feed.references c.args.feed.now _ c.args.self.now _ c.args.bytes.now c.args.left c.from_residual-in_err-head.result x e (decoded_cause x _ _ _ c.in_err-head.ensures.gives) (record { columns = refl; is_finished = refl; feed = search rules })
    (λ s d b reads holds told. head_refuses c.args.left s d (framed c.args.bytes.now b) x (c.in_ok-check.ensures.exact s reads).ok.0 c.in_err-head.ensures.gives)

pub returns-in_err-batch : goal.returns-in_err-batch
returns-in_err-batch g c =
    let x = c.in_err-batch.field-0.0 in
    let e : c.from_residual-in_err-batch.result ≡ Err x = is_err _ _ _ c.from_residual-in_err-batch.ensures.0 c.from_residual-in_err-batch.ensures.1 (λ f h. h) in
    let no : c.in_ok-head.head.is_dictionary ≡ false = search rules in
    let h = head_has c.args.bytes.now c.in_ok-head.head c.in_ok-head.ensures.gives in
    message_not_taken g.F.Feed.rest g.F.Feed.faults g.F.Feed.references c.args.feed.now _ c.args.self.now _ c.args.bytes.now c.args.left c.from_residual-in_err-batch.result x e c.in_err-batch.ensures.cause c.in_err-batch.ensures.kept
    (λ s d b reads holds told. batch_refuses c.args.left s d c.args.bytes.now b h.message x (c.in_ok-check.ensures.exact s reads).ok.0 h.is (h.dictionary ∙ no)
    (given_at (g.F.Feed.rest c.args.feed.now) (λ b. Refuses x (refusals (stream_batch s d (framed c.args.bytes.now b) h.message))) b told (c.in_err-batch.ensures.gives s d h.message reads holds (c.in_ok-check.ensures.exact s reads).ok.0 h.is (h.dictionary ∙ no) h.body)))

pub returns-then-not-head : goal.returns-then-not-head
returns-then-not-head g c =
    let no : c.in_ok-head.head.is_dictionary ≡ false = search rules in
    let h = head_has c.args.bytes.now c.in_ok-head.head c.in_ok-head.ensures.gives in
    record {
      gives = λ s d reads holds. given_ok (g.F.Feed.rest c.args.feed.now) _ (λ b told.
          step_of_batch c.args.left s d c.args.bytes.now b h.message c.in_ok-head.head.body _ _ c.in_ok-batch.batch (c.in_ok-check.ensures.exact s reads).ok.0 h.is (h.dictionary ∙ no) h.body (subst (λ m. HoldsCells d (held_in m)) (sym c.in_ok-batch.ensures.dictionaries) holds)
          (given_at (g.F.Feed.rest c.args.feed.now) _ b told (c.in_ok-batch.ensures.gives s d h.message reads holds (c.in_ok-check.ensures.exact s reads).ok.0 h.is (h.dictionary ∙ no) h.body)));
      arrays = λ s d reads holds. leaves_behind s _ _ c.args.bytes.now c.in_ok-head.head.body (g.F.Feed.rest c.args.feed.now) _ (Some c.in_ok-batch.batch)
          (behind_batch s d c.args.bytes.now h.message c.in_ok-head.head.body (g.F.Feed.rest c.args.feed.now) _ c.in_ok-batch.batch (c.in_ok-batch.ensures.gives s d h.message reads holds (c.in_ok-check.ensures.exact s reads).ok.0 h.is (h.dictionary ∙ no) h.body))
          (c.in_ok-batch.ensures.arrays s d h.message reads holds (c.in_ok-check.ensures.exact s reads).ok.0 h.is (h.dictionary ∙ no) h.body);
      room = λ none. cc;
      schema = λ s reads. c.in_ok-batch.ensures.schema s reads;
      cause = tt;
      faults_stay = c.in_ok-batch.ensures.faults_stay;
      kept = c.in_ok-batch.ensures.kept;
    }

pub returns-then-left-eq0 : goal.returns-then-left-eq0
returns-then-left-eq0 g c =
    let yes : c.in_ok-head.head.is_dictionary ≡ true = search rules in
    let h = head_has c.args.bytes.now c.in_ok-head.head c.in_ok-head.ensures.gives in
    message_not_taken g.F.Feed.rest g.F.Feed.faults g.F.Feed.references c.args.feed.now _ c.args.self.now _ c.args.bytes.now c.args.left _ (TooMany counted.Dictionaries) refl tt (record { columns = refl; is_finished = refl; feed = search rules })
    (λ s d b reads holds told. subst (λ n. Refuses (TooMany counted.Dictionaries) (refusals (step_within n s d (framed c.args.bytes.now b)))) (sym c.if-left-eq0.true) (no_room s d (framed c.args.bytes.now b) h.message (c.in_ok-check.ensures.exact s reads).ok.0 h.is (h.dictionary ∙ yes)))

pub returns-in_err-take_dictionary : goal.returns-in_err-take_dictionary
returns-in_err-take_dictionary g c =
    let x = c.in_err-take_dictionary.field-0.0 in
    let e : c.from_residual-in_err-take_dictionary.result ≡ Err x = is_err _ _ _ c.from_residual-in_err-take_dictionary.ensures.0 c.from_residual-in_err-take_dictionary.ensures.1 (λ f h. h) in
    let yes : c.in_ok-head.head.is_dictionary ≡ true = search rules in
    let more : 0 < c.args.left = omega arith in
    let h = head_has c.args.bytes.now c.in_ok-head.head c.in_ok-head.ensures.gives in
    message_not_taken g.F.Feed.rest g.F.Feed.faults g.F.Feed.references c.args.feed.now _ c.args.self.now _ c.args.bytes.now c.args.left c.from_residual-in_err-take_dictionary.result x e c.in_err-take_dictionary.ensures.cause c.in_err-take_dictionary.ensures.kept
    (λ s d b reads holds told. values_refuse c.args.left s d c.args.bytes.now b h.message x (c.in_ok-check.ensures.exact s reads).ok.0 h.is (h.dictionary ∙ yes) more
    (given_at (g.F.Feed.rest c.args.feed.now) (λ b. Refuses x (refusals (stream_dictionary s d (framed c.args.bytes.now b) h.message))) b told (c.in_err-take_dictionary.ensures.gives s d h.message reads holds h.is (h.dictionary ∙ yes) h.body)))

pub returns : goal.returns
returns g c =
    let yes : c.in_ok-head.head.is_dictionary ≡ true = search rules in
    let more : 0 < c.args.left = omega arith in
    let h = head_has c.args.bytes.now c.in_ok-head.head c.in_ok-head.ensures.gives in
    record {
      gives = λ s d reads holds. given_ok (g.F.Feed.rest c.args.feed.now) _ (λ b told.
          step_of_values c.args.left s d c.args.bytes.now b h.message c.in_ok-head.head.body _ _ tt (c.in_ok-check.ensures.exact s reads).ok.0 h.is (h.dictionary ∙ yes) h.body more
          (given_at (g.F.Feed.rest c.args.feed.now) _ b told (c.in_ok-take_dictionary.ensures.gives s d h.message reads holds h.is (h.dictionary ∙ yes) h.body)));
      arrays = λ s d reads holds. leaves_behind s _ _ c.args.bytes.now c.in_ok-head.head.body (g.F.Feed.rest c.args.feed.now) _ None
          (behind_values s d c.args.bytes.now h.message c.in_ok-head.head.body (g.F.Feed.rest c.args.feed.now) _ _ tt (c.in_ok-take_dictionary.ensures.gives s d h.message reads holds h.is (h.dictionary ∙ yes) h.body))
          (c.in_ok-take_dictionary.ensures.held s d h.message reads holds h.is (h.dictionary ∙ yes) h.body);
      room = λ none. more;
      schema = λ s reads. tt;
      cause = tt;
      faults_stay = c.in_ok-take_dictionary.ensures.faults_stay;
      kept = c.in_ok-take_dictionary.ensures.kept;
    }
