use Rattle.std.proofs.Common.{◌≡◌, ◌<◌, ◌-◌, Err, IfSome, Ok, ◌∙◌, ap, arith, refl, rules, subst, sym}
use Rattle.ipc_files.specs.Below.{held_in}
use Rattle.ipc_files.proofs.Errors.{is_err}
use Rattle.ipc_files.proofs.ReadFiles.{of_err}
use Rattle.ipc_files.specs.Selections.{HasFields}
use Rattle.ipc_streams.specs.Readers.{IsReader, fields_shown}
use Rattle.ipc_streams.proofs.NextBatches.{arrays_batch, arrays_end, arrays_wait, next_batch, next_ends, next_not_framed, next_reached, next_refused, next_waits, none_taken}
use Rattle.ipc_streams.proofs.TakenCalls.{cause_since, keeps_feed, keeps_on, no_value}
use Rattle.ipc_streams.proofs.cursor.StreamCursor.read_next.Goals as goal

pub messages-init : goal.messages-init
messages-init g c = record {
  reached = λ s d reads holds. none_taken (g.F.Feed.rest c.args.feed.now) s d (held_in c.args.self.now.dictionaries) holds;
  kept = record { columns = refl; is_finished = refl; feed = search rules };
  faults_stay = refl;
}

pub returns-in_err-frame : goal.returns-in_err-frame
returns-in_err-frame g c =
    let x = c.in_err-frame.field-0.0 in
    let e : c.from_residual.result ≡ Err x = is_err _ _ _ c.from_residual.ensures.0 c.from_residual.ensures.1 (λ f h. h) in
    record {
      gives = λ s d reads holds. next_not_framed (g.F.Feed.rest c.args.feed.now) s d _ _ _ _ _ c.messages.left c.from_residual.result x e (c.messages.invariant.reached s d reads holds) c.in_err-frame.ensures.gives;
      arrays = λ s d reads holds. no_value c.from_residual.result x _ e;
      schema = λ s reads. no_value c.from_residual.result x _ e;
      cause = of_err c.from_residual.result x _ e (cause_since x _ _ _ c.messages.invariant.kept.feed.faults c.in_err-frame.ensures.cause);
      faults_stay = no_value c.from_residual.result x _ e;
      kept = keeps_feed c.messages.invariant.kept c.in_err-frame.ensures.kept;
    }

pub returns-in-Waiting : goal.returns-in-Waiting
returns-in-Waiting g c = record {
  gives = λ s d reads holds. next_waits (g.F.Feed.rest c.args.feed.now) s d _ _ _ _ c.messages.left c.in_ok-frame.frame c.in-Waiting.is (c.messages.invariant.reached s d reads holds) c.in_ok-frame.ensures.gives;
  arrays = λ s d reads holds. arrays_wait (g.F.Feed.rest c.args.feed.now) s d _ _ _ _ c.messages.left c.in_ok-frame.frame c.in-Waiting.is (c.messages.invariant.reached s d reads holds) c.in_ok-frame.ensures.gives;
  schema = λ s reads. tt;
  cause = tt;
  faults_stay = c.in_ok-frame.ensures.faults_stay ∙ c.messages.invariant.faults_stay;
  kept = keeps_feed c.messages.invariant.kept c.in_ok-frame.ensures.kept;
}

pub returns-in-Ended : goal.returns-in-Ended
returns-in-Ended g c = record {
  gives = λ s d reads holds. next_ends (g.F.Feed.rest c.args.feed.now) s d _ _ _ _ c.messages.left c.in_ok-frame.frame c.in-Ended.is (c.messages.invariant.reached s d reads holds) c.in_ok-frame.ensures.gives;
  arrays = λ s d reads holds. arrays_end (g.F.Feed.rest c.args.feed.now) s d _ _ _ _ c.messages.left c.in_ok-frame.frame c.in-Ended.is (c.messages.invariant.reached s d reads holds) c.in_ok-frame.ensures.gives;
  schema = λ s reads. tt;
  cause = tt;
  faults_stay = c.in_ok-frame.ensures.faults_stay ∙ c.messages.invariant.faults_stay;
  kept = keeps_feed c.messages.invariant.kept c.in_ok-frame.ensures.kept;
}

pub returns-in_err-taken-in-Message : goal.returns-in_err-taken-in-Message
returns-in_err-taken-in-Message g c =
    let x = c.in_err-taken-in-Message.field-0.0 in
    let e : c.from_residual-in_err-taken-in-Message.result ≡ Err x = is_err _ _ _ c.from_residual-in_err-taken-in-Message.ensures.0 c.from_residual-in_err-taken-in-Message.ensures.1 (λ f h. h) in
    record {
      gives = λ s d reads holds. next_refused (g.F.Feed.rest c.args.feed.now) s d _ _ _ _ _ _ c.messages.left c.in_ok-frame.frame c.in-Message.bytes c.deref.result.now c.from_residual-in_err-taken-in-Message.result x e (c.messages.invariant.reached s d reads holds) c.in-Message.is c.in_ok-frame.ensures.gives c.deref.ensures.value
          (λ ds held. c.in_err-taken-in-Message.ensures.gives s ds (subst (λ k. IsReader k s) (sym c.messages.invariant.kept.columns) reads) held);
      arrays = λ s d reads holds. no_value c.from_residual-in_err-taken-in-Message.result x _ e;
      schema = λ s reads. no_value c.from_residual-in_err-taken-in-Message.result x _ e;
      cause = of_err c.from_residual-in_err-taken-in-Message.result x _ e (cause_since x _ _ _ (omega (arith, c.messages.invariant.kept.feed.faults, c.in_ok-frame.ensures.kept.faults)) c.in_err-taken-in-Message.ensures.cause);
      faults_stay = no_value c.from_residual-in_err-taken-in-Message.result x _ e;
      kept = keeps_on (keeps_feed c.messages.invariant.kept c.in_ok-frame.ensures.kept) c.in_err-taken-in-Message.ensures.kept;
    }

pub returns-in-Some : goal.returns-in-Some
returns-in-Some g c =
    let kept = c.messages.invariant.kept in
    record {
      gives = λ s d reads holds. next_batch (g.F.Feed.rest c.args.feed.now) s d _ _ _ _ _ _ c.messages.left c.in_ok-frame.frame c.in-Message.bytes c.deref.result.now c.in-Some.batch (c.messages.invariant.reached s d reads holds) c.in-Message.is c.in_ok-frame.ensures.gives c.deref.ensures.value
          c.in_ok-taken-in-Message.taken c.in-Some.is (λ ds held. c.in_ok-taken-in-Message.ensures.gives s ds (subst (λ k. IsReader k s) (sym kept.columns) reads) held);
      arrays = λ s d reads holds. arrays_batch (g.F.Feed.rest c.args.feed.now) s d _ _ _ _ _ _ c.messages.left c.in_ok-frame.frame c.in-Message.bytes c.deref.result.now c.in-Some.batch (c.messages.invariant.reached s d reads holds) c.in-Message.is c.in_ok-frame.ensures.gives c.deref.ensures.value
          c.in_ok-taken-in-Message.taken c.in-Some.is (λ ds held. c.in_ok-taken-in-Message.ensures.arrays s ds (subst (λ k. IsReader k s) (sym kept.columns) reads) held);
      schema = λ s reads. subst (λ k. HasFields c.in-Some.batch (fields_shown k)) kept.columns (subst (λ o. IfSome o (λ x. HasFields x (fields_shown c.messages.self.columns))) c.in-Some.is (c.in_ok-taken-in-Message.ensures.schema s (subst (λ k. IsReader k s) (sym kept.columns) reads)));
      cause = tt;
      faults_stay = c.in_ok-taken-in-Message.ensures.faults_stay ∙ c.in_ok-frame.ensures.faults_stay ∙ c.messages.invariant.faults_stay;
      kept = keeps_on (keeps_feed kept c.in_ok-frame.ensures.kept) c.in_ok-taken-in-Message.ensures.kept;
    }

pub overflow_sub-left : goal.overflow_sub-left
overflow_sub-left g c = let more : 0 < c.messages.left = c.in_ok-taken-in-Message.ensures.room (ap Ok c.in-None.is) in omega arith

pub messages-smaller : goal.messages-smaller
messages-smaller g c = let more : 0 < c.messages.left = c.in_ok-taken-in-Message.ensures.room (ap Ok c.in-None.is) in omega arith

pub messages-preserved : goal.messages-preserved
messages-preserved g c =
    let kept = c.messages.invariant.kept in
    let more : 0 < c.messages.left = c.in_ok-taken-in-Message.ensures.room (ap Ok c.in-None.is) in
    record {
      reached = λ s d reads holds. next_reached (g.F.Feed.rest c.args.feed.now) s d _ _ _ _ _ _ c.messages.left (c.messages.left - 1) c.in_ok-frame.frame c.in-Message.bytes c.deref.result.now (omega arith) (c.messages.invariant.reached s d reads holds) c.in-Message.is c.in_ok-frame.ensures.gives c.deref.ensures.value
          c.in_ok-taken-in-Message.taken c.in-None.is (λ ds held. c.in_ok-taken-in-Message.ensures.gives s ds (subst (λ k. IsReader k s) (sym kept.columns) reads) held) (λ ds held. c.in_ok-taken-in-Message.ensures.arrays s ds (subst (λ k. IsReader k s) (sym kept.columns) reads) held);
      kept = keeps_on (keeps_feed kept c.in_ok-frame.ensures.kept) c.in_ok-taken-in-Message.ensures.kept;
      faults_stay = c.in_ok-taken-in-Message.ensures.faults_stay ∙ c.in_ok-frame.ensures.faults_stay ∙ c.messages.invariant.faults_stay;
    }
