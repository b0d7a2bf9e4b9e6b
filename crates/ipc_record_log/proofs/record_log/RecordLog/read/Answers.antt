use Rattle.std.proofs.Common.{List, ℕ, Option, Result, Ok, Err, IfErr, inl, inr, ⊎_elim, sym, ◌∙◌, subst}
use Rattle.std.proofs.lemmas.Result.{IfOk-weaker}
use Rattle.ipc_io.specs.Outside.{StandsAt}
use Rattle.ipc_record_log.proofs.Places.{span_inside, span_read, untold}
use Rattle.ipc_record_log.proofs.record_log.RecordLog.read.Goals as goal

weaker : {T E : Type 0} → (r : Result T E) (P Q : E → Type 0) → ((e : E) → P e → Q e) → IfErr r P → IfErr r Q
weaker (Ok x) P Q f h = tt
weaker (Err e) P Q f h = f e h

pub invariant_of-self : goal.invariant_of-self
invariant_of-self g c =
    let kept = c.read_span.ensures.kept in
    record {
      near = c.args.self.now.near;
      ready = λ is b told.
          let s = c.args.self.now.ready is b (sym kept.content ∙ told) in
          record { log = s.log; only = λ x left. s.only x ((kept.images x).0 left) };
    }

pub returns-clause-bytes : goal.returns-clause-bytes
returns-clause-bytes g c =
    let span = c.index-span.result.now in
    IfOk-weaker c.read_span.result _ _ (λ v h b told.
    let s = c.args.self.now.ready c.if-self.false b told in
    span_read b _ _ s.log c.args.i span span c.requires c.index-span.ensures v.items h.0 (subst (λ (o : Option (List ℕ)). StandsAt o span.at v.items) told h.1)) c.read_span.ensures.bytes

pub returns-clause-err : goal.returns-clause-err
returns-clause-err g c =
    let span = c.index-span.result.now in
    weaker c.read_span.result _ _ (λ e h. inr (⊎_elim (λ memory. inl memory) (λ others. inr (⊎_elim (λ fault. inl fault) (λ short. inr (
      short.0,
      untold (g.D.LogDisk.content c.args.self.now.disk) span.at span.length short.1 (λ b told.
          let s = c.args.self.now.ready c.if-self.false b told in
          span_inside b _ _ s.log c.args.i span span c.requires c.index-span.ensures),
    )) others)) h)) c.read_span.ensures.err
