use Rattle.std.proofs.Common.{◌≡◌, ◌+◌, ◌++◌, ◌∷◌, [], List, ℕ, length, Some, ◌<◌, ◌^◌, length-append, refl, rules, inl, ⊎_elim, sym, ◌∙◌, ap, subst, arith}
use Rattle.std.specs.Prelude.{option_map}
use Rattle.ipc_log_disk.specs.Below.{overwritten}
use Rattle.ipc_record_log.specs.Logs.{IsSettled}
use Rattle.ipc_record_log.specs.Records.{behind_gate, log_records}
use Rattle.ipc_record_log.specs.declared.span.Span.{Span}
use Rattle.ipc_record_log.proofs.Gates.{within, changed_within, told_before, length_kept, inside, means, torn_behind, torn_at, settled_more}
use Rattle.ipc_record_log.proofs.Reading.{length-behind_gate}
use Rattle.ipc_record_log.proofs.record_log.RecordLog.append.Goals as goal

pub returns-in_err-push_record-clause-any_moment : goal.returns-in_err-push_record-clause-any_moment
returns-in_err-push_record-clause-any_moment g c = λ ready b x told since.
    let s = c.args.self.now.ready ready b told in
    inl (ap log_records (s.only x (g.met.D.LogDisk.only_now c.args.self.now.disk x since)) ∙ means _ b _ _ s)

pub returns-in_err-push-clause-any_moment : goal.returns-in_err-push-clause-any_moment
returns-in_err-push-clause-any_moment g c = λ ready b x told since.
    let s = c.args.self.now.ready ready b told in
    inl (ap log_records (s.only x (g.met.D.LogDisk.only_now c.args.self.now.disk x since)) ∙ means _ b _ _ s)

pub invariant_of-self : goal.invariant_of-self
invariant_of-self g c =
    let same : c.push.new.self.items ≡ c.args.self.now.spans.items = search rules in
    record {
      near = c.args.self.now.near;
      ready = λ is b told. subst (λ (l : List Span). IsSettled (g.D.LogDisk.images c.args.self.now.disk) b l c.args.self.now.end) (sym same) (c.args.self.now.ready is b told);
    }

pub write_synced-requires : goal.write_synced-requires
write_synced-requires g c = record {
  within = within _ _ (λ b told. let s = c.args.self.now.ready c.if-self.false b told in let i = inside _ b _ _ s in omega arith);
}

pub returns-in_err-write_synced-clause-any_moment : goal.returns-in_err-write_synced-clause-any_moment
returns-in_err-write_synced-clause-any_moment g c = λ ready b x told since.
    let s = c.args.self.now.ready ready b told in
    inl (torn_behind _ b _ _ s _ x (c.write_synced.ensures.since x since))

pub write_synced-requires-2 : goal.write_synced-requires-2
write_synced-requires-2 g c = record {
  within = changed_within (g.D.LogDisk.content c.args.self.now.disk) _ _ _ c.in_ok-write_synced.ensures.bytes (λ b told.
      let s = c.args.self.now.ready c.if-self.false b told in
      let i = inside _ b _ _ s in
      let k = length_kept b c.deref.result.now (c.args.self.now.end + 1) (omega arith) in
      omega arith);
}

-- the second write is at the gate, and the bytes before it are all on the disk
pub returns-in_err-write_synced-2-clause-any_moment : goal.returns-in_err-write_synced-2-clause-any_moment
returns-in_err-write_synced-2-clause-any_moment g c = λ ready b x told since.
    let s = c.args.self.now.ready ready b told in
    let end = c.args.self.now.end in
    let r = c.args.bytes.now in
    let written : c.deref.result.now ≡ behind_gate r ++ 0 ∷ [] = c.deref.ensures.value ∙ c.in_ok-push_record.ensures ∙ ap (λ (l : List ℕ). l ++ (behind_gate r ++ 0 ∷ [])) c.new-behind.ensures.items in
    let staged : g.D.LogDisk.content c.write_synced.new.disk ≡ Some (overwritten b (end + 1) (behind_gate r ++ 0 ∷ [])) =
    c.in_ok-write_synced.ensures.bytes ∙ ap (option_map (λ (d : List ℕ). overwritten d (end + 1) c.deref.result.now)) told ∙ ap (λ (w : List ℕ). Some (overwritten b (end + 1) w)) written in
    let short : length r < 2 ^ 64 = omega (arith, c.in_ok-write_synced.ensures.bound, ap length written, length-append (behind_gate r) (0 ∷ []), length-behind_gate r) in
    ⊎_elim
    (λ first. inl (torn_behind _ b _ _ s _ x (c.write_synced.ensures.since x first)))
    (λ second. torn_at _ b _ _ s r (g.D.LogDisk.images c.write_synced.new.disk) short (λ d left. c.in_ok-write_synced.ensures.durable _ d staged left) x (c.write_synced-2.ensures.since x second))
    ((c.write_synced-2.ensures.time.exact (g.D.LogDisk.moment c.args.self.now.disk) x c.write_synced.ensures.time.later).0 since)

pub invariant_of-self-2 : goal.invariant_of-self-2
invariant_of-self-2 g c =
    let end = c.args.self.now.end in
    let r = c.args.bytes.now in
    let written : c.deref.result.now ≡ behind_gate r ++ 0 ∷ [] = c.deref.ensures.value ∙ c.in_ok-push_record.ensures ∙ ap (λ (l : List ℕ). l ++ (behind_gate r ++ 0 ∷ [])) c.new-behind.ensures.items in
    let near : end + (16 + length r) < 2 ^ 63 = omega (arith, c.in_ok-write_synced.ensures.bound, ap length written, length-append (behind_gate r) (0 ∷ []), length-behind_gate r) in
    let spanned : c.push.new.self.items ≡ c.args.self.now.spans.items ++ record { at = end + 16; length = length r } ∷ [] = c.in_ok-push.ensures.items in
    record {
      near = near;
      ready = λ is d told.
          let from = told_before (g.D.LogDisk.content c.args.self.now.disk) _ _ (λ (b : List ℕ). overwritten b (end + 1) c.deref.result.now) (λ (b : List ℕ). overwritten b end (1 ∷ [])) d c.in_ok-write_synced.ensures.bytes c.in_ok-write_synced-2.ensures.bytes told in
          let s = c.args.self.now.ready c.if-self.false from.0 from.1 in
          let more = settled_more _ from.0 _ _ s r (g.D.LogDisk.images c.write_synced-2.new.disk) d (end + 16) (end + (16 + length r)) (omega arith) (from.2 ∙ ap (λ (w : List ℕ). overwritten (overwritten from.0 (end + 1) w) end (1 ∷ [])) written) refl refl (λ x left. c.in_ok-write_synced-2.ensures.durable d x told left) in
          subst (λ (l : List Span). IsSettled (g.D.LogDisk.images c.write_synced-2.new.disk) d l (end + (16 + length r))) (sym spanned) more.0;
    }

pub returns-clause-acknowledged : goal.returns-clause-acknowledged
returns-clause-acknowledged g c = λ b told.
    let s = c.args.self.now.ready c.if-self.false b told in
    let end = c.args.self.now.end in
    let r = c.args.bytes.now in
    let written : c.deref.result.now ≡ behind_gate r ++ 0 ∷ [] = c.deref.ensures.value ∙ c.in_ok-push_record.ensures ∙ ap (λ (l : List ℕ). l ++ (behind_gate r ++ 0 ∷ [])) c.new-behind.ensures.items in
    let short : length r < 2 ^ 64 = omega (arith, c.in_ok-write_synced.ensures.bound, ap length written, length-append (behind_gate r) (0 ∷ []), length-behind_gate r) in
    let d = overwritten (overwritten b (end + 1) (behind_gate r ++ 0 ∷ [])) end (1 ∷ []) in
    let staged : g.D.LogDisk.content c.write_synced.new.disk ≡ Some (overwritten b (end + 1) (behind_gate r ++ 0 ∷ [])) =
    c.in_ok-write_synced.ensures.bytes ∙ ap (option_map (λ (d : List ℕ). overwritten d (end + 1) c.deref.result.now)) told ∙ ap (λ (w : List ℕ). Some (overwritten b (end + 1) w)) written in
    let now : g.D.LogDisk.content c.write_synced-2.new.disk ≡ Some d = c.in_ok-write_synced-2.ensures.bytes ∙ ap (option_map (λ (d : List ℕ). overwritten d end (1 ∷ []))) staged in
    let only : (x : List ℕ) → g.D.LogDisk.images c.write_synced-2.new.disk x → x ≡ d = λ x left. c.in_ok-write_synced-2.ensures.durable d x now left in
    let more = settled_more _ b _ _ s r (g.D.LogDisk.images c.write_synced-2.new.disk) d (end + 16) (end + (16 + length r)) short refl refl refl only in
    record { b = d; told = now; means = more.1; durable = λ x left. ap log_records (only x left) ∙ more.1 }

pub returns-clause-any_moment : goal.returns-clause-any_moment
returns-clause-any_moment g c = λ ready b x told since.
    let s = c.args.self.now.ready ready b told in
    let end = c.args.self.now.end in
    let r = c.args.bytes.now in
    let written : c.deref.result.now ≡ behind_gate r ++ 0 ∷ [] = c.deref.ensures.value ∙ c.in_ok-push_record.ensures ∙ ap (λ (l : List ℕ). l ++ (behind_gate r ++ 0 ∷ [])) c.new-behind.ensures.items in
    let staged : g.D.LogDisk.content c.write_synced.new.disk ≡ Some (overwritten b (end + 1) (behind_gate r ++ 0 ∷ [])) =
    c.in_ok-write_synced.ensures.bytes ∙ ap (option_map (λ (d : List ℕ). overwritten d (end + 1) c.deref.result.now)) told ∙ ap (λ (w : List ℕ). Some (overwritten b (end + 1) w)) written in
    let short : length r < 2 ^ 64 = omega (arith, c.in_ok-write_synced.ensures.bound, ap length written, length-append (behind_gate r) (0 ∷ []), length-behind_gate r) in
    ⊎_elim
    (λ first. inl (torn_behind _ b _ _ s _ x (c.write_synced.ensures.since x first)))
    (λ second. torn_at _ b _ _ s r (g.D.LogDisk.images c.write_synced.new.disk) short (λ d left. c.in_ok-write_synced.ensures.durable _ d staged left) x (c.write_synced-2.ensures.since x second))
    ((c.write_synced-2.ensures.time.exact (g.D.LogDisk.moment c.args.self.now.disk) x c.write_synced.ensures.time.later).0 since)
