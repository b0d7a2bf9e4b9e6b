use Rattle.std.proofs.Common.{◌≡◌, ◌+◌, ◌++◌, ◌∷◌, [], List, ℕ, Some, map, take, drop, sym, ◌∙◌, ap, subst, inl, ⊎_elim, arith, append_assoc, append-nil, take-append-drop}
use Rattle.ipc_record_log.specs.Logs.{Holds}
use Rattle.ipc_record_log.specs.Records.{HasFront, log_records, or_none, records_in}
use Rattle.ipc_record_log.proofs.Fronts.{appended, taken, widened}
use Rattle.ipc_record_log.proofs.Gates.{means}
use Rattle.ipc_record_log.proofs.ReadOn.{elapses_on}
use Rattle.ipc_record_log.proofs.record_log.append_all.Goals as goal

pub loop-bytes-init : goal.loop-bytes-init
loop-bytes-init g c =
    let disk = c.args.log.now.disk in
    record {
      ready = c.requires.ready;
      time = record {
        later = omega arith;
        exact = λ t x le. (λ since. inl since, λ e. ⊎_elim (λ since. since) (λ now. g.met.D.LogDisk.counts_now disk t x le (g.met.D.LogDisk.only_now disk x now)) e);
      };
      held = λ b told.
          let s = c.args.log.now.ready c.requires.ready b told in
          let is = means _ b _ _ s ∙ ap (λ (l : List (List ℕ)). Some l) (sym (append-nil (records_in b))) in
          record { b = b; told = told; means = is; durable = λ x left. ap log_records (s.only x left) ∙ is };
      moments = λ b x told since.
          let s = c.args.log.now.ready c.requires.ready b told in
          record {
            count = 0;
            few = omega arith;
            means = ap log_records (s.only x (g.met.D.LogDisk.only_now disk x since)) ∙ means _ b _ _ s ∙ ap (λ (l : List (List ℕ)). Some l) (sym (append-nil (records_in b)));
          };
    }

pub loop-bytes-preserved : goal.loop-bytes-preserved
loop-bytes-preserved g c =
    let i = c.loop-bytes.bytes-index in
    let texts = map (λ v. v.items) c.args.records.now in
    let r = c.deref.result.now in
    let kept = c.loop-bytes.invariant in
    let grown : take (i + 1) texts ≡ take i texts ++ r ∷ [] = taken c.args.records.now i c.bytes-item.result r (omega arith) c.bytes-item.is c.deref.ensures.value in
    record {
      ready = c.in_ok-append.ensures.ok.1;
      time = elapses_on kept.time c.append.ensures.time;
      held = λ b told.
          let h = kept.held b told in
          let all : records_in h.b ++ r ∷ [] ≡ records_in b ++ take (i + 1) texts = ap (λ (l : List (List ℕ)). l ++ r ∷ []) (ap or_none h.means) ∙ append_assoc (records_in b) (take i texts) (r ∷ []) ∙ ap (λ (l : List (List ℕ)). records_in b ++ l) (sym grown) in
          subst (λ (l : List (List ℕ)). Holds (g.D.LogDisk.content c.append.new.self.disk) (g.D.LogDisk.images c.append.new.self.disk) l) all (c.in_ok-append.ensures.acknowledged h.b h.told);
      moments = λ b x told since.
          let h = kept.held b told in
          subst (λ (l : List (List ℕ)). HasFront (records_in b) l x) (sym grown) (⊎_elim
          (λ before. widened (records_in b) (take i texts) (r ∷ []) x (kept.moments b x told before))
          (λ now. appended (records_in b) (take i texts) (records_in h.b) r x (ap or_none h.means) (c.append.ensures.any_moment kept.ready h.b x h.told now))
          ((c.append.ensures.time.exact (g.D.LogDisk.moment c.args.log.now.disk) x kept.time.later).0 since));
    }

pub returns-in_err-append-clause-any_moment : goal.returns-in_err-append-clause-any_moment
returns-in_err-append-clause-any_moment g c = λ b x told since.
    let i = c.loop-bytes.bytes-index in
    let texts = map (λ v. v.items) c.args.records.now in
    let r = c.deref.result.now in
    let kept = c.loop-bytes.invariant in
    let h = kept.held b told in
    let grown : take (i + 1) texts ≡ take i texts ++ r ∷ [] = taken c.args.records.now i c.bytes-item.result r (omega arith) c.bytes-item.is c.deref.ensures.value in
    let some : HasFront (records_in b) (take (i + 1) texts) x = subst (λ (l : List (List ℕ)). HasFront (records_in b) l x) (sym grown) (⊎_elim
    (λ before. widened (records_in b) (take i texts) (r ∷ []) x (kept.moments b x told before))
    (λ now. appended (records_in b) (take i texts) (records_in h.b) r x (ap or_none h.means) (c.append.ensures.any_moment kept.ready h.b x h.told now))
    ((c.append.ensures.time.exact (g.D.LogDisk.moment c.args.log.now.disk) x kept.time.later).0 since)) in
    subst (λ (l : List (List ℕ)). HasFront (records_in b) l x) (take-append-drop (i + 1) texts) (widened (records_in b) (take (i + 1) texts) (drop (i + 1) texts) x some)
