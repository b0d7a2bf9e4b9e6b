-- One call after another that only reads.
use Rattle.std.proofs.Common.{ℕ, ◌≤◌, List, Option, inl, inr, ⊎_elim, ◌∙◌, arith}
use Rattle.ipc_log_disk.specs.Crashes.{Images, Elapses}
use Rattle.ipc_record_log.specs.Logs.{OnlyReads}

pub elapses_on : {m m' m'' : ℕ} {s s' s'' : ℕ → Images} → Elapses m m' s s' → Elapses m' m'' s' s'' → Elapses m m'' s s''
elapses_on {m} {m'} {m''} h k = record {
  later = omega (arith, h.later, k.later);
  exact = λ t c le.
      let le' : t ≤ m' = omega (arith, le, h.later) in (
        λ x. ⊎_elim
            (λ y. ⊎_elim (λ z. inl z) (λ z. inr ((k.exact m c h.later).1 (inl z))) ((h.exact t c le).0 y))
            (λ y. inr ((k.exact m c h.later).1 (inr y)))
            ((k.exact t c le').0 x),
        λ e. ⊎_elim
            (λ y. (k.exact t c le').1 (inl ((h.exact t c le).1 (inl y))))
            (λ y. (k.exact t c le').1 (⊎_elim (λ z. inl ((h.exact t c le).1 (inr z))) (λ z. inr z) ((k.exact m c h.later).0 y)))
            e,
      );
}

pub reads_on : {D : Type 0} {content_of : D → Option (List ℕ)} {images_of : D → Images} {moment_of : D → ℕ} {since_of : D → ℕ → Images} {faults_of wants_of : D → ℕ} {references_of : D → List ℕ} {d d' d'' : D}
    → OnlyReads content_of images_of moment_of since_of faults_of wants_of references_of d d' → OnlyReads content_of images_of moment_of since_of faults_of wants_of references_of d' d''
    → OnlyReads content_of images_of moment_of since_of faults_of wants_of references_of d d''
reads_on {moment_of = moment_of} {d = d} h k = record {
  content = k.content ∙ h.content;
  images = λ c. (λ x. (h.images c).0 ((k.images c).0 x), λ x. (k.images c).1 ((h.images c).1 x));
  since = λ c x. ⊎_elim (h.since c) (λ now. (h.images c).0 (k.since c now)) ((k.time.exact (moment_of d) c h.time.later).0 x);
  time = elapses_on h.time k.time;
  faults = omega (arith, h.faults, k.faults);
  wants = k.wants ∙ h.wants;
  references = k.references ∙ h.references;
}
