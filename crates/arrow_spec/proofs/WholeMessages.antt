-- Messages are passed over by their prefixes, their metadata and the lengths of their bodies.
use Rattle.std.proofs.Common.{◌≡◌, ℕ, suc, List, ◌++◌, length, Some, Ok, refl, ap, ◌∙◌, arith, length-append, true, Bool}
use Rattle.std.specs.Prelude.{nat_le}
use Rattle.std.proofs.lemmas.Bool.{le-leb}
use Rattle.std.proofs.lemmas.List.{drop_at}
use Rattle.arrow_spec.specs.Readings.{bind}
use Rattle.arrow_spec.specs.Messages.{Message, message_of}
use Rattle.arrow_spec.specs.Streams.{behind_messages, body_length, next_message}
use Rattle.arrow_spec.proofs.Projection.{on}
use Rattle.arrow_spec.proofs.ReadPairs.{same_read, through}

-- a message that is read tells the length of its body
pub body_told : (taken : ℕ → Bool) (b : List ℕ) (m : Message) → message_of b taken ≡ Ok m → body_length b ≡ Ok m.body
unfolding message_of body_length
body_told taken b m h =
    through _ _ m h λ t t_is h1. through _ _ m h1 λ tag tag_is h2. through _ _ m h2 λ place place_is h3. through _ _ m h3 λ present present_is h4. through _ _ m h4 λ listed listed_is h5.
    through _ _ m h5 λ expected expected_is h6. through _ _ m h6 λ header header_is h7. through _ _ m h7 λ body body_is h8. on _ _ t t_is ∙ body_is ∙ ap (λ (x : Message). Ok x.body) (same_read _ m h8)

-- a message with its body is passed over
pub passed_over : (most : ℕ) (b metadata body rest : List ℕ) → next_message b ≡ Ok (Some (record { metadata = metadata; behind = body ++ rest })) → body_length metadata ≡ Ok (length body) → behind_messages (suc most) b ≡ behind_messages most rest
unfolding behind_messages bind
passed_over most b metadata body rest next told =
    let inside : nat_le (length body) (length (body ++ rest)) ≡ true = le-leb _ _ (omega (arith, length-append body rest)) in
    rw (behind_messages, next) (rw (told, inside, drop_at body rest (length body) refl) refl)
