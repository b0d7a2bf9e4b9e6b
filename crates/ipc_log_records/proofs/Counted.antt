-- The dictionaries of a stream that means a table are counted.
use Rattle.std.proofs.Common.{◌≡◌, ℕ, zero, suc, ◌<◌, ◌≤◌, List, [], length, drop, true, nat_eq, nat_le, Option, Some, None, Ok, Err, refl, sym, ◌∙◌, ap, arith, length-drop}
use Rattle.std.proofs.lemmas.Bool.{eqb-true}
use Rattle.arrow_spec.specs.Arrays.{Dictionaries}
use Rattle.arrow_spec.specs.Files.{ArrowTable, TableBatch}
use Rattle.arrow_spec.specs.Kinds.{Metadata}
use Rattle.arrow_spec.specs.Messages.{Message, message_of}
use Rattle.arrow_spec.specs.Readings.{Reading}
use Rattle.arrow_spec.specs.Schema.{Schema}
use Rattle.arrow_spec.specs.Streams.{Framed, Reader, body_in, next_message, stream_batches, stream_head, stream_reading, stream_table}
use Rattle.arrow_spec.proofs.Projection.{on, some_meaning}
use Rattle.arrow_spec.proofs.ReadPairs.{same_read, through}
use Rattle.arrow_spec.proofs.StreamFuel.{stream_fuel_is_enough}
use Rattle.laws_logs.specs.Tables.{Passed, counted_in, dictionaries_from, next_pass, pass_if_any, pass_of}
use Rattle.ipc_log_records.proofs.Passing.{counts_one, ends_count}
use Rattle.ipc_log_records.proofs.Schemas.{first_is}
use Rattle.ipc_log_records.proofs.Stepped.{behind_less, few_tags, of_stream, step_of, taken_too}
use Rattle.ipc_log_records.proofs.TooMany.{none_refused, taken}

-- ── one message ──

passed : (b : List ℕ) (f : Framed) (m : Message) (body : List ℕ) → next_message b ≡ Ok (Some f) → message_of f.metadata (λ tag. nat_le tag 3) ≡ Ok m → body_in f m ≡ Ok body
    → next_pass b ≡ Ok (Some (record { rest = drop m.body f.behind; is_dictionary = nat_eq m.tag 2 }))
unfolding next_pass pass_of
passed b f m body is taken whole =
    on (next_message b) pass_if_any (Some f) is
    ∙ on (pass_of f) (λ p. Ok (Some p)) (record { rest = drop m.body f.behind; is_dictionary = nat_eq m.tag 2 }) (on (message_of f.metadata (λ tag. nat_le tag 3)) _ m taken ∙ on (body_in f m) _ body whole)

none_passed : (b : List ℕ) → next_message b ≡ Ok None → next_pass b ≡ Ok None
unfolding next_pass
none_passed b is = on (next_message b) pass_if_any None is

-- behind a message of which the rest is counted
one_counted : (b : List ℕ) (f : Framed) (m : Message) (body rest : List ℕ) (most : ℕ) → next_message b ≡ Ok (Some f) → message_of f.metadata (λ tag. nat_le tag 3) ≡ Ok m → body_in f m ≡ Ok body → rest ≡ drop m.body f.behind
    → ((n : ℕ) × (dictionaries_from most rest ≡ Ok n)) → (n : ℕ) × (dictionaries_from (suc most) b ≡ Ok n)
one_counted b f m body rest most is taken whole behind k =
    let p : Passed = record { rest = drop m.body f.behind; is_dictionary = nat_eq m.tag 2 } in
    (counted_in (nat_eq m.tag 2) k.0, counts_one most b p (passed b f m body is taken whole) ∙ on (dictionaries_from most (drop m.body f.behind)) (λ n. Ok (counted_in (nat_eq m.tag 2) n)) k.0 (ap (dictionaries_from most) (sym behind) ∙ k.1))

-- ── batches ──

pub batches_counted : (most : ℕ) (s : Reader) (d : Dictionaries) (b : List ℕ) (xs : List TableBatch) → length b ≤ most → stream_batches (length b) s d b ≡ Ok xs → (n : ℕ) × (dictionaries_from most b ≡ Ok n)
unfolding dictionaries_from
batches_counted zero s d b xs few h = (0, refl)
batches_counted (suc most) s d b xs few h = by (λ e rest ys less read. batches_counted most s e rest ys less read) (next_message b) refl
  where
    by : ((e : Dictionaries) (rest : List ℕ) (ys : List TableBatch) → length rest ≤ most → stream_batches (length rest) s e rest ≡ Ok ys → (n : ℕ) × (dictionaries_from most rest ≡ Ok n))
        → (r : Reading (Option Framed)) → next_message b ≡ r → (n : ℕ) × (dictionaries_from (suc most) b ≡ Ok n)
    by again (Err es) is = absurd (none_refused s d b xs es is h)
    by again (Ok None) is = (0, ends_count (suc most) b (none_passed b is))
    by again (Ok (Some f)) is =
        let t = taken s d b f xs is h in
        let o = step_of s d f t.step t.taken in
        let less : length t.step.rest ≤ most = omega (arith, few, behind_less b f is, ap length o.rest, length-drop o.message.body f.behind) in
        one_counted b f o.message o.body t.step.rest most is (taken_too f.metadata of_stream (λ tag. nat_le tag 3) o.message few_tags o.taken) o.whole o.rest
        (again t.step.dictionaries t.step.rest t.others less t.read)

-- ── a stream ──

one_tag : (tag : ℕ) → nat_eq tag 1 ≡ true → nat_le tag 3 ≡ true
one_tag tag h = ap (λ (n : ℕ). nat_le n 3) (eqb-true tag 1 h)

pub head_taken : (metadata : List ℕ) (first : Message × Metadata × Schema) → stream_head metadata ≡ Ok first → message_of metadata (λ tag. nat_le tag 3) ≡ Ok first.0
unfolding stream_head
head_taken metadata first h =
    through _ _ first h λ m m_is h1. through _ _ first h1 λ v _ h2. through _ _ first h2 λ custom _ h3. through _ _ first h3 λ schema _ h4.
    let same : m ≡ first.0 = ap (λ (x : Message × Metadata × Schema). x.0) (same_read _ first h4) in
    taken_too metadata (λ tag. nat_eq tag 1) (λ tag. nat_le tag 3) first.0 one_tag (m_is ∙ ap (λ (x : Message). Ok x) same)

pub stream_counted : (b : List ℕ) (t : ArrowTable) → stream_table b None ≡ Some t → (n : ℕ) × (dictionaries_from (length b) b ≡ Ok n)
unfolding stream_table stream_reading
stream_counted b t h =
    through _ _ t (some_meaning (stream_reading b None) t h) λ f f_is h1. through _ _ t h1 λ first first_found h2. through _ _ t h2 λ body body_found h3. through _ _ t h3 λ right _ h4. through _ _ t h4 λ batches batches_are _.
    let is = first_is b f f_is in
    let rest = drop first.0.body f.behind in
    let reader : Reader = record { schema = first.2; columns = None } in
    let less : length rest < length b = omega (arith, behind_less b f is, length-drop first.0.body f.behind) in
    let read : stream_batches (length rest) reader [] rest ≡ Ok batches = sym (stream_fuel_is_enough reader [] rest (length b) (omega (arith, less))) ∙ batches_are in
    by (length b) f first.0 body batches reader is (head_taken f.metadata first first_found) body_found less read
  where
    by : (most : ℕ) (f : Framed) (m : Message) (body : List ℕ) (xs : List TableBatch) (s : Reader) → next_message b ≡ Ok (Some f) → message_of f.metadata (λ tag. nat_le tag 3) ≡ Ok m → body_in f m ≡ Ok body → length (drop m.body f.behind) < most
        → stream_batches (length (drop m.body f.behind)) s [] (drop m.body f.behind) ≡ Ok xs → (n : ℕ) × (dictionaries_from most b ≡ Ok n)
    by zero f m body xs s is taken whole less read = absurd (omega (arith, less))
    by (suc most) f m body xs s is taken whole less read =
        one_counted b f m body (drop m.body f.behind) most is taken whole refl (batches_counted most s [] (drop m.body f.behind) xs (omega (arith, less)) read)
