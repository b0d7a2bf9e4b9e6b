-- A message of a stream that is read is one that is passed over.
use Rattle.std.proofs.Common.{◌≡◌, ◌⊎◌, inl, inr, ℕ, zero, suc, ◌+◌, ◌<◌, ◌≤◌, List, [], ◌∷◌, length, drop, Bool, true, false, nat_eq, nat_le, nat_lt, Option, Some, None, Ok, refl, sym, ◌∙◌, ap, subst, arith, length-drop}
use Rattle.std.specs.Prelude.{◌||◌}
use Rattle.std.proofs.lemmas.Bool.{eqb-true, leb-true}
use Rattle.arrow_spec.specs.declared.error.OutOfSpecKind.{OutOfSpecKind}
use Rattle.arrow_spec.specs.Arrays.{Dictionaries, HeldDictionary}
use Rattle.arrow_spec.specs.Files.{TableBatch}
use Rattle.arrow_spec.specs.Messages.{Message, message_of}
use Rattle.arrow_spec.specs.Readings.{◌>>=◌, Reading, only_if}
use Rattle.arrow_spec.specs.Streams.{Framed, Reader, Step, body_in, framed, next_message, stream_batch, stream_dictionary, stream_prefix, stream_step}
use Rattle.arrow_spec.proofs.Projection.{on}
use Rattle.arrow_spec.proofs.ReadPairs.{same_read, through}
use Rattle.laws_logs.specs.Tables.{Passed, counted_in, dictionaries_from, next_pass, pass_if_any, pass_of}
use Rattle.ipc_log_records.proofs.Passing.{counts_one, found, in_full}

-- ── headers ──

wider : (x y : Bool) (kind : OutOfSpecKind) (u : Unit {0}) → (x ≡ true → y ≡ true) → only_if x kind ≡ Ok u → only_if y kind ≡ Ok u
wider true true kind u k h = h
wider true false kind u k h = let clash : false ≡ true = k refl in cc
wider false y kind u k h = cc

-- a message whose header is taken is one where more headers are
pub taken_too : (b : List ℕ) (few more : ℕ → Bool) (m : Message) → ((tag : ℕ) → few tag ≡ true → more tag ≡ true) → message_of b few ≡ Ok m → message_of b more ≡ Ok m
unfolding message_of
taken_too b few more m k h =
    through _ _ m h λ t t_is h1. through _ _ m h1 λ tag tag_is h2. through _ _ m h2 λ place place_is h3. through _ _ m h3 λ present present_is h4. through _ _ m h4 λ listed listed_is h5.
    through _ _ m h5 λ expected expected_is h6.
    on _ _ t t_is ∙ on _ _ tag tag_is ∙ on _ _ place place_is ∙ on _ _ present present_is ∙ on _ _ listed listed_is ∙ on _ _ expected (wider (few tag) (more tag) _ expected (k tag) expected_is) ∙ h6

-- the headers of a stream behind its schema's
abbrev pub of_stream : ℕ → Bool
of_stream tag = nat_eq tag 2 || nat_eq tag 3

pub few_tags : (tag : ℕ) → of_stream tag ≡ true → nat_le tag 3 ≡ true
few_tags tag h = by (nat_eq tag 2) refl h
  where
    by : (two : Bool) → nat_eq tag 2 ≡ two → (two || nat_eq tag 3) ≡ true → nat_le tag 3 ≡ true
    by true is k = ap (λ (n : ℕ). nat_le n 3) (eqb-true tag 2 is)
    by false is k = ap (λ (n : ℕ). nat_le n 3) (eqb-true tag 3 k)

-- ── a step ──

-- what a step leaves, by the message
pub record StepOf (f : Framed) (step : Step) : Type 0 where
  pub message : Message
  pub taken : message_of f.metadata of_stream ≡ Ok message
  pub body : List ℕ
  pub whole : body_in f message ≡ Ok body
  pub rest : step.rest ≡ drop message.body f.behind
  pub batch : ((nat_eq message.tag 2 ≡ true) × (step.batch ≡ [])) ⊎ ((nat_eq message.tag 2 ≡ false) × ((x : TableBatch) × (step.batch ≡ x ∷ [])))

dictionary_body : (s : Reader) (d : Dictionaries) (f : Framed) (m : Message) (x : HeldDictionary) → stream_dictionary s d f m ≡ Ok x → (body : List ℕ) × (body_in f m ≡ Ok body)
unfolding stream_dictionary
dictionary_body s d f m x h = through _ _ x h λ tables _ h1. through _ _ x h1 λ version _ h2. through _ _ x h2 λ body is _. (body, is)

batch_body : (s : Reader) (d : Dictionaries) (f : Framed) (m : Message) (x : TableBatch) → stream_batch s d f m ≡ Ok x → (body : List ℕ) × (body_in f m ≡ Ok body)
unfolding stream_batch
batch_body s d f m x h = through _ _ x h λ tables _ h1. through _ _ x h1 λ version _ h2. through _ _ x h2 λ custom _ h3. through _ _ x h3 λ body is _. (body, is)

step_cases : (s : Reader) (d : Dictionaries) (f : Framed) (m : Message) (is_dictionary : Bool) (step : Step) → message_of f.metadata of_stream ≡ Ok m → nat_eq m.tag 2 ≡ is_dictionary → elim is_dictionary as (λ t. Reading Step) [
  | true ↦ stream_dictionary s d f m >>= λ x. Ok (record { dictionaries = x ∷ d; batch = []; rest = drop m.body f.behind })
  | false ↦ stream_batch s d f m >>= λ rows. Ok (record { dictionaries = d; batch = rows ∷ []; rest = drop m.body f.behind })
] ≡ Ok step → StepOf f step
step_cases s d f m true step taken is h = through (stream_dictionary s d f m) _ step h λ x x_is rest.
    let same = same_read _ step rest in
    let body = dictionary_body s d f m x x_is in
    record { message = m; taken = taken; body = body.0; whole = body.1; rest = sym (ap (λ (y : Step). y.rest) same); batch = inl (is, sym (ap (λ (y : Step). y.batch) same)) }
step_cases s d f m false step taken is h = through (stream_batch s d f m) _ step h λ rows rows_are rest.
    let same = same_read _ step rest in
    let body = batch_body s d f m rows rows_are in
    record { message = m; taken = taken; body = body.0; whole = body.1; rest = sym (ap (λ (y : Step). y.rest) same); batch = inr (is, (rows, sym (ap (λ (y : Step). y.batch) same))) }

pub step_of : (s : Reader) (d : Dictionaries) (f : Framed) (step : Step) → stream_step s d f ≡ Ok step → StepOf f step
unfolding stream_step
step_of s d f step h = through _ _ step h λ floats _ h1. through _ _ step h1 λ m m_is h2. step_cases s d f m (nat_eq m.tag 2) step m_is refl h2

-- ── what is left ──

-- a message stands where its prefix says
pub record IsFramed (b : List ℕ) (f : Framed) : Type 0 where
  pub prefix : ℕ × ℕ
  pub some : nat_eq prefix.1 0 ≡ false
  pub is : framed b prefix ≡ Ok f

by_length : (b : List ℕ) (prefix : ℕ × ℕ) (empty : Bool) (f : Framed) → nat_eq prefix.1 0 ≡ empty → elim empty as (λ t. Reading (Option Framed)) [ true ↦ Ok None | false ↦ framed b prefix >>= λ m. Ok (Some m) ] ≡ Ok (Some f) → IsFramed b f
by_length b prefix true f is h = cc
by_length b prefix false f is h = through (framed b prefix) _ (Some f) h λ g g_is rest. let same : g ≡ f = cc in record { prefix = prefix; some = is; is = g_is ∙ ap (λ x. Ok x) same }

by_short : (b : List ℕ) (short : Bool) (f : Framed) → elim short as (λ t. Reading (Option Framed)) [ true ↦ Ok None | false ↦ stream_prefix b >>= λ prefix. elim (nat_eq prefix.1 0) as (λ t. Reading (Option Framed)) [ true ↦ Ok None | false ↦ framed b prefix >>= λ m. Ok (Some m) ] ] ≡ Ok (Some f)
    → IsFramed b f
by_short b true f h = cc
by_short b false f h = through (stream_prefix b) _ (Some f) h λ prefix _ rest. by_length b prefix (nat_eq prefix.1 0) f refl rest

pub is_framed : (b : List ℕ) (f : Framed) → next_message b ≡ Ok (Some f) → IsFramed b f
unfolding next_message
is_framed b f h = by_short b (nat_lt (length b) 4) f h

above : (n : ℕ) → nat_eq n 0 ≡ false → 0 < n
above zero h = cc
above (suc n) h = omega arith

framed_less : (b : List ℕ) (f : Framed) → IsFramed b f → length f.behind < length b
unfolding framed
framed_less b f h = through _ _ f h.is λ whole whole_is rest.
    let same = same_read _ f rest in
    let inside : h.prefix.0 + h.prefix.1 ≤ length b = leb-true (h.prefix.0 + h.prefix.1) (length b) (in_full _ _ whole whole_is) in
    let more : 0 < h.prefix.1 = above h.prefix.1 h.some in
    omega (arith, length-drop (h.prefix.0 + h.prefix.1) b, ap (λ (x : Framed). length x.behind) same, inside, more)

pub behind_less : (b : List ℕ) (f : Framed) → next_message b ≡ Ok (Some f) → length f.behind < length b
behind_less b f h = framed_less b f (is_framed b f h)

-- ── how many are counted ──

-- behind a message so many are counted, and one more where it is a dictionary
pub record CountedBehind (rest : List ℕ) (n : ℕ) (d : Bool) : Type 0 where
  pub left : ℕ
  pub enough : length rest ≤ left
  pub behind : ℕ
  pub counted : dictionaries_from left rest ≡ Ok behind
  pub is : n ≡ counted_in d behind

pass_is : (b : List ℕ) (f : Framed) (next : Option Passed) → next_message b ≡ Ok (Some f) → next_pass b ≡ Ok next → (p : Passed) × (next ≡ Some p)
unfolding next_pass
pass_is b f next is h =
    through (pass_of f) (λ p. Ok (Some p)) next (sym (on (next_message b) pass_if_any (Some f) is) ∙ h) λ p _ rest. (p, sym (same_read _ next rest))

pub counted_behind : (b rest : List ℕ) (f : Framed) (m : Message) (most n : ℕ) → next_message b ≡ Ok (Some f) → message_of f.metadata (λ tag. nat_le tag 3) ≡ Ok m → rest ≡ drop m.body f.behind
    → length b ≤ most → dictionaries_from most b ≡ Ok n → CountedBehind rest n (nat_eq m.tag 2)
unfolding dictionaries_from
counted_behind b rest f m zero n is m_is behind few h = absurd (omega (arith, few, behind_less b f is))
counted_behind b rest f m (suc most) n is m_is behind few h = through (next_pass b) _ n h λ next next_is h1.
    let p = pass_is b f next is next_is in
    let pass : next_pass b ≡ Ok (Some p.0) = next_is ∙ ap (λ (q : Option Passed). Ok q) p.1 in
    let g = found b p.0 pass in
    let frame : g.frame ≡ f = let e : Ok (Some g.frame) ≡ Ok (Some f) = sym g.next ∙ is in cc in
    let read : message_of f.metadata (λ tag. nat_le tag 3) ≡ Ok g.message = subst (λ (x : Framed). message_of x.metadata (λ tag. nat_le tag 3) ≡ Ok g.message) frame g.read in
    let message : g.message ≡ m = same_read g.message m (sym read ∙ m_is) in
    let same_rest : p.0.rest ≡ rest = g.rest ∙ ap (λ (x : Framed). drop g.message.body x.behind) frame ∙ ap (λ (x : Message). drop x.body f.behind) message ∙ sym behind in
    let kind : p.0.is_dictionary ≡ nat_eq m.tag 2 = g.kind ∙ ap (λ (x : Message). nat_eq x.tag 2) message in
    let all : (dictionaries_from most p.0.rest >>= λ k. Ok (counted_in p.0.is_dictionary k)) ≡ Ok n = sym (counts_one most b p.0 pass) ∙ h in
    through (dictionaries_from most p.0.rest) (λ k. Ok (counted_in p.0.is_dictionary k)) n all λ k k_is h2. record {
      left = most;
      enough = omega (arith, few, behind_less b f is, ap length behind, length-drop m.body f.behind);
      behind = k;
      counted = subst (λ (l : List ℕ). dictionaries_from most l ≡ Ok k) same_rest k_is;
      is = sym (same_read _ n h2) ∙ ap (λ (x : Bool). counted_in x k) kind;
    }

-- the same of a step
pub counted_step : (b : List ℕ) (f : Framed) (step : Step) (most n : ℕ) → next_message b ≡ Ok (Some f) → (o : StepOf f step) → length b ≤ most → dictionaries_from most b ≡ Ok n
    → CountedBehind step.rest n (nat_eq o.message.tag 2)
counted_step b f step most n is o few h = counted_behind b step.rest f o.message most n is (taken_too f.metadata of_stream (λ tag. nat_le tag 3) o.message few_tags o.taken) o.rest few h
