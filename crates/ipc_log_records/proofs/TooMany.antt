-- Where more dictionaries stand before a batch than may, there are more than a record may have.
use Rattle.std.proofs.Common.{◌≡◌, inl, inr, ℕ, zero, suc, ◌<◌, ◌≤◌, List, [], ◌∷◌, ◌++◌, length, drop, Bool, true, false, nat_eq, nat_lt, not, Option, Some, None, Ok, Err, refl, sym, ◌∙◌, ap, subst, arith, length-drop}
use Rattle.std.specs.Prelude.{◌||◌, if◌then◌else◌}
use Rattle.std.proofs.lemmas.Bool.{ltb-false}
use Rattle.arrow_spec.specs.declared.error.IpcError.{IpcError}
use Rattle.arrow_spec.specs.declared.error.IpcError.TheVariants.{TooMany}
use Rattle.arrow_spec.specs.declared.error.Counted.TheVariants as counted
use Rattle.arrow_spec.specs.Arrays.{Dictionaries}
use Rattle.arrow_spec.specs.Features.{chosen_floats}
use Rattle.arrow_spec.specs.Files.{TableBatch}
use Rattle.arrow_spec.specs.Messages.{message_of}
use Rattle.arrow_spec.specs.Readings.{◌>>=◌, Reading, free_of, unless}
use Rattle.arrow_spec.specs.Streams.{Framed, Reader, Step, next_message, stream_batches, stream_step}
use Rattle.arrow_spec.proofs.Projection.{on}
use Rattle.arrow_spec.proofs.ReadPairs.{same_read, through}
use Rattle.arrow_spec.proofs.StreamFuel.{stream_fuel_is_enough}
use Rattle.ipc_append.specs.Below.{Next, a_batch, batch_or, ended, has_room, next_in, no_message, step_within, waiting, prefix_length}
use Rattle.ipc_append.proofs.Below.{behind_dictionary, by_message, next_is, none_found, step_taken}
use Rattle.laws_logs.specs.Tables.{counted_in, dictionaries_from}
use Rattle.ipc_log_records.proofs.Stepped.{CountedBehind, StepOf, behind_less, counted_step, of_stream, step_of}

-- ── what a step leaves ──

abbrev batches_by : ℕ → Reader → Dictionaries → Option Framed → Reading (List TableBatch)
batches_by most s d next = elim next as (λ t. Reading (List TableBatch)) [
  | None ↦ Ok []
  | Some f ↦ stream_step s d f >>= λ step. stream_batches most s step.dictionaries step.rest >>= λ others. Ok (step.batch ++ others)
]

-- where the batches of a stream are read, so is its next message, and the batches behind it
pub record Taken (s : Reader) (d : Dictionaries) (f : Framed) : Type 0 where
  pub step : Step
  pub taken : stream_step s d f ≡ Ok step
  pub others : List TableBatch
  pub read : stream_batches (length step.rest) s step.dictionaries step.rest ≡ Ok others

pub taken : (s : Reader) (d : Dictionaries) (b : List ℕ) (f : Framed) (xs : List TableBatch) → next_message b ≡ Ok (Some f) → stream_batches (length b) s d b ≡ Ok xs → Taken s d f
unfolding stream_batches
taken s d b f xs is h =
    let all : (next_message b >>= λ next. batches_by (length b) s d next) ≡ Ok xs = stream_fuel_is_enough s d b (suc (length b)) (omega arith) ∙ h in
    let here = sym (on (next_message b) (λ next. batches_by (length b) s d next) (Some f) is) ∙ all in
    through (stream_step s d f) _ xs here λ step step_is h1. through (stream_batches (length b) s step.dictionaries step.rest) _ xs h1 λ others others_are h2.
    let less : length step.rest ≤ length b = omega (arith, ap length (step_of s d f step step_is).rest, length-drop (step_of s d f step step_is).message.body f.behind, behind_less b f is) in
    record { step = step; taken = step_is; others = others; read = sym (stream_fuel_is_enough s step.dictionaries step.rest (length b) less) ∙ others_are }

pub none_refused : (s : Reader) (d : Dictionaries) (b : List ℕ) (xs : List TableBatch) (es : List IpcError) → next_message b ≡ Err es → stream_batches (length b) s d b ≡ Ok xs → ⊥
unfolding stream_batches
none_refused s d b xs es is h =
    let all : (next_message b >>= λ next. batches_by (length b) s d next) ≡ Ok xs = stream_fuel_is_enough s d b (suc (length b)) (omega arith) ∙ h in
    through (next_message b) (λ next. batches_by (length b) s d next) xs all λ next next_is _. (let clash : Ok next ≡ Err es = sym next_is ∙ is in cc)

or_others : (others : Reading Next) (d : Dictionaries) (batch : List TableBatch) (rest : List ℕ) → batch ≡ [] → batch_or others (record { dictionaries = d; batch = batch; rest = rest }) ≡ others
or_others others d [] rest is = refl
or_others others d (x ∷ xs) rest is = cc

or_batch : (others : Reading Next) (d : Dictionaries) (batch : List TableBatch) (rest : List ℕ) (x : TableBatch) → batch ≡ x ∷ [] → batch_or others (record { dictionaries = d; batch = batch; rest = rest }) ≡ Ok (record { found = a_batch x; dictionaries = d; rest = rest })
or_batch others d batch rest x is = ap (λ ys. batch_or others (record { dictionaries = d; batch = ys; rest = rest })) is

-- a message has no room only where it is a dictionary and no more may stand there
no_room : (a b : Bool) (es : List IpcError) → unless (not a || b) (TooMany counted.Dictionaries) ≡ Err es → (a ≡ true) × (b ≡ false)
no_room true true es h = cc
no_room true false es h = (refl, refl)
no_room false true es h = cc
no_room false false es h = cc

room_refused : (left : ℕ) (s : Reader) (d : Dictionaries) (f : Framed) (step : Step) (o : StepOf f step) (es : List IpcError) → stream_step s d f ≡ Ok step → has_room left s f ≡ Err es → (nat_eq o.message.tag 2 ≡ true) × (nat_lt 0 left ≡ false)
unfolding has_room stream_step
room_refused left s d f step o es is h =
    through (free_of (chosen_floats s.columns s.schema.fields 0)) _ step is λ u floats _.
    no_room (nat_eq o.message.tag 2) (nat_lt 0 left) es (sym (on (free_of (chosen_floats s.columns s.schema.fields 0)) _ u floats ∙ on (message_of f.metadata of_stream) _ o.message o.taken) ∙ h)

within : (left : ℕ) (s : Reader) (d : Dictionaries) (f : Framed) (u : Unit {0}) (step : Step) → has_room left s f ≡ Ok u → stream_step s d f ≡ Ok step → step_within left s d f ≡ Ok step
unfolding step_within
within left s d f u step room is = on (has_room left s f) (λ room. stream_step s d f) u room ∙ is

within_taken : (left : ℕ) (s : Reader) (d : Dictionaries) (f : Framed) (step : Step) → step_within left s d f ≡ Ok step → stream_step s d f ≡ Ok step
unfolding step_within
within_taken left s d f step h = through (has_room left s f) (λ room. stream_step s d f) step h λ u _ rest. rest

-- ── what is refused for too many ──

more_than : (left n k : ℕ) (d : Bool) → d ≡ true → n ≡ counted_in d k → left ≤ k → left < n
more_than left n k true is e le = omega (arith, e, le)
more_than left n k false is e le = cc

-- what stands behind a dictionary is refused, and so at least as many are counted
abbrev ManyBehind : ℕ → Reader → Step → Type 0
ManyBehind left s step = (es : List IpcError) (xs : List TableBatch) (most n : ℕ) → behind_dictionary left s step ≡ Err es → stream_batches (length step.rest) s step.dictionaries step.rest ≡ Ok xs
    → length step.rest ≤ most → dictionaries_from most step.rest ≡ Ok n → left ≤ n

module _ (left : ℕ) (s : Reader) (again : (step : Step) → ManyBehind left s step) (d : Dictionaries) (b : List ℕ) (es : List IpcError) (xs : List TableBatch) (most n : ℕ)
    (refused : next_in left s d b ≡ Err es) (read : stream_batches (length b) s d b ≡ Ok xs) (few : length b ≤ most) (counts : dictionaries_from most b ≡ Ok n) where
  many_at : (f : Framed) → next_message b ≡ Ok (Some f) → left < n
  many_at f is = by_room (has_room left s f) refl
    where
      t : Taken s d f
      t = taken s d b f xs is read

      o : StepOf f t.step
      o = step_of s d f t.step t.taken

      c : CountedBehind t.step.rest n (nat_eq o.message.tag 2)
      c = counted_step b f t.step most n is o few counts

      by_room : (r : Reading (Unit {0})) → has_room left s f ≡ r → left < n
      by_room (Err fs) room =
          let none = room_refused left s d f t.step o fs t.taken room in
          more_than left n c.behind (nat_eq o.message.tag 2) none.0 c.is (omega (arith, ltb-false 0 left none.1))
      by_room (Ok u) room =
          let next = step_taken left s d b f t.step is (within left s d f u t.step room t.taken) in
          elim o.batch [
            | inl w ↦ more_than left n c.behind (nat_eq o.message.tag 2) w.0 c.is
                (again t.step es t.others c.left c.behind (sym (or_others (behind_dictionary left s t.step) t.step.dictionaries t.step.batch t.step.rest w.1) ∙ sym next ∙ refused) t.read c.enough c.counted)
            | inr w ↦ absurd (let clash : Ok (record { found = a_batch w.1.0; dictionaries = t.step.dictionaries; rest = t.step.rest }) ≡ Err es = sym (or_batch (behind_dictionary left s t.step) t.step.dictionaries t.step.batch t.step.rest w.1.0 w.1.1) ∙ sym next ∙ refused in cc)
          ]

  many : left < n
  many = by (next_message b) refl
    where
      by : (r : Reading (Option Framed)) → next_message b ≡ r → left < n
      by (Err fs) is = absurd (none_refused s d b xs fs is read)
      by (Ok None) is = absurd (let clash : Ok (no_message d b) ≡ Err es = sym (none_found left s d b is) ∙ refused in cc)
      by (Ok (Some f)) is = many_at f is

pub too_many : (left : ℕ) (s : Reader) (d : Dictionaries) (b : List ℕ) (es : List IpcError) (xs : List TableBatch) (most n : ℕ) → next_in left s d b ≡ Err es → stream_batches (length b) s d b ≡ Ok xs
    → length b ≤ most → dictionaries_from most b ≡ Ok n → left < n
too_many zero s d b es xs most n refused read few counts = many zero s (λ step fs ys m k h _ _ _. omega arith) d b es xs most n refused read few counts
too_many (suc left) s d b es xs most n refused read few counts =
    many (suc left) s (λ step fs ys m k h r e c. let less = too_many left s step.dictionaries step.rest fs ys m k h r e c in omega (arith, less)) d b es xs most n refused read few counts

-- ── behind a batch ──

-- behind a batch that is found the others are read, and no more dictionaries are counted
pub record ReadBehind (s : Reader) (e : Dictionaries) (rest : List ℕ) (n : ℕ) : Type 0 where
  pub others : List TableBatch
  pub read : stream_batches (length rest) s e rest ≡ Ok others
  pub left : ℕ
  pub enough : length rest ≤ left
  pub behind : ℕ
  pub counted : dictionaries_from left rest ≡ Ok behind
  pub fewer : behind ≤ n

pub no_more : (n k : ℕ) (d : Bool) → n ≡ counted_in d k → k ≤ n
no_more n k true e = omega (arith, e)
no_more n k false e = omega (arith, e)

abbrev nothing_if : Bool → Dictionaries → List ℕ → Next
nothing_if t d b = if t then record { found = waiting; dictionaries = d; rest = [] } else record { found = ended; dictionaries = d; rest = drop (prefix_length b) b }

not_found : (d e : Dictionaries) (b rest : List ℕ) (x : TableBatch) → no_message d b ≡ record { found = a_batch x; dictionaries = e; rest = rest } → ⊥
not_found d e b rest x h = by (nat_lt (length b) 4) (ap (λ (n : Next). n.found) h)
  where
    by : (t : Bool) → (nothing_if t d b).found ≡ a_batch x → ⊥
    by true k = let clash : waiting ≡ a_batch x = k in cc
    by false k = let clash : ended ≡ a_batch x = k in cc

abbrev FoundBehind : ℕ → Reader → Step → Type 0
FoundBehind left s step = (x : TableBatch) (e : Dictionaries) (rest : List ℕ) (xs : List TableBatch) (most n : ℕ) → behind_dictionary left s step ≡ Ok (record { found = a_batch x; dictionaries = e; rest = rest })
    → stream_batches (length step.rest) s step.dictionaries step.rest ≡ Ok xs → length step.rest ≤ most → dictionaries_from most step.rest ≡ Ok n → ReadBehind s e rest n

module _ (left : ℕ) (s : Reader) (again : (step : Step) → FoundBehind left s step) (d e : Dictionaries) (b rest : List ℕ) (x : TableBatch) (xs : List TableBatch) (most n : ℕ)
    (found : next_in left s d b ≡ Ok (record { found = a_batch x; dictionaries = e; rest = rest })) (read : stream_batches (length b) s d b ≡ Ok xs) (few : length b ≤ most) (counts : dictionaries_from most b ≡ Ok n) where
  found_at : (f : Framed) → next_message b ≡ Ok (Some f) → ReadBehind s e rest n
  found_at f is =
      let t = taken s d b f xs is read in
      let o = step_of s d f t.step t.taken in
      let c = counted_step b f t.step most n is o few counts in
      let all = sym (next_is left s d b ∙ on (next_message b) (λ next. by_message left s d b next) (Some f) is) ∙ found in
      through (step_within left s d f) (λ step. batch_or (behind_dictionary left s step) step) (record { found = a_batch x; dictionaries = e; rest = rest }) all λ step step_is h.
      let same : step ≡ t.step = same_read step t.step (sym (within_taken left s d f step step_is) ∙ t.taken) in
      let here : batch_or (behind_dictionary left s t.step) t.step ≡ Ok (record { found = a_batch x; dictionaries = e; rest = rest }) = subst (λ (y : Step). batch_or (behind_dictionary left s y) y ≡ Ok (record { found = a_batch x; dictionaries = e; rest = rest })) same h in
      elim o.batch [
        | inl w ↦
            let more = again t.step x e rest t.others c.left c.behind (sym (or_others (behind_dictionary left s t.step) t.step.dictionaries t.step.batch t.step.rest w.1) ∙ here) t.read c.enough c.counted in
            record { others = more.others; read = more.read; left = more.left; enough = more.enough; behind = more.behind; counted = more.counted; fewer = omega (arith, more.fewer, no_more n c.behind (nat_eq o.message.tag 2) c.is) }
        | inr w ↦
            let one = same_read _ (record { found = a_batch x; dictionaries = e; rest = rest }) (sym (or_batch (behind_dictionary left s t.step) t.step.dictionaries t.step.batch t.step.rest w.1.0 w.1.1) ∙ here) in
            let rest_is : t.step.rest ≡ rest = ap (λ (y : Next). y.rest) one in
            let values : t.step.dictionaries ≡ e = ap (λ (y : Next). y.dictionaries) one in
            subst (λ (l : List ℕ). ReadBehind s e l n) rest_is (subst (λ (k : Dictionaries). ReadBehind s k t.step.rest n) values (record {
              others = t.others;
              read = t.read;
              left = c.left;
              enough = c.enough;
              behind = c.behind;
              counted = c.counted;
              fewer = no_more n c.behind (nat_eq o.message.tag 2) c.is;
            }))
      ]

  found_one : ReadBehind s e rest n
  found_one = by (next_message b) refl
    where
      by : (r : Reading (Option Framed)) → next_message b ≡ r → ReadBehind s e rest n
      by (Err fs) is = absurd (none_refused s d b xs fs is read)
      by (Ok None) is = absurd (not_found d e b rest x (same_read (no_message d b) (record { found = a_batch x; dictionaries = e; rest = rest }) (sym (none_found left s d b is) ∙ found)))
      by (Ok (Some f)) is = found_at f is

pub read_behind : (left : ℕ) (s : Reader) (d e : Dictionaries) (b rest : List ℕ) (x : TableBatch) (xs : List TableBatch) (most n : ℕ) → next_in left s d b ≡ Ok (record { found = a_batch x; dictionaries = e; rest = rest })
    → stream_batches (length b) s d b ≡ Ok xs → length b ≤ most → dictionaries_from most b ≡ Ok n → ReadBehind s e rest n
read_behind zero s d e b rest x xs most n found read few counts = found_one zero s (λ step y f l ys m k h _ _ _. (let clash : Err (TooMany counted.Dictionaries ∷ []) ≡ Ok (record { found = a_batch y; dictionaries = f; rest = l }) = h in cc)) d e b rest x xs most n found read few counts
read_behind (suc left) s d e b rest x xs most n found read few counts =
    found_one (suc left) s (λ step y f l ys m k h r en c. read_behind left s step.dictionaries f step.rest l y ys m k h r en c) d e b rest x xs most n found read few counts
