-- What stands next in a stream, one after another, is what the stream means.
use Rattle.std.proofs.Common.{◌≡◌, ◌∙◌, ◌⊎◌, inl, inr, ℕ, zero, suc, ◌+◌, ◌≤◌, List, [], ◌∷◌, ◌++◌, length, drop, Bool, true, false, Option, Some, None, Ok, Err, refl, sym, ap, subst, arith, length-drop}
use Rattle.std.specs.Prelude.{nat_eq, nat_lt, not, ◌||◌, if◌then◌else◌}
use Rattle.arrow_spec.specs.declared.error.IpcError.{IpcError}
use Rattle.arrow_spec.specs.declared.error.IpcError.TheVariants.{TooMany}
use Rattle.arrow_spec.specs.declared.error.Counted.TheVariants as counted
use Rattle.arrow_spec.specs.Arrays.{Dictionaries}
use Rattle.arrow_spec.specs.Features.{chosen_floats}
use Rattle.arrow_spec.specs.Files.{ArrowTable, TableBatch, columns_right, fields_as_asked}
use Rattle.arrow_spec.specs.Kinds.{Metadata, bare, width}
use Rattle.arrow_spec.specs.Messages.{Message, message_of}
use Rattle.arrow_spec.specs.Readings.{Reading, bind, ◌>>=◌, free_of, meaning, unless}
use Rattle.arrow_spec.specs.Schema.{Schema}
use Rattle.arrow_spec.specs.Streams.{Framed, Reader, Step, body_in, first_message, framed, next_message, stream_batch, stream_batches, stream_dictionary, stream_head, stream_prefix, stream_reading, stream_step, stream_table}
use Rattle.arrow_spec.proofs.Projection.{on, went}
use Rattle.arrow_spec.proofs.ReadPairs.{same_read, through}
use Rattle.arrow_spec.proofs.StreamFuel.{stream_fuel_is_enough}
use Rattle.ipc_streams.specs.Frames.{prefix_length}
use Rattle.ipc_streams.proofs.NextBatches.{behind_dictionary, by_message, next_is, none_found, step_taken}
use Rattle.ipc_streams.specs.Laws.{AreOf, NextIsOfTheStream, NextsAreTheStream}
use Rattle.ipc_streams.specs.Starts.{Start, start_in}
use Rattle.ipc_streams.specs.Steps.{Next, Nexts, a_batch, batch_or, ended, has_room, most_dictionaries, next_in, no_message, none_left, none_yet, one_more, step_within, waiting}

-- ── how much is left ──

framed_less : (b : List ℕ) (prefix : ℕ × ℕ) (f : Framed) → framed b prefix ≡ Ok f → length f.behind ≤ length b
unfolding framed
framed_less b prefix f h = through _ _ f h λ whole whole_is rest. let same = same_read _ f rest in omega (arith, length-drop (prefix.0 + prefix.1) b, ap (λ (x : Framed). length x.behind) same)

by_length : (b : List ℕ) (prefix : ℕ × ℕ) (empty : Bool) (f : Framed) → elim empty as (λ t. Reading (Option Framed)) [ true ↦ Ok None | false ↦ framed b prefix >>= λ m. Ok (Some m) ] ≡ Ok (Some f) → length f.behind ≤ length b
by_length b prefix true f h = cc
by_length b prefix false f h = through (framed b prefix) _ (Some f) h λ g g_is rest. let same : g ≡ f = cc in framed_less b prefix f (g_is ∙ ap (λ x. Ok x) same)

by_short : (b : List ℕ) (short : Bool) (f : Framed) → elim short as (λ t. Reading (Option Framed)) [ true ↦ Ok None | false ↦ stream_prefix b >>= λ prefix. elim (nat_eq prefix.1 0) as (λ t. Reading (Option Framed)) [ true ↦ Ok None | false ↦ framed b prefix >>= λ m. Ok (Some m) ] ] ≡ Ok (Some f)
    → length f.behind ≤ length b
by_short b true f h = cc
by_short b false f h = through (stream_prefix b) _ (Some f) h λ prefix _ rest. by_length b prefix (nat_eq prefix.1 0) f rest

behind_less : (b : List ℕ) (f : Framed) → next_message b ≡ Ok (Some f) → length f.behind ≤ length b
unfolding next_message
behind_less b f h = by_short b (nat_lt (length b) 4) f h

-- ── a step ──

-- what a step leaves: less than before, and one batch at most
record IsStep (behind : List ℕ) (step : Step) : Type 0 where
  less : length step.rest ≤ length behind
  one : (step.batch ≡ []) ⊎ ((x : TableBatch) × (step.batch ≡ x ∷ []))

step_cases : (s : Reader) (d : Dictionaries) (f : Framed) (m : Message) (is_dictionary : Bool) (step : Step) → elim is_dictionary as (λ t. Reading Step) [
  | true ↦ stream_dictionary s d f m >>= λ x. Ok (record { dictionaries = x ∷ d; batch = []; rest = drop m.body f.behind })
  | false ↦ stream_batch s d f m >>= λ rows. Ok (record { dictionaries = d; batch = rows ∷ []; rest = drop m.body f.behind })
] ≡ Ok step → IsStep f.behind step
step_cases s d f m true step h = through (stream_dictionary s d f m) _ step h λ x _ rest.
    let same = same_read _ step rest in
    record { less = omega (arith, length-drop m.body f.behind, ap (λ (y : Step). length y.rest) same); one = inl (sym (ap (λ (y : Step). y.batch) same)) }
step_cases s d f m false step h = through (stream_batch s d f m) _ step h λ rows _ rest.
    let same = same_read _ step rest in
    record { less = omega (arith, length-drop m.body f.behind, ap (λ (y : Step). length y.rest) same); one = inr (rows, sym (ap (λ (y : Step). y.batch) same)) }

step_is : (s : Reader) (d : Dictionaries) (f : Framed) (step : Step) → stream_step s d f ≡ Ok step → IsStep f.behind step
unfolding stream_step
step_is s d f step h = through _ _ step h λ floats _ h1. through _ _ step h1 λ m _ h2. step_cases s d f m (nat_eq m.tag 2) step h2

-- a step that has no room, or is refused, is no step of the stream, or has too many dictionaries before it
room_refused : (t : Bool) (es : List IpcError) → unless t (TooMany counted.Dictionaries) ≡ Err es → es ≡ TooMany counted.Dictionaries ∷ []
room_refused true es h = cc
room_refused false es h = cc

within_cases : (floats : Reading (Unit {0})) (message : Reading Message) (t : Message → Bool) (step : Message → Reading Step) (es : List IpcError)
    → ((floats >>= λ u. message >>= λ m. unless (t m) (TooMany counted.Dictionaries)) >>= λ room. (floats >>= λ u. message >>= λ m. step m)) ≡ Err es
    → (es ≡ TooMany counted.Dictionaries ∷ []) ⊎ ((floats >>= λ u. message >>= λ m. step m) ≡ Err es)
unfolding bind
within_cases (Err fs) message t step es h = inr h
within_cases (Ok u) (Err ms) t step es h = inr h
within_cases (Ok u) (Ok m) t step es h = by (unless (t m) (TooMany counted.Dictionaries)) refl h
  where
    by : (r : Reading (Unit {0})) → unless (t m) (TooMany counted.Dictionaries) ≡ r → bind r (λ room. step m) ≡ Err es → (es ≡ TooMany counted.Dictionaries ∷ []) ⊎ (step m ≡ Err es)
    by (Ok v) is k = inr k
    by (Err fs) is k = let same : fs ≡ es = cc in inl (sym same ∙ room_refused (t m) fs is)

within_refused : (left : ℕ) (s : Reader) (d : Dictionaries) (f : Framed) (es : List IpcError) → step_within left s d f ≡ Err es → (es ≡ TooMany counted.Dictionaries ∷ []) ⊎ (stream_step s d f ≡ Err es)
unfolding step_within has_room stream_step
within_refused left s d f es h = within_cases (free_of (chosen_floats s.columns s.schema.fields 0)) (message_of f.metadata (λ tag. nat_eq tag 2 || nat_eq tag 3)) (λ m. not (nat_eq m.tag 2) || nat_lt 0 left) _ es h

within_taken : (left : ℕ) (s : Reader) (d : Dictionaries) (f : Framed) (step : Step) → step_within left s d f ≡ Ok step → stream_step s d f ≡ Ok step
unfolding step_within
within_taken left s d f step h = (went (has_room left s f) (λ room. stream_step s d f) step h).rest

-- ── one next ──

-- a reading that is refused ends those behind it
refused_on : {A B : Type 0} (r : Reading A) (f : A → Reading B) (es : List IpcError) → r ≡ Err es → (r >>= f) ≡ Err es
unfolding bind
refused_on r f es is = rw is refl

abbrev behind_step : ℕ → Reader → Step → Reading (List TableBatch)
behind_step most s step = stream_batches most s step.dictionaries step.rest >>= λ others. Ok (step.batch ++ others)

abbrev batches_by : ℕ → Reader → Dictionaries → Option Framed → Reading (List TableBatch)
batches_by most s d next = elim next as (λ t. Reading (List TableBatch)) [ None ↦ Ok [] | Some f ↦ stream_step s d f >>= λ step. behind_step most s step ]

batches_are : (s : Reader) (d : Dictionaries) (b : List ℕ) → stream_batches (length b) s d b ≡ (next_message b >>= λ next. batches_by (length b) s d next)
unfolding stream_batches
batches_are s d b = sym (stream_fuel_is_enough s d b (suc (length b)) (omega arith))

are_of : (s : Reader) (n m : Reading Next) (xs ys : Reading (List TableBatch)) → n ≡ m → xs ≡ ys → AreOf s m ys → AreOf s n xs
are_of s n m xs ys e k h = subst (λ r. AreOf s r xs) (sym e) (subst (AreOf s m) (sym k) h)

nothing_behind : (s : Reader) (d : Dictionaries) (b : List ℕ) → AreOf s (Ok (no_message d b)) (Ok [])
nothing_behind s d b = by (nat_lt (length b) 4)
  where
    by : (t : Bool) → AreOf s (Ok (if t then record { found = waiting; dictionaries = d; rest = [] } else record { found = ended; dictionaries = d; rest = drop (prefix_length b) b })) (Ok [])
    by true = refl
    by false = refl

or_others : (others : Reading Next) (d : Dictionaries) (batch : List TableBatch) (rest : List ℕ) → batch ≡ [] → batch_or others (record { dictionaries = d; batch = batch; rest = rest }) ≡ others
or_others others d [] rest is = refl
or_others others d (x ∷ xs) rest is = cc

or_batch : (others : Reading Next) (d : Dictionaries) (batch : List TableBatch) (rest : List ℕ) (x : TableBatch) → batch ≡ x ∷ [] → batch_or others (record { dictionaries = d; batch = batch; rest = rest }) ≡ Ok (record { found = a_batch x; dictionaries = d; rest = rest })
or_batch others d batch rest x is = ap (λ ys. batch_or others (record { dictionaries = d; batch = ys; rest = rest })) is

same_others : (r : Reading (List TableBatch)) → (r >>= λ others. Ok others) ≡ r
unfolding bind
same_others (Ok xs) = refl
same_others (Err es) = refl

enough_behind : (s : Reader) (b : List ℕ) (step : Step) → length step.rest ≤ length b → behind_step (length b) s step ≡ behind_step (length step.rest) s step
enough_behind s b step less = ap (λ (r : Reading (List TableBatch)). r >>= λ others. Ok (step.batch ++ others)) (stream_fuel_is_enough s step.dictionaries step.rest (length b) less)

module _ (left : ℕ) (s : Reader) (again : (step : Step) → AreOf s (behind_dictionary left s step) (stream_batches (length step.rest) s step.dictionaries step.rest)) (d : Dictionaries) (b : List ℕ) (f : Framed) (is : next_message b ≡ Ok (Some f)) where
  batches_here : stream_batches (length b) s d b ≡ (stream_step s d f >>= λ step. behind_step (length b) s step)
  batches_here = batches_are s d b ∙ on (next_message b) (λ next. batches_by (length b) s d next) (Some f) is

  here_refused : (es : List IpcError) → step_within left s d f ≡ Err es → AreOf s (next_in left s d b) (stream_batches (length b) s d b)
  here_refused es w = are_of s (next_in left s d b) (Err es) (stream_batches (length b) s d b) (stream_batches (length b) s d b)
      (next_is left s d b ∙ on (next_message b) (λ next. by_message left s d b next) (Some f) is ∙ refused_on (step_within left s d f) (λ step. batch_or (behind_dictionary left s step) step) es w) refl
      (elim (within_refused left s d f es w) [ inl e ↦ inl e | inr st ↦ inr (batches_here ∙ refused_on (stream_step s d f) (λ step. behind_step (length b) s step) es st) ])

  here_taken : (step : Step) → step_within left s d f ≡ Ok step → AreOf s (next_in left s d b) (stream_batches (length b) s d b)
  here_taken step w =
      let st = within_taken left s d f step w in
      let info = step_is s d f step st in
      let less : length step.rest ≤ length b = omega (arith, info.less, behind_less b f is) in
      let n = step_taken left s d b f step is w in
      let xs : stream_batches (length b) s d b ≡ behind_step (length step.rest) s step = batches_here ∙ on (stream_step s d f) (λ x. behind_step (length b) s x) step st ∙ enough_behind s b step less in
      elim info.one [
        | inl e ↦ are_of s (next_in left s d b) (behind_dictionary left s step) (stream_batches (length b) s d b) (stream_batches (length step.rest) s step.dictionaries step.rest)
            (n ∙ or_others (behind_dictionary left s step) step.dictionaries step.batch step.rest e)
            (xs ∙ ap (λ (ys : List TableBatch). stream_batches (length step.rest) s step.dictionaries step.rest >>= λ others. Ok (ys ++ others)) e ∙ same_others (stream_batches (length step.rest) s step.dictionaries step.rest)) (again step)
        | inr x ↦ are_of s (next_in left s d b) (Ok (record { found = a_batch x.0; dictionaries = step.dictionaries; rest = step.rest })) (stream_batches (length b) s d b) (stream_batches (length step.rest) s step.dictionaries step.rest >>= λ others. Ok (x.0 ∷ others))
            (n ∙ or_batch (behind_dictionary left s step) step.dictionaries step.batch step.rest x.0 x.1)
            (xs ∙ ap (λ (ys : List TableBatch). stream_batches (length step.rest) s step.dictionaries step.rest >>= λ others. Ok (ys ++ others)) x.1) refl
      ]

next_of : (left : ℕ) (s : Reader) → ((step : Step) → AreOf s (behind_dictionary left s step) (stream_batches (length step.rest) s step.dictionaries step.rest)) → (d : Dictionaries) (b : List ℕ) → AreOf s (next_in left s d b) (stream_batches (length b) s d b)
next_of left s again d b = by (next_message b) refl
  where
    by : (r : Reading (Option Framed)) → next_message b ≡ r → AreOf s (next_in left s d b) (stream_batches (length b) s d b)
    by (Err es) is = are_of s (next_in left s d b) (Err es) (stream_batches (length b) s d b) (Err es)
        (next_is left s d b ∙ refused_on (next_message b) (λ next. by_message left s d b next) es is) (batches_are s d b ∙ refused_on (next_message b) (λ next. batches_by (length b) s d next) es is) (inr refl)
    by (Ok None) is = are_of s (next_in left s d b) (Ok (no_message d b)) (stream_batches (length b) s d b) (Ok [])
        (none_found left s d b is) (batches_are s d b ∙ on (next_message b) (λ next. batches_by (length b) s d next) None is) (nothing_behind s d b)
    by (Ok (Some f)) is = with_step (step_within left s d f) refl
      where
        with_step : (w : Reading Step) → step_within left s d f ≡ w → AreOf s (next_in left s d b) (stream_batches (length b) s d b)
        with_step (Err es) k = here_refused left s again d b f is es k
        with_step (Ok step) k = here_taken left s again d b f is step k

one_next : (left : ℕ) (s : Reader) (d : Dictionaries) (b : List ℕ) → AreOf s (next_in left s d b) (stream_batches (length b) s d b)
one_next zero s d b = next_of zero s (λ step. inl refl) d b
one_next (suc left) s d b = next_of (suc left) s (λ step. one_next left s step.dictionaries step.rest) d b

pub next_is_of_the_stream : NextIsOfTheStream
next_is_of_the_stream s d b = one_next most_dictionaries s d b

-- ── one after another ──

all_nexts : (s : Reader) (d : Dictionaries) (b : List ℕ) (xs : List TableBatch) → Nexts s d b xs → stream_batches (length b) s d b ≡ Ok xs
all_nexts s d b [] (none_left h) = subst (λ r. AreOf s r (stream_batches (length b) s d b)) h (next_is_of_the_stream s d b)
all_nexts s d b [] (none_yet h) = subst (λ r. AreOf s r (stream_batches (length b) s d b)) h (next_is_of_the_stream s d b)
all_nexts s d b (x ∷ xs) (one_more {e = e} {rest = rest} h more) =
    let here : stream_batches (length b) s d b ≡ (stream_batches (length rest) s e rest >>= λ others. Ok (x ∷ others)) = subst (λ r. AreOf s r (stream_batches (length b) s d b)) h (next_is_of_the_stream s d b) in
    here ∙ on (stream_batches (length rest) s e rest) (λ others. Ok (x ∷ others)) xs (all_nexts s e rest xs more)

first_is : (b : List ℕ) (f : Framed) → (next_message b >>= first_message) ≡ Ok f → next_message b ≡ Ok (Some f)
unfolding bind first_message
first_is b f h = by (next_message b) refl h
  where
    by : (r : Reading (Option Framed)) → next_message b ≡ r → (r >>= first_message) ≡ Ok f → next_message b ≡ Ok (Some f)
    by (Err es) is k = cc
    by (Ok None) is k = cc
    by (Ok (Some g)) is k = let same : g ≡ f = cc in is ∙ ap (λ x. Ok (Some x)) same

-- what is read behind a stream's start
abbrev pub behind_start : Option (List ℕ) → Start → List ℕ → Reading ArrowTable
behind_start columns start rest = columns_right columns (width start.schema.fields) >>= λ right. stream_batches (length rest) (record { schema = start.schema; columns = columns }) [] rest >>= λ batches.
    Ok (record { metadata = start.schema.metadata; custom = start.custom; fields = bare (fields_as_asked columns start.schema.fields); batches = batches })

-- a stream is what stands behind its start
pub begins_so : (b : List ℕ) (columns : Option (List ℕ)) (start : Start) (rest : List ℕ) → start_in b ≡ Ok (start, rest) → stream_reading b columns ≡ behind_start columns start rest
unfolding start_in stream_reading
begins_so b columns start rest begun =
    through _ _ (start, rest) begun λ f f_is h1. through _ _ (start, rest) h1 λ first first_found h2. through _ _ (start, rest) h2 λ version _ h3. through _ _ (start, rest) h3 λ body body_found h4.
    let same = same_read _ (start, rest) h4 in
    let schema : first.2 ≡ start.schema = ap (λ (p : Start × List ℕ). p.0.schema) same in
    let custom : first.1 ≡ start.custom = ap (λ (p : Start × List ℕ). p.0.custom) same in
    let left : drop first.0.body f.behind ≡ rest = ap (λ (p : Start × List ℕ). p.1) same in
    let less : length rest ≤ length b = omega (arith, behind_less b f (first_is b f f_is), length-drop first.0.body f.behind, ap length left) in
    let reader : Reader = record { schema = start.schema; columns = columns } in
    let fuel : stream_batches (length b) reader [] rest ≡ stream_batches (length rest) reader [] rest = stream_fuel_is_enough reader [] rest (length b) less in
    let table : Schema → Metadata → List ℕ → Reading ArrowTable = λ schema custom behind. columns_right columns (width schema.fields) >>= λ right. stream_batches (length b) (record { schema = schema; columns = columns }) [] behind >>= λ batches.
    Ok (record { metadata = schema.metadata; custom = custom; fields = bare (fields_as_asked columns schema.fields); batches = batches }) in
    let read : stream_reading b columns ≡ table first.2 first.1 (drop first.0.body f.behind) = on (next_message b >>= first_message) _ f f_is ∙ on (stream_head f.metadata) _ first first_found ∙ on (body_in f first.0) _ body body_found in
    let same_table : table first.2 first.1 (drop first.0.body f.behind) ≡ table start.schema start.custom rest = ap (λ x. table x first.1 (drop first.0.body f.behind)) schema ∙ ap (λ x. table start.schema x (drop first.0.body f.behind)) custom ∙ ap (table start.schema start.custom) left in
    let enough : table start.schema start.custom rest ≡ behind_start columns start rest = ap (λ (x : Reading (List TableBatch)). columns_right columns (width start.schema.fields) >>= λ right. x >>= λ batches.
    Ok (record { metadata = start.schema.metadata; custom = start.custom; fields = bare (fields_as_asked columns start.schema.fields); batches = batches })) fuel in
    read ∙ same_table ∙ enough

pub nexts_are_the_stream : NextsAreTheStream
unfolding stream_table
nexts_are_the_stream b columns start rest xs begun right nexts =
    let reader : Reader = record { schema = start.schema; columns = columns } in
    let table : List TableBatch → ArrowTable = λ batches. record { metadata = start.schema.metadata; custom = start.custom; fields = bare (fields_as_asked columns start.schema.fields); batches = batches } in
    let whole : behind_start columns start rest ≡ Ok (table xs) =
    on (columns_right columns (width start.schema.fields)) (λ right. stream_batches (length rest) reader [] rest >>= λ batches. Ok (table batches)) tt right
    ∙ on (stream_batches (length rest) reader [] rest) (λ batches. Ok (table batches)) xs (all_nexts reader [] rest xs nexts) in
    ap meaning (begins_so b columns start rest begun ∙ whole)
