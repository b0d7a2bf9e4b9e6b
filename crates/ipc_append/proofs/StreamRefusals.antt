-- What stands next in a stream is refused, so the stream is.
use Rattle.std.proofs.Common.{◌≡◌, ◌∙◌, ◌⊎◌, inl, inr, ℕ, List, [], ◌∷◌, length, None, Ok, Err, refl, sym, ap, subst}
use Rattle.arrow_spec.specs.declared.error.IpcError.{IpcError}
use Rattle.arrow_spec.specs.declared.error.IpcError.TheVariants as errors
use Rattle.arrow_spec.specs.declared.error.IpcError.TheVariants.{TooMany}
use Rattle.arrow_spec.specs.declared.error.Counted.TheVariants as counted
use Rattle.arrow_spec.specs.Arrays.{Dictionaries}
use Rattle.arrow_spec.specs.Files.{TableBatch, columns_right}
use Rattle.arrow_spec.specs.Kinds.{Metadata, width}
use Rattle.arrow_spec.specs.Messages.{Message, version_of}
use Rattle.arrow_spec.specs.declared.message.MetadataVersion.{MetadataVersion}
use Rattle.arrow_spec.specs.Readings.{Reading, Refuses, bind, ◌>>=◌, refusals}
use Rattle.arrow_spec.specs.Schema.{Schema}
use Rattle.arrow_spec.specs.Streams.{Reader, body_in, first_message, next_message, stream_batches, stream_head, stream_reading}
use Rattle.arrow_spec.proofs.Projection.{on}
use Rattle.arrow_spec.proofs.ReadPairs.{same_read, through}
use Rattle.ipc_streams.proofs.Below.{refused_first, none_refused}
use Rattle.ipc_streams.specs.Laws.{AreOf}
use Rattle.ipc_streams.specs.Starts.{Start, start_in}
use Rattle.ipc_streams.specs.Steps.{Next, most_dictionaries, next_in}
use Rattle.ipc_streams.proofs.StreamLaws.{begins_so, next_is_of_the_stream}
use Rattle.ipc_append.specs.Wholes.{RefusesStream, StopsBehind, reader_of, stops_here, stops_later}

-- a refusal where one may be answered is that, or comes anywhere
one_refused : (e x : IpcError) (es : List IpcError) → Refuses e (x ∷ []) → (e ≡ x) ⊎ Refuses e es
one_refused errors.Memory x es h = inr tt
one_refused errors.ReadFault x es h = inr tt
one_refused errors.WriteFault x es h = inr tt
one_refused e x es (inl h) = inl (sym h)
one_refused e x es (inr h) = absurd h

-- ── what stands next ──

here_refused : (s : Reader) (e : IpcError) (n : Reading Next) (batches : Reading (List TableBatch)) → AreOf s n batches → Refuses e (refusals n) → (e ≡ TooMany counted.Dictionaries) ⊎ Refuses e (refusals batches)
here_refused s e (Ok n) batches law h = inr (none_refused e (refusals batches) h)
here_refused s e (Err es) batches (inl is) h = one_refused e (TooMany counted.Dictionaries) (refusals batches) (subst (Refuses e) is h)
here_refused s e (Err es) batches (inr is) h = inr (subst (λ r. Refuses e (refusals r)) (sym is) h)

later_refused : (e : IpcError) (x : TableBatch) (batches others : Reading (List TableBatch)) → batches ≡ (others >>= λ ys. Ok (x ∷ ys)) → (e ≡ TooMany counted.Dictionaries) ⊎ Refuses e (refusals others) → (e ≡ TooMany counted.Dictionaries) ⊎ Refuses e (refusals batches)
later_refused e x batches others is (inl h) = inl h
later_refused e x batches others is (inr h) = inr (subst (λ r. Refuses e (refusals r)) (sym is) (refused_first e others (λ ys. Ok (x ∷ ys)) h))

pub stops_refuse : (s : Reader) (e : IpcError) (d : Dictionaries) (b : List ℕ) (xs : List TableBatch) → StopsBehind s e d b xs → (e ≡ TooMany counted.Dictionaries) ⊎ Refuses e (refusals (stream_batches (length b) s d b))
stops_refuse s e d b [] (stops_here h) = here_refused s e (next_in most_dictionaries s d b) (stream_batches (length b) s d b) (next_is_of_the_stream s d b) h
stops_refuse s e d b (x ∷ xs) (stops_later {d' = d'} {rest = rest} h more) =
    later_refused e x (stream_batches (length b) s d b) (stream_batches (length rest) s d' rest) (subst (λ r. AreOf s r (stream_batches (length b) s d b)) h (next_is_of_the_stream s d b)) (stops_refuse s e d' rest xs more)

-- ── the stream ──

-- behind one reading the same refusals
refused_on : {A B C : Type 0} (e : IpcError) (r : Reading A) (f : A → Reading B) (g : A → Reading C) → ((x : A) → r ≡ Ok x → Refuses e (refusals (f x)) → Refuses e (refusals (g x))) → Refuses e (refusals (r >>= f)) → Refuses e (refusals (r >>= g))
unfolding bind
refused_on e (Ok x) f g k h = k x refl h
refused_on e (Err es) f g k h = h

-- what the head of a message looks at has a version
record HasVersion (metadata : List ℕ) (m : Message) : Type 0 where
  version : MetadataVersion
  is : version_of metadata m ≡ Ok version

head_version : (metadata : List ℕ) (first : Message × Metadata × Schema) → stream_head metadata ≡ Ok first → HasVersion metadata first.0
unfolding stream_head
head_version metadata first h =
    through _ _ first h λ m _ h1. through _ _ first h1 λ v v_is h2. through _ _ first h2 λ custom _ h3. through _ _ first h3 λ schema _ h4.
    let same = same_read _ first h4 in
    record { version = v; is = subst (λ x. version_of metadata x ≡ Ok v) (ap (λ (p : Message × Metadata × Schema). p.0) same) v_is }

pub start_refuses : (e : IpcError) (b : List ℕ) → Refuses e (refusals (start_in b)) → Refuses e (refusals (stream_reading b None))
unfolding start_in stream_reading
start_refuses e b h = refused_on e (next_message b >>= first_message) _ _ (λ f _ h1. refused_on e (stream_head f.metadata) _ _ (λ first first_is h2.
    let v = head_version f.metadata first first_is in
    refused_on e (body_in f first.0) _ _ (λ body _ h3. none_refused e _ h3) (subst (λ r. Refuses e (refusals r)) (on (version_of f.metadata first.0) _ v.version v.is) h2)) h1) h

-- what the batches behind the schema message are refused for
batches_refuse : (e : IpcError) (b : List ℕ) (start : Start) (rest : List ℕ) → start_in b ≡ Ok (start, rest) → Refuses e (refusals (stream_batches (length rest) (reader_of start.schema) [] rest)) → Refuses e (refusals (stream_reading b None))
batches_refuse e b start rest begun h = subst (λ r. Refuses e (refusals r)) (sym (begins_so b None start rest begun ∙ on (columns_right None (width start.schema.fields)) _ tt refl)) (refused_first e (stream_batches (length rest) (reader_of start.schema) [] rest) _ h)

pub stream_stops : (e : IpcError) (b : List ℕ) (start : Start) (rest : List ℕ) (xs : List TableBatch) → start_in b ≡ Ok (start, rest) → StopsBehind (reader_of start.schema) e [] rest xs → RefusesStream e b
stream_stops e b start rest xs begun stops = by (stops_refuse (reader_of start.schema) e [] rest xs stops)
  where
    by : (e ≡ TooMany counted.Dictionaries) ⊎ Refuses e (refusals (stream_batches (length rest) (reader_of start.schema) [] rest)) → RefusesStream e b
    by (inl is) = inr (record { is = is; start = start; rest = rest; begun = begun; batches = xs; stops = stops })
    by (inr h) = inl (batches_refuse e b start rest begun h)
