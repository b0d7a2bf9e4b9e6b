-- A message that is taken: what its head says, and then what it is.
use Rattle.std.proofs.Common.{◌≡◌, ◌∙◌, ℕ, ◌<◌, List, [], ◌∷◌, length, drop, Bool, true, false, None, Ok, Err, refl, sym, ap, subst, inl}
use Rattle.std.specs.Prelude.{nat_eq, nat_lt, not, ◌||◌, if◌then◌else◌}
use Rattle.std.proofs.lemmas.Bool.{lt-ltb}
use Rattle.arrow_spec.specs.declared.error.IpcError.{IpcError}
use Rattle.arrow_spec.specs.declared.error.IpcError.TheVariants.{TooMany}
use Rattle.arrow_spec.specs.declared.error.Counted.TheVariants as counted
use Rattle.arrow_spec.specs.declared.message.MetadataVersion.{MetadataVersion}
use Rattle.arrow_spec.specs.Arrays.{Dictionaries}
use Rattle.arrow_spec.specs.Features.{chosen_floats}
use Rattle.arrow_spec.specs.Files.{Asked, batch_of_tables, dictionary_of, to_read}
use Rattle.arrow_spec.specs.Kinds.{Metadata}
use Rattle.arrow_spec.specs.Messages.{BatchHeader, Message, RecordMessage, batch_at, dictionary_at, message_of, message_pairs, record_message, version_of}
use Rattle.arrow_spec.specs.Readings.{Reading, Refuses, bind, ◌>>=◌, free_of, refusals, unless}
use Rattle.arrow_spec.specs.Streams.{Framed, Reader, Step, body_in, stream_batch, stream_dictionary, stream_step}
use Rattle.arrow_spec.proofs.Projection.{ok-place, on}
use Rattle.arrow_spec.proofs.ReadPairs.{same_read, through}
use Rattle.ipc_fields.specs.Causes.{RefusesBytes}
use Rattle.ipc_fields.proofs.Steps.{refuses}
use Rattle.ipc_files.specs.Below.{DictionaryTables, dictionary_message}
use Rattle.ipc_files.proofs.BlockMessages.{bind_ok, bind_twice, refused_first}
use Rattle.ipc_files.proofs.ReadBatches.{refused_place}
use Rattle.schema_reader.specs.Messages.{taken_by}
use Rattle.schema_reader.specs.declared.message.Expected.TheVariants as expected
use Rattle.ipc_streams.specs.Heads.{head_of_message, is_dictionary_tag, is_taken, tag_of}
use Rattle.ipc_streams.specs.Readers.{batch_read}
use Rattle.ipc_streams.specs.Steps.{has_room, step_within}
use Rattle.ipc_streams.specs.declared.head.Head.{Head}
use Rattle.ipc_streams.proofs.HeadsRead.{expected_by, tag_read, was_read}

-- ── its head ──

head_refusals : (b : List ℕ) → refusals (head_of_message b) ≡ refusals (message_of b is_taken)
unfolding head_of_message bind
head_refusals b = by (message_of b is_taken)
  where
    by : (r : Reading Message) → refusals {A = Head} (bind r (λ m. Ok (record { is_dictionary = nat_eq m.tag 2; body = m.body }))) ≡ refusals {A = Message} r
    by (Ok m) = refl
    by (Err es) = refl

-- the message of a head
pub record HasHead (b : List ℕ) (h : Head) : Type 0 where
  pub message : Message
  pub is : message_of b is_taken ≡ Ok message
  pub dictionary : nat_eq message.tag 2 ≡ h.is_dictionary
  pub body : message.body ≡ h.body

pub head_has : (b : List ℕ) (h : Head) → head_of_message b ≡ Ok h → HasHead b h
unfolding head_of_message
head_has b h is = through (message_of b is_taken) _ h is λ m m_is rest.
    let same : record { is_dictionary = nat_eq m.tag 2; body = m.body } ≡ h = same_read _ h rest in
    record { message = m; is = m_is; dictionary = ap (λ (x : Head). x.is_dictionary) same; body = ap (λ (x : Head). x.body) same }

pub floats_refuse : (left : ℕ) (s : Reader) (d : Dictionaries) (f : Framed) (e : IpcError) → Refuses e (chosen_floats s.columns s.schema.fields 0) → Refuses e (refusals (step_within left s d f))
unfolding step_within has_room
floats_refuse left s d f e h = refused_first e _ _ (refused_first e (free_of (chosen_floats s.columns s.schema.fields 0)) _ (refused_place e (chosen_floats s.columns s.schema.fields 0) h))

pub head_refuses : (left : ℕ) (s : Reader) (d : Dictionaries) (f : Framed) (e : IpcError) → chosen_floats s.columns s.schema.fields 0 ≡ [] → RefusesBytes e (refusals (head_of_message f.metadata)) → Refuses e (refusals (step_within left s d f))
unfolding step_within has_room
head_refuses left s d f e floats h =
    refused_first e _ _ (subst (λ r. Refuses e (refusals r)) (sym (on (free_of (chosen_floats s.columns s.schema.fields 0)) _ tt (ok-place _ floats)))
    (refused_first e (message_of f.metadata is_taken) _ (subst (Refuses e) (head_refusals f.metadata) (refuses e (refusals (head_of_message f.metadata)) h))))

-- where no feature is refused and the head was read
room_by : (left : ℕ) (s : Reader) (f : Framed) (m : Message) → chosen_floats s.columns s.schema.fields 0 ≡ [] → message_of f.metadata is_taken ≡ Ok m → has_room left s f ≡ unless (not (nat_eq m.tag 2) || nat_lt 0 left) (TooMany counted.Dictionaries)
unfolding has_room
room_by left s f m floats is = on (free_of (chosen_floats s.columns s.schema.fields 0)) _ tt (ok-place _ floats) ∙ on (message_of f.metadata is_taken) _ m is

abbrev step_of : Reader → Dictionaries → Framed → Message → Bool → Reading Step
step_of s d f m is_dictionary = elim is_dictionary as (λ t. Reading Step) [
  | true ↦ stream_dictionary s d f m >>= λ x. Ok (record { dictionaries = x ∷ d; batch = []; rest = drop m.body f.behind })
  | false ↦ stream_batch s d f m >>= λ rows. Ok (record { dictionaries = d; batch = rows ∷ []; rest = drop m.body f.behind })
]

step_by : (s : Reader) (d : Dictionaries) (f : Framed) (m : Message) → chosen_floats s.columns s.schema.fields 0 ≡ [] → message_of f.metadata is_taken ≡ Ok m → stream_step s d f ≡ step_of s d f m (nat_eq m.tag 2)
unfolding stream_step
step_by s d f m floats is = on (free_of (chosen_floats s.columns s.schema.fields 0)) _ tt (ok-place _ floats) ∙ on (message_of f.metadata is_taken) _ m is

within_by : (left : ℕ) (s : Reader) (d : Dictionaries) (f : Framed) (m : Message) (is_dictionary : Bool) → chosen_floats s.columns s.schema.fields 0 ≡ [] → message_of f.metadata is_taken ≡ Ok m → nat_eq m.tag 2 ≡ is_dictionary
    → step_within left s d f ≡ (unless (not is_dictionary || nat_lt 0 left) (TooMany counted.Dictionaries) >>= λ room. step_of s d f m is_dictionary)
unfolding step_within
within_by left s d f m is_dictionary floats is tag =
    ap (λ r. bind r (λ room. stream_step s d f)) (room_by left s f m floats is ∙ ap (λ t. unless (not t || nat_lt 0 left) (TooMany counted.Dictionaries)) tag)
    ∙ ap (λ w. bind (unless (not is_dictionary || nat_lt 0 left) (TooMany counted.Dictionaries)) (λ room. w)) (step_by s d f m floats is ∙ ap (step_of s d f m) tag)

pub batch_step : (left : ℕ) (s : Reader) (d : Dictionaries) (f : Framed) (m : Message) → chosen_floats s.columns s.schema.fields 0 ≡ [] → message_of f.metadata is_taken ≡ Ok m → nat_eq m.tag 2 ≡ false
    → step_within left s d f ≡ (stream_batch s d f m >>= λ rows. Ok (record { dictionaries = d; batch = rows ∷ []; rest = drop m.body f.behind }))
unfolding bind
batch_step left s d f m floats is tag = within_by left s d f m false floats is tag

-- a dictionary that has no room
pub no_room : (s : Reader) (d : Dictionaries) (f : Framed) (m : Message) → chosen_floats s.columns s.schema.fields 0 ≡ [] → message_of f.metadata is_taken ≡ Ok m → nat_eq m.tag 2 ≡ true → Refuses (TooMany counted.Dictionaries) (refusals (step_within 0 s d f))
unfolding bind
no_room s d f m floats is tag = subst (λ r. Refuses (TooMany counted.Dictionaries) (refusals r)) (sym (within_by 0 s d f m true floats is tag)) (inl refl)

pub dictionary_step : (left : ℕ) (s : Reader) (d : Dictionaries) (f : Framed) (m : Message) → chosen_floats s.columns s.schema.fields 0 ≡ [] → message_of f.metadata is_taken ≡ Ok m → nat_eq m.tag 2 ≡ true → 0 < left
    → step_within left s d f ≡ (stream_dictionary s d f m >>= λ x. Ok (record { dictionaries = x ∷ d; batch = []; rest = drop m.body f.behind }))
unfolding bind
dictionary_step left s d f m floats is tag room = within_by left s d f m true floats is tag ∙ ap (λ (t : Bool). unless (false || t) (TooMany counted.Dictionaries) >>= λ u. step_of s d f m true) (lt-ltb 0 left room)

-- ── what it is ──

-- the tag of a message that was read
message_tag : (b : List ℕ) (m : Message) → message_of b is_taken ≡ Ok m → tag_of b ≡ Ok m.tag
unfolding message_of
message_tag b m is =
    through _ _ m is λ t t_is h1. through _ _ m h1 λ n n_is h2. through _ _ m h2 λ place _ h3. through _ _ m h3 λ present _ h4. through _ _ m h4 λ listed _ h5. through _ _ m h5 λ taken _ h6. through _ _ m h6 λ header _ h7. through _ _ m h7 λ body _ h8.
    let same : n ≡ m.tag = ap (λ (x : Message). x.tag) (same_read _ m h8) in
    tag_read b t n (was_read _ _ _ t_is) (was_read _ _ _ n_is) ∙ ap (λ k. Ok k) same

expects : (b : List ℕ) (m : Message) (is_dictionary : Bool) → message_of b is_taken ≡ Ok m → nat_eq m.tag 2 ≡ is_dictionary → message_of b (taken_by (if is_dictionary then expected.Dictionary else expected.Batch)) ≡ Ok m
expects b m is_dictionary is tag = expected_by b is_dictionary (sym (ap is_dictionary_tag (message_tag b m is) ∙ tag)) ∙ is

-- a record batch is its tables and its version, its pairs, and then its body
pub batch_by : (s : Reader) (d : Dictionaries) (f : Framed) (m : Message) → message_of f.metadata is_taken ≡ Ok m → nat_eq m.tag 2 ≡ false
    → stream_batch s d f m ≡ bind (record_message f.metadata) (λ r. bind (message_pairs f.metadata) (λ custom. bind (body_in f m) (λ body. batch_read s d r.version custom r.tables body)))
unfolding stream_batch record_message
batch_by s d f m is tag =
    let md = f.metadata in
    let found : record_message md ≡ bind (batch_at md m.header) (λ tables. bind (version_of md m) (λ version. Ok (record { tables = tables; version = version }))) =
    on (message_of md (λ t. nat_eq t 3)) (λ x. bind (batch_at md x.header) (λ tables. bind (version_of md x) (λ version. Ok (record { tables = tables; version = version })))) m (expects md m false is tag) in
    sym (ap (λ (r : Reading RecordMessage). bind r (λ r. bind (message_pairs md) (λ custom. bind (body_in f m) (λ body. batch_read s d r.version custom r.tables body)))) found ∙ simp (bind_twice, bind_ok))

-- a dictionary is its tables and its version, and then its body
pub dictionary_by : (s : Reader) (d : Dictionaries) (f : Framed) (m : Message) → message_of f.metadata is_taken ≡ Ok m → nat_eq m.tag 2 ≡ true
    → stream_dictionary s d f m ≡ bind (dictionary_message f.metadata) (λ x. bind (body_in f m) (λ body. dictionary_of s.schema d (length body) x.dictionary x.version body true))
unfolding stream_dictionary dictionary_message
dictionary_by s d f m is tag =
    let md = f.metadata in
    let found : dictionary_message md ≡ bind (dictionary_at md m.header) (λ x. bind (version_of md m) (λ version. Ok (record { dictionary = x; version = version }))) =
    on (message_of md (λ t. nat_eq t 2)) (λ y. bind (dictionary_at md y.header) (λ x. bind (version_of md y) (λ version. Ok (record { dictionary = x; version = version })))) m (expects md m true is tag) in
    sym (ap (λ (r : Reading DictionaryTables). bind r (λ x. bind (body_in f m) (λ body. dictionary_of s.schema d (length body) x.dictionary x.version body true))) found ∙ simp (bind_twice, bind_ok))

-- the pairs of a batch go with it
pub pairs_carried : (a : Asked) (v : MetadataVersion) (custom : Metadata) (tables : BatchHeader) (body : List ℕ)
    → batch_of_tables to_read a v custom tables body None ≡ bind (batch_of_tables to_read a v [] tables body None) (λ t. Ok (record { rows = t.rows; columns = t.columns; custom = custom }))
unfolding batch_of_tables
pairs_carried a v custom tables body = simp (bind_twice, bind_ok)
