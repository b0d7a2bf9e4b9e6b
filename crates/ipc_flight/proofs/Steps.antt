-- A message of a flight, by what it says: a dictionary's values, or a record batch.
use Rattle.std.proofs.Common.{◌≡◌, ◌∙◌, ℕ, List, [], ◌∷◌, length, Bool, true, false, ℤ, None, Option, Some, Result, Ok, Err, refl, sym, ap, subst}
use Rattle.std.specs.Prelude.{nat_eq}
use Rattle.arrow_spec.specs.declared.error.IpcError.{IpcError}
use Rattle.arrow_spec.specs.declared.message.MetadataVersion.{MetadataVersion}
use Rattle.arrow_spec.specs.Arrays.{Dictionaries}
use Rattle.arrow_spec.specs.Features.{chosen_floats}
use Rattle.arrow_spec.specs.Files.{batch_of_tables, dictionary_of, lengths_sum, to_read}
use Rattle.arrow_spec.specs.Kinds.{Metadata}
use Rattle.arrow_spec.specs.Messages.{BatchHeader, Message, RecordMessage, message_of, message_pairs, record_message}
use Rattle.arrow_spec.specs.Readings.{Gives, Reading, Refuses, bind, free_of, refusals}
use Rattle.arrow_spec.specs.Schema.{Schema}
use Rattle.arrow_spec.proofs.Projection.{ok-place, on}
use Rattle.arrow_arrays.specs.Batches.{Batch}
use Rattle.ipc_fields.specs.Causes.{RefusesBytes}
use Rattle.ipc_fields.specs.IpcFields.{ids_of}
use Rattle.ipc_fields.proofs.Steps.{refuses}
use Rattle.ipc_files.specs.Below.{AddsDictionary, Body, DictionaryMessage, DictionaryTables, batch_reading, bytes_in, columns_asked, dictionary_message, dictionary_message_of, dictionary_reading, header_of, table_of}
use Rattle.ipc_files.specs.Below.{message_of as dictionary_tables}
use Rattle.ipc_files.proofs.BlockMessages.{bind_ok, bind_twice, refused_first}
use Rattle.ipc_files.proofs.ReadBatches.{refused_place}
use Rattle.ipc_files.proofs.ReadBlocks.{reading_sent}
use Rattle.ipc_read_laws.specs.Held.{Held, HoldsCells}
use Rattle.ipc_read_laws.proofs.ChosenFloats.{chosen_with}
use Rattle.arrow_types.specs.Schemas.{fields_in}
use Rattle.std.specs.Rc.{rc_value}
use Rattle.ipc_streams.specs.Heads.{is_dictionary_tag, is_taken, tag_of}
use Rattle.ipc_streams.specs.Starts.{stream_schema}
use Rattle.ipc_streams.specs.declared.metadata.StreamMetadata.{StreamMetadata}
use Rattle.ipc_streams.proofs.HeadsRead.{expected_by}
use Rattle.ipc_streams.proofs.ReadBatches.{whole_body}
use Rattle.ipc_streams.proofs.StreamSchemas.{same_order}
use Rattle.ipc_streams.proofs.TakenSteps.{pairs_carried}
use Rattle.ipc_flight.specs.Consumed.{TakesHanded, all_of, rows_in, values_in, values_of}
use Rattle.ipc_flight.specs.Flights.{Handed, Taken, flight_batch, flight_dictionary, flight_step}
use Rattle.ipc_flight.proofs.FileFlights.{tag_taken}

-- ── steps ──

same_behind : {A B : Type 0} (r : Reading A) (f g : A → Reading B) → ((x : A) → r ≡ Ok x → f x ≡ g x) → bind r f ≡ bind r g
unfolding bind
same_behind (Ok x) f g h = h x refl
same_behind (Err es) f g h = refl

abbrev step_of : Schema → Dictionaries → Handed → Message → Bool → Reading Taken
step_of s d x m is_dictionary = elim is_dictionary as (λ t. Reading Taken) [
  | true ↦ bind (flight_dictionary s d x m) (λ values. Ok (record { dictionaries = values ∷ d; batch = None }))
  | false ↦ bind (flight_batch s d x m) (λ batch. Ok (record { dictionaries = d; batch = Some batch }))
]

step_by : (s : Schema) (d : Dictionaries) (x : Handed) → chosen_floats None s.fields 0 ≡ [] → flight_step s d x ≡ bind (message_of x.metadata is_taken) (λ m. step_of s d x m (nat_eq m.tag 2))
unfolding flight_step
step_by s d x floats = on (free_of (chosen_floats None s.fields 0)) _ tt (ok-place _ floats)

is_no_dictionary : (n : ℕ) → nat_eq n 3 ≡ true → nat_eq n 2 ≡ false
is_no_dictionary n e = let same : n ≡ 3 = Rattle.std.proofs.lemmas.Bool.eqb-true n 3 e in ap (λ k. nat_eq k 2) same

pub dictionary_step : (s : Schema) (d : Dictionaries) (x : Handed) → chosen_floats None s.fields 0 ≡ [] → is_dictionary_tag (tag_of x.metadata) ≡ true → flight_step s d x ≡ bind (values_in s d x) (λ values. Ok (record { dictionaries = values ∷ d; batch = None }))
unfolding values_in flight_dictionary dictionary_message
dictionary_step s d x floats tag =
    let here : message_of x.metadata (λ n. nat_eq n 2) ≡ message_of x.metadata is_taken = expected_by x.metadata true (sym tag) in
    step_by s d x floats ∙ ap (λ r. bind r (λ m. step_of s d x m (nat_eq m.tag 2))) (sym here)
    ∙ same_behind (message_of x.metadata (λ n. nat_eq n 2)) _ (λ m. step_of s d x m true) (λ m is. ap (step_of s d x m) (tag_taken x.metadata (λ n. nat_eq n 2) m is))
    ∙ simp (bind_twice, bind_ok)

pub batch_step : (s : Schema) (d : Dictionaries) (x : Handed) → chosen_floats None s.fields 0 ≡ [] → is_dictionary_tag (tag_of x.metadata) ≡ false → flight_step s d x ≡ bind (rows_in s d x) (λ batch. Ok (record { dictionaries = d; batch = Some batch }))
unfolding rows_in flight_batch record_message
batch_step s d x floats tag =
    let here : message_of x.metadata (λ n. nat_eq n 3) ≡ message_of x.metadata is_taken = expected_by x.metadata false (sym tag) in
    step_by s d x floats ∙ ap (λ r. bind r (λ m. step_of s d x m (nat_eq m.tag 2))) (sym here)
    ∙ same_behind (message_of x.metadata (λ n. nat_eq n 3)) _ (λ m. step_of s d x m false) (λ m is. ap (step_of s d x m) (is_no_dictionary m.tag (tag_taken x.metadata (λ n. nat_eq n 3) m is)))
    ∙ simp (bind_twice, bind_ok)

-- the ids of dictionaries change nothing of the features
pub same_floats : (m : StreamMetadata) → chosen_floats None (stream_schema m).fields 0 ≡ chosen_floats None (fields_in (rc_value m.schema)) 0
same_floats m = chosen_with None (fields_in (rc_value m.schema)) (ids_of m.ipc_schema.fields.items) 0

pub floats_refuse : (s : Schema) (d : Dictionaries) (x : Handed) (e : IpcError) → Refuses e (chosen_floats None s.fields 0) → Refuses e (refusals (flight_step s d x))
unfolding flight_step
floats_refuse s d x e h = refused_first e (free_of (chosen_floats None s.fields 0)) _ (refused_place e (chosen_floats None s.fields 0) h)

-- ── a record batch ──

-- what the tables of a message mean, by what is read of them
pub rows_read : (m : StreamMetadata) (d : Dictionaries) (result : Result Batch IpcError) (v : MetadataVersion) (tables : BatchHeader) (place : Body) (most n : ℕ) (bytes : List ℕ) → place ≡ record { offset = 0; length = length bytes } → most ≡ n → chosen_floats None (stream_schema m).fields 0 ≡ []
    → Gives table_of result (batch_reading None None m.ipc_schema.is_little_endian (stream_schema m).fields d most v tables (bytes_in place bytes)) → Gives table_of result (batch_of_tables to_read (all_of (stream_schema m) d n) v [] tables bytes None)
rows_read m d result v tables place most n bytes whole same floats gives =
    let le = m.ipc_schema.is_little_endian in
    let fs = (stream_schema m).fields in
    let read : batch_reading None None le fs d most v tables (bytes_in place bytes) ≡ batch_of_tables to_read (all_of (stream_schema m) d n) v [] tables bytes None =
    reading_sent None None le fs d most v tables (bytes_in place bytes) floats ∙ ap (λ o. batch_of_tables to_read (columns_asked None o fs d most) v [] tables (bytes_in place bytes) None) (same_order m)
    ∙ ap (λ k. batch_of_tables to_read (all_of (stream_schema m) d k) v [] tables (bytes_in place bytes) None) same ∙ ap (λ b. batch_of_tables to_read (all_of (stream_schema m) d n) v [] tables b None) (whole_body bytes place whole) in
    subst (λ r. Gives table_of result r) read gives

module _ (s : Schema) (d : Dictionaries) (x : Handed) where
  pub header_refused : (e : IpcError) → RefusesBytes e (refusals (record_message x.metadata)) → Refuses e (refusals (rows_in s d x))
  unfolding rows_in
  header_refused e h = refused_first e (record_message x.metadata) _ (refuses e (refusals (record_message x.metadata)) h)

  pub pairs_refused : (r : RecordMessage) (e : IpcError) → record_message x.metadata ≡ Ok r → RefusesBytes e (refusals (message_pairs x.metadata)) → Refuses e (refusals (rows_in s d x))
  unfolding rows_in
  pairs_refused r e found h = subst (λ w. Refuses e (refusals w)) (sym (on (record_message x.metadata) _ r found)) (refused_first e (message_pairs x.metadata) _ (refuses e (refusals (message_pairs x.metadata)) h))

  rows_by : (r : RecordMessage) (custom : Metadata) → record_message x.metadata ≡ Ok r → message_pairs x.metadata ≡ Ok custom
      → rows_in s d x ≡ bind (batch_of_tables to_read (all_of s d (lengths_sum r.tables.buffers)) r.version [] r.tables x.body None) (λ t. Ok (record { rows = t.rows; columns = t.columns; custom = custom }))
  unfolding rows_in
  rows_by r custom found paired = on (record_message x.metadata) _ r found ∙ on (message_pairs x.metadata) _ custom paired ∙ pairs_carried (all_of s d (lengths_sum r.tables.buffers)) r.version custom r.tables x.body

  pub rows_refused : (r : RecordMessage) (custom : Metadata) (e : IpcError) → record_message x.metadata ≡ Ok r → message_pairs x.metadata ≡ Ok custom → Refuses e (refusals (batch_of_tables to_read (all_of s d (lengths_sum r.tables.buffers)) r.version [] r.tables x.body None)) → Refuses e (refusals (rows_in s d x))
  rows_refused r custom e found paired h = subst (λ w. Refuses e (refusals w)) (sym (rows_by r custom found paired)) (refused_first e (batch_of_tables to_read (all_of s d (lengths_sum r.tables.buffers)) r.version [] r.tables x.body None) _ h)

  pub rows_given : (r : RecordMessage) (custom : Metadata) (y z : Batch) → record_message x.metadata ≡ Ok r → message_pairs x.metadata ≡ Ok custom → batch_of_tables to_read (all_of s d (lengths_sum r.tables.buffers)) r.version [] r.tables x.body None ≡ Ok (table_of y)
      → table_of z ≡ record { rows = (table_of y).rows; columns = (table_of y).columns; custom = custom } → rows_in s d x ≡ Ok (table_of z)
  rows_given r custom y z found paired read same = rows_by r custom found paired ∙ on (batch_of_tables to_read (all_of s d (lengths_sum r.tables.buffers)) r.version [] r.tables x.body None) _ (table_of y) read ∙ ap (λ t. Ok t) (sym same)

-- ── a dictionary ──

-- the pairs of a schema change nothing
same_schema : (m : StreamMetadata) (d : Dictionaries) (most : ℕ) (x : DictionaryMessage) (body : List ℕ)
    → dictionary_reading (rc_value m.schema) (ids_of m.ipc_schema.fields.items) m.ipc_schema.is_little_endian d most (dictionary_tables x.id x.is_delta (header_of x.header)) x.version body true ≡ dictionary_of (stream_schema m) d most (dictionary_message_of x).dictionary x.version body true
unfolding dictionary_of
same_schema m d most x body = refl

abbrev AddsBy : StreamMetadata → Dictionaries → Held → Result (Unit {0}) IpcError → DictionaryMessage → ℤ → ℕ → List ℕ → Type 0
AddsBy m d h' result x id most body =
    AddsDictionary d h' result (dictionary_reading (rc_value m.schema) (ids_of m.ipc_schema.fields.items) m.ipc_schema.is_little_endian d most (dictionary_tables id x.is_delta (header_of x.header)) x.version body true)

pub values_added : (m : StreamMetadata) (d : Dictionaries) (h' : Held) (result : Result (Unit {0}) IpcError) (x : DictionaryMessage) (id : ℤ) (place : Body) (most : ℕ) (bytes : List ℕ) → id ≡ x.id → place ≡ record { offset = 0; length = length bytes } → most ≡ lengths_sum (header_of x.header).buffers → AddsBy m d h' result x id most (bytes_in place bytes)
    → AddsDictionary d h' result (values_of (stream_schema m) d (dictionary_message_of x) bytes)
values_added m d h' result x id place most bytes one whole same adds =
    let n = lengths_sum (header_of x.header).buffers in
    let a0 : AddsBy m d h' result x x.id most (bytes_in place bytes) = subst (λ i. AddsBy m d h' result x i most (bytes_in place bytes)) one adds in
    let a1 : AddsBy m d h' result x x.id n (bytes_in place bytes) = subst (λ k. AddsBy m d h' result x x.id k (bytes_in place bytes)) same a0 in
    let a2 : AddsBy m d h' result x x.id n bytes = subst (λ b. AddsBy m d h' result x x.id n b) (whole_body bytes place whole) a1 in
    subst (λ r. AddsDictionary d h' result r) (same_schema m d n x bytes) a2

pub tables_refused : (s : Schema) (d : Dictionaries) (x : Handed) (h : Held) (result : Result (Unit {0}) IpcError) (e : IpcError) → result ≡ Err e → RefusesBytes e (refusals (dictionary_message x.metadata)) → AddsDictionary d h result (values_in s d x)
unfolding values_in
tables_refused s d x h result e is refused =
    subst (λ r. AddsDictionary d h r (values_in s d x)) (sym is) (record { ok = tt; err = refused_first e (dictionary_message x.metadata) _ (refuses e (refusals (dictionary_message x.metadata)) refused) })

pub tables_found : (s : Schema) (d : Dictionaries) (x : Handed) (h : Held) (result : Result (Unit {0}) IpcError) (tables : DictionaryTables) → dictionary_message x.metadata ≡ Ok tables → AddsDictionary d h result (values_of s d tables x.body) → AddsDictionary d h result (values_in s d x)
unfolding values_in
tables_found s d x h result tables found adds = subst (λ r. AddsDictionary d h result r) (sym (on (dictionary_message x.metadata) _ tables found)) adds

-- ── what is taken of a message ──

pub floats_not_taken : (s : Schema) (d : Dictionaries) (x : Handed) (h : Held) (result : Result (Option Batch) IpcError) (e : IpcError) → result ≡ Err e → Refuses e (chosen_floats None s.fields 0) → TakesHanded d s x h result
floats_not_taken s d x h result e is refused = subst (TakesHanded d s x h) (sym is) (floats_refuse s d x e refused)

pub values_not_taken : (s : Schema) (d : Dictionaries) (x : Handed) (h : Held) (result : Result (Option Batch) IpcError) (e : IpcError) → result ≡ Err e → chosen_floats None s.fields 0 ≡ [] → is_dictionary_tag (tag_of x.metadata) ≡ true → Refuses e (refusals (values_in s d x)) → TakesHanded d s x h result
values_not_taken s d x h result e is floats tag refused =
    subst (TakesHanded d s x h) (sym is) (subst (λ r. Refuses e (refusals r)) (sym (dictionary_step s d x floats tag)) (refused_first e (values_in s d x) _ refused))

pub values_taken : (s : Schema) (d : Dictionaries) (x : Handed) (h : Held) → chosen_floats None s.fields 0 ≡ [] → is_dictionary_tag (tag_of x.metadata) ≡ true → AddsDictionary d h (Ok tt) (values_in s d x) → TakesHanded d s x h (Ok None)
values_taken s d x h floats tag adds =
    let added = adds.ok in
    let t : Taken = record { dictionaries = added.0 ∷ d; batch = None } in
    (t, record { is = dictionary_step s d x floats tag ∙ on (values_in s d x) _ added.0 added.1; batch = refl; holds = added.2 })

pub rows_not_taken : (s : Schema) (d : Dictionaries) (x : Handed) (h : Held) (result : Result (Option Batch) IpcError) (e : IpcError) → result ≡ Err e → chosen_floats None s.fields 0 ≡ [] → is_dictionary_tag (tag_of x.metadata) ≡ false → Refuses e (refusals (rows_in s d x)) → TakesHanded d s x h result
rows_not_taken s d x h result e is floats tag refused =
    subst (TakesHanded d s x h) (sym is) (subst (λ r. Refuses e (refusals r)) (sym (batch_step s d x floats tag)) (refused_first e (rows_in s d x) _ refused))

pub rows_taken : (s : Schema) (d : Dictionaries) (x : Handed) (h : Held) (y : Batch) → chosen_floats None s.fields 0 ≡ [] → is_dictionary_tag (tag_of x.metadata) ≡ false → HoldsCells d h → rows_in s d x ≡ Ok (table_of y) → TakesHanded d s x h (Ok (Some y))
rows_taken s d x h y floats tag holds read =
    let t : Taken = record { dictionaries = d; batch = Some (table_of y) } in
    (t, record { is = batch_step s d x floats tag ∙ on (rows_in s d x) _ (table_of y) read; batch = refl; holds = holds })
