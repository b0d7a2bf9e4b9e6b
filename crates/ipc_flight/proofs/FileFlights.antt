-- A file's messages, as a flight hands them over, mean what the file means.
use Rattle.std.proofs.Common.{◌≡◌, ◌∙◌, ℕ, List, [], ◌∷◌, ◌++◌, length, Bool, true, false, Option, Some, None, Ok, refl, sym, ap, subst, arith}
use Rattle.std.specs.Prelude.{nat_eq, nat_le, ◌||◌}
use Rattle.std.proofs.lemmas.Bool.{eqb-true, le-leb}
use Rattle.arrow_spec.specs.declared.error.IpcError.{IpcError}
use Rattle.arrow_spec.specs.declared.error.OutOfSpecKind.TheVariants.{DuplicateDictionary, InvalidBuffersLength, UnexpectedMessageType}
use Rattle.arrow_spec.specs.declared.message.MetadataVersion.{MetadataVersion}
use Rattle.arrow_spec.specs.Arrays.{Dictionaries, HeldDictionary, found}
use Rattle.arrow_spec.specs.Features.{chosen_floats}
use Rattle.arrow_spec.specs.Files.{ArrowTable, Asked, FileBlock, Meta, TableBatch, batch_of, batch_of_tables, batches_of, block_body, block_message, dictionaries_of, dictionaries_read, dictionary_of, file_reading, lengths_sum, meta_of, to_read, «all»}
use Rattle.arrow_spec.specs.Kinds.{Metadata}
use Rattle.arrow_spec.specs.Meaning.{file_table}
use Rattle.arrow_spec.specs.Messages.{BatchHeader, DictionaryBatch, Message, dictionary_at, message_of, version_of}
use Rattle.arrow_spec.specs.Readings.{◌>>=◌, Reading, free_of, is_absent, only_if, unless}
use Rattle.arrow_spec.specs.Schema.{Schema}
use Rattle.arrow_spec.proofs.Projection.{ok-place, on, place-ok, some_meaning}
use Rattle.arrow_spec.proofs.ReadPairs.{is_true, same_read, through}
use Rattle.ipc_flight.specs.Flights.{Handed, IsFlightOf, FlightMeansTheFile, Taken, all_handed, flight_batch, flight_batches, flight_dictionary, flight_step, handed}

-- ── a message ──

abbrev is_taken : ℕ → Bool
is_taken tag = nat_eq tag 2 || nat_eq tag 3

met : (t : Bool) (e : IpcError) (u : Unit {0}) → t ≡ true → unless t e ≡ Ok u
met true e u h = refl
met false e u h = cc

-- of more headers it is the same
more_taken : (md : List ℕ) (p q : ℕ → Bool) (m : Message) → ((n : ℕ) → p n ≡ true → q n ≡ true) → message_of md p ≡ Ok m → message_of md q ≡ Ok m
unfolding message_of
more_taken md p q m more h =
    through _ _ m h λ t t_is h1. through _ _ m h1 λ tag tag_is h2. through _ _ m h2 λ place place_is h3. through _ _ m h3 λ present present_is h4. through _ _ m h4 λ listed listed_is h5. through _ _ m h5 λ expected expected_is h6.
    on _ _ t t_is ∙ on _ _ tag tag_is ∙ on _ _ place place_is ∙ on _ _ present present_is ∙ on _ _ listed listed_is ∙ on (only_if (q tag) UnexpectedMessageType) _ expected (met _ _ expected (more tag (is_true _ _ expected expected_is))) ∙ h6

-- its tag is one that is taken
pub tag_taken : (md : List ℕ) (p : ℕ → Bool) (m : Message) → message_of md p ≡ Ok m → p m.tag ≡ true
unfolding message_of
tag_taken md p m h =
    through _ _ m h λ t t_is h1. through _ _ m h1 λ tag tag_is h2. through _ _ m h2 λ place place_is h3. through _ _ m h3 λ present present_is h4. through _ _ m h4 λ listed listed_is h5. through _ _ m h5 λ expected expected_is h6.
    through _ _ m h6 λ header header_is h7. through _ _ m h7 λ body body_is h8.
    subst (λ (x : Message). p x.tag ≡ true) (same_read _ m h8) (is_true _ _ expected expected_is)

-- the message of a block is handed over as it stands
block_handed : (b : List ℕ) (block : FileBlock) (tag : ℕ) (p : List ℕ × Message) → block_message b block tag ≡ Ok p → handed b block ≡ Ok (record { metadata = p.0; body = block_body b block })
unfolding block_message handed
block_handed b block tag p h =
    through _ _ p h λ range range_is h1. through _ _ p h1 λ prefix prefix_is h2. through _ _ p h2 λ m m_is h3.
    on _ _ range range_is ∙ on _ _ prefix prefix_is ∙ ap (λ (q : List ℕ × Message). Ok (record { metadata = q.0; body = block_body b block })) (same_read _ p h3)

block_message_is : (b : List ℕ) (block : FileBlock) (tag : ℕ) (p : List ℕ × Message) → block_message b block tag ≡ Ok p → message_of p.0 (λ n. nat_eq n tag) ≡ Ok p.1
unfolding block_message
block_message_is b block tag p h =
    through _ _ p h λ range range_is h1. through _ _ p h1 λ prefix prefix_is h2. through _ _ p h2 λ m m_is h3.
    subst (λ (q : List ℕ × Message). message_of q.0 (λ n. nat_eq n tag) ≡ Ok q.1) (same_read _ p h3) m_is

-- ── the sum of a batch's buffers ──

abbrev with_most : Asked → ℕ → Asked
with_most a n = record { order = a.order; fields = a.fields; columns = a.columns; dictionaries = a.dictionaries; most = n }

-- no bound on it is one that it keeps
sum_free : (a : Asked) (v : MetadataVersion) (custom : Metadata) (tables : BatchHeader) (body : List ℕ) (left : Option ℕ) (y : TableBatch) → batch_of_tables to_read a v custom tables body left ≡ Ok y → batch_of_tables to_read (with_most a (lengths_sum tables.buffers)) v custom tables body left ≡ Ok y
unfolding batch_of_tables
sum_free a v custom tables body left y h =
    let n = lengths_sum tables.buffers in
    through _ _ y h λ c c_is h1. through _ _ y h1 λ rows rows_is h2. through _ _ y h2 λ negative negative_is h3. through _ _ y h3 λ sum sum_is h4.
    on _ _ c c_is ∙ on _ _ rows rows_is ∙ on _ _ negative negative_is ∙ on (only_if (nat_le n n) (InvalidBuffersLength n n)) _ sum (met _ _ sum (le-leb n n (omega arith))) ∙ h4

-- ── a batch ──

step_by : (s : Schema) (d : Dictionaries) (x : Handed) (m : Message) → chosen_floats None s.fields 0 ≡ [] → message_of x.metadata is_taken ≡ Ok m → flight_step s d x ≡ elim (nat_eq m.tag 2) as (λ t. Reading Taken) [
  | true ↦ flight_dictionary s d x m >>= λ values. Ok (record { dictionaries = values ∷ d; batch = None })
  | false ↦ flight_batch s d x m >>= λ batch. Ok (record { dictionaries = d; batch = Some batch })
]
unfolding flight_step
step_by s d x m floats is = on (free_of (chosen_floats None s.fields 0)) _ tt (ok-place _ floats) ∙ on (message_of x.metadata is_taken) _ m is

batch_by : (s : Schema) (d : Dictionaries) (x : Handed) (m : Message) (t : Bool) (y : TableBatch) → t ≡ false → flight_batch s d x m ≡ Ok y → elim t as (λ t. Reading Taken) [
  | true ↦ flight_dictionary s d x m >>= λ values. Ok (record { dictionaries = values ∷ d; batch = None })
  | false ↦ flight_batch s d x m >>= λ batch. Ok (record { dictionaries = d; batch = Some batch })
] ≡ Ok (record { dictionaries = d; batch = Some y })
batch_by s d x m true y e h = cc
batch_by s d x m false y e h = on (flight_batch s d x m) _ y h

dictionary_by : (s : Schema) (d : Dictionaries) (x : Handed) (m : Message) (t : Bool) (y : HeldDictionary) → t ≡ true → flight_dictionary s d x m ≡ Ok y → elim t as (λ t. Reading Taken) [
  | true ↦ flight_dictionary s d x m >>= λ values. Ok (record { dictionaries = values ∷ d; batch = None })
  | false ↦ flight_batch s d x m >>= λ batch. Ok (record { dictionaries = d; batch = Some batch })
] ≡ Ok (record { dictionaries = y ∷ d; batch = None })
dictionary_by s d x m false y e h = cc
dictionary_by s d x m true y e h = on (flight_dictionary s d x m) _ y h

is_batch : (n : ℕ) → nat_eq n 3 ≡ true → nat_eq n 2 ≡ false
is_batch n e = let same : n ≡ 3 = eqb-true n 3 e in ap (λ k. nat_eq k 2) same

either : (t : Bool) → (t || true) ≡ true
either true = refl
either false = refl

abbrev asked : Schema → Dictionaries → ℕ → Asked
asked s d n = record { order = s.order; fields = s.fields; columns = None; dictionaries = d; most = n }

-- what the message of a block leaves
record HandedAs (b : List ℕ) (block : FileBlock) (s : Schema) (d : Dictionaries) (t : Taken) : Type 0 where
  message : Handed
  is : handed b block ≡ Ok message
  step : flight_step s d message ≡ Ok t

block_flight : (b : List ℕ) (block : FileBlock) (s : Schema) (d : Dictionaries) (n : ℕ) (y : TableBatch) → chosen_floats None s.fields 0 ≡ [] → batch_of to_read b (asked s d n) block None ≡ Ok y → HandedAs b block s d (record { dictionaries = d; batch = Some y })
unfolding batch_of flight_batch
block_flight b block s d n y floats h =
    through _ _ y h λ p p_is h1. through _ _ y h1 λ tables tables_is h2. through _ _ y h2 λ version version_is h3. through _ _ y h3 λ custom custom_is h4.
    let x : Handed = record { metadata = p.0; body = block_body b block } in
    let one : message_of p.0 (λ n. nat_eq n 3) ≡ Ok p.1 = block_message_is b block 3 p p_is in
    let read : flight_batch s d x p.1 ≡ Ok y = on _ _ tables tables_is ∙ on _ _ version version_is ∙ on _ _ custom custom_is ∙ sum_free (asked s d n) version custom tables (block_body b block) None y h4 in
    record {
      message = x;
      is = block_handed b block 3 p p_is;
      step = step_by s d x p.1 floats (more_taken p.0 (λ n. nat_eq n 3) is_taken p.1 (λ k e. ap (λ t. nat_eq k 2 || t) e ∙ either (nat_eq k 2)) one) ∙ batch_by s d x p.1 (nat_eq p.1.tag 2) y (is_batch p.1.tag (tag_taken p.0 (λ n. nat_eq n 3) p.1 one)) read;
    }

-- ── a dictionary ──

-- one that may replace none is the same where it may, and no bound on the sum of its buffers is one that it keeps
free_dictionary : (s : Schema) (d : Dictionaries) (n : ℕ) (x : DictionaryBatch) (v : MetadataVersion) (body : List ℕ) (y : HeldDictionary) → dictionary_of s d n x v body false ≡ Ok y → dictionary_of s d (lengths_sum x.values.buffers) x v body true ≡ Ok y
unfolding dictionary_of
free_dictionary s d n x v body y h =
    through _ _ y h λ kind kind_is h1. through _ _ y h1 λ new new_is h2. through _ _ y h2 λ floats floats_is h3. through _ _ y h3 λ values values_is h4.
    on _ _ kind kind_is ∙ on (only_if (x.is_delta || true || is_absent (found d x.id)) DuplicateDictionary) _ new (met _ _ new (may x.is_delta (is_absent (found d x.id)))) ∙ on _ _ floats floats_is ∙ on _ _ values (sum_free _ v [] x.values body None values values_is) ∙ h4
  where
    may : (delta absent : Bool) → (delta || true || absent) ≡ true
    may true absent = refl
    may false absent = refl

values_flight : (b : List ℕ) (block : FileBlock) (s : Schema) (d : Dictionaries) (p : List ℕ × Message) (x : DictionaryBatch) (v : MetadataVersion) (y : HeldDictionary) → chosen_floats None s.fields 0 ≡ [] → block_message b block 2 ≡ Ok p → dictionary_at p.0 p.1.header ≡ Ok x → version_of p.0 p.1 ≡ Ok v
    → dictionary_of s d (length b) x v (block_body b block) false ≡ Ok y → HandedAs b block s d (record { dictionaries = y ∷ d; batch = None })
unfolding flight_dictionary
values_flight b block s d p x v y floats p_is x_is v_is h =
    let m : Handed = record { metadata = p.0; body = block_body b block } in
    let one : message_of p.0 (λ n. nat_eq n 2) ≡ Ok p.1 = block_message_is b block 2 p p_is in
    let read : flight_dictionary s d m p.1 ≡ Ok y = on _ _ x x_is ∙ on _ _ v v_is ∙ free_dictionary s d (length b) x v (block_body b block) y h in
    record {
      message = m;
      is = block_handed b block 2 p p_is;
      step = step_by s d m p.1 floats (more_taken p.0 (λ n. nat_eq n 2) is_taken p.1 (λ k e. ap (λ t. t || nat_eq k 3) e) one) ∙ dictionary_by s d m p.1 (nat_eq p.1.tag 2) y (tag_taken p.0 (λ n. nat_eq n 2) p.1 one) read;
    }

-- ── blocks, one after another ──

record BatchesHanded (b : List ℕ) (blocks : List FileBlock) (s : Schema) (d : Dictionaries) (ys : List TableBatch) : Type 0 where
  messages : List Handed
  are : all_handed b blocks ≡ Ok messages
  mean : flight_batches s d messages ≡ Ok ys

blocks_flight : (b : List ℕ) (blocks : List FileBlock) (s : Schema) (d : Dictionaries) (n : ℕ) (is_first : Bool) (ys : List TableBatch) → chosen_floats None s.fields 0 ≡ [] → batches_of to_read b (asked s d n) is_first blocks None ≡ Ok ys → BatchesHanded b blocks s d ys
unfolding batches_of all_handed flight_batches
blocks_flight b [] s d n is_first ys floats h = record { messages = []; are = refl; mean = h }
blocks_flight b (block ∷ blocks) s d n is_first ys floats h =
    through _ _ ys h λ first first_is h1. through _ _ ys h1 λ sent sent_is h2. through _ _ ys h2 λ others others_are h3.
    let one = block_flight b block s d n first floats first_is in
    let rest = blocks_flight b blocks s d n false others floats others_are in
    record {
      messages = one.message ∷ rest.messages;
      are = on _ _ one.message one.is ∙ on _ _ rest.messages rest.are;
      mean = on _ _ (record { dictionaries = d; batch = Some first }) one.step ∙ on _ _ others rest.mean ∙ h3;
    }

record DictionariesHanded (b : List ℕ) (blocks : List FileBlock) (s : Schema) (d d' : Dictionaries) : Type 0 where
  messages : List Handed
  are : all_handed b blocks ≡ Ok messages
  before : (xs : List Handed) (ys : List TableBatch) → flight_batches s d' xs ≡ Ok ys → flight_batches s d (messages ++ xs) ≡ Ok ys

dictionaries_flight : (b : List ℕ) (meta : Meta) (blocks : List FileBlock) (d d' : Dictionaries) → chosen_floats None meta.schema.fields 0 ≡ [] → dictionaries_of b meta d blocks ≡ Ok d' → DictionariesHanded b blocks meta.schema d d'
unfolding dictionaries_of all_handed flight_batches
dictionaries_flight b meta [] d d' floats h = let same : d ≡ d' = same_read d d' h in record { messages = []; are = refl; before = λ xs ys k. subst (λ e. flight_batches meta.schema e xs ≡ Ok ys) (sym same) k }
dictionaries_flight b meta (block ∷ blocks) d d' floats h =
    through _ _ d' h λ p p_is h1. through _ _ d' h1 λ x x_is h2. through _ _ d' h2 λ version version_is h3. through _ _ d' h3 λ values values_are h4.
    let one = values_flight b block meta.schema d p x version values floats p_is x_is version_is values_are in
    let rest = dictionaries_flight b meta blocks (values ∷ d) d' floats h4 in
    record {
      messages = one.message ∷ rest.messages;
      are = on _ _ one.message one.is ∙ on _ _ rest.messages rest.are;
      before = λ xs ys k. on _ _ (record { dictionaries = values ∷ d; batch = None }) one.step ∙ on _ _ ys (rest.before xs ys k);
    }

-- ── the file ──

file_flight : (b : List ℕ) (meta : Meta) (block : FileBlock) (blocks : List FileBlock) (t : ArrowTable) → meta_of b ≡ Ok meta → meta.blocks ≡ block ∷ blocks → file_reading to_read b «all» None ≡ Ok t → IsFlightOf b meta t.batches
unfolding file_reading
file_flight b meta block blocks t is some h =
    let h0 = sym (on (meta_of b) _ meta is) ∙ h in
    through _ _ t h0 λ custom custom_is h1. through _ _ t h1 λ columns columns_is h2. through _ _ t h2 λ floats floats_is h3. through _ _ t h3 λ size size_is h4.
    through _ _ t h4 λ d d_is h5. through _ _ t h5 λ ys ys_are h6.
    let free : chosen_floats None meta.schema.fields 0 ≡ [] = place-ok _ floats_is in
    let read : dictionaries_of b meta [] meta.dictionaries ≡ Ok d = subst (λ bs. dictionaries_of b meta [] (dictionaries_read bs meta.dictionaries) ≡ Ok d) some d_is in
    let first = dictionaries_flight b meta meta.dictionaries [] d free read in
    let rest = blocks_flight b meta.blocks meta.schema d (length b) true ys free ys_are in
    let same : ys ≡ t.batches = ap (λ (x : ArrowTable). x.batches) (same_read _ t h6) in
    record {
      dictionaries = first.messages;
      blocks = rest.messages;
      dictionaries_are = first.are;
      blocks_are = rest.are;
      means = first.before rest.messages ys rest.mean ∙ ap (λ zs. Ok zs) same;
    }

pub means_the_file : FlightMeansTheFile
unfolding file_table
means_the_file b meta block blocks t is some means = file_flight b meta block blocks t is some (some_meaning (file_reading to_read b «all» None) t means)
