-- What a writer frames means the table of its batches, whatever the kinds of their columns: values of dictionaries and batches, one message after another.
use Rattle.std.proofs.Common.{◌≡◌, ℕ, suc, zero, ◌+◌, ◌^◌, ◌<◌, ◌≤◌, List, [], ◌∷◌, ◌++◌, length, drop, Some, None, Ok, Bool, refl, sym, ap, subst, ◌∙◌, arith, true, false, length-append, append_assoc, append-nil}
use Rattle.std.specs.Prelude.{nat_eq, ◌||◌}
use Rattle.std.specs.List.{flat_map, AllByRecursion}
use Rattle.std.proofs.lemmas.List.Concat.{flat_map-cons}
use Rattle.std.proofs.lemmas.List.{flat_map_more}
use Rattle.arrow_spec.specs.declared.error.OutOfSpecKind.{OutOfSpecKind}
use Rattle.arrow_spec.specs.declared.error.OutOfSpecKind.TheVariants.{DuplicateDictionary}
use Rattle.arrow_spec.specs.declared.message.MetadataVersion.TheVariants.{V5}
use Rattle.arrow_spec.specs.Bodies.{NodeFits}
use Rattle.arrow_spec.specs.Readings.{bind, is_absent, only_if, meaning}
use Rattle.arrow_spec.specs.Flat.{little}
use Rattle.arrow_spec.specs.Kinds.{Fields, field, none, Metadata}
use Rattle.arrow_spec.specs.Schema.{Schema, schema_of}
use Rattle.arrow_spec.specs.Counts.{Written, first_place}
use Rattle.arrow_spec.specs.Arrays.{Dictionaries, HeldDictionary, found}
use Rattle.arrow_spec.specs.Features.{chosen_floats}
use Rattle.arrow_spec.specs.Layout.{Node, Slots, table, u32}
use Rattle.arrow_spec.specs.Messages.{Message}
use Rattle.arrow_spec.specs.Files.{dictionary_of, record_batch_of}
use Rattle.arrow_spec.specs.Sent.{SentMessage, body_of, may_be_sent, message, node_rows, schema_slots, schema_message, written}
use Rattle.arrow_spec.specs.Framing.{message_bytes, padded_size, padded, prefixed}
use Rattle.arrow_spec.specs.Laws.{IsNextMessage, TablesFit, header_of}
use Rattle.arrow_spec.specs.Streams.{Framed, Reader, next_message, stream_head, stream_prefix, stream_batch, stream_dictionary, stream_step, stream_batches, stream_reading, stream_table, first_message, behind_messages, body_in, closed, unended, end_mark}
use Rattle.arrow_spec.proofs.BatchTables.{batch_message_back}
use Rattle.arrow_spec.proofs.MessagesFit.{message_fits}
use Rattle.arrow_spec.proofs.SchemasFit.{schema_fits}
use Rattle.arrow_spec.proofs.NestedSchemas.{schema_back, stream_head_read}
use Rattle.arrow_spec.proofs.NextMessages.{framed_message_is_next}
use Rattle.arrow_spec.proofs.Projection.{on}
use Rattle.arrow_spec.proofs.ReadPairs.{through}
use Rattle.arrow_spec.proofs.SentMessages.{sent_bounds}
use Rattle.arrow_spec.proofs.WholeMessages.{body_told}
use Rattle.arrow_spec.proofs.Bodies.{length-body}
use Rattle.ipc_write_laws.specs.Streams.{WrittenBatch, body_for, pieces_of, table_batch, written_batch, written_of}
use Rattle.ipc_write_laws.specs.Messages.{AllMayBeWritten, BatchMayBeWritten, IsKnown, Known, MessageMayBeWritten, MessagesMayBeWritten, ValuesMayBeWritten, WrittenMessage, WrittenValues, values, batch, batch_in, bytes_of, ended_stream, none_known, stream_so_far, table_of_messages, values_message, values_slots, with_message, with_messages, with_values}
use Rattle.ipc_write_laws.proofs.Batches.{batch_read}
use Rattle.ipc_write_laws.proofs.Counts.{batch_counts, values_counts}
use Rattle.ipc_write_laws.proofs.ValuesMessages.{values_message_back}
use Rattle.ipc_write_laws.proofs.SentBatches.{written_of_one}

abbrev the_schema : Fields → Metadata → Schema
the_schema fs pairs = record { order = little; fields = fs; metadata = pairs }

abbrev reader : Fields → Metadata → Reader
reader fs pairs = record { schema = the_schema fs pairs; columns = None }

-- the tags of values and of batches
abbrev either_tag : ℕ → Bool
either_tag tag = nat_eq tag 2 || nat_eq tag 3

-- the next message is passed over
passed : (taken : ℕ → Bool) (tag : ℕ) (s : Slots) (body : List ℕ) (custom : Metadata) (rest b : List ℕ) → IsNextMessage taken tag s body custom rest b → (most : ℕ) → behind_messages (suc most) b ≡ behind_messages most rest
unfolding behind_messages body_in
passed taken tag s body custom rest b m most =
    through _ _ body m.body_is λ whole whole_is h. on _ _ (Some m.framed) m.next ∙ on _ _ m.found.body (body_told taken m.framed.metadata m.found m.read) ∙ on _ _ whole whole_is ∙ ap (λ r. behind_messages most r) m.rest_is

-- ── one message ──

-- a message that comes next: the dictionaries behind it, its batch if it is one, and the bytes behind it
record Taken (fs : Fields) (kv : Metadata) (c : Known) (d : Dictionaries) (x : WrittenMessage) (rest : List ℕ) : Type 0 where
  framed : Framed
  next : next_message (bytes_of x ++ rest) ≡ Ok (Some framed)
  held : Dictionaries
  known : IsKnown (with_message x c) held
  step : stream_step (reader fs kv) d framed ≡ Ok (record { dictionaries = held; batch = batch_in x; rest = rest })
  passed : (most : ℕ) → behind_messages (suc most) (bytes_of x ++ rest) ≡ behind_messages most rest

-- what a batch that may be written has in its tables fits them
batch_fit : (fs : Fields) (c : Known) (x : WrittenBatch) → BatchMayBeWritten fs c x → TablesFit x.rows (written_of x.columns)
batch_fit fs c x w =
    let bounds = sent_bounds (written_batch x) w.size in
    let counts = batch_counts 3 x.rows (length (body_for x.columns)) (written_of x.columns) x.custom bounds.0 in
    record { few = w.few; nodes = w.nodes; node_count = counts.0; buffers = omega (arith, bounds.1, length-body (pieces_of x.columns) 0); buffer_count = counts.1; views = w.views }

batch_taken : (fs : Fields) (kv : Metadata) (c : Known) (d : Dictionaries) (x : WrittenBatch) (rest : List ℕ) → chosen_floats None fs 0 ≡ [] → IsKnown c d → BatchMayBeWritten fs c x → Taken fs kv c d (batch x) rest
unfolding stream_step stream_batch bind
batch_taken fs kv c d x rest readable known w =
    let bounds = sent_bounds (written_batch x) w.size in
    let body = body_for x.columns in
    let next = batch_message_back either_tag x.rows (written_of x.columns) body x.custom rest refl (batch_fit fs c x w) bounds.1 w.custom bounds.0 in
    let m = next.0 in
    let rows = batch_read fs x.columns d x.rows x.custom w.kinds (w.good d known) in
    let test : nat_eq m.found.tag 2 ≡ false = rw m.tag_is refl in
    let read : stream_batch (reader fs kv) d m.framed m.found ≡ Ok (table_batch x) = rw (next.1, m.version, m.custom_is, m.body_is, rows) refl in
    record {
      framed = m.framed;
      next = m.next;
      held = d;
      known = known;
      step = rw (stream_step, readable, m.read) (rw (bind, test, read, m.rest_is) refl);
      passed = passed _ _ _ _ _ _ _ m;
    }

-- what values that may be written have in their tables fits them
pub values_fit : (fs : Fields) (c : Known) (x : WrittenValues) → ValuesMayBeWritten fs c x → TablesFit (node_rows (written_of (x.column ∷ [])).nodes) (written_of (x.column ∷ []))
values_fit fs c x w =
    let bounds = sent_bounds (values_message x) w.size in
    let all = written_of (x.column ∷ []) in
    let counts = values_counts x.id x.is_delta all (body_of 0 all.lengths) bounds.0 in
    let one = sym (written_of_one x.column) in
    record {
      few = subst (λ (a : Written). node_rows a.nodes < 2 ^ 63) one (omega (arith, w.rows, w.few));
      nodes = subst (λ (a : Written). AllByRecursion NodeFits a.nodes) one w.nodes;
      node_count = counts.0;
      buffers = bounds.1;
      buffer_count = counts.1;
      views = subst (λ (a : Written). AllByRecursion (λ n. n < 2 ^ 63) a.views) one w.views;
    }

-- values as they are held that were read
abbrev pub held_values : WrittenValues → HeldDictionary
held_values x = record {
  id = x.id;
  is_delta = x.is_delta;
  cells = x.column.cells;
  written = written (record_batch_of little V5 (header_of x.rows (written_of (x.column ∷ []))) (body_for (x.column ∷ []))) x.column.kind first_place x.rows 0 x.rows;
}

-- a stream's dictionary may be new or not
always_new : (is_delta is_first : Bool) (k : OutOfSpecKind) → only_if (is_delta || true || is_first) k ≡ Ok tt
always_new true is_first k = refl
always_new false is_first k = refl

values_read : (fs : Fields) (kv : Metadata) (c : Known) (d : Dictionaries) (x : WrittenValues) (rows : ℕ) → rows ≡ x.rows → IsKnown c d → ValuesMayBeWritten fs c x
    → dictionary_of (the_schema fs kv) d (length (body_for (x.column ∷ []))) (record { id = x.id; is_delta = x.is_delta; values = header_of rows (written_of (x.column ∷ [])) }) V5 (body_for (x.column ∷ [])) true ≡ Ok (held_values x)
unfolding dictionary_of bind
values_read fs kv c d x rows counted known w =
    let cells = batch_read (field [] true [] x.column.kind none) (x.column ∷ []) d x.rows [] (refl, tt) (w.good d known, tt) in
    rw (counted, w.kind, always_new x.is_delta (is_absent (found d x.id)) DuplicateDictionary, w.readable, cells) refl

-- their message says how long their body is
abbrev pub sized_values : WrittenValues → SentMessage
sized_values x = message 2 (table (values_slots x.id x.is_delta (written_of (x.column ∷ [])))) (length (body_for (x.column ∷ []))) []

pub values_same : (x : WrittenValues) → sized_values x ≡ values_message x
values_same x =
    let all = written_of (x.column ∷ []) in
    let same : length (body_for (x.column ∷ [])) ≡ body_of 0 all.lengths = omega (arith, length-body (pieces_of (x.column ∷ [])) 0) in
    ap (λ n. message 2 (table (values_slots x.id x.is_delta all)) n []) same

-- what is known with them
values_known : (c : Known) (d : Dictionaries) (x : WrittenValues) → IsKnown c d → IsKnown (with_values x c) (held_values x ∷ d)
values_known c d x known = λ id. rw (known id) refl

values_taken : (fs : Fields) (kv : Metadata) (c : Known) (d : Dictionaries) (x : WrittenValues) (rest : List ℕ) → chosen_floats None fs 0 ≡ [] → IsKnown c d → ValuesMayBeWritten fs c x → Taken fs kv c d (values x) rest
unfolding stream_step stream_dictionary bind
values_taken fs kv c d x rest readable known w =
    let all = written_of (x.column ∷ []) in
    let body = body_for (x.column ∷ []) in
    let bounds = sent_bounds (sized_values x) (subst (λ y. may_be_sent y ≡ true) (sym (values_same x)) w.size) in
    let next = values_message_back either_tag x.id x.is_delta all body rest refl w.small (values_fit fs c x w) bounds.1 bounds.0 in
    let m = next.0 in
    let counted : node_rows all.nodes ≡ x.rows = ap (λ (a : Written). node_rows a.nodes) (written_of_one x.column) ∙ w.rows in
    let test : nat_eq m.found.tag 2 ≡ true = rw m.tag_is refl in
    let cells = values_read fs kv c d x (node_rows all.nodes) counted known w in
    let read : stream_dictionary (reader fs kv) d m.framed m.found ≡ Ok (held_values x) = rw (next.1, m.version, m.body_is, cells) refl in
    let step : stream_step (reader fs kv) d m.framed ≡ Ok (record { dictionaries = held_values x ∷ d; batch = []; rest = rest }) = rw (stream_step, readable, m.read) (rw (bind, test, read, m.rest_is) refl) in
    let bytes : message_bytes (sized_values x).node body ++ rest ≡ bytes_of (values x) ++ rest = ap (λ (y : SentMessage). message_bytes y.node body ++ rest) (values_same x) in
    record {
      framed = m.framed;
      next = subst (λ b. next_message b ≡ Ok (Some m.framed)) bytes m.next;
      held = held_values x ∷ d;
      known = values_known c d x known;
      step = step;
      passed = λ most. subst (λ b. behind_messages (suc most) b ≡ behind_messages most rest) bytes (passed _ _ _ _ _ _ _ m most);
    }

message_taken : (fs : Fields) (kv : Metadata) (c : Known) (d : Dictionaries) (x : WrittenMessage) (rest : List ℕ) → chosen_floats None fs 0 ≡ [] → IsKnown c d → MessageMayBeWritten fs c x → Taken fs kv c d x rest
message_taken fs kv c d (values x) rest readable known w = values_taken fs kv c d x rest readable known w
message_taken fs kv c d (batch x) rest readable known w = batch_taken fs kv c d x rest readable known w

-- ── messages one after another ──

end_read : next_message end_mark ≡ Ok None
unfolding next_message bind stream_prefix
end_read = refl

nothing_read : next_message [] ≡ Ok None
unfolding next_message bind stream_prefix
nothing_read = refl

-- the bytes of messages, and what ends the stream
unfoldable messages_bytes : List WrittenMessage → List ℕ → List ℕ
messages_bytes [] end = end
messages_bytes (x ∷ xs) end = bytes_of x ++ messages_bytes xs end

-- the messages are read as their batches, and passed over up to what ends the stream
messages_back : (xs : List WrittenMessage) (end : List ℕ) → next_message end ≡ Ok None → (fs : Fields) (kv : Metadata) (c : Known) (d : Dictionaries) (most : ℕ) → length xs ≤ most → chosen_floats None fs 0 ≡ [] → IsKnown c d → AllMayBeWritten fs c xs
    → (stream_batches most (reader fs kv) d (messages_bytes xs end) ≡ Ok (flat_map batch_in xs)) × (behind_messages most (messages_bytes xs end) ≡ Ok end)
unfolding stream_batches behind_messages messages_bytes bind
messages_back [] end ended fs kv c d zero enough readable known w = (refl, refl)
messages_back [] end ended fs kv c d (suc most) enough readable known w = (rw (stream_batches, ended) refl, rw (behind_messages, ended) refl)
messages_back (x ∷ xs) end ended fs kv c d zero enough readable known w = absurd (omega (arith, enough))
messages_back (x ∷ xs) end ended fs kv c d (suc most) enough readable known w =
    let here = message_taken fs kv c d x (messages_bytes xs end) readable known w.0 in
    let others = messages_back xs end ended fs kv (with_message x c) here.held most (omega (arith, enough)) readable here.known w.1 in
    (rw (stream_batches, here.next) (rw (here.step, others.0, flat_map-cons batch_in x xs) refl), here.passed most ∙ others.1)

message_long : (n : Node) (body rest : List ℕ) → 8 + length rest ≤ length (message_bytes n body ++ rest)
unfolding message_bytes
message_long n body rest = omega (arith, length-append (prefixed (padded_size n) (padded n) ++ body) rest, length-append (prefixed (padded_size n) (padded n)) body, length-append ((255 ∷ 255 ∷ 255 ∷ 255 ∷ []) ++ u32 (padded_size n)) (padded n))

bytes_long : (x : WrittenMessage) (rest : List ℕ) → 8 + length rest ≤ length (bytes_of x ++ rest)
bytes_long (values x) rest = message_long (values_message x).node (body_for (x.column ∷ [])) rest
bytes_long (batch x) rest = message_long (written_batch x).node (body_for x.columns) rest

enough_bytes : (xs : List WrittenMessage) (end : List ℕ) → length xs ≤ length (messages_bytes xs end)
unfolding messages_bytes
enough_bytes [] end = omega arith
enough_bytes (x ∷ xs) end = omega (arith, bytes_long x (messages_bytes xs end), enough_bytes xs end)

messages_ended : (xs : List WrittenMessage) (end : List ℕ) → messages_bytes xs end ≡ flat_map bytes_of xs ++ end
unfolding messages_bytes
messages_ended [] end = refl
messages_ended (x ∷ xs) end = ap (λ t. bytes_of x ++ t) (messages_ended xs end) ∙ sym (append_assoc (bytes_of x) (flat_map bytes_of xs) end) ∙ ap (λ t. t ++ end) (sym (flat_map-cons bytes_of x xs))

-- ── the stream ──

-- the schema's message comes first: what it says, and the bytes behind it
record Begun (fs : Fields) (kv custom : Metadata) (rest : List ℕ) : Type 0 where
  framed : Framed
  found : Message
  next : next_message (message_bytes (schema_message little fs kv custom).node [] ++ rest) ≡ Ok (Some framed)
  head : stream_head framed.metadata ≡ Ok (found, custom, the_schema fs kv)
  body_is : body_in framed found ≡ Ok []
  rest_is : drop found.body framed.behind ≡ rest
  passed : (most : ℕ) → behind_messages (suc most) (message_bytes (schema_message little fs kv custom).node [] ++ rest) ≡ behind_messages most rest

begun : (fs : Fields) (kv custom : Metadata) (xs : List WrittenMessage) (rest : List ℕ) → MessagesMayBeWritten fs kv custom xs → Begun fs kv custom rest
unfolding schema_message
begun fs kv custom xs rest w =
    let bounds = sent_bounds (schema_message little fs kv custom) w.size in
    let s = schema_slots little fs kv in
    let fits = message_fits 1 0 (table s) custom (omega arith) (omega arith) (schema_fits little fs kv w.schema.fit w.ids.within) in
    let m = framed_message_is_next (λ tag. nat_eq tag 1) 1 s [] custom rest (omega arith) (omega arith) refl (omega arith) w.message fits bounds.0 in
    let schema : schema_of m.framed.metadata m.found.header ≡ Ok (the_schema fs kv) = schema_back little fs kv m.framed.metadata m.found.header w.schema w.ids m.header in
    record {
      framed = m.framed;
      found = m.found;
      next = m.next;
      head = stream_head_read m.framed.metadata m.found custom (the_schema fs kv) m.read m.version m.custom_is schema;
      body_is = m.body_is;
      rest_is = m.rest_is;
      passed = passed _ _ _ _ _ _ _ m;
    }

abbrev stream_bytes : Fields → Metadata → Metadata → List WrittenMessage → List ℕ → List ℕ
stream_bytes fs kv custom xs end = message_bytes (schema_message little fs kv custom).node [] ++ messages_bytes xs end

stream_long : (fs : Fields) (kv custom : Metadata) (xs : List WrittenMessage) (end : List ℕ) → suc (length xs) ≤ length (stream_bytes fs kv custom xs end)
stream_long fs kv custom xs end = omega (arith, message_long (schema_message little fs kv custom).node [] (messages_bytes xs end), enough_bytes xs end)

stream_read : (fs : Fields) (kv custom : Metadata) (xs : List WrittenMessage) (end : List ℕ) → next_message end ≡ Ok None → MessagesMayBeWritten fs kv custom xs → stream_reading (stream_bytes fs kv custom xs end) None ≡ Ok (table_of_messages fs kv custom xs)
unfolding stream_reading first_message bind
stream_read fs kv custom xs end ended w =
    let first = begun fs kv custom xs (messages_bytes xs end) w in
    let enough : length xs ≤ length (stream_bytes fs kv custom xs end) = omega (arith, stream_long fs kv custom xs end) in
    let others = messages_back xs end ended fs kv none_known [] (length (stream_bytes fs kv custom xs end)) enough w.readable (λ id. refl) w.messages in
    rw (first.next, first.head, first.body_is, first.rest_is, others.0) refl

stream_passed : (fs : Fields) (kv custom : Metadata) (xs : List WrittenMessage) (end : List ℕ) (most : ℕ) → suc (length xs) ≤ most → next_message end ≡ Ok None → MessagesMayBeWritten fs kv custom xs → behind_messages most (stream_bytes fs kv custom xs end) ≡ Ok end
stream_passed fs kv custom xs end zero enough ended w = absurd (omega (arith, enough))
stream_passed fs kv custom xs end (suc most) enough ended w = (begun fs kv custom xs (messages_bytes xs end) w).passed most ∙ (messages_back xs end ended fs kv none_known [] most (omega (arith, enough)) w.readable (λ id. refl) w.messages).1

-- what was written, and an end behind it, is read as the table, and behind its messages the end is left
stream_back : (fs : Fields) (kv custom : Metadata) (xs : List WrittenMessage) (end : List ℕ) → next_message end ≡ Ok None → MessagesMayBeWritten fs kv custom xs
    → (behind_messages (length (stream_so_far fs kv custom xs ++ end)) (stream_so_far fs kv custom xs ++ end) ≡ Ok end) × (stream_table (stream_so_far fs kv custom xs ++ end) None ≡ Some (table_of_messages fs kv custom xs))
unfolding stream_table
stream_back fs kv custom xs end ended w =
    let start = message_bytes (schema_message little fs kv custom).node [] in
    let all : stream_bytes fs kv custom xs end ≡ stream_so_far fs kv custom xs ++ end = ap (λ t. start ++ t) (messages_ended xs end) ∙ sym (append_assoc start (flat_map bytes_of xs) end) in
    let left = stream_passed fs kv custom xs end (length (stream_bytes fs kv custom xs end)) (stream_long fs kv custom xs end) ended w in
    subst (λ b. (behind_messages (length b) b ≡ Ok end) × (stream_table b None ≡ Some (table_of_messages fs kv custom xs))) all (left, ap meaning (stream_read fs kv custom xs end ended w))

-- ended, the stream is closed and means the table
pub messages_stream_means : (fs : Fields) (kv custom : Metadata) (xs : List WrittenMessage) → MessagesMayBeWritten fs kv custom xs → closed (ended_stream fs kv custom xs) × (stream_table (ended_stream fs kv custom xs) None ≡ Some (table_of_messages fs kv custom xs))
messages_stream_means fs kv custom xs w = stream_back fs kv custom xs end_mark end_read w

-- before its end mark it is not ended, and means the table as well
pub messages_front_means : (fs : Fields) (kv custom : Metadata) (xs : List WrittenMessage) → MessagesMayBeWritten fs kv custom xs → unended (stream_so_far fs kv custom xs) × (stream_table (stream_so_far fs kv custom xs) None ≡ Some (table_of_messages fs kv custom xs))
messages_front_means fs kv custom xs w =
    subst (λ b. unended b × (stream_table b None ≡ Some (table_of_messages fs kv custom xs))) (append-nil (stream_so_far fs kv custom xs)) (stream_back fs kv custom xs [] nothing_read w)

-- ── one message more ──

-- the stream grows by a message's bytes at its end
pub one_more_message : (fs : Fields) (kv custom : Metadata) (xs : List WrittenMessage) (x : WrittenMessage) → stream_so_far fs kv custom (xs ++ x ∷ []) ≡ stream_so_far fs kv custom xs ++ bytes_of x
one_more_message fs kv custom xs x = sym (flat_map_more bytes_of (message_bytes (schema_message little fs kv custom).node []) xs x)

all_and_one : (fs : Fields) (c : Known) (xs : List WrittenMessage) (x : WrittenMessage) → AllMayBeWritten fs c xs → MessageMayBeWritten fs (with_messages xs c) x → AllMayBeWritten fs c (xs ++ x ∷ [])
all_and_one fs c [] x w may = (may, tt)
all_and_one fs c (y ∷ ys) x w may = (w.0, all_and_one fs (with_message y c) ys x w.1 may)

-- and may be written with it if the message may
pub one_more_may : (fs : Fields) (kv custom : Metadata) (xs : List WrittenMessage) (x : WrittenMessage) → MessagesMayBeWritten fs kv custom xs → MessageMayBeWritten fs (with_messages xs none_known) x → MessagesMayBeWritten fs kv custom (xs ++ x ∷ [])
one_more_may fs kv custom xs x w may = record { schema = w.schema; message = w.message; ids = w.ids; readable = w.readable; size = w.size; messages = all_and_one fs none_known xs x w.messages may }
