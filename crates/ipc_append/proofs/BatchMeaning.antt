-- What a file means behind batches that were encoded by what is held of their dictionaries.
use Rattle.std.proofs.Common.{◌≡◌, ◌∙◌, ℕ, ◌+◌, ◌%◌, ℤ, List, [], ◌∷◌, ◌++◌, length, map, true, Option, Some, None, Result, Ok, Err, refl, sym, ap, subst, arith, append_assoc, append-nil}
use Rattle.std.specs.List.{AllByRecursion, flat_map}
use Rattle.std.specs.Rc.{rc_value}
use Rattle.std.proofs.lemmas.List.{append_cancel_left}
use Rattle.arrow_spec.specs.declared.error.IpcError.{IpcError}
use Rattle.arrow_spec.specs.Features.{chosen_floats}
use Rattle.arrow_spec.specs.Files.{TableBatch}
use Rattle.arrow_spec.specs.Flat.{little}
use Rattle.arrow_spec.specs.Framing.{body_bytes, message_bytes}
use Rattle.arrow_spec.specs.Kinds.{Fields, have_same_kinds}
use Rattle.arrow_spec.specs.Layout.{layout, up_to}
use Rattle.arrow_spec.specs.Sent.{SentMessage}
use Rattle.arrow_spec.specs.WrittenSchemas.{IdsMayBeWritten, own_fields}
use Rattle.arrow_spec.proofs.NextMessages.{length-layout}
use Rattle.arrow_types.specs.Schemas.{fields_in}
use Rattle.arrow_arrays.specs.Batches.{Batch}
use Rattle.arrow_arrays.specs.Parts.{forest}
use Rattle.ipc_file_writer.specs.Below.{MayFollow, chunk_of, values_of, said_fields, AreFirst, begun, columns_fault, columns_of, unless_fault, Options, Sending, ToSend, arrays_sent, held_by, options_of, DictionaryTracker, IsOfBatch, MayBeSent, AreMessagesOf, IsMessageOf, given_sizes, given_text, Sizes, chunk_text, message_of, sizes_of, values_text, cells_held}
use Rattle.ipc_file_writer.proofs.Below.{may_follow, message_under, pieces_under, kinds_own, with_own, arrays_firsts, may_be_sent, agreeing_are_apart, columns_of_kinds}
use Rattle.ipc_streams.specs.Below.{batch_under, table_of, batch_body, batch_message, columns_pieces, written_batch_of, AllMean, columns_under, message_frame, EncodedData, WriteOptions, pieces_in}
use Rattle.ipc_streams.proofs.Below.{cells_under, aligned_pieces, framed_is_batch, framed_whole, same_message}
use Rattle.ipc_fields.specs.IpcFields.{Ids, fields_with, ids_of}
use Rattle.ipc_fields.specs.declared.ipc_field.IpcSchema.{IpcSchema}
use Rattle.ipc_file_writer.specs.Calls.{file_ids, file_schema}
use Rattle.ipc_file_writer.specs.Given as given
use Rattle.ipc_file_writer.specs.Given.{HasGiven, given_chunk, written_chunk}
use Rattle.ipc_file_writer.specs.Written.{IsFile, file_fields}
use Rattle.ipc_file_writer.specs.declared.file.FileCore.{FileCore}
use Rattle.laws_files.specs.Below.{Known, WrittenMessage, batch, values, values_bytes, values_message, with_messages, with_values, WrittenBatch, batch_bytes, body_for, table_batch, written_batch}
use Rattle.laws_files.specs.Files.{AreDeltasOrFirst, MayBeAdded}
use Rattle.laws_files.proofs.Messages.{values_long}
use Rattle.laws_files.proofs.MoreBatches.{may_be_added}
use Rattle.ipc_append.specs.Encoded.{AreEncoded, IsEncoded, none_encoded, one_encoded}
use Rattle.ipc_append.specs.Puts.{AreGiven, IsGiven, chunk_bytes, none_given, one_given}
use Rattle.ipc_append.specs.declared.encode.EncodedChunk.{EncodedChunk}
use Rattle.ipc_append.proofs.PutSteps.{stays_behind}

-- ── messages ──

abbrev sized : ℕ → ℕ → Sizes
sized front body = record { front = front; body = body }

-- how many bytes a message has whose metadata is a node's, and whose body ends at a multiple of 64
message_sizes : (e : EncodedData) (m : SentMessage) (body : List ℕ) → e.ipc_message.items ≡ layout m.node → e.arrow_data.items ≡ body → length body ≡ m.body → length body % 64 ≡ 0 → given_sizes e ≡ sizes_of m
message_sizes e m body text rest long aligned =
    let whole : up_to 64 (length e.arrow_data.items) ≡ m.body = omega (arith, ap length rest, long, aligned) in
    ap (λ k. sized (8 + up_to 8 k) (up_to 64 (length e.arrow_data.items))) (ap length text ∙ length-layout m.node) ∙ ap (λ n. (sizes_of (record { node = m.node; body = n }))) whole

values_are_text : (fs : Fields) (s : ToSend) → values_bytes (values_of fs s) ≡ values_text s
values_are_text fs s = ap (λ xs. message_bytes (message_of s).node (body_bytes 0 xs)) (append-nil (pieces_in little s.part))

values_given : (options : WriteOptions) (fs : Fields) (s : ToSend) (e : EncodedData) → IsMessageOf options s e → given.IsEncoded (values_message (values_of fs s)) (values_bytes (values_of fs s)) e
values_given options fs s e h =
    let ps = pieces_in little s.part in
    let m = message_of s in
    let v = values_of fs s in
    let same : body_for (v.column ∷ []) ≡ body_bytes 0 ps = ap (body_bytes 0) (append-nil ps) in
    record {
      text = ap (λ xs. message_frame xs e.arrow_data.items) h.encoded.message ∙ ap (message_frame (layout m.node)) h.encoded.body ∙ framed_whole m.node (body_bytes 0 ps) (aligned_pieces ps) ∙ sym (values_are_text fs s);
      sizes = message_sizes e m (body_bytes 0 ps) h.encoded.message h.encoded.body (ap length (sym same) ∙ values_long v) (aligned_pieces ps);
    }

all_given : (options : WriteOptions) (fs : Fields) (ss : List ToSend) (es : List EncodedData) → AreMessagesOf options ss es → given.AreEncoded (map (values_of fs) ss) es
all_given options fs [] [] h = tt
all_given options fs [] (e ∷ es) h = absurd h
all_given options fs (s ∷ ss) [] h = absurd h
all_given options fs (s ∷ ss) (e ∷ es) h = (values_given options fs s e h.0, all_given options fs ss es h.1)

body_length : (b : Batch) → length (batch_body b) ≡ (batch_message b).body
unfolding batch_message
body_length b = refl

batch_given : (options : WriteOptions) (fs : Fields) (b : Batch) (e : EncodedData) → IsOfBatch options b e → given.IsEncoded (written_batch (batch_under fs b)) (batch_bytes (batch_under fs b)) e
batch_given options fs b e h =
    let y = batch_under fs b in
    let same : written_batch y ≡ written_batch (written_batch_of b) = message_under fs b in
    let body : body_for y.columns ≡ body_for (written_batch_of b).columns = ap (body_bytes 0) (pieces_under fs b.arrays) in
    record {
      text = ap (λ xs. message_frame xs e.arrow_data.items) h.message ∙ ap (message_frame (layout (batch_message b).node)) h.body ∙ framed_is_batch b
          ∙ ap (message_bytes (written_batch (written_batch_of b)).node) (sym body) ∙ ap (λ (m : SentMessage). message_bytes m.node (body_for y.columns)) (sym same);
      sizes = message_sizes e (batch_message b) (batch_body b) h.message h.body (body_length b) (aligned_pieces (columns_pieces b.arrays)) ∙ ap sizes_of (same_message b ∙ sym same);
    }

chunk_is : (fs : Fields) (sent : List ToSend) (b : Batch) → written_chunk (map (values_of fs) sent) (batch_under fs b) ≡ chunk_of fs sent b
chunk_is fs [] b = refl
chunk_is fs (s ∷ ss) b = ap (λ ms. values (values_of fs s) ∷ ms) (chunk_is fs ss b)

-- ── which may be added ──

first_chunk : (fs : Fields) (sent : List ToSend) (b : Batch) (k : Known) → AreFirst k sent → AreDeltasOrFirst k (chunk_of fs sent b)
first_chunk fs [] b k h = tt
first_chunk fs (s ∷ ss) b k h = (h.0, first_chunk fs ss b (with_values (values_of fs s) k) h.1)

-- messages may be added, and what is known behind them is what is held then
record MayGoOn (gs : Fields) (k : Known) (ms : List WrittenMessage) (t : Sending) : Type 0 where
  added : MayBeAdded gs k ms
  known : (q : ℤ) → with_messages ms k q ≡ cells_held (t.held q)

may_go_on : (options : WriteOptions) (o : Options) (fs : Fields) (below : Ids) (b : Batch) (s t : Sending) (sent : List ToSend) (k : Known) → o.cannot_replace ≡ true → arrays_sent o (forest b.arrays) below s ≡ Ok t → t.sent ≡ s.sent ++ sent → ((q : ℤ) → k q ≡ cells_held (s.held q))
    → MayBeSent options sent b → have_same_kinds fs (columns_of (forest b.arrays)) ≡ true → IdsMayBeWritten (said_fields fs below) → chosen_floats None (said_fields fs below) 0 ≡ [] → MayGoOn (said_fields fs below) k (chunk_of (said_fields fs below) sent b) t
may_go_on options o fs below b s t sent k kept e more known may same ids_may free =
    let gs = said_fields fs below in
    let ps = forest b.arrays in
    let is = with_own fs below in
    let kinds = kinds_own fs (columns_of ps) same in
    let ids : IdsMayBeWritten (fields_with (own_fields fs) below) = subst IdsMayBeWritten (sym is) ids_may in
    let floats : chosen_floats None (fields_with (own_fields fs) below) 0 ≡ [] = ap (λ xs. chosen_floats None xs 0) is ∙ free in
    let follow : MayFollow gs k (λ q. cells_held (t.held q)) (chunk_of gs sent b) (chunk_text sent b)
    = subst (λ xs. MayFollow xs k (λ q. cells_held (t.held q)) (chunk_of xs sent b) (chunk_text sent b)) is (may_follow options o (own_fields fs) below b s t sent k e more known may kinds ids floats) in
    let apart = agreeing_are_apart ps (own_fields fs) below may.batch.whole.sound (columns_of_kinds ps (own_fields fs) kinds) ids.agree in
    let walk = arrays_firsts o kept ps below s t e apart in
    let told : walk.more ≡ sent = append_cancel_left s.sent walk.more sent (sym walk.sent ∙ more) in
    let first : AreFirst k sent = subst (AreFirst k) told (walk.first k (λ q g none. known q ∙ ap cells_held none)) in
    record { added = may_be_added gs k (chunk_of gs sent b) follow.may (first_chunk gs sent b k first); known = follow.known }

found_so : (f : Option IpcError) (r : Result Sending IpcError) (t : Sending) → unless_fault f r ≡ Ok t → r ≡ Ok t
found_so None r t h = h
found_so (Some e) r t h = cc

-- ── one batch ──

-- a file means some batches, where so much of its dictionaries is known as a tracker holds
pub record MeansSoFar (t : DictionaryTracker) (c : FileCore) (x : List ℕ) (bs : List TableBatch) : Type 0 where
  pub known : Known
  pub held : (q : ℤ) → known q ≡ cells_held (held_by t q)
  pub file : IsFile known c x bs

-- a batch's columns are of the file's fields' kinds
abbrev pub IsOfFile : FileCore → Batch → Type 0
IsOfFile c b = have_same_kinds (fields_in (file_schema c)) (columns_of (forest b.arrays)) ≡ true

one_means : (options : WriteOptions) (below : Ids) (t u : DictionaryTracker) (b : Batch) (y : EncodedChunk) (old new : FileCore) (x : List ℕ) (bs : List TableBatch) → IsGiven old new y → IsEncoded options below t u b y → below ≡ file_ids old → t.cannot_replace ≡ true → IsOfFile old b
    → MeansSoFar t old x bs → MeansSoFar u new (x ++ chunk_bytes y) (bs ++ table_of b ∷ [])
one_means options below t u b y old new x bs put e ids fixed types w =
    let fs = fields_in (file_schema old) in
    let gs = said_fields fs below in
    let sent = e.sent.sent in
    let ms = chunk_of gs sent b in
    let v : Sending = record { held = held_by u; used = e.sent.used; sent = sent } in
    let same : file_fields old ≡ gs = ap (said_fields fs) (sym ids) in
    let found = found_so (columns_fault (columns_of (forest b.arrays)) below) _ v e.sent.is_found in
    let may = may_be_sent options sent y.dictionaries.items b y.batch e.sent.messages e.batch in
    let go = may_go_on options (options_of t) fs below b (begun t) v sent w.known fixed found refl w.held may types (subst IdsMayBeWritten same w.file.ids) (subst (λ xs. chosen_floats None xs 0 ≡ []) same w.file.floats) in
    let is : written_chunk (map (values_of gs) sent) (batch_under gs b) ≡ ms = chunk_is gs sent b in
    let added : MayBeAdded (file_fields old) w.known (written_chunk (map (values_of gs) sent) (batch_under gs b)) = subst (λ xs. MayBeAdded xs w.known (written_chunk (map (values_of gs) sent) (batch_under gs b))) (sym same) (subst (MayBeAdded gs w.known) (sym is) go.added) in
    let on = put.given.means w.known x bs (map (values_of gs) sent) (batch_under gs b) (all_given options gs sent y.dictionaries.items e.sent.messages) (batch_given options gs b y.batch e.batch) added w.file in
    let table : table_batch (batch_under gs b) ≡ table_of b = ap (λ columns. record { rows = b.height; columns = columns; custom = b.custom }) (cells_under gs b.height b.arrays e.batch.may.means) in
    record {
      known = with_messages ms w.known;
      held = go.known;
      file = subst (λ z. IsFile (with_messages ms w.known) new (x ++ chunk_bytes y) (bs ++ z ∷ [])) table (subst (λ zs. IsFile (with_messages zs w.known) new (x ++ chunk_bytes y) (bs ++ table_batch (batch_under gs b) ∷ [])) is on);
    }

-- ── several ──

still_fixed : (t u : DictionaryTracker) → options_of u ≡ options_of t → t.cannot_replace ≡ true → u.cannot_replace ≡ true
still_fixed t u h k = ap (λ (o : Options). o.cannot_replace) h ∙ k

ids_stay : (old new : FileCore) → new.ipc_schema ≡ old.ipc_schema → file_ids new ≡ file_ids old
ids_stay old new h = ap (λ (s : IpcSchema). ids_of s.fields.items) h

all_of_file : (old new : FileCore) (bs : List Batch) → new.schema ≡ old.schema → AllByRecursion (IsOfFile old) bs → AllByRecursion (IsOfFile new) bs
all_of_file old new [] same h = tt
all_of_file old new (b ∷ bs) same h = (subst (λ s. have_same_kinds (fields_in (rc_value s)) (columns_of (forest b.arrays)) ≡ true) (sym same) h.0, all_of_file old new bs same h.1)

pub all_mean : (options : WriteOptions) (below : Ids) (t u : DictionaryTracker) (bs : List Batch) (ys : List EncodedChunk) (old new : FileCore) (x : List ℕ) (before : List TableBatch) → AreGiven old new ys → AreEncoded options below t u bs ys → below ≡ file_ids old → t.cannot_replace ≡ true
    → AllByRecursion (IsOfFile old) bs → MeansSoFar t old x before → MeansSoFar u new (x ++ flat_map chunk_bytes ys) (before ++ map table_of bs)
all_mean options below t u [] [] old new x before none_given none_encoded ids fixed types w = subst (λ z. MeansSoFar t old z (before ++ [])) (sym (append-nil x)) (subst (MeansSoFar t old x) (sym (append-nil before)) w)
all_mean options below t u [] (y ∷ ys) old new x before g e ids fixed types w = elim e [ ]
all_mean options below t u (b ∷ bs) [] old new x before g e ids fixed types w = elim e [ ]
all_mean options below t u (b ∷ bs) (y ∷ ys) old new x before (one_given {d = mid} g gs) (one_encoded {u = v} e es) ids fixed types w =
    let stays = g.given.puts.held.stays in
    let one = one_means options below t v b y old mid x before g e ids fixed types.0 w in
    let rest = all_mean options below v u bs ys mid new (x ++ chunk_bytes y) (before ++ table_of b ∷ []) gs es (ids ∙ sym (ids_stay old mid stays.ipc_schema)) (still_fixed t v e.kept fixed) (all_of_file old mid bs stays.schema types.1) one in
    subst (λ z. MeansSoFar u new z (before ++ map table_of (b ∷ bs))) (append_assoc x (chunk_bytes y) (flat_map chunk_bytes ys)) (subst (MeansSoFar u new ((x ++ chunk_bytes y) ++ flat_map chunk_bytes ys)) (append_assoc before (table_of b ∷ []) (map table_of bs)) rest)
