-- What calls of a writer come to.
use Rattle.std.proofs.Common.{◌≡◌, ◌<◌, inl, inr, ℕ, ℤ, List, Bool, true, false, length, None, Some, Option, Result, Ok, Err, refl, sym, ap, ◌∙◌, subst, [], arith}
use Rattle.std.specs.Result.{IsErrAnd}
use Rattle.std.specs.declared.alloc.Global.{Global}
use Rattle.std.specs.declared.vec.Vec.{Vec}
use Rattle.std.specs.Io.KnownBytes.{Appends}
use Rattle.arrow_spec.specs.declared.error.IpcError.{IpcError}
use Rattle.arrow_spec.specs.declared.error.IpcError.TheVariants.{Memory, WriteFault}
use Rattle.arrow_spec.specs.Readings.{is_absent}
use Rattle.arrow_spec.specs.Streams.{end_mark}
use Rattle.arrow_types.specs.Schemas.{Keyed, fields_in}
use Rattle.ipc_messages.specs.Below.{Batch, IsKept, held_by, DictionaryTracker}
use Rattle.ipc_fields.specs.IpcFields.{Ids, fields_with, ids_of, metadata_of}
use Rattle.ipc_fields.specs.declared.ipc_field.IpcField.{IpcField}
use Rattle.ipc_bodies.specs.Puts.{Moved, NoneFalls}
use Rattle.ipc_bodies.specs.declared.encoding.Encoding.TheVariants.{Bytes}
use Rattle.ipc_messages.specs.declared.puts.Stop.{Stop}
use Rattle.ipc_messages.specs.declared.schema.StreamStart.{StreamStart}
use Rattle.ipc_messages.specs.declared.state.WriterState.TheVariants.{Started}
use Rattle.ipc_stream_writer.specs.declared.stream.StreamCore.{StreamCore}
use Rattle.ipc_stream_writer.specs.Calls.{Finishes, HasBegun, LeavesAll, Sends, Starts, Stays, SuitsStream, Writes}
use Rattle.ipc_messages.specs.Fields.{AreIdsFor}
use Rattle.ipc_messages.specs.Puts.{Grew, StopsIn, Untouched, counted}
use Rattle.ipc_messages.specs.Schemas.{Begins, IsStart, SchemaIsSaid, StartMayBeWritten, stream_text}
use Rattle.ipc_messages.specs.States.{is_new, is_started, state_behind}
use Rattle.ipc_messages.proofs.Beginning.{start_some}
use Rattle.ipc_stream_writer.specs.Written.{IsWritten}
use Rattle.ipc_stream_writer.proofs.Meaning.{begun_written, sent_written, still_written}

pub stays : (c : StreamCore) → Stays c c
stays c = record { options = refl; encoding = refl; schema = refl; fields = refl; pairs = refl; tracker = refl }

-- a call that does nothing
pub leaves : (m : Moved) (c : StreamCore) → Untouched m → LeavesAll m c c
leaves m c u = record { untouched = u; state = refl; held = λ q. refl; count = refl; stays = stays c; written = λ pairs x bs w. w }

pub same_held : (old new : DictionaryTracker) → new ≡ old → IsKept (held_by old) (held_by new)
same_held old new e q = ap (λ (t : DictionaryTracker). held_by t q) e

-- a call that stops before a byte was put
stops_early : (m : Moved) (old new : StreamCore) → Untouched m → new.state ≡ old.state → new.tracker ≡ old.tracker → new.byte_count ≡ old.byte_count → Stays old new → LeavesAll m old new
stops_early m old new u s t n k =
    let held = same_held old.tracker new.tracker t in
    record { untouched = u; state = s; held = held; count = n; stays = k; written = still_written old new held n k }

-- ── begin ──

-- nothing is held
pub none_is : {A : Type 0} (o : Option A) → is_absent o ≡ true → o ≡ None
none_is None h = refl
none_is (Some x) h = cc

pub has_begun : (encode : List ℕ → List ℕ) (m : Moved) (old new : StreamCore) (s : List Keyed) (given : Option Ids) (start : StreamStart) (text : List ℕ) → is_new old.state ≡ true → IsStart old.options s given old.pairs start
    → text ≡ start.message.items → Appends m.old m.new (encode text) × NoneFalls m → new.state ≡ Started → new.schema ≡ start.schema → new.fields ≡ start.fields → new.options ≡ old.options → new.encoding ≡ old.encoding → new.pairs ≡ old.pairs → new.tracker ≡ old.tracker
    → new.byte_count ≡ counted (length start.message.items) → ((id : ℤ) → held_by old.tracker id ≡ None) → HasBegun encode m old new s given
has_begun encode m old new s given start text n i t q state schema fields options encoding kept tracker count none =
    let same : start.fields ≡ new.fields = sym fields in
    let is : new.schema ≡ s = schema ∙ i.schema in
    let said : stream_text old.options (fields_in s) (ids_of new.fields.items) old.pairs ≡ Ok start.message.items
    = subst (λ (fs : Vec IpcField Global). stream_text old.options (fields_in s) (ids_of fs.items) old.pairs ≡ Ok start.message.items) same i.text in
    let may : StartMayBeWritten (fields_with (fields_in s) (ids_of new.fields.items)) old.pairs = subst (λ (fs : Vec IpcField Global). StartMayBeWritten (fields_with (fields_in s) (ids_of fs.items)) old.pairs) same i.may in
    let means : SchemaIsSaid (fields_with (fields_in s) (ids_of new.fields.items)) (metadata_of old.pairs.schema) → IsWritten old.pairs new start.message.items []
    = λ own. begun_written old.options old.pairs new start.message.items (subst (λ k. stream_text old.options (fields_in k) (ids_of new.fields.items) old.pairs ≡ Ok start.message.items) (sym is) said)
    may.message (λ id. ap (λ (d : DictionaryTracker). held_by d id) tracker ∙ none id) count (subst (λ k. SchemaIsSaid (fields_with (fields_in k) (ids_of new.fields.items)) (metadata_of old.pairs.schema)) (sym is) own) in
    record {
      new_before = n;
      state = state;
      schema = is;
      ids = subst (λ (fs : Vec IpcField Global). AreIdsFor (fields_in s) given (ids_of fs.items)) same i.ids;
      bytes = start.message.items;
      text = said;
      appended = subst (λ ys. Appends m.old m.new (encode ys)) t q.0;
      counts = q.1;
      options = options;
      encoding = encoding;
      pairs = kept;
      tracker = tracker;
      count = count;
      said = means;
      written = λ reg. means (may.said reg);
    }

stopped_start : (encode : List ℕ → List ℕ) (b : Bool) (e : IpcError) (m : Moved) (old new : StreamCore) (s : List Keyed) (given : Option Ids) (start : StreamStart) → is_new old.state ≡ true
    → IsStart old.options s given old.pairs start → StopsIn b m e (encode start.message.items) → (e ≡ Memory → b ≡ true → Grew m.old m.new) → (old.encoding ≡ Bytes → b ≡ true → e ≡ WriteFault) → new.state ≡ state_behind b old.state → new.tracker ≡ old.tracker → new.byte_count ≡ old.byte_count → Stays old new → Starts encode m (Err e) old new s given
stopped_start encode true e m old new s given start n i q w f k t v y = inr (record {
  new_before = n;
  below = ids_of start.fields.items;
  ids = i.ids;
  bytes = start.message.items;
  text = i.text;
  failed = record { put = q; behind = λ is. w is refl; state = k; held = same_held old.tracker new.tracker t; count = v; stays = y };
  whole = λ is. f is refl;
})
stopped_start encode false e m old new s given start n i q w f k t v y = inl (inr (n, inl q.0), stops_early m old new q.1 k t v y)

pub start_stopped : (encode : List ℕ → List ℕ) (x : IpcError) (stop : Stop) (m : Moved) (old new : StreamCore) (s : List Keyed) (given : Option Ids) (start : StreamStart) (text : List ℕ) → x ≡ stop.error → is_new old.state ≡ true
    → IsStart old.options s given old.pairs start → text ≡ start.message.items → StopsIn stop.has_begun m stop.error (encode text) → (0 < length text → stop.error ≡ Memory → stop.has_begun ≡ true → Grew m.old m.new) → (old.encoding ≡ Bytes → stop.has_begun ≡ true → stop.error ≡ WriteFault) → new.state ≡ state_behind stop.has_begun old.state → new.tracker ≡ old.tracker → new.byte_count ≡ old.byte_count → Stays old new
    → Starts encode m (Err x) old new s given
start_stopped encode x stop m old new s given start text e n i t q w f k u v y =
    let some : 0 < length text = omega (arith, ap length t, start_some old.options (fields_in s) (ids_of start.fields.items) old.pairs start.message.items i.text) in
    subst (λ z. Starts encode m (Err z) old new s given) (sym e) (stopped_start encode stop.has_begun stop.error m old new s given start n i (subst (λ ys. StopsIn stop.has_begun m stop.error (encode ys)) t q) (w some) f k u v y)

pub not_begun : (encode : List ℕ → List ℕ) (r : Result (Unit {0}) IpcError) (e : IpcError) (m : Moved) (old new : StreamCore) (s : List Keyed) (given : Option Ids) → IsErrAnd r (λ f. f ≡ e) → is_new old.state ≡ true → Begins (Err e) old.options s given old.pairs
    → Untouched m → new.state ≡ old.state → IsKept (held_by old.tracker) (held_by new.tracker) → new.byte_count ≡ old.byte_count → Stays old new → Starts encode m r old new s given
not_begun encode (Ok u) e m old new s given f n h t state held v y = absurd f
not_begun encode (Err x) e m old new s given f n h t state held v y =
    inl (inr (n, subst (λ z. Begins (Err z) old.options s given old.pairs) (sym f) h), record { untouched = t; state = state; held = held; count = v; stays = y; written = still_written old new held v y })

-- ── end ──

stopped_end : (encode : List ℕ → List ℕ) (b : Bool) (e : IpcError) (m : Moved) (old new : StreamCore) → is_started old.state ≡ true → StopsIn b m e (encode end_mark) → (e ≡ Memory → b ≡ true → Grew m.old m.new) → (old.encoding ≡ Bytes → b ≡ true → e ≡ WriteFault) → new.state ≡ state_behind b old.state → new.tracker ≡ old.tracker → new.byte_count ≡ old.byte_count → Stays old new → Finishes encode m (Err e) old new
stopped_end encode true e m old new n q w f k t v y = inr (n, record { put = q; behind = λ is. w is refl; state = k; held = same_held old.tracker new.tracker t; count = v; stays = y }, λ is. f is refl)
stopped_end encode false e m old new n q w f k t v y = inl (inr (n, q.0), stops_early m old new q.1 k t v y)

pub finish_stopped : (encode : List ℕ → List ℕ) (x : IpcError) (stop : Stop) (m : Moved) (old new : StreamCore) → x ≡ stop.error → is_started old.state ≡ true → StopsIn stop.has_begun m stop.error (encode end_mark) → (stop.error ≡ Memory → stop.has_begun ≡ true → Grew m.old m.new) → (old.encoding ≡ Bytes → stop.has_begun ≡ true → stop.error ≡ WriteFault) → new.state ≡ state_behind stop.has_begun old.state → new.tracker ≡ old.tracker → new.byte_count ≡ old.byte_count → Stays old new
    → Finishes encode m (Err x) old new
finish_stopped encode x stop m old new e n q w f k t v y = subst (λ z. Finishes encode m (Err z) old new) (sym e) (stopped_end encode stop.has_begun stop.error m old new n q w f k t v y)

-- ── batches ──

pub as_written : (encode : List ℕ → List ℕ) (m : Moved) (r : Result (Unit {0}) IpcError) (old new : StreamCore) (b : Batch) (given : Option Ids) → is_started old.state ≡ true → SuitsStream old b given → Sends encode m r old new b → Writes encode m r old new b given
as_written encode m (Ok u) old new b given n s h = record { started = n; suits = s; sends = h; written = sent_written encode m old new b h s.types }
as_written encode m (Err e) old new b given n s (inl h) = inl (inr (n, inr (s, h.0)), h.1)
as_written encode m (Err e) old new b given n s (inr h) = inr (record { started = n; suits = s; sends = h })
