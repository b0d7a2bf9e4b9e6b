-- A batch that is written to a stream, or not.
use Rattle.std.proofs.Common.{◌≡◌, ◌∙◌, ◌⊎◌, sym, refl, ap, inl, inr, ℕ, ◌+◌, List, [], ◌∷◌, ◌++◌, length, min, Bool, true, false, Option, Some, None, Result, Ok, Err, subst, arith}
use Rattle.std.specs.Prelude.{IfOk, sum_by}
use Rattle.std.specs.Io.KnownBytes.{Appends, Keeps}
use Rattle.std.proofs.lemmas.List.{length-append}
use Rattle.std.proofs.lemmas.List.Sums.{sum_by_push}
use Rattle.arrow_spec.specs.declared.error.IpcError.{IpcError}
use Rattle.arrow_spec.specs.declared.error.IpcError.TheVariants as errors
use Rattle.arrow_spec.specs.Files.{TableBatch}
use Rattle.arrow_spec.specs.Kinds.{have_same_kinds}
use Rattle.arrow_types.specs.Schemas.{Keyed, fields_in}
use Rattle.arrow_arrays.specs.Batches.{Batch}
use Rattle.arrow_arrays.specs.Parts.{fault_each, forest}
use Rattle.arrow_arrays.specs.Columns.{columns_of}
use Rattle.ipc_io.specs.Outside.{Rose}
use Rattle.ipc_bodies.specs.Encodings.{text_of}
use Rattle.ipc_bodies.specs.Puts.{Moved, NoneFalls, PutsPart}
use Rattle.ipc_bodies.specs.declared.encoding.Encoding.{Encoding}
use Rattle.laws_walk.specs.Below.{StreamPairs, cells_of, chunk_text, counted, is_started, HasWritten, LeavesAll, Stays, WriteCause, WriteFailed, Writes, table_with, StreamCore}
use Rattle.laws_walk.specs.Sends.{IsWriter}
use Rattle.laws_walk.proofs.Fronts.{Appends-text}
use Rattle.ipc_concat.specs.Concat.{CauseOf}
use Rattle.ipc_concat.specs.Files.{Holds, IsGoing, Start, with_batches}
use Rattle.ipc_concat.specs.declared.stream.JoinedStream.{JoinedStream}
use Rattle.ipc_concat.proofs.Walks.{IsLargeFor, stops, suits}

-- ── numbers ──

pub counted_more : (n k : ℕ) → counted (counted n + k) ≡ counted (n + k)
counted_more n k = omega arith

-- ── a writer that goes on ──

pub going_on : (s : List Keyed) (encoded : Encoding) (w w' : StreamCore) → w'.state ≡ w.state → Stays w w' → IsWriter s encoded w → IsWriter s encoded w'
going_on s encoded w w' state st is = record {
  state = state ∙ is.state;
  encoding = st.encoding ∙ is.encoding;
  options = st.options ∙ is.options;
  schema = st.schema ∙ is.schema;
  ids = rw st.fields is.ids;
  plain = is.plain;
  representable = is.representable;
  tracker = st.tracker ∙ is.tracker;
}

-- whatever a call answers
pub writes_stay : (encode : List ℕ → List ℕ) (m : Moved) (r : Result (Unit {0}) IpcError) (w w' : StreamCore) (y : Batch) → Writes encode m r w w' y None → Stays w w'
writes_stay encode m (Ok u) w w' y h = h.sends.stays
writes_stay encode m (Err e) w w' y (inl h) = h.1.stays
writes_stay encode m (Err e) w w' y (inr h) = h.sends.failed.stays

-- its table stays, batches aside
pub head_stays : (pairs : StreamPairs) (w w' : StreamCore) → Stays w w' → table_with pairs w' [] ≡ table_with pairs w []
head_stays pairs w w' st = rw (st.schema, st.fields) refl

pub head_at : (x : Start) (pairs : StreamPairs) (w : StreamCore) (bs : List TableBatch) → table_with pairs w [] ≡ x.head → table_with pairs w bs ≡ with_batches x.head bs
head_at x pairs w bs h = ap (λ t. with_batches t bs) h

-- ── a batch that was written ──

pub held_on : (x : Start) (s s' : JoinedStream) (now : Option (List ℕ)) (bs : List TableBatch) (y : Batch) (m : Moved) → s.writer.encoding ≡ x.encoding → m.old ≡ now → Holds x s now bs → HasWritten (text_of s.writer.encoding) m s.writer s'.writer y None
    → s'.batches ≡ counted (s.batches + 1) → s'.rows ≡ counted (s.rows + y.height) → Holds x s' m.new (bs ++ cells_of y ∷ [])
held_on x s s' now bs y m enc old h w batches rows =
    let put : Appends now m.new (text_of x.encoding (chunk_text w.sends.sent y)) = subst (λ o. Appends o m.new (text_of x.encoding (chunk_text w.sends.sent y))) old (subst (λ e. Appends m.old m.new (text_of e (chunk_text w.sends.sent y))) enc w.sends.appended) in
    let more : length (bs ++ cells_of y ∷ []) ≡ length bs + 1 = length-append bs (cells_of y ∷ []) in
    let all : sum_by (λ (b : TableBatch). b.rows) (bs ++ cells_of y ∷ []) ≡ sum_by (λ (b : TableBatch). b.rows) bs + y.height = sum_by_push (λ (b : TableBatch). b.rows) bs (cells_of y) in
    record {
      pairs = h.pairs;
      bytes = h.bytes ++ chunk_text w.sends.sent y;
      written = w.written h.pairs h.bytes bs h.written;
      head = head_stays h.pairs s.writer s'.writer w.sends.stays ∙ h.head;
      added = Appends-text x.encoding x.before now m.new h.bytes (chunk_text w.sends.sent y) h.added put;
      batches = batches ∙ ap (λ n. counted (n + 1)) h.batches ∙ counted_more (length bs) 1 ∙ ap counted (sym more);
      rows = rows ∙ ap (λ n. counted (n + y.height)) h.rows ∙ counted_more (sum_by (λ (b : TableBatch). b.rows) bs) y.height ∙ ap counted (sym all);
    }

-- ── a batch that was not ──

-- memory was wanted, or a message is too large, and nothing was put; or a put failed
pub data NotWritten (encode : List ℕ → List ℕ) (m : Moved) (e : IpcError) (w w' : StreamCore) (y : Batch) : Type 0 where
  before_put : (e ≡ errors.Memory) ⊎ ((e ≡ errors.TooLarge) × IsLargeFor w y) → Keeps m.old m.new → NotWritten encode m e w w' y
  in_put : WriteFailed encode m e w w' y None → NotWritten encode m e w w' y

pub not_written : (s : List Keyed) (encoded : Encoding) (w w' : StreamCore) (m : Moved) (e : IpcError) (y : Batch) → IsWriter s encoded w → have_same_kinds (fields_in s) (columns_of (forest y.arrays)) ≡ true → fault_each (forest y.arrays) ≡ None
    → Writes (text_of w.encoding) m (Err e) w w' y None → NotWritten (text_of w.encoding) m e w w' y
not_written s encoded w w' m e y writer kinds sound (inr failed) = NotWritten.in_put failed
not_written s encoded w w' m e y writer kinds sound (inl (inl never, leaves)) = let clash : false ≡ true = sym never.1 ∙ ap is_started writer.state in cc
not_written s encoded w w' m e y writer kinds sound (inl (inr (started, inl mismatch), leaves)) = absurd (mismatch.1 (suits s encoded w writer y kinds sound))
not_written s encoded w w' m e y writer kinds sound (inl (inr (started, inr why), leaves)) = NotWritten.before_put (stops s encoded w writer y kinds sound e why.1) leaves.untouched.bytes

-- why, whatever the batch is
pub put_cause : (reads : Type 0) (e : IpcError) (m : Moved) (bs : List ℕ) → PutsPart m e bs → CauseOf reads (Rose m.faults m.faults_now) e
put_cause reads errors.WriteFault m bs p = p.2
put_cause reads errors.Memory m bs p = tt
put_cause reads e m bs p = absurd p

pub write_cause : (reads : Type 0) (encode : List ℕ → List ℕ) (m : Moved) (e : IpcError) (w w' : StreamCore) (y : Batch) → NotWritten encode m e w w' y → CauseOf reads (Rose m.faults m.faults_now) e
write_cause reads encode m e w w' y (NotWritten.before_put (inl memory) kept) = subst (CauseOf reads (Rose m.faults m.faults_now)) (sym memory) tt
write_cause reads encode m e w w' y (NotWritten.before_put (inr large) kept) = subst (CauseOf reads (Rose m.faults m.faults_now)) (sym large.0) tt
write_cause reads encode m e w w' y (NotWritten.in_put failed) = put_cause reads e m _ failed.sends.failed.put

-- ── what is kept ──

part_keeps : (e : IpcError) (m : Moved) (bs : List ℕ) → PutsPart m e bs → NoneFalls m
part_keeps errors.WriteFault m bs p = p.1
part_keeps errors.Memory m bs p = p.1
part_keeps e m bs p = absurd p

-- no count falls, whatever a call answers
pub writes_keep : (encode : List ℕ → List ℕ) (m : Moved) (r : Result (Unit {0}) IpcError) (w w' : StreamCore) (y : Batch) → Writes encode m r w w' y None → NoneFalls m
writes_keep encode m (Ok u) w w' y h = h.sends.counts
writes_keep encode m (Err e) w w' y (inl h) = h.1.untouched.counts
writes_keep encode m (Err e) w w' y (inr h) = part_keeps e m _ h.sends.failed.put

-- a stream that goes on
pub still_going : (encode : List ℕ → List ℕ) (m : Moved) (r : Result (Unit {0}) IpcError) (st st' : JoinedStream) (y : Batch) → IsGoing st → Writes encode m r st.writer st'.writer y None → IfOk r (λ u. IsGoing st')
still_going encode m (Ok u) st st' y going h =
    let stays = h.sends.stays in
    subst (λ s. IsWriter s st'.writer.encoding st'.writer) (sym stays.schema) (subst (λ e. IsWriter st.writer.schema e st'.writer) (sym stays.encoding) (going_on st.writer.schema st.writer.encoding st.writer st'.writer h.sends.state stays going))
still_going encode m (Err e) st st' y going h = tt
