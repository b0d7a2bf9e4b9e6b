-- The stream of a record as it is written into memory, where no put fails but for want of memory.
use Rattle.std.proofs.Common.{◌≡◌, ◌⊎◌, inl, inr, ℕ, List, [], ◌++◌, true, false, Option, Some, None, Result, Ok, Err, IfErr, IfOk, OnOk, Vec, Global, refl, sym, ◌∙◌, ap, subst, arith, append_assoc}
use Rattle.std.specs.Io.KnownBytes.{Appends}
use Rattle.std.specs.Result.{IsErrAnd}
use Rattle.arrow_spec.specs.declared.error.IpcError.{IpcError}
use Rattle.arrow_spec.specs.declared.error.IpcError.TheVariants as errors
use Rattle.arrow_spec.specs.declared.error.IpcError.TheVariants.{Memory}
use Rattle.arrow_spec.specs.Streams.{end_mark}
use Rattle.arrow_types.specs.Schemas.{Keyed}
use Rattle.arrow_arrays.specs.Batches.{Batch}
use Rattle.ipc_bodies.specs.Puts.{Moved, PutsPart}
use Rattle.ipc_bodies.specs.declared.encoding.Encoding.TheVariants.{Bytes}
use Rattle.ipc_stream_writer.specs.Below.{chunk_text, is_started}
use Rattle.ipc_stream_writer.specs.Calls.{Finishes, HasBegun, HasFinished, IsFresh, Starts, Writes}
use Rattle.ipc_stream_writer.specs.declared.stream.StreamCore.{StreamCore}
use Rattle.ipc_log_records.specs.Written.{AreTexts, BatchCause, HasBegunRecord, IsEndedBy, IsNotBegun, IsStreamOf, StreamCause, record_options}

-- an error that is handed on
pub handed : {T E : Type 0} (P : E → Type 0) (r : Result T E) (e : E) → IsErrAnd r (λ f. f ≡ e) → P e → IfErr r P
handed P (Ok x) e h p = absurd h
handed P (Err f) e h p = subst P (sym h) p

-- why a call is refused, in other words
pub if_err : {T E : Type 0} → (r : Result T E) (P Q : E → Type 0) → ((e : E) → P e → Q e) → IfErr r P → IfErr r Q
if_err (Ok x) P Q f h = tt
if_err (Err e) P Q f h = f e h

-- a put that stops has wanted memory, where no fault is counted
only_memory : (m : Moved) (e : IpcError) (bs : List ℕ) → m.faults_now ≡ 0 → PutsPart m e bs → e ≡ Memory
only_memory m errors.Memory bs none h = refl
only_memory m errors.WriteFault bs none h = absurd (omega (arith, h.2, none))
only_memory m e bs none h = absurd h

-- what is added to bytes that are told
added : (m : Moved) (x y text : List ℕ) → m.old ≡ Some x → m.new ≡ Some y → Appends m.old m.new text → y ≡ x ++ text
added m x y text o n h = subst (λ p. Appends (Some x) p text) n (subst (λ p. Appends p m.new text) o h)

-- ── begin ──

pub begun_record : (m : Moved) (fresh c : StreamCore) (s : List Keyed) (x y : List ℕ) → IsFresh record_options Bytes fresh → x ≡ [] → m.old ≡ Some x → m.new ≡ Some y → HasBegun (λ bytes. bytes) m fresh c s None
    → (h : HasBegunRecord s c) × (y ≡ h.begun.bytes)
begun_record m fresh c s x y is none o n h =
    (record { fresh = fresh; is_fresh = is; m = m; begun = h }, added m x y h.bytes o n h.appended ∙ ap (λ (l : List ℕ). l ++ h.bytes) none)

pub not_begun : (m : Moved) (e : IpcError) (fresh c : StreamCore) (s : List Keyed) → m.faults_now ≡ 0 → IsFresh record_options Bytes fresh → Starts (λ bytes. bytes) m (Err e) fresh c s None → (e ≡ Memory) ⊎ IsNotBegun e s
not_begun m e fresh c s none is (inl (cause, left)) = inr (record { fresh = fresh; is_fresh = is; cause = cause })
not_begun m e fresh c s none is (inr f) = inl (only_memory m e f.bytes none f.failed.put)

-- ── a batch ──

pub batch_texts : (r : Result (Unit {0}) IpcError) (m : Moved) (c behind : StreamCore) (b : Batch) (x y : List ℕ) → m.old ≡ Some x → m.new ≡ Some y → Writes (λ bytes. bytes) m r c behind b None
    → OnOk r ((text : List ℕ) × AreTexts c behind (Some b) text × (y ≡ x ++ text))
batch_texts (Ok u) m c behind b x y o n w =
    (chunk_text w.sends.sent b, record { m = m; written = w; is = refl }, added m x y (chunk_text w.sends.sent b) o n w.sends.appended)
batch_texts (Err e) m c behind b x y o n w = tt

pub batch_started : (r : Result (Unit {0}) IpcError) (m : Moved) (c behind : StreamCore) (b : Batch) → is_started c.state ≡ true → Writes (λ bytes. bytes) m r c behind b None → OnOk r (is_started behind.state ≡ true)
batch_started (Ok u) m c behind b h w = ap is_started w.sends.state ∙ h
batch_started (Err e) m c behind b h w = tt

no_batch : (m : Moved) (e : IpcError) (c behind : StreamCore) (b : Batch) → m.faults_now ≡ 0 → is_started c.state ≡ true → Writes (λ bytes. bytes) m (Err e) c behind b None → (e ≡ Memory) ⊎ BatchCause e c (Some b)
no_batch m e c behind b none h (inl (inl p, left)) = absurd (let clash : true ≡ false = sym h ∙ p.1 in cc)
no_batch m e c behind b none h (inl (inr p, left)) = inr p.1
no_batch m e c behind b none h (inr f) = inl (only_memory m e _ none f.sends.failed.put)

pub batch_refused : (r : Result (Unit {0}) IpcError) (m : Moved) (c behind : StreamCore) (b : Batch) → m.faults_now ≡ 0 → is_started c.state ≡ true → Writes (λ bytes. bytes) m r c behind b None
    → IfErr r (λ e. (e ≡ Memory) ⊎ BatchCause e c (Some b))
batch_refused (Ok u) m c behind b none h w = tt
batch_refused (Err e) m c behind b none h w = no_batch m e c behind b none h w

-- ── end ──

pub ended_by : (m : Moved) (c ended : StreamCore) → HasFinished (λ bytes. bytes) m c ended → IsEndedBy c
ended_by m c ended h = record { ended = ended; m = m; finished = h }

pub ended_bytes : (m : Moved) (c ended : StreamCore) (x y : List ℕ) → m.old ≡ Some x → m.new ≡ Some y → HasFinished (λ bytes. bytes) m c ended → y ≡ x ++ end_mark
ended_bytes m c ended x y o n h = added m x y end_mark o n h.appended

pub not_ended : (m : Moved) (e : IpcError) (c ended : StreamCore) → m.faults_now ≡ 0 → is_started c.state ≡ true → Finishes (λ bytes. bytes) m (Err e) c ended → e ≡ Memory
not_ended m e c ended none h (inl (inl p, left)) = absurd (let clash : true ≡ false = sym h ∙ p.1 in cc)
not_ended m e c ended none h (inl (inr p, left)) = p.1
not_ended m e c ended none h (inr f) = only_memory m e end_mark none f.1.put

-- ── all ──

pub stream_is : (s : List Keyed) (batch : Option Batch) (c behind : StreamCore) (x y bytes : List ℕ) (h : (g : HasBegunRecord s c) × (x ≡ g.begun.bytes)) → ((text : List ℕ) × AreTexts c behind batch text × (y ≡ x ++ text)) → IsEndedBy behind → bytes ≡ y ++ end_mark
    → IsStreamOf s batch bytes
stream_is s batch c behind x y bytes h t ended is = record {
  core = c;
  begun = h.0;
  behind = behind;
  text = t.0;
  texts = t.1;
  ended = ended;
  are = is ∙ ap (λ (l : List ℕ). l ++ end_mark) (t.2 ∙ ap (λ (l : List ℕ). l ++ t.0) h.1) ∙ append_assoc h.0.begun.bytes t.0 end_mark;
}

pub stream_given : (r : Result (Vec ℕ Global) IpcError) (s : List Keyed) (batch : Option Batch) (c behind : StreamCore) (x y : List ℕ) (h : (g : HasBegunRecord s c) × (x ≡ g.begun.bytes)) → ((text : List ℕ) × AreTexts c behind batch text × (y ≡ x ++ text)) → OnOk r (IsEndedBy behind)
    → IfOk r (λ v. v.items ≡ y ++ end_mark) → IfOk r (λ v. IsStreamOf s batch v.items)
stream_given (Ok v) s batch c behind x y h t ended is = stream_is s batch c behind x y v.items h t ended is
stream_given (Err e) s batch c behind x y h t ended is = tt

pub no_stream : (e : IpcError) (s : List Keyed) (batch : Option Batch) → (e ≡ Memory) ⊎ IsNotBegun e s → StreamCause e s batch
no_stream e s batch (inl h) = inl h
no_stream e s batch (inr h) = inr (inl h)

pub no_batch_stream : (e : IpcError) (s : List Keyed) (batch : Option Batch) (c : StreamCore) → HasBegunRecord s c → (e ≡ Memory) ⊎ BatchCause e c batch → StreamCause e s batch
no_batch_stream e s batch c h (inl k) = inl k
no_batch_stream e s batch c h (inr k) = inr (inr (record { core = c; begun = h; cause = k }))
