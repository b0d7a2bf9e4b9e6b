-- What the stream of a record means, as it is written.
use Rattle.std.proofs.Common.{◌≡◌, ◌⊎◌, inl, inr, ℕ, ◌<◌, ◌≤◌, List, [], ◌++◌, length, true, Option, Some, None, Ok, refl, sym, ◌∙◌, ap, subst, append-nil, append_assoc}
use Rattle.arrow_spec.specs.declared.error.IpcError.{IpcError}
use Rattle.arrow_spec.specs.declared.error.IpcError.TheVariants.{Memory, TooMany}
use Rattle.arrow_spec.specs.declared.error.Counted.TheVariants.{Dictionaries}
use Rattle.arrow_spec.specs.Files.{TableBatch}
use Rattle.arrow_spec.specs.Kinds.{Fields, bare}
use Rattle.arrow_spec.specs.Regular.{regular}
use Rattle.arrow_spec.specs.Streams.{closed, end_mark, stream_table}
use Rattle.arrow_spec.specs.WrittenSchemas.{own_fields}
use Rattle.arrow_types.specs.Schemas.{Keyed, fields_in}
use Rattle.arrow_arrays.specs.Batches.{Batch}
use Rattle.ipc_fields.specs.IpcFields.{fields_with, ids_of, metadata_of}
use Rattle.ipc_record_log.specs.Logs.{invalid_log}
use Rattle.ipc_stream_writer.specs.Below.{StreamPairs}
use Rattle.ipc_stream_writer.specs.Written.{IsEnded, IsWritten}
use Rattle.ipc_stream_writer.specs.declared.stream.StreamCore.{StreamCore}
use Rattle.laws_logs.specs.Tables.{IsRecordOf, dictionaries_from, table_of}
use Rattle.ipc_log_records.specs.LogSchemas.{log_fields}
use Rattle.ipc_log_records.specs.Written.{AreTexts, HasBegunRecord, IsStreamOf, RecordCause, batches_of}
use Rattle.ipc_log_records.proofs.Counted.{stream_counted}
use Rattle.ipc_log_records.proofs.Schemas.{regular_with, said_are}

abbrev none : StreamPairs
none = record { schema = None; message = None }

-- ── what was written so far ──

begun_written : (s : List Keyed) (c : StreamCore) (h : HasBegunRecord s c) → regular (fields_in s) [] ≡ true → IsWritten none c h.begun.bytes []
begun_written s c h reg =
    let pairs = h.is_fresh.pairs in
    subst (λ (p : StreamPairs). IsWritten p c h.begun.bytes []) pairs
    (h.begun.written (ap (λ (p : StreamPairs). regular (fields_with (fields_in s) (ids_of c.fields.items)) (metadata_of p.schema)) pairs ∙ regular_with (fields_in s) (ids_of c.fields.items) [] ∙ reg))

texts_written : (batch : Option Batch) (c behind : StreamCore) (x text : List ℕ) → AreTexts c behind batch text → IsWritten none c x [] → IsWritten none behind (x ++ text) (batches_of batch)
texts_written None c behind x text t w =
    subst (λ (l : List ℕ). IsWritten none behind l []) (sym (ap (λ (y : List ℕ). x ++ y) t.1 ∙ append-nil x)) (subst (λ (d : StreamCore). IsWritten none d x []) (sym t.0) w)
texts_written (Some b) c behind x text t w = subst (λ (y : List ℕ). IsWritten none behind (x ++ y) (batches_of (Some b))) (sym t.is) (t.written.written none x [] w)

texts_schema : (batch : Option Batch) (c behind : StreamCore) (text : List ℕ) → AreTexts c behind batch text → behind.schema ≡ c.schema
texts_schema None c behind text t = ap (λ (d : StreamCore). d.schema) t.0
texts_schema (Some b) c behind text t = t.written.sends.stays.schema

-- ── the stream ──

-- a closed stream of the fields of a log and of batches
pub record MeansRecord (s : List Keyed) (bs : List TableBatch) (b : List ℕ) : Type 0 where
  pub whole : closed b
  pub table : stream_table b None ≡ Some (table_of (log_fields s) bs)

ended_means : (s : List Keyed) (c : StreamCore) (x : List ℕ) (bs : List TableBatch) → c.schema ≡ s → IsEnded none c x bs → MeansRecord s bs x
ended_means s c x bs is e =
    let fields = said_are (fields_in c.schema) (ids_of c.fields.items) ∙ ap (λ (k : List Keyed). bare (own_fields (fields_in k))) is in
    record { whole = e.ended; table = e.means ∙ ap (λ (f : Fields). Some (table_of f bs)) fields }

pub stream_means : (s : List Keyed) (batch : Option Batch) (b : List ℕ) → IsStreamOf s batch b → regular (fields_in s) [] ≡ true → MeansRecord s (batches_of batch) b
stream_means s batch b h reg =
    let begun = begun_written s h.core h.begun reg in
    let x = h.begun.begun.bytes in
    let written = texts_written batch h.core h.behind x h.text h.texts begun in
    let ended = h.ended.finished.written none (x ++ h.text) (batches_of batch) written in
    let schema : h.ended.ended.schema ≡ s = h.ended.finished.stays.schema ∙ texts_schema batch h.core h.behind h.text h.texts ∙ h.begun.begun.schema in
    let is : (x ++ h.text) ++ end_mark ≡ b = append_assoc x h.text end_mark ∙ sym h.are in
    subst (MeansRecord s (batches_of batch)) is (ended_means s h.ended.ended ((x ++ h.text) ++ end_mark) (batches_of batch) schema ended)

-- with few dictionaries it is a record
pub is_record : (s : List Keyed) (batch : Option Batch) (b : List ℕ) (n : ℕ) → IsStreamOf s batch b → dictionaries_from (length b) b ≡ Ok n → n ≤ 1048576 → regular (fields_in s) [] ≡ true → IsRecordOf (log_fields s) (batches_of batch) b
is_record s batch b n h counted few reg =
    let m = stream_means s batch b h reg in
    record {
      whole = m.whole;
      table = table_of (log_fields s) (batches_of batch);
      means = m.table;
      same_fields = refl;
      same_batches = refl;
      count = n;
      counted = counted;
      few = few;
    }

-- the stream of a regular schema is closed, and its dictionaries are counted
pub never_broken : (s : List Keyed) (batch : Option Batch) (b : List ℕ) → IsStreamOf s batch b → ((n : ℕ) → closed b → dictionaries_from (length b) b ≡ Ok n → ⊥) → regular (fields_in s) [] ≡ true → ⊥
never_broken s batch b h never reg =
    let m = stream_means s batch b h reg in
    let n = stream_counted b (table_of (log_fields s) (batches_of batch)) m.table in
    never n.0 m.whole n.1

-- ── why there is no record ──

pub broken : (e : IpcError) (s : List Keyed) (batch : Option Batch) (b l : List ℕ) → l ≡ b → IsStreamOf s batch b → (e ≡ Memory) ⊎ ((e ≡ invalid_log) × ((n : ℕ) → closed l → dictionaries_from (length l) l ≡ Ok n → ⊥)) → RecordCause e s batch
broken e s batch b l is h (inl memory) = inl (inl memory)
broken e s batch b l is h (inr k) = inr (inr (k.0, never_broken s batch b h (subst (λ (x : List ℕ). (n : ℕ) → closed x → dictionaries_from (length x) x ≡ Ok n → ⊥) is k.1)))

pub many : (s : List Keyed) (batch : Option Batch) (b l : List ℕ) (n : ℕ) → l ≡ b → IsStreamOf s batch b → dictionaries_from (length l) l ≡ Ok n → 1048576 < n → RecordCause (TooMany Dictionaries) s batch
many s batch b l n is h counted more = inr (inl (refl, record { bytes = b; is = h; count = n; counted = subst (λ (x : List ℕ). dictionaries_from (length x) x ≡ Ok n) is counted; many = more }))

pub few : (s : List Keyed) (batch : Option Batch) (b l : List ℕ) (n : ℕ) → l ≡ b → IsStreamOf s batch b → dictionaries_from (length l) l ≡ Ok n → n ≤ 1048576 → regular (fields_in s) [] ≡ true → IsRecordOf (log_fields s) (batches_of batch) b
few s batch b l n is h counted most reg = is_record s batch b n h (subst (λ (x : List ℕ). dictionaries_from (length x) x ≡ Ok n) is counted) most reg
