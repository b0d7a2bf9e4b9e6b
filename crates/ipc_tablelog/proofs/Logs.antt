-- A log on a disk as a table, call by call.
use Rattle.std.proofs.Common.{◌≡◌, ◌⊎◌, inl, inr, ⊎_elim, ◌↔◌, ℕ, zero, suc, ◌+◌, ◌-◌, ◌<◌, ◌≤◌, List, [], ◌∷◌, ◌++◌, length, Bool, false, true, Option, Some, None, Result, Ok, Err, IfErr, OnOk, refl, sym, ◌∙◌, ap, subst, arith, add-one}
use Rattle.std.specs.Prelude.{IsTrue, slice_get}
use Rattle.arrow_spec.specs.declared.error.IpcError.{IpcError}
use Rattle.arrow_spec.specs.declared.error.IpcError.TheVariants.{Memory, ReadFault, State}
use Rattle.arrow_spec.specs.Files.{ArrowTable, TableBatch}
use Rattle.arrow_spec.specs.Kinds.{Fields}
use Rattle.arrow_spec.specs.Regular.{regular}
use Rattle.arrow_types.specs.Schemas.{Keyed, fields_in}
use Rattle.arrow_arrays.specs.Batches.{Batch}
use Rattle.ipc_log_records.specs.Below.{is_of}
use Rattle.ipc_fields.specs.Causes.{IsOfBytes}
use Rattle.ipc_fields.specs.IpcFields.{Ids}
use Rattle.ipc_io.specs.Outside.{Rose}
use Rattle.ipc_log_disk.specs.Below.{IsOfDisk}
use Rattle.ipc_log_disk.specs.Crashes.{Among, Elapses, Images}
use Rattle.ipc_record_log.specs.Logs.{Holds, IsSettled, invalid_log, spans_from, truncated}
use Rattle.ipc_record_log.specs.Records.{IsBeforeOrAfter, log_records, records_in}
use Rattle.ipc_record_log.specs.declared.span.Span.{Span}
use Rattle.ipc_log_records.specs.Below.{Suits}
use Rattle.laws_logs.specs.Tables.{IsRecordOf, MeansBeforeOrAfter, MeansLog, table_of, with_batch}
use Rattle.laws_logs.proofs.Lifting.{crashed_append, more_records_are_table, same_records}
use Rattle.ipc_log_records.specs.LogSchemas.{log_fields}
use Rattle.ipc_log_records.specs.Written.{RecordCause}
use Rattle.ipc_tablelog.specs.Opened.{AreOnes, IsFirst, IsNoLog, RefusesLog}
use Rattle.ipc_tablelog.specs.TableLogs.{IsTableOf, KeepsTable}
use Rattle.ipc_tablelog.proofs.Records.{count, framed, later, log_read}

-- ── create ──

pub created : (content : Option (List ℕ)) (images : Images) (s : List Keyed) (bytes : List ℕ) → Holds content images (bytes ∷ []) → IsRecordOf (log_fields s) [] bytes → regular (fields_in s) [] ≡ true → KeepsTable content images s (table_of (log_fields s) [])
created content images s bytes h r reg =
    let means : (c : List ℕ) → log_records c ≡ Some (bytes ∷ []) → MeansLog c (table_of (log_fields s) []) = λ c is. record {
      fields = log_fields s;
      batches = [];
      is = refl;
      records = bytes ∷ [];
      framed = is;
      are = (r, tt);
    } in
    record { table = record { b = h.b; told = h.told; means = means h.b h.means; fields = refl; is_regular = reg }; durable = λ c left. means c (h.durable c left) }

pub begun : (content : Option (List ℕ)) (images : Images) (s copy : List Keyed) (b l : List ℕ) → l ≡ b → copy ≡ s → Holds content images (l ∷ []) → IsRecordOf (log_fields s) [] b → regular (fields_in s) [] ≡ true → KeepsTable content images copy (table_of (log_fields copy) [])
begun content images s copy b l is same h r reg =
    subst (λ (k : List Keyed). KeepsTable content images k (table_of (log_fields k) [])) (sym same) (created content images s b (subst (λ (x : List ℕ). Holds content images (x ∷ [])) is h) r reg)

pub create_cause : (e : IpcError) (s : List Keyed) (batch : Option Batch) (kept disk : Type 0) → ((e ≡ Memory) × kept) ⊎ disk → (RecordCause e s batch × kept) ⊎ disk
create_cause e s batch kept disk (inl h) = inl (inl (inl h.0), h.1)
create_cause e s batch kept disk (inr h) = inr h

-- ── open ──

pub spans_count : (at : ℕ) (records : List (List ℕ)) → length (spans_from at records) ≡ length records
spans_count at [] = refl
spans_count at (r ∷ records) = ap suc (spans_count (at + 16 + length r) records)

pub opened : (content content' : Option (List ℕ)) (images images' : Images) (s : List Keyed) (b : List ℕ) (spans : List Span) → content ≡ Some b → content' ≡ content → ((c : List ℕ) → images' c → images c) → Holds content images (records_in b)
    → spans ≡ spans_from 8 (records_in b) → 0 < length spans → IsFirst content (log_fields s) → AreOnes content (log_fields s) (length spans) → regular (fields_in s) [] ≡ true → (t : ArrowTable) × MeansLog b t × KeepsTable content' images' s t
opened content content' images images' s b spans told same fewer h spanned some first ones reg =
    let many : length spans ≡ length (records_in b) = ap length spanned ∙ spans_count 8 (records_in b) in
    let bytes : h.b ≡ b = let is : Some h.b ≡ Some b = sym h.told ∙ told in cc in
    let is : log_records b ≡ Some (records_in b) = subst (λ (c : List ℕ). log_records c ≡ Some (records_in b)) bytes h.means in
    let read = log_read b (log_fields s) (records_in b) is (omega (arith, many, some)) (λ r at. first b r told at) (λ r k more less at. ones b r k told more (omega (arith, many, less)) at) in
    let t = table_of (log_fields s) read.0 in (
      t,
      read.1,
      record {
        table = record { b = b; told = same ∙ told; means = read.1; fields = refl; is_regular = reg };
        durable = λ c left. same_records b c t read.1 (h.durable c (fewer c left) ∙ sym is);
      },
    )

-- bytes of no log mean no table
pub never_framed : (content : Option (List ℕ)) → ((b : List ℕ) → content ≡ Some b → log_records b ≡ None) → IsNoLog content
never_framed content h b t told m = let clash : Some (records_in b) ≡ None = sym (framed b t m) ∙ h b told in cc

-- ── append ──

pub acknowledged : (content content' : Option (List ℕ)) (images' : Images) (s : List Keyed) (t : ArrowTable) (bytes : List ℕ) (x : TableBatch) → IsTableOf content s t → (regular (fields_in s) [] ≡ true → IsRecordOf (log_fields s) (x ∷ []) bytes)
    → ((b : List ℕ) → content ≡ Some b → Holds content' images' (records_in b ++ bytes ∷ [])) → KeepsTable content' images' s (with_batch t x)
acknowledged content content' images' s t bytes x h r holds =
    let one = subst (λ (f : Fields). IsRecordOf f (x ∷ []) bytes) (sym h.fields) (r h.is_regular) in
    let k = more_records_are_table content' images' h.b bytes t x (records_in h.b) h.means (framed h.b t h.means) one (holds h.b h.told) in
    record { table = record { b = k.b; told = k.told; means = k.means; fields = h.fields; is_regular = h.is_regular }; durable = k.durable }

pub crashed : (content : Option (List ℕ)) (s : List Keyed) (t : ArrowTable) (bytes c : List ℕ) (x : TableBatch) → IsTableOf content s t → (regular (fields_in s) [] ≡ true → IsRecordOf (log_fields s) (x ∷ []) bytes)
    → ((b : List ℕ) → content ≡ Some b → IsBeforeOrAfter (records_in b) bytes c) → MeansBeforeOrAfter t x c
crashed content s t bytes c x h r left =
    let one = subst (λ (f : Fields). IsRecordOf f (x ∷ []) bytes) (sym h.fields) (r h.is_regular) in
    crashed_append h.b c bytes t x (records_in h.b) h.means (framed h.b t h.means) one (left h.b h.told)

-- why a record is not added, in a log's words
pub append_causes : {D : Type 0} (r : Result (Unit {0}) IpcError) (s : List Keyed) (batch : Option Batch) (failed failed' : Bool) (disk disk' : D) (spans spans' : List Span) (end end' : ℕ) (fails : IpcError → Type 0)
    → IfErr r (λ e. (((e ≡ State) × (failed ≡ true)) ⊎ ((e ≡ Memory) × (failed ≡ false))) × (disk' ≡ disk) × (spans' ≡ spans) × (end' ≡ end) × (failed' ≡ failed) ⊎ ((failed' ≡ true) × fails e))
    → failed ≡ false → IfErr r (λ e. (((e ≡ State) × (failed ≡ true)) ⊎ ((failed ≡ false) × RecordCause e s batch)) × (disk' ≡ disk) × (spans' ≡ spans) × (end' ≡ end) × (failed' ≡ failed) ⊎ ((failed' ≡ true) × fails e))
append_causes (Ok u) s batch failed failed' disk disk' spans spans' end end' fails h sound = tt
append_causes (Err e) s batch failed failed' disk disk' spans spans' end end' fails (inl (inl state, kept, same, place, flag)) sound = inl (inl state, kept, same, place, flag)
append_causes (Err e) s batch failed failed' disk disk' spans spans' end end' fails (inl (inr memory, kept, same, place, flag)) sound = inl (inr (sound, inl (inl memory.0)), kept, same, place, flag)
append_causes (Err e) s batch failed failed' disk disk' spans spans' end end' fails (inr h) sound = inr h

pub on_ok : {T E : Type 0} → (r : Result T E) (P Q : Type 0) → (P → Q) → OnOk r P → OnOk r Q
on_ok (Ok x) P Q f h = f h
on_ok (Err e) P Q f h = tt

-- where no call of the disk was made, a crash leaves what is on the disk
pub untouched : (content : Option (List ℕ)) (images : Images) (s : List Keyed) (t : ArrowTable) (spans : List Span) (end : ℕ) (c : List ℕ) (x : TableBatch) → IsTableOf content s t → ((b : List ℕ) → content ≡ Some b → IsSettled images b spans end) → images c → MeansBeforeOrAfter t x c
untouched content images s t spans end c x h settled left = inl (subst (λ (d : List ℕ). MeansLog d t) (sym ((settled h.b h.told).only c left)) h.means)

-- ── len and read ──

pub batch_count : (content : Option (List ℕ)) (images : Images) (s : List Keyed) (t : ArrowTable) (spans : List Span) (end n : ℕ) → IsTableOf content s t → ((b : List ℕ) → content ≡ Some b → IsSettled images b spans end) → n ≡ length spans - 1 → n ≡ length t.batches
batch_count content images s t spans end n h settled is =
    let many : length spans ≡ length (records_in h.b) = ap length (settled h.b h.told).log.spanned ∙ spans_count 8 (records_in h.b) in
    omega (arith, is, many, count h.b t h.means)

-- a record is the batch before it
later_of : (content : Option (List ℕ)) (s : List Keyed) (t : ArrowTable) (i : ℕ) (v : List ℕ) (h : IsTableOf content s t) → ((b : List ℕ) → content ≡ Some b → slice_get (records_in b) (i + 1) ≡ Some v)
    → (x : TableBatch) × (slice_get t.batches i ≡ Some x) × IsRecordOf t.fields (x ∷ []) v
later_of content s t i v h at = later h.b t h.means i v (subst (λ (k : ℕ). slice_get (records_in h.b) k ≡ Some v) (add-one i) (at h.b h.told))

pub batch_read : (content : Option (List ℕ)) (s : List Keyed) (t : ArrowTable) (i : ℕ) (v : List ℕ) (x : TableBatch) → IsTableOf content s t → ((b : List ℕ) → content ≡ Some b → slice_get (records_in b) (i + 1) ≡ Some v)
    → ((fields : Fields) (y : TableBatch) → IsRecordOf fields (y ∷ []) v → y ≡ x) → slice_get t.batches i ≡ Some x
batch_read content s t i v x h at only = let l = later_of content s t i v h at in l.1 ∙ ap (λ (y : TableBatch). Some y) (only t.fields l.0 l.2)

pub batch_never : (content : Option (List ℕ)) (s : List Keyed) (t : ArrowTable) (i : ℕ) (v : List ℕ) → IsTableOf content s t → ((b : List ℕ) → content ≡ Some b → slice_get (records_in b) (i + 1) ≡ Some v)
    → ((fields : Fields) (y : TableBatch) → IsRecordOf fields (y ∷ []) v → ⊥) → ⊥
batch_never content s t i v h at never = let l = later_of content s t i v h at in never t.fields l.0 l.2

-- a batch that is one of a schema's, and one that is not
pub suited : (s : List Keyed) (below : Ids) (x : Batch) {r : Bool} → IsTrue r ↔ Suits s below x None → r ≡ true → is_of (fields_in s) x ≡ true
suited s below x h is = (h.0 is).types

pub not_suited : (s : List Keyed) (below : Ids) (x : Batch) {r : Bool} → IsTrue r ↔ Suits s below x None → r ≡ false → is_of (fields_in s) x ≡ false
not_suited s below x {r} h is = by (is_of (fields_in s) x) refl
  where
    by : (k : Bool) → is_of (fields_in s) x ≡ k → is_of (fields_in s) x ≡ false
    by false same = same
    by true same = let clash : true ≡ false = sym (h.1 (record { types = same; own = tt })) ∙ is in cc

-- its columns are of the log's kinds
pub batch_kinds : (content : Option (List ℕ)) (s : List Keyed) (t : ArrowTable) (i : ℕ) (v : List ℕ) (kinds : Bool) → IsTableOf content s t → ((b : List ℕ) → content ≡ Some b → slice_get (records_in b) (i + 1) ≡ Some v)
    → ((fields : Fields) (y : TableBatch) → IsRecordOf fields (y ∷ []) v → fields ≡ log_fields s → kinds ≡ true) → kinds ≡ true
batch_kinds content s t i v kinds h at of = let l = later_of content s t i v h at in of t.fields l.0 l.2 h.fields

-- so a record of other kinds is none of the log's
pub other_kinds : (content : Option (List ℕ)) (s : List Keyed) (i : ℕ) (v : List ℕ) (kinds : Bool) → kinds ≡ false → ((b : List ℕ) → content ≡ Some b → slice_get (records_in b) (i + 1) ≡ Some v)
    → ((fields : Fields) (y : TableBatch) → IsRecordOf fields (y ∷ []) v → fields ≡ log_fields s → kinds ≡ true) → (t : ArrowTable) → IsTableOf content s t → ⊥
other_kinds content s i v kinds not at of t h = let clash : true ≡ false = sym (batch_kinds content s t i v kinds h at of) ∙ not in cc

-- why a batch is not read
abbrev pub BatchCause : IpcError → Bool → Option (List ℕ) → List Keyed → ℕ → ℕ → Type 0
BatchCause e failed content s faults faults' = ((e ≡ State) × (failed ≡ true)) ⊎ ((e ≡ Memory) ⊎ (((e ≡ ReadFault) × Rose faults faults') ⊎ (IsOfBytes e × ((t : ArrowTable) → IsTableOf content s t → ⊥))))

pub never_told : (content : Option (List ℕ)) (s : List Keyed) → content ≡ None → (t : ArrowTable) → IsTableOf content s t → ⊥
never_told content s is t h = let clash : Some h.b ≡ None = sym h.told ∙ is in cc

pub bytes_not_read : (e : IpcError) (failed : Bool) (content : Option (List ℕ)) (s : List Keyed) (faults faults' : ℕ) → ((e ≡ State) × (failed ≡ true)) ⊎ ((e ≡ Memory) ⊎ (((e ≡ ReadFault) × Rose faults faults') ⊎ ((e ≡ truncated) × (content ≡ None)))) → BatchCause e failed content s faults faults'
bytes_not_read e failed content s faults faults' (inl h) = inl h
bytes_not_read e failed content s faults faults' (inr (inl h)) = inr (inl h)
bytes_not_read e failed content s faults faults' (inr (inr (inl h))) = inr (inr (inl h))
bytes_not_read e failed content s faults faults' (inr (inr (inr h))) = inr (inr (inr (subst IsOfBytes (sym h.0) tt, never_told content s h.1)))

pub batch_not_read : (e : IpcError) (failed : Bool) (content : Option (List ℕ)) (s : List Keyed) (faults faults' i : ℕ) (v : List ℕ) → ((b : List ℕ) → content ≡ Some b → slice_get (records_in b) (i + 1) ≡ Some v)
    → (e ≡ Memory) ⊎ (IsOfBytes e × ((fields : Fields) (y : TableBatch) → IsRecordOf fields (y ∷ []) v → ⊥)) → BatchCause e failed content s faults faults'
batch_not_read e failed content s faults faults' i v at (inl h) = inr (inl h)
batch_not_read e failed content s faults faults' i v at (inr h) = inr (inr (inr (h.0, λ t is. batch_never content s t i v is at h.1)))

-- ── calls one after another ──

-- what a crash since the first of two calls might have left, of which the second only reads
pub since_on : {before now later : ℕ} {images images' : Images} {past since since' : ℕ → Images} → Among images (since before) → Elapses before now past since → Elapses now later since since' → Among images' (since' now) → ((t : ℕ) (c : List ℕ) → t ≤ now → images' c → since t c) → Among images (since' before)
since_on {before} h first second reads counts c x = ⊎_elim (λ past. h c past) (λ here. h c (counts before c first.later (reads c here))) ((second.exact before c first.later).0 x)

-- ── causes ──

module _ {D : Type 0} (content_of : D → Option (List ℕ)) (faults_of wants_of : D → ℕ) where
  -- why a log is not opened
  abbrev pub OpenCause : IpcError → D → D → Type 0
  OpenCause e old new = (e ≡ Memory) ⊎ (IsOfDisk e (faults_of old) (faults_of new) (wants_of old) (wants_of new)
      ⊎ (((e ≡ ReadFault) × Rose (faults_of old) (faults_of new)) ⊎ ((e ≡ invalid_log) × IsNoLog (content_of old))))

  -- the walk over its heads is refused
  pub not_walked : (e : IpcError) (old new : D) → (e ≡ Memory) ⊎ (IsOfDisk e (faults_of old) (faults_of new) (wants_of old) (wants_of new)
      ⊎ (((e ≡ ReadFault) × Rose (faults_of old) (faults_of new)) ⊎ ((e ≡ invalid_log) × ((b : List ℕ) → content_of old ≡ Some b → log_records b ≡ None)))) → OpenCause e old new
  not_walked e old new (inl h) = inl h
  not_walked e old new (inr (inl h)) = inr (inl h)
  not_walked e old new (inr (inr (inl h))) = inr (inr (inl h))
  not_walked e old new (inr (inr (inr h))) = inr (inr (inr (h.0, never_framed (content_of old) h.1)))

  -- or its records are
  pub not_read : (e : IpcError) (old d new : D) → content_of d ≡ content_of old → faults_of old ≤ faults_of d → RefusesLog e (content_of d) (faults_of d) (faults_of new) → OpenCause e old new
  not_read e old d new same later (inl h) = inl h
  not_read e old d new same later (inr (inl h)) = inr (inr (inl (h.0, omega (arith, later, h.1))))
  not_read e old d new same later (inr (inr h)) = inr (inr (inr (h.0, subst IsNoLog same h.1)))
