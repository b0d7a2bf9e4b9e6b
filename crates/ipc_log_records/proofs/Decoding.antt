-- What is read of a record.
use Rattle.std.proofs.Common.{◌≡◌, ◌⊎◌, inl, inr, ℕ, ◌<◌, ◌≤◌, List, [], ◌∷◌, ◌++◌, length, map, true, Some, None, Result, Ok, Err, IfErr, refl, sym, ◌∙◌, ap, subst, arith}
use Rattle.std.specs.Rc.{rc_value}
use Rattle.std.proofs.lemmas.Bool.{and_parts}
use Rattle.arrow_spec.specs.declared.error.IpcError.{IpcError}
use Rattle.arrow_spec.specs.declared.error.IpcError.TheVariants as errors
use Rattle.arrow_spec.specs.declared.error.IpcError.TheVariants.{Memory}
use Rattle.arrow_spec.specs.Files.{ArrowTable, TableBatch}
use Rattle.arrow_spec.specs.Kinds.{Fields}
use Rattle.arrow_spec.specs.Laws.{AreBytes}
use Rattle.arrow_spec.specs.Readings.{IsAmong, Reading, refusals}
use Rattle.arrow_spec.specs.Regular.{regular}
use Rattle.arrow_spec.specs.Streams.{closed, stream_reading, stream_table}
use Rattle.arrow_spec.specs.WrittenSchemas.{SchemaMayBeWritten}
use Rattle.arrow_spec.proofs.Projection.{some_meaning}
use Rattle.arrow_types.specs.Schemas.{Keyed, fields_in}
use Rattle.arrow_arrays.specs.Batches.{Batch}
use Rattle.arrow_arrays.specs.Columns.{columns_of}
use Rattle.arrow_arrays.specs.Parts.{forest}
use Rattle.ipc_append.specs.Columns.{are_of, is_of}
use Rattle.ipc_append.specs.Wholes.{FailsBehind, HasTooMany, IsWhole, RefusesStream, table_read}
use Rattle.ipc_append.specs.declared.stream.WholeStream.{WholeStream}
use Rattle.ipc_fields.specs.Causes.{IsOfBytes}
use Rattle.ipc_fields.specs.IpcFields.{fields_with, ids_of}
use Rattle.ipc_record_log.specs.Logs.{invalid_log}
use Rattle.ipc_stream_writer.specs.Below.{cells_of}
use Rattle.ipc_append.specs.Below.{FileCause, start_view, stream_schema}
use Rattle.laws_logs.specs.Tables.{IsRecordOf, dictionaries_from}
use Rattle.ipc_read_laws.specs.PlainKinds.{plain_fields}
use Rattle.same_fields.proofs.OneKind.{kinds_through}
use Rattle.ipc_log_records.specs.Decoded.{IsNoRecord, IsRecordRead, Unread}
use Rattle.ipc_log_records.specs.LogSchemas.{WasSaid, log_fields}
use Rattle.ipc_log_records.specs.Passes.{told_as}
use Rattle.ipc_log_records.proofs.LogKinds.{kinds_of_log}
use Rattle.ipc_log_records.proofs.Many.{too_many_none}
use Rattle.ipc_log_records.proofs.ReadSchemas.{may_without}
use Rattle.ipc_log_records.proofs.Schemas.{read_own, read_regular, start_may}

-- ── the fields ──

module _ (b : List ℕ) (s : WholeStream) (bytes : AreBytes b) (w : IsWhole b s) where
  may : SchemaMayBeWritten (stream_schema s.metadata).fields (stream_schema s.metadata).metadata
  may = start_may b (start_view s.metadata) w.rest bytes w.begun

  pub whole_fields : (table_read s).fields ≡ log_fields (rc_value s.metadata.schema)
  whole_fields = read_own (fields_in (rc_value s.metadata.schema)) (ids_of s.metadata.ipc_schema.fields.items) (stream_schema s.metadata).metadata may

  pub whole_regular : regular (fields_in (rc_value s.metadata.schema)) [] ≡ true
  whole_regular = read_regular (fields_in (rc_value s.metadata.schema)) (ids_of s.metadata.ipc_schema.fields.items) (stream_schema s.metadata).metadata may

  pub whole_said : WasSaid (rc_value s.metadata.schema)
  whole_said = record {
    own = ids_of s.metadata.ipc_schema.fields.items;
    may = may_without (fields_with (fields_in (rc_value s.metadata.schema)) (ids_of s.metadata.ipc_schema.fields.items)) (stream_schema s.metadata).metadata may;
  }

-- ── refusals ──

among_none : (b : List ℕ) (e : IpcError) → IsAmong (refusals (stream_reading b None)) e → IsNoRecord b
unfolding stream_table
among_none b e h fields xs r = subst (λ (q : Reading ArrowTable). IsAmong (refusals q) e) (some_meaning (stream_reading b None) r.table r.means) h

-- why a stream in memory is not read
abbrev pub UnreadWhole : IpcError → List ℕ → Type 0
UnreadWhole e b = (e ≡ Memory) ⊎ (IsOfBytes e × IsNoRecord b)

among_or_many : (b : List ℕ) (e : IpcError) → IsAmong (refusals (stream_reading b None)) e ⊎ HasTooMany e b → IsNoRecord b
among_or_many b e (inl h) = among_none b e h
among_or_many b e (inr h) = too_many_none e b h

unread : (e : IpcError) (b : List ℕ) (faults : ℕ) → faults ≡ 0 → RefusesStream e b → FileCause e 0 faults → UnreadWhole e b
unread errors.Memory b faults none h k = inl refl
unread (errors.OutOfSpec kind) b faults none h k = inr (tt, among_or_many b (errors.OutOfSpec kind) h)
unread (errors.Unsupported feature) b faults none h k = inr (tt, among_or_many b (errors.Unsupported feature) h)
unread (errors.TooMany counted) b faults none h k = inr (tt, among_or_many b (errors.TooMany counted) h)
unread errors.TooDeep b faults none h k = inr (tt, among_or_many b errors.TooDeep h)
unread errors.ReadFault b faults none h k = absurd (omega (arith, k, none))
unread e b faults none h k = absurd k

pub whole_refused : {F T : Type 0} (references_of : F → List ℕ) (f : F) (r : Result T IpcError) (b : List ℕ) → IfErr r (λ e. RefusesStream e b) → IfErr r (λ e. FailsBehind (λ (x : F). 0) references_of f e) → IfErr r (λ e. UnreadWhole e b)
whole_refused references_of f (Ok x) b h k = tt
whole_refused references_of f (Err e) b h k = unread e b 0 refl h k.cause

pub told_unread : (e : IpcError) (b : List ℕ) → UnreadWhole e b → Unread (told_as e) b
told_unread errors.Memory b h = inl refl
told_unread e b (inl h) = inl (ap told_as h)
told_unread e b (inr h) = inr (refl, h.1)

pub not_counted : (e : IpcError) (b l : List ℕ) → l ≡ b → (e ≡ Memory) ⊎ ((e ≡ invalid_log) × ((n : ℕ) → closed l → dictionaries_from (length l) l ≡ Ok n → ⊥)) → Unread e b
not_counted e b l is (inl h) = inl h
not_counted e b l is (inr h) =
    let never = subst (λ (x : List ℕ). (n : ℕ) → closed x → dictionaries_from (length x) x ≡ Ok n → ⊥) is h.1 in
    inr (h.0, λ fields xs r. never r.count r.whole r.counted)

pub many_counted : (b l : List ℕ) (n : ℕ) → l ≡ b → dictionaries_from (length l) l ≡ Ok n → 1048576 < n → IsNoRecord b
many_counted b l n is counted many fields xs r =
    let here : dictionaries_from (length b) b ≡ Ok n = subst (λ (x : List ℕ). dictionaries_from (length x) x ≡ Ok n) is counted in
    let same : Ok r.count ≡ Ok n = sym r.counted ∙ here in
    let count : r.count ≡ n = cc in
    omega (arith, many, count, r.few)

-- a record that has one batch is none where it has none
pub not_one : (e : IpcError) (b : List ℕ) → UnreadWhole e b → (e ≡ Memory) ⊎ (IsOfBytes e × ((fields : Fields) (y : TableBatch) → IsRecordOf fields (y ∷ []) b → ⊥))
not_one e b (inl h) = inl h
not_one e b (inr h) = inr (h.0, λ fields y. h.1 fields (y ∷ []))

-- ── a record ──

pub record_read : (b l : List ℕ) (s : WholeStream) (n : ℕ) → l ≡ b → IsWhole b s → closed l → dictionaries_from (length l) l ≡ Ok n → n ≤ 1048576 → IsRecordRead b s
record_read b l s n is w whole counted few = record {
  whole = subst closed is whole;
  table = table_read s;
  means = w.table;
  same_fields = refl;
  same_batches = refl;
  count = n;
  counted = subst (λ (x : List ℕ). dictionaries_from (length x) x ≡ Ok n) is counted;
  few = few;
}

-- the batches of a record are those that were read of it
same_batches : (b : List ℕ) (s : WholeStream) (fields : Fields) (xs : List TableBatch) → IsWhole b s → IsRecordOf fields xs b → map cells_of s.batches.items ≡ xs
same_batches b s fields xs w r =
    let same : Some (table_read s) ≡ Some r.table = sym w.table ∙ r.means in
    let is : table_read s ≡ r.table = cc in
    ap (λ (t : ArrowTable). t.batches) is ∙ r.same_batches

last_is : (front : List Batch) (x : Batch) (y : TableBatch) → map cells_of (front ++ x ∷ []) ≡ y ∷ [] → y ≡ cells_of x
last_is [] x y h = let same : cells_of x ∷ [] ≡ y ∷ [] = h in cc
last_is (z ∷ []) x y h = let same : cells_of z ∷ cells_of x ∷ [] ≡ y ∷ [] = h in cc
last_is (z ∷ w ∷ front) x y h = let same : cells_of z ∷ cells_of w ∷ map cells_of (front ++ x ∷ []) ≡ y ∷ [] = h in cc

pub one_read : (b : List ℕ) (s : WholeStream) (front : List Batch) (x : Batch) (fields : Fields) (y : TableBatch) → IsWhole b s → s.batches.items ≡ front ++ x ∷ [] → IsRecordOf fields (y ∷ []) b → y ≡ cells_of x
one_read b s front x fields y w is r = last_is front x y (ap (map cells_of) (sym is) ∙ same_batches b s fields (y ∷ []) w r)

one_of : (fs : Fields) (before : List Batch) (x : Batch) → are_of fs (before ++ x ∷ []) ≡ true → is_of fs x ≡ true
one_of fs [] x h = (and_parts (is_of fs x) (are_of fs []) h).0
one_of fs (y ∷ ys) x h = one_of fs ys x (and_parts (is_of fs y) (are_of fs (ys ++ x ∷ [])) h).1

-- its columns are of the kinds of each schema of the log's fields
pub one_kinds : (b : List ℕ) (s : WholeStream) (front : List Batch) (x : Batch) (fields : Fields) (y : TableBatch) (k : List Keyed) → IsWhole b s → (table_read s).fields ≡ log_fields (rc_value s.metadata.schema) → s.batches.items ≡ front ++ x ∷ [] → IsRecordOf fields (y ∷ []) b
    → plain_fields (fields_in (rc_value s.metadata.schema)) ≡ fields_in (rc_value s.metadata.schema) → plain_fields (fields_in k) ≡ fields_in k → fields ≡ log_fields k → is_of (fields_in k) x ≡ true
one_kinds b s front x fields y k w own is r plain others log =
    let own_schema = rc_value s.metadata.schema in
    let of : is_of (fields_in own_schema) x ≡ true = one_of (fields_in own_schema) front x (subst (λ (bs : List Batch). are_of (fields_in own_schema) bs ≡ true) is s.kinds) in
    let same : Some (table_read s) ≡ Some r.table = sym w.table ∙ r.means in
    let table : table_read s ≡ r.table = cc in
    let fields : log_fields k ≡ log_fields own_schema = sym log ∙ sym r.same_fields ∙ sym (ap (λ (t : ArrowTable). t.fields) table) ∙ own in
    kinds_through (fields_in k) (fields_in own_schema) (columns_of (forest x.arrays)) (kinds_of_log k own_schema others plain fields) of

pub none_read : (b : List ℕ) (s : WholeStream) (fields : Fields) (y : TableBatch) → IsWhole b s → s.batches.items ≡ [] → IsRecordOf fields (y ∷ []) b → ⊥
none_read b s fields y w is r = let same : [] ≡ y ∷ [] = sym (ap (map cells_of) is) ∙ same_batches b s fields (y ∷ []) w r in cc

pub none_one : (e : IpcError) (b : List ℕ) (s : WholeStream) → IsWhole b s → (e ≡ invalid_log) × (s.batches.items ≡ []) → (e ≡ Memory) ⊎ (IsOfBytes e × ((fields : Fields) (y : TableBatch) → IsRecordOf fields (y ∷ []) b → ⊥))
none_one e b s w h = inr (subst IsOfBytes (sym h.0) tt, λ fields y r. none_read b s fields y w h.1 r)
