-- The records of a log, as they are read one after another.
use Rattle.std.proofs.Common.{◌≡◌, ◌⊎◌, inl, inr, ⊎_elim, ◌↔◌, ℕ, zero, suc, ◌+◌, ◌<◌, ◌≤◌, List, [], ◌∷◌, length, map, get_or, Bool, true, false, Option, Some, None, refl, sym, ◌∙◌, ap, subst, arith, below_more}
use Rattle.std.specs.Prelude.{IsTrue, slice_get}
use Rattle.std.specs.Rc.{rc_value}
use Rattle.std.proofs.lemmas.List.{length-map}
use Rattle.std.proofs.lemmas.Option.{slice_get-get_or}
use Rattle.arrow_spec.specs.declared.error.IpcError.{IpcError}
use Rattle.arrow_spec.specs.declared.error.IpcError.TheVariants.{Memory, ReadFault, State}
use Rattle.arrow_spec.specs.Files.{ArrowTable, TableBatch}
use Rattle.arrow_spec.specs.Kinds.{Fields, bare}
use Rattle.arrow_types.specs.Schemas.{Keyed, fields_in}
use Rattle.ipc_log_records.specs.Below.{table_read}
use Rattle.ipc_log_records.specs.Below.{WholeStream}
use Rattle.ipc_fields.specs.IpcFields.{ids_of}
use Rattle.ipc_io.specs.Outside.{Rose}
use Rattle.ipc_log_disk.specs.Crashes.{Images}
use Rattle.ipc_record_log.specs.Logs.{OnlyReads, invalid_log, spans_from, truncated}
use Rattle.ipc_record_log.specs.Records.{records_in}
use Rattle.ipc_record_log.specs.declared.span.Span.{Span}
use Rattle.ipc_log_records.specs.Below.{cells_of}
use Rattle.laws_logs.specs.Tables.{IsRecordOf, MeansLog}
use Rattle.same_fields.proofs.BareKinds.{fields_with_bare}
use Rattle.ipc_log_records.specs.Decoded.{IsNoRecord, IsRecordRead, Unread}
use Rattle.ipc_log_records.specs.LogSchemas.{log_fields}
use Rattle.ipc_tablelog.specs.Opened.{AreOnes, IsFirst, IsNoLog, IsOne, RefusesLog, of_log}
use Rattle.ipc_tablelog.proofs.Logs.{spans_count}
use Rattle.ipc_tablelog.proofs.Records.{count, first, later}

-- ── one record ──

same_table : {fields fields' : Fields} {xs ys : List TableBatch} {r : List ℕ} → (h : IsRecordOf fields xs r) (k : IsRecordOf fields' ys r) → h.table ≡ k.table
same_table h k = let is : Some h.table ≡ Some k.table = sym h.means ∙ k.means in cc

same_fields : {fields fields' : Fields} {xs ys : List TableBatch} {r : List ℕ} → IsRecordOf fields xs r → IsRecordOf fields' ys r → fields ≡ fields'
same_fields h k = sym h.same_fields ∙ ap (λ (t : ArrowTable). t.fields) (same_table h k) ∙ k.same_fields

same_batches : {fields fields' : Fields} {xs ys : List TableBatch} {r : List ℕ} → IsRecordOf fields xs r → IsRecordOf fields' ys r → xs ≡ ys
same_batches h k = sym h.same_batches ∙ ap (λ (t : ArrowTable). t.batches) (same_table h k) ∙ k.same_batches

-- ── refusals ──

-- why a record's bytes are not read
abbrev pub ReadCause : IpcError → Bool → Option (List ℕ) → ℕ → ℕ → Type 0
ReadCause e failed content faults faults' = ((e ≡ State) × (failed ≡ true)) ⊎ ((e ≡ Memory) ⊎ (((e ≡ ReadFault) × Rose faults faults') ⊎ ((e ≡ truncated) × (content ≡ None))))

untold : (content : Option (List ℕ)) → content ≡ None → IsNoLog content
untold content is b t told m = let clash : Some b ≡ None = sym told ∙ is in cc

pub read_refused : (e : IpcError) (failed : Bool) (content : Option (List ℕ)) (faults faults' : ℕ) → failed ≡ false → ReadCause e failed content faults faults' → RefusesLog (of_log e) content faults faults'
read_refused e failed content faults faults' ready (inl h) = absurd (let clash : true ≡ false = sym h.1 ∙ ready in cc)
read_refused e failed content faults faults' ready (inr (inl h)) = inl (ap of_log h)
read_refused e failed content faults faults' ready (inr (inr (inl h))) = inr (inl (ap of_log h.0, h.1))
read_refused e failed content faults faults' ready (inr (inr (inr h))) = inr (inr (ap of_log h.0, untold content h.1))

-- where a record is none, the bytes are no log's
no_log_at : (content : Option (List ℕ)) (i : ℕ) (v : List ℕ) → ((b : List ℕ) → content ≡ Some b → slice_get (records_in b) i ≡ Some v) → IsNoRecord v → IsNoLog content
no_log_at content zero v at none b t told m = none t.fields [] (first b t m v (at b told))
no_log_at content (suc i) v at none b t told m = let l = later b t m i v (at b told) in none t.fields (l.0 ∷ []) l.2

pub record_refused : (e : IpcError) (content : Option (List ℕ)) (faults faults' i : ℕ) (v : List ℕ) → ((b : List ℕ) → content ≡ Some b → slice_get (records_in b) i ≡ Some v) → Unread e v → RefusesLog e content faults faults'
record_refused e content faults faults' i v at (inl h) = inl h
record_refused e content faults faults' i v at (inr h) = inr (inr (h.0, no_log_at content i v at h.1))

pub record_at : (content : Option (List ℕ)) (i : ℕ) (v : List ℕ) (s : WholeStream) → ((b : List ℕ) → content ≡ Some b → slice_get (records_in b) i ≡ Some v) → IsRecordRead v s
    → (b r : List ℕ) → content ≡ Some b → slice_get (records_in b) i ≡ Some r → IsRecordRead r s
record_at content i v s at read b r told is = let same : v ≡ r = let e : Some v ≡ Some r = sym (at b told) ∙ is in cc in subst (λ (l : List ℕ). IsRecordRead l s) same read

-- ── the first record ──

-- what was read of a record, by its number
abbrev pub RecordAt : Option (List ℕ) → ℕ → WholeStream → Type 0
RecordAt content i s = (b r : List ℕ) → content ≡ Some b → slice_get (records_in b) i ≡ Some r → IsRecordRead r s

-- a log whose spans are those of its records
abbrev pub AreSpans : Option (List ℕ) → List Span → Type 0
AreSpans content spans = (b : List ℕ) → content ≡ Some b → spans ≡ spans_from 8 (records_in b)

pub no_spans : (content : Option (List ℕ)) (spans : List Span) → AreSpans content spans → length spans ≡ 0 → IsNoLog content
no_spans content spans are none b t told m = omega (arith, none, ap length (are b told), spans_count 8 (records_in b), count b t m)

first_there : (b : List ℕ) (t : ArrowTable) → MeansLog b t → slice_get (records_in b) 0 ≡ Some (get_or (records_in b) 0 [])
first_there b t m = slice_get-get_or (records_in b) 0 [] (omega (arith, count b t m))

pub first_has_batches : (content : Option (List ℕ)) (s : WholeStream) → RecordAt content 0 s → (length s.batches.items ≡ 0 → ⊥) → IsNoLog content
first_has_batches content s read some b t told m =
    let r = get_or (records_in b) 0 [] in
    let is = first_there b t m in
    let none : map cells_of s.batches.items ≡ [] = same_batches (read b r told is) (first b t m r is) in
    some (sym (length-map s.batches.items cells_of) ∙ ap length none)

no_batches : (s : WholeStream) → length s.batches.items ≡ 0 → map cells_of s.batches.items ≡ []
no_batches s none = empty (map cells_of s.batches.items) (length-map s.batches.items cells_of ∙ none)
  where
    empty : (xs : List TableBatch) → length xs ≡ 0 → xs ≡ []
    empty [] h = refl
    empty (x ∷ xs) h = absurd (omega (arith, h))

pub first_is : (content : Option (List ℕ)) (s : WholeStream) (schema : List Keyed) → RecordAt content 0 s → length s.batches.items ≡ 0 → (table_read s).fields ≡ log_fields (rc_value s.metadata.schema) → schema ≡ rc_value s.metadata.schema → IsFirst content (log_fields schema)
first_is content s schema read none fields is b r told at =
    let whole : IsRecordOf (table_read s).fields (map cells_of s.batches.items) r = read b r told at in
    subst (λ (f : Fields). IsRecordOf f [] r) (fields ∙ ap log_fields (sym is)) (subst (λ (xs : List TableBatch). IsRecordOf (table_read s).fields xs r) (no_batches s none) whole)

-- the fields of a schema that was read have their own pairs alone
pub read_fields : (s : WholeStream) → (table_read s).fields ≡ bare (fields_in (rc_value s.metadata.schema))
read_fields s = fields_with_bare (fields_in (rc_value s.metadata.schema)) (ids_of s.metadata.ipc_schema.fields.items)

pub own_fields_read : (s : WholeStream) (schema : List Keyed) → (table_read s).fields ≡ log_fields (rc_value s.metadata.schema) → schema ≡ rc_value s.metadata.schema → log_fields schema ≡ bare (fields_in schema)
own_fields_read s schema fields is = ap log_fields is ∙ sym fields ∙ read_fields s ∙ ap (λ (k : List Keyed). bare (fields_in k)) (sym is)

-- ── later records ──

abbrev pub IsBatchOf : WholeStream → List Keyed → Type 0
IsBatchOf s schema = (length s.batches.items ≡ 1) × (bare (fields_in (rc_value s.metadata.schema)) ≡ bare (fields_in schema))

one_batch : (xs : List TableBatch) → length xs ≡ 1 → (x : TableBatch) × (xs ≡ x ∷ [])
one_batch [] h = absurd (omega (arith, h))
one_batch (x ∷ []) h = (x, refl)
one_batch (x ∷ y ∷ xs) h = absurd (omega (arith, h))

one_here : (content : Option (List ℕ)) (schema : List Keyed) (i : ℕ) (s : WholeStream) → RecordAt content i s → log_fields schema ≡ bare (fields_in schema) → IsBatchOf s schema → (b r : List ℕ) → content ≡ Some b → slice_get (records_in b) i ≡ Some r → IsOne (log_fields schema) r
one_here content schema i s read own is b r told at =
    let whole : IsRecordOf (table_read s).fields (map cells_of s.batches.items) r = read b r told at in
    let x = one_batch (map cells_of s.batches.items) (length-map s.batches.items cells_of ∙ is.0) in
    let fields : (table_read s).fields ≡ log_fields schema = read_fields s ∙ is.1 ∙ sym own in
    (x.0, subst (λ (f : Fields). IsRecordOf f (x.0 ∷ []) r) fields (subst (λ (xs : List TableBatch). IsRecordOf (table_read s).fields xs r) x.1 whole))

pub one_more : (content : Option (List ℕ)) (schema : List Keyed) (i : ℕ) (s : WholeStream) → AreOnes content (log_fields schema) i → RecordAt content i s → log_fields schema ≡ bare (fields_in schema) → IsBatchOf s schema → AreOnes content (log_fields schema) (i + 1)
one_more content schema i s ones read own is b r k told some less at =
    below_more (λ (j : ℕ). 0 < j → slice_get (records_in b) j ≡ Some r → IsOne (log_fields schema) r) i (λ j before more there. ones b r j told more before there) (λ more there. one_here content schema i s read own is b r told there) k less some at

-- a later record that is not one batch of the first one's fields
pub no_log_later : (content : Option (List ℕ)) (schema : List Keyed) (spans : List Span) (i : ℕ) (s : WholeStream) → IsFirst content (log_fields schema) → log_fields schema ≡ bare (fields_in schema) → AreSpans content spans → 0 < i → i < length spans → RecordAt content i s
    → (IsBatchOf s schema → ⊥) → IsNoLog content
no_log_later content schema spans zero s one own are some less read not b t told m = omega (arith, some)
no_log_later content schema spans (suc i) s one own are some less read not b t told m =
    let r = get_or (records_in b) (suc i) [] in
    let there : suc i < length (records_in b) = omega (arith, less, ap length (are b told), spans_count 8 (records_in b)) in
    let is : slice_get (records_in b) (suc i) ≡ Some r = slice_get-get_or (records_in b) (suc i) [] there in
    let l = later b t m i r is in
    let whole : IsRecordOf (table_read s).fields (map cells_of s.batches.items) r = read b r told is in
    let at = first_there b t m in
    let log : t.fields ≡ log_fields schema = same_fields (first b t m (get_or (records_in b) 0 []) at) (one b (get_or (records_in b) 0 []) told at) in
    let fields : (table_read s).fields ≡ t.fields = same_fields whole l.2 in
    let batches : map cells_of s.batches.items ≡ l.0 ∷ [] = same_batches whole l.2 in
    not (sym (length-map s.batches.items cells_of) ∙ ap length batches, sym (read_fields s) ∙ fields ∙ log ∙ own)

pub not_true : {P : Type 0} (b : Bool) → (IsTrue b ↔ P) → b ≡ false → P → ⊥
not_true b h is p = let clash : true ≡ false = sym (h.1 p) ∙ is in cc

-- ── what is read of a disk ──

-- no call of a disk reads nothing
pub nothing_read : {D : Type 0} {content_of : D → Option (List ℕ)} {images_of : D → Images} {moment_of : D → ℕ} {since_of : D → ℕ → Images} {faults_of wants_of : D → ℕ} {references_of : D → List ℕ} (d : D)
    → ((t : ℕ) (c : List ℕ) → t ≤ moment_of d → images_of d c → since_of d t c) → ((c : List ℕ) → since_of d (moment_of d) c → images_of d c) → OnlyReads content_of images_of moment_of since_of faults_of wants_of references_of d d
nothing_read d counts only = record {
  content = refl;
  images = λ c. (λ x. x, λ x. x);
  since = only;
  time = record { later = omega arith; exact = λ t c le. (λ x. inl x, λ e. ⊎_elim (λ x. x) (λ x. counts t c le (only c x)) e) };
  faults = omega arith;
  wants = refl;
  references = refl;
}

-- what a log knows of its records is the same behind two calls
pub same_on : {spans spans' spans'' : List Span} {end end' end'' : ℕ} {failed failed' failed'' : Bool} → (spans'' ≡ spans') × (end'' ≡ end') × (failed'' ≡ failed') → (spans' ≡ spans) × (end' ≡ end) × (failed' ≡ failed)
    → (spans'' ≡ spans) × (end'' ≡ end) × (failed'' ≡ failed)
same_on h k = (h.0 ∙ k.0, h.1 ∙ k.1, h.2 ∙ k.2)

-- what refuses a record that was read behind others refuses the log
pub refused_behind : (e : IpcError) (content content' : Option (List ℕ)) (faults faults' faults'' : ℕ) → content' ≡ content → faults ≤ faults' → RefusesLog e content' faults' faults'' → RefusesLog e content faults faults''
refused_behind e content content' faults faults' faults'' same later (inl h) = inl h
refused_behind e content content' faults faults' faults'' same later (inr (inl h)) = inr (inl (h.0, omega (arith, h.1, later)))
refused_behind e content content' faults faults' faults'' same later (inr (inr h)) = inr (inr (h.0, subst IsNoLog same h.1))
