-- Batches at a log's end.
use Rattle.std.proofs.Common.{◌≡◌, ◌∙◌, ◌⊎◌, inl, inr, ⊎_elim, ℕ, zero, suc, ◌+◌, ◌<◌, ◌≤◌, List, [], ◌∷◌, ◌++◌, length, map, take, get_or, Bool, true, false, Option, Some, None, Result, Ok, Err, IfErr, refl, sym, ap, subst, arith, append_assoc, append-nil}
use Rattle.std.specs.Prelude.{◌↔◌, IfSome, IsTrue, MatchResult, OnOk, slice_get, option_map}
use Rattle.std.proofs.lemmas.Bool.{and_parts}
use Rattle.std.proofs.lemmas.Option.{slice_get-get_or, slice_get-map}
use Rattle.std.proofs.lemmas.List.{take_all, length-map}
use Rattle.arrow_spec.specs.declared.error.IpcError.{IpcError}
use Rattle.arrow_spec.specs.declared.error.IpcError.TheVariants as errors
use Rattle.arrow_spec.specs.Features.{floats_in}
use Rattle.arrow_spec.specs.Files.{ArrowTable, TableBatch}
use Rattle.arrow_spec.specs.Kinds.{Fields, bare, have_same_kinds}
use Rattle.arrow_spec.specs.Readings.{IsAmong}
use Rattle.arrow_types.specs.Schemas.{Keyed, fields_in}
use Rattle.arrow_arrays.specs.Batches.{Batch}
use Rattle.arrow_arrays.specs.Columns.{columns_of}
use Rattle.arrow_arrays.specs.Parts.{fault_each, forest}
use Rattle.ipc_tablelog.specs.Below.{are_of, is_of, WholeStream, WasSaid, log_fields, HasBegunRecord, RecordCause, StreamCause}
use Rattle.ipc_bodies.specs.declared.encoding.Encoding.TheVariants.{Bytes}
use Rattle.ipc_concat.proofs.Walks.{stops, suits}
use Rattle.ipc_fields.specs.IpcFields.{ids_of}
use Rattle.ipc_io.specs.Outside.{IsSize, Rose}
use Rattle.ipc_log_disk.specs.Below.{IsOfDisk}
use Rattle.ipc_log_disk.specs.Crashes.{Elapses, Images}
use Rattle.ipc_record_log.specs.Logs.{IsSettled, invalid_log}
use Rattle.ipc_record_log.specs.Records.{log_records}
use Rattle.ipc_record_log.specs.declared.span.Span.{Span}
use Rattle.ipc_concat.specs.Below.{cells_of, StreamCore, plain_fields, IsWriter}
use Rattle.ipc_concat.proofs.Below.{refused_chosen, all_floats}
use Rattle.laws_logs.specs.Tables.{MeansBeforeOrAfter, MeansFront, MeansLog, table_of, with_batch, with_batches}
use Rattle.laws_logs.proofs.Lifting.{one_meaning}
use Rattle.same_fields.proofs.BareKinds.{fields_with_bare}
use Rattle.same_fields.proofs.OneKind.{kinds_through}
use Rattle.ipc_tablelog.proofs.Below.{read_own, read_regular}
use Rattle.ipc_tablelog.specs.TableLogs.{IsTableOf, KeepsTable}
use Rattle.ipc_log_streams.specs.Appends.{HasAppended, IsBefore, IsBegun, IsOfRecord, IsOfWrite, LogRefused, MeansNext, NoLog, StopsAppend, StopsBatches, StopsEach, batches_of, fields_of, schema_of}
use Rattle.ipc_log_streams.proofs.Putting.{take_next}
use Rattle.ipc_log_streams.proofs.Writers.{never_begun, writer_of}

-- ── answers ──

pub match_on : {T E : Type 0} (r : Result T E) (P P' : T → Type 0) (Q Q' : E → Type 0) → ((x : T) → P x → P' x) → ((e : E) → Q e → Q' e) → MatchResult r P Q → MatchResult r P' Q'
match_on (Ok x) P P' Q Q' f h k = f x k
match_on (Err e) P P' Q Q' f h k = h e k

pub match_two : {T E : Type 0} (r : Result T E) (P P' P'' : T → Type 0) (Q Q' Q'' : E → Type 0) → ((x : T) → P x → P' x → P'' x) → ((e : E) → Q e → Q' e → Q'' e) → MatchResult r P Q → MatchResult r P' Q' → MatchResult r P'' Q''
match_two (Ok x) P P' P'' Q Q' Q'' f h k m = f x k m
match_two (Err e) P P' P'' Q Q' Q'' f h k m = h e k m

pub err_two : {T E : Type 0} (r : Result T E) (P P' P'' : E → Type 0) → ((e : E) → P e → P' e → P'' e) → IfErr r P → IfErr r P' → IfErr r P''
err_two (Ok x) P P' P'' h k m = tt
err_two (Err e) P P' P'' h k m = h e k m

-- ── fields ──

-- a schema that was read has no pairs but its own
own_of : (s : List Keyed) → WasSaid s → log_fields s ≡ bare (fields_in s)
own_of s said = sym (read_own (fields_in s) said.own [] said.may) ∙ fields_with_bare (fields_in s) said.own

stream_own : (stream : WholeStream) → fields_of stream ≡ bare (fields_in (schema_of stream))
stream_own stream = fields_with_bare (fields_in (schema_of stream)) (ids_of stream.metadata.ipc_schema.fields.items)

pub stream_fields : (stream : WholeStream) → WasSaid (schema_of stream) → log_fields (schema_of stream) ≡ fields_of stream
stream_fields stream said = own_of (schema_of stream) said ∙ sym (stream_own stream)

pub same_so : (s : List Keyed) (stream : WholeStream) → WasSaid s → bare (fields_in s) ≡ bare (fields_in (schema_of stream)) → log_fields s ≡ fields_of stream
same_so s stream said same = own_of s said ∙ same ∙ sym (stream_own stream)

pub other_so : (s : List Keyed) (stream : WholeStream) → WasSaid s → (bare (fields_in s) ≡ bare (fields_in (schema_of stream)) → ⊥) → log_fields s ≡ fields_of stream → ⊥
other_so s stream said other same = other (sym (own_of s said) ∙ same ∙ stream_own stream)

pub kinds_so : (fs gs : Fields) (bs : List Batch) → have_same_kinds fs gs ≡ true → are_of gs bs ≡ true → are_of fs bs ≡ true
kinds_so fs gs [] same h = refl
kinds_so fs gs (b ∷ bs) same h =
    let both = and_parts (is_of gs b) (are_of gs bs) h in
    rw (kinds_through fs gs (columns_of (forest b.arrays)) same both.0, kinds_so fs gs bs same both.1) refl

pub kind_at : (fs : Fields) (bs : List Batch) (i : ℕ) (x : Batch) → are_of fs bs ≡ true → slice_get bs i ≡ Some x → is_of fs x ≡ true
kind_at fs [] i x h at = cc
kind_at fs (b ∷ bs) zero x h at = let same : b ≡ x = cc in subst (λ (y : Batch). is_of fs y ≡ true) same (and_parts (is_of fs b) (are_of fs bs) h).0
kind_at fs (b ∷ bs) (suc i) x h at = kind_at fs bs i x (and_parts (is_of fs b) (are_of fs bs) h).1 at

-- whether they are the same, of schemas that are handed over
pub fields_as : (a b s k : List Keyed) (r : Bool) → a ≡ s → b ≡ k → IsTrue r ↔ (bare (fields_in a) ≡ bare (fields_in b)) → r ≡ true → bare (fields_in s) ≡ bare (fields_in k)
fields_as a b s k r p q h is = ap (λ (z : List Keyed). bare (fields_in z)) (sym p) ∙ h.0 is ∙ ap (λ (z : List Keyed). bare (fields_in z)) q

pub not_same : (a b s k : List Keyed) (r : Bool) → a ≡ s → b ≡ k → IsTrue r ↔ (bare (fields_in a) ≡ bare (fields_in b)) → r ≡ false → bare (fields_in s) ≡ bare (fields_in k) → ⊥
not_same a b s k r p q h is same = let clash : true ≡ false = sym (h.1 (ap (λ (z : List Keyed). bare (fields_in z)) p ∙ same ∙ ap (λ (z : List Keyed). bare (fields_in z)) (sym q))) ∙ is in cc

pub kinds_as : (a b s k : List Keyed) → a ≡ s → b ≡ k → have_same_kinds (fields_in a) (fields_in b) ≡ true → have_same_kinds (fields_in s) (fields_in k) ≡ true
kinds_as a b s k p q h = subst (λ (z : List Keyed). have_same_kinds (fields_in z) (fields_in k) ≡ true) p (subst (λ (z : List Keyed). have_same_kinds (fields_in a) (fields_in z) ≡ true) q h)

-- no call of a disk takes no time
pub still : {D : Type 0} (moment_of : D → ℕ) (images_of : D → Images) (since_of : D → ℕ → Images) (d : D) → ((t : ℕ) (c : List ℕ) → t ≤ moment_of d → images_of d c → since_of d t c) → ((c : List ℕ) → since_of d (moment_of d) c → images_of d c) → Elapses (moment_of d) (moment_of d) (since_of d) (since_of d)
still moment_of images_of since_of d counts only = record { later = omega arith; exact = λ t c le. (λ x. inl x, λ e. ⊎_elim (λ x. x) (λ x. counts t c le (only c x)) e) }

-- ── records ──

module _ (s : List Keyed) (said : WasSaid s) (plain : plain_fields (fields_in s) ≡ fields_in s) where
  small_so : (e : IpcError) → (e ≡ errors.Memory) ⊎ (e ≡ errors.TooLarge) → IsOfRecord e
  small_so e (inl memory) = subst IsOfRecord (sym memory) tt
  small_so e (inr large) = subst IsOfRecord (sym large) tt

  floats_so : (e : IpcError) → IsAmong (floats_in (fields_in s)) e → IsOfRecord e
  floats_so e among = refused_chosen IsOfRecord (λ feature. tt) None (fields_in s) 0 e (subst (λ es. IsAmong es e) (sym (all_floats (fields_in s) 0)) among)

  writer_so : (c : StreamCore) (h : HasBegunRecord s c) → IsWriter s Bytes c
  writer_so c h = writer_of s said Bytes h.fresh c h.m h.is_fresh (λ bytes. bytes) plain h.begun

  either_so : {P : Type 0} (e : IpcError) → (e ≡ errors.Memory) ⊎ ((e ≡ errors.TooLarge) × P) → IsOfRecord e
  either_so e (inl memory) = subst IsOfRecord (sym memory) tt
  either_so e (inr large) = subst IsOfRecord (sym large.0) tt

  never_so : {P : Type 0} (e : IpcError) → (e ≡ errors.Memory) ⊎ (IsAmong (floats_in (fields_in s)) e ⊎ ((e ≡ errors.TooLarge) × P)) → IsOfRecord e
  never_so e (inl memory) = subst IsOfRecord (sym memory) tt
  never_so e (inr (inl floats)) = floats_so e floats
  never_so e (inr (inr large)) = subst IsOfRecord (sym large.0) tt

  batch_so : (e : IpcError) (batch : Option Batch) → ((x : Batch) → batch ≡ Some x → is_of (fields_in s) x ≡ true) → ((x : Batch) → batch ≡ Some x → fault_each (forest x.arrays) ≡ None) → StreamCause e s batch → IsOfRecord e
  batch_so e batch kinds sound (inl memory) = subst IsOfRecord (sym memory) tt
  batch_so e batch kinds sound (inr (inl none)) = never_so e (never_begun s said Bytes none.fresh none.is_fresh e none.cause)
  batch_so e None kinds sound (inr (inr none)) = absurd none.cause
  batch_so e (Some x) kinds sound (inr (inr none)) =
      let writer = writer_so none.core none.begun in
      elim none.cause [
        | inl mismatch ↦ absurd (mismatch.1 (suits s Bytes none.core writer x (kinds x refl) (sound x refl)))
        | inr why ↦ either_so e (stops s Bytes none.core writer x (kinds x refl) (sound x refl) e why.1)
      ]

  pub record_so : (e : IpcError) (batch : Option Batch) → ((x : Batch) → batch ≡ Some x → is_of (fields_in s) x ≡ true) → ((x : Batch) → batch ≡ Some x → fault_each (forest x.arrays) ≡ None) → RecordCause e s batch → IsOfRecord e
  record_so e batch kinds sound (inl h) = batch_so e batch kinds sound h
  record_so e batch kinds sound (inr (inl many)) = subst IsOfRecord (sym many.0) tt
  record_so e batch kinds sound (inr (inr broken)) = absurd (broken.1 (read_regular (fields_in s) said.own [] said.may))

  pub first_so : (e : IpcError) → RecordCause e s None → IsOfRecord e
  first_so e h = record_so e None (λ x is. cc) (λ x is. cc) h

  pub one_so : (e : IpcError) (x : Batch) → is_of (fields_in s) x ≡ true → fault_each (forest x.arrays) ≡ None → RecordCause e s (Some x) → IsOfRecord e
  one_so e x kinds sound h =
      record_so e (Some x) (λ y is. let same : x ≡ y = cc in subst (λ (z : Batch). is_of (fields_in s) z ≡ true) same kinds) (λ y is. let same : x ≡ y = cc in subst (λ (z : Batch). fault_each (forest z.arrays) ≡ None) same sound) h

-- ── devices ──

pub of_disk : (e : IpcError) (faults faults' wants wants' from : ℕ) → from ≤ faults → IsOfDisk e faults faults' wants wants' → IsOfWrite e from faults'
of_disk e faults faults' wants wants' from h (inl f) = subst (λ x. IsOfWrite x from faults') (sym f.0) (omega (arith, h, f.1))
of_disk e faults faults' wants wants' from h (inr w) = subst (λ x. IsOfWrite x from faults') (sym w.0) tt

pub write_before : (e : IpcError) (from faults faults' : ℕ) → from ≤ faults → IsOfWrite e faults faults' → IsOfWrite e from faults'
write_before errors.WriteFault from faults faults' h k = omega (arith, h, k)
write_before errors.Memory from faults faults' h k = tt
write_before e from faults faults' h k = absurd k

-- ── batch by batch ──

batches_on : (t : ArrowTable) (ys : List TableBatch) (x : TableBatch) → with_batch (with_batches t ys) x ≡ with_batches t (ys ++ x ∷ [])
batches_on t ys x = ap (λ bs. record t { batches = bs }) (append_assoc t.batches ys (x ∷ []))

none_more : (t : ArrowTable) → with_batches t [] ≡ t
none_more t = ap (λ bs. record t { batches = bs }) (append-nil t.batches)

pub none_so_far : (content : Option (List ℕ)) (s : List Keyed) (t : ArrowTable) → IsTableOf content s t → IsTableOf content s (with_batches t [])
none_so_far content s t h = subst (IsTableOf content s) (sym (none_more t)) h

-- what a crash leaves before anything is appended
pub none_yet : (content : Option (List ℕ)) (images : Images) (s : List Keyed) (t : ArrowTable) (xs : List TableBatch) (spans : List Span) (end : ℕ) (c : List ℕ) → IsTableOf content s t → ((b : List ℕ) → content ≡ Some b → IsSettled images b spans end) → images c → MeansFront t xs c
none_yet content images s t xs spans end c h settled left = record {
  count = 0;
  few = omega arith;
  means = subst (MeansLog c) (sym (none_more t)) (subst (λ (d : List ℕ). MeansLog d t) (sym ((settled h.b h.told).only c left)) h.means);
}

-- bytes that mean a table mean it with none of more batches
pub front_of_none : (b c : List ℕ) (t : ArrowTable) (xs : List TableBatch) → MeansLog b t → c ≡ b → MeansFront t xs c
front_of_none b c t xs m is = record { count = 0; few = omega arith; means = subst (MeansLog c) (sym (none_more t)) (subst (λ (d : List ℕ). MeansLog d t) (sym is) m) }

module _ (bs : List Batch) (i : ℕ) (x : Batch) (at : slice_get bs i ≡ Some x) where
  abbrev xs : List TableBatch
  xs = map cells_of bs

  cells_at : slice_get xs i ≡ Some (cells_of x)
  cells_at = slice_get-map cells_of bs i ∙ ap (λ o. option_map cells_of o) at

  grown : take (i + 1) xs ≡ take i xs ++ cells_of x ∷ []
  grown = take_next xs i (cells_of x) cells_at

  more_is : (t : ArrowTable) → with_batch (with_batches t (take i xs)) (cells_of x) ≡ with_batches t (take (i + 1) xs)
  more_is t = batches_on t (take i xs) (cells_of x) ∙ ap (with_batches t) (sym grown)

  pub one_more : (content : Option (List ℕ)) (images : Images) (s : List Keyed) (t : ArrowTable) → KeepsTable content images s (with_batch (with_batches t (take i xs)) (cells_of x)) → IsTableOf content s (with_batches t (take (i + 1) xs))
  one_more content images s t k = subst (IsTableOf content s) (more_is t) k.table

  pub next_means : (t : ArrowTable) (c : List ℕ) → MeansBeforeOrAfter (with_batches t (take i xs)) (cells_of x) c → MeansLog c (with_batches t (take i xs)) ⊎ MeansLog c (with_batches t (take (i + 1) xs))
  next_means t c (inl h) = inl h
  next_means t c (inr h) = inr (subst (MeansLog c) (more_is t) h)

  inside : i < length bs
  inside = below bs i at
    where
      below : {A : Type 0} (ys : List A) (k : ℕ) {y : A} → slice_get ys k ≡ Some y → k < length ys
      below [] k h = cc
      below (y ∷ ys) zero h = omega arith
      below (y ∷ ys) (suc k) h = omega (arith, below ys k h)

  pub next_front : (t : ArrowTable) (c : List ℕ) → MeansBeforeOrAfter (with_batches t (take i xs)) (cells_of x) c → MeansFront t xs c
  next_front t c h =
      let many = length-map bs cells_of in
      ⊎_elim (λ before. record { count = i; few = omega (arith, inside, many); means = before }) (λ after. record { count = i + 1; few = omega (arith, inside, many); means = after }) (next_means t c h)

  -- what stands there behind a disk that failed
  pub next_content : (t : ArrowTable) (content : Option (List ℕ)) → ((c : List ℕ) → content ≡ Some c → MeansBeforeOrAfter (with_batches t (take i xs)) (cells_of x) c) → MeansNext t xs i content
  next_content t None h = tt
  next_content t (Some c) h = next_means t c (h c refl)

-- an item of a list
pub item_at : (bs : List Batch) (i : ℕ) (x : Batch) → i < length bs → x ≡ get_or bs i x → slice_get bs i ≡ Some x
item_at bs i x less is = slice_get-get_or bs i x less ∙ ap (λ y. Some y) (sym is)

-- of what a refusal leaves, that the disk is as it was
pub cause_as : {A B C D E F : Type 0} → (A × B × C × D × E) ⊎ F → (A × B) ⊎ F
cause_as (inl (a, b, c, d, e)) = inl (a, b)
cause_as (inr f) = inr f

-- why a log stops behind some of the first batches
pub stops_at : (bs : List Batch) (i : ℕ) (x : Batch) (at : slice_get bs i ≡ Some x) (s z : List Keyed) (said : WasSaid s) (plain : plain_fields (fields_in s) ≡ fields_in s) (kinds : are_of (fields_in s) bs ≡ true) (sound : fault_each (forest x.arrays) ≡ None) (old mid new : Option (List ℕ)) (from faults faults' wants wants' : ℕ) (failed : Bool) (same others : Type 0) (e : IpcError)
    → z ≡ s → from ≤ faults → failed ≡ false → (same → new ≡ mid) → ((t : ArrowTable) → IsTableOf old s t → IsTableOf mid s (with_batches t (take i (map cells_of bs))))
    → ((t : ArrowTable) → IsTableOf old s t → (c : List ℕ) → new ≡ Some c → MeansBeforeOrAfter (with_batches t (take i (map cells_of bs))) (cells_of x) c)
    → ((((e ≡ errors.State) × (failed ≡ true)) ⊎ ((failed ≡ false) × RecordCause e z (Some x))) × same) ⊎ (others × IsOfDisk e faults faults' wants wants')
    → StopsBatches e s bs old new from faults'
stops_at bs i x at s z said plain kinds sound old mid new from faults faults' wants wants' failed same others e is later ready kept held left (inl (inl never, k)) = let clash : true ≡ false = sym never.1 ∙ ready in cc
stops_at bs i x at s z said plain kinds sound old mid new from faults faults' wants wants' failed same others e is later ready kept held left (inl (inr cause, k)) =
    let own : RecordCause e s (Some x) = subst (λ (y : List Keyed). RecordCause e y (Some x)) is cause.1 in
    StopsBatches.at_batch i {x = x} at own (one_so s said plain e x (kind_at (fields_in s) bs i x kinds at) sound own) (λ t h. subst (λ o. IsTableOf o s (with_batches t (take i (map cells_of bs)))) (sym (kept k)) (held t h))
stops_at bs i x at s z said plain kinds sound old mid new from faults faults' wants wants' failed same others e is later ready kept held left (inr (k, write)) =
    StopsBatches.in_batch i (inside bs i x at) (of_disk e faults faults' wants wants' from later write) (λ t h. next_content bs i x at t new (left t h))

-- all of them
pub all_so_far : (content : Option (List ℕ)) (s : List Keyed) (t : ArrowTable) (bs : List Batch) (i : ℕ) → length bs ≤ i → IsTableOf content s (with_batches t (take i (map cells_of bs))) → IsTableOf content s (with_batches t (map cells_of bs))
all_so_far content s t bs i h k = subst (λ ys. IsTableOf content s (with_batches t ys)) (take_all i (map cells_of bs) (omega (arith, h, length-map bs cells_of))) k

-- a log that has not failed keeps what it has
pub keeps_so : (content : Option (List ℕ)) (images : Images) (s : List Keyed) (t : ArrowTable) (spans : List Span) (end : ℕ) → IsTableOf content s t → ((b : List ℕ) → content ≡ Some b → IsSettled images b spans end) → KeepsTable content images s t
keeps_so content images s t spans end h settled = record { table = h; durable = λ c left. subst (λ (d : List ℕ). MeansLog d t) (sym ((settled h.b h.told).only c left)) h.means }

-- ── the whole ──

empty_means_none : (t : ArrowTable) → MeansLog [] t → ⊥
unfolding log_records
empty_means_none t m = let never : None ≡ Some m.records = m.framed in cc

pub none_there : (b : List ℕ) (t : ArrowTable) → b ≡ [] → MeansLog b t → ⊥
none_there b t is m = empty_means_none t (subst (λ (c : List ℕ). MeansLog c t) is m)

pub empty_so : (b : List ℕ) → 0 ≡ length b → b ≡ []
empty_so [] h = refl
empty_so (x ∷ b) h = absurd (omega (arith, h))

-- where the size that is told is 0 there are no bytes
pub empty_at : (content : Option (List ℕ)) (b : List ℕ) → IsSize content 0 → content ≡ Some b → b ≡ []
empty_at None b h told = cc
empty_at (Some c) b h told = let same : c ≡ b = cc in empty_so b (h ∙ ap length same)

-- the table on which a log was begun or opened
module _ (s : List Keyed) (stream : WholeStream) (b : List ℕ) where
  pub before_so : (t : ArrowTable) → IsBegun b s t → t.fields ≡ fields_of stream → log_fields s ≡ fields_of stream → IsBefore b (fields_of stream) t
  before_so t (inl h) fields same = inl (h.0, h.1 ∙ ap (λ (fs : Fields). table_of fs []) same)
  before_so t (inr m) fields same = inr (m, fields)

  pub same_table : (t u : ArrowTable) → IsBegun b s t → MeansLog b u → t ≡ u
  same_table t u (inl h) m = absurd (none_there b u h.0 m)
  same_table t u (inr k) m = one_meaning b t u k m

module _ (old mid new : Option (List ℕ)) (images images' : Images) (s : List Keyed) (stream : WholeStream) (begun : (b : List ℕ) → old ≡ Some b → (t : ArrowTable) × IsBegun b s t × KeepsTable mid images s t) where
  -- all were appended
  pub appended : ((t : ArrowTable) → IsTableOf mid s t → (t.fields ≡ fields_of stream) × KeepsTable new images' s (with_batches t (batches_of stream))) → (b : List ℕ) → old ≡ Some b → HasAppended b (fields_of stream) (batches_of stream) new images'
  appended done b told =
      let h = begun b told in
      let k = done h.0 h.2.table in
      record {
        table = h.0;
        before = before_so s stream b h.0 h.1 k.0 (sym h.2.table.fields ∙ k.0);
        now = k.1.table.b;
        told = k.1.table.told;
        means = k.1.table.means;
        durable = k.1.durable;
      }

  -- since then a crash leaves some of them
  pub front_so : (b : List ℕ) (t : ArrowTable) (c : List ℕ) → old ≡ Some b → MeansLog b t → ((u : ArrowTable) → IsTableOf mid s u → MeansFront u (batches_of stream) c) → MeansFront t (batches_of stream) c
  front_so b t c told m front =
      let h = begun b told in
      subst (λ (u : ArrowTable). MeansFront u (batches_of stream) c) (same_table s stream b h.0 t h.1 m) (front h.0 h.2.table)

  -- or it stops
  pub stops_so : (e : IpcError) (from faults faults' : ℕ) → from ≤ faults → WasSaid (schema_of stream) → (s ≡ schema_of stream) ⊎ (mid ≡ old) → StopsEach e stream s mid new faults faults' → StopsAppend e stream old new from faults'
  stops_so e from faults faults' later said (inl own) (inl (is, other, same)) = absurd (other (ap log_fields own ∙ stream_fields stream said))
  stops_so e from faults faults' later said (inr kept) (inl (is, other, same)) =
      StopsAppend.at_fields is (λ b t told m fields. let h = begun b told in other (sym h.2.table.fields ∙ ap (λ (u : ArrowTable). u.fields) (same_table s stream b h.0 t h.1 m) ∙ fields)) (same ∙ kept)
  stops_so e from faults faults' later said kept (inr (fields, StopsBatches.at_batch count {x = x} at cause small means)) =
      StopsAppend.at_batch {schema = s} count {x = x} fields at cause small (λ b told.
      let h = begun b told in
      let k = means h.0 h.2.table in (
        h.0,
        before_so s stream b h.0 h.1 (h.2.table.fields ∙ fields) fields,
        subst (λ o. IfSome o (λ c. MeansLog c (with_batches h.0 (take count (batches_of stream))))) (sym k.told) k.means,
      ))
  stops_so e from faults faults' later said kept (inr (fields, StopsBatches.in_batch count less write means)) =
      StopsAppend.in_batch count less (write_before e from faults faults' later write) (λ b told.
      let h = begun b told in (
        h.0,
        before_so s stream b h.0 h.1 (h.2.table.fields ∙ fields) fields,
        means h.0 h.2.table,
      ))

-- whatever the appends answer
pub done_if : (r : Result (Unit {0}) IpcError) (old mid new : Option (List ℕ)) (images images' : Images) (s : List Keyed) (stream : WholeStream) → ((b : List ℕ) → old ≡ Some b → (t : ArrowTable) × IsBegun b s t × KeepsTable mid images s t)
    → OnOk r ((t : ArrowTable) → IsTableOf mid s t → (t.fields ≡ fields_of stream) × KeepsTable new images' s (with_batches t (batches_of stream))) → OnOk r (IfSome old (λ b. HasAppended b (fields_of stream) (batches_of stream) new images'))
done_if (Err e) old mid new images images' s stream begun done = tt
done_if (Ok u) None mid new images images' s stream begun done = tt
done_if (Ok u) (Some b) mid new images images' s stream begun done = appended (Some b) mid new images images' s stream begun done b refl

pub stops_if : (r : Result (Unit {0}) IpcError) (old mid new : Option (List ℕ)) (images : Images) (s : List Keyed) (stream : WholeStream) → ((b : List ℕ) → old ≡ Some b → (t : ArrowTable) × IsBegun b s t × KeepsTable mid images s t) → (from faults faults' : ℕ) → from ≤ faults → WasSaid (schema_of stream) → (s ≡ schema_of stream) ⊎ (mid ≡ old)
    → IfErr r (λ e. StopsEach e stream s mid new faults faults') → IfErr r (λ e. StopsAppend e stream old new from faults')
stops_if (Ok u) old mid new images s stream begun from faults faults' later said kept stops = tt
stops_if (Err e) old mid new images s stream begun from faults faults' later said kept stops = stops_so old mid new images images s stream begun e from faults faults' later said kept stops

pub not_begun : (e : IpcError) (stream : WholeStream) (old new : Option (List ℕ)) (faults faults' : ℕ) → LogRefused e (schema_of stream) old new faults faults' → StopsAppend e stream old new faults faults'
not_begun e stream old new faults faults' (inl h) = StopsAppend.at_log h.0 h.1
not_begun e stream old new faults faults' (inr h) = StopsAppend.in_log h

-- ── a log that is not opened, or not begun ──

pub created_not : (e : IpcError) (s : List Keyed) (old new : Option (List ℕ)) (from faults faults' wants wants' : ℕ) (same : Type 0) → from ≤ faults → ((b : List ℕ) → old ≡ Some b → b ≡ []) → (RecordCause e s None → IsOfRecord e) → (same → new ≡ old) → (RecordCause e s None × same) ⊎ IsOfDisk e faults faults' wants wants' → LogRefused e s old new from faults'
created_not e s old new from faults faults' wants wants' same later empty small kept (inl h) = inl (NoLog.not_begun empty h.0 (small h.0), kept h.1)
created_not e s old new from faults faults' wants wants' same later empty small kept (inr h) = inr (of_disk e faults faults' wants wants' from later h)

pub opened_not : (e : IpcError) (s : List Keyed) (old mid new : Option (List ℕ)) (from faults faults' wants wants' : ℕ) → from ≤ faults → mid ≡ old → (old ≡ Some [] → ⊥)
    → (e ≡ errors.Memory) ⊎ (IsOfDisk e faults faults' wants wants' ⊎ (((e ≡ errors.ReadFault) × Rose faults faults') ⊎ ((e ≡ invalid_log) × ((b : List ℕ) (t : ArrowTable) → mid ≡ Some b → MeansLog b t → ⊥))))
    → IsOfDisk e faults faults' wants wants' ⊎ (new ≡ mid) → LogRefused e s old new from faults'
opened_not e s old mid new from faults faults' wants wants' later same some cause (inl h) = inr (of_disk e faults faults' wants wants' from later h)
opened_not e s old mid new from faults faults' wants wants' later same some (inl memory) (inr kept) = inl (NoLog.no_memory memory, kept ∙ same)
opened_not e s old mid new from faults faults' wants wants' later same some (inr (inl h)) (inr kept) = inr (of_disk e faults faults' wants wants' from later h)
opened_not e s old mid new from faults faults' wants wants' later same some (inr (inr (inl fault))) (inr kept) = inl (NoLog.not_read fault.0 (omega (arith, later, fault.1)), kept ∙ same)
opened_not e s old mid new from faults faults' wants wants' later same some (inr (inr (inr none))) (inr kept) = inl (NoLog.no_log none.0 some (λ b t told. none.1 b t (same ∙ told)), kept ∙ same)
