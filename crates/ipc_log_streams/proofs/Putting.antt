-- A batch of a log that is put behind others, or is not.
use Rattle.std.proofs.Common.{◌≡◌, ◌∙◌, ◌⊎◌, inl, inr, ℕ, zero, suc, ◌+◌, ◌≤◌, List, [], ◌∷◌, ◌++◌, length, take, Bool, true, false, Option, Some, None, Err, refl, sym, ap, subst, arith, add-one}
use Rattle.std.specs.Prelude.{slice_get}
use Rattle.std.proofs.KnownBytes.{Appends-kept}
use Rattle.std.proofs.lemmas.List.{take_all}
use Rattle.arrow_spec.specs.declared.error.IpcError.{IpcError}
use Rattle.arrow_spec.specs.declared.error.IpcError.TheVariants as errors
use Rattle.arrow_spec.specs.Files.{ArrowTable, TableBatch}
use Rattle.arrow_spec.specs.Kinds.{Fields, have_same_kinds}
use Rattle.arrow_types.specs.Schemas.{Keyed, fields_in}
use Rattle.arrow_arrays.specs.Batches.{Batch}
use Rattle.arrow_arrays.specs.Columns.{columns_of}
use Rattle.arrow_arrays.specs.Parts.{fault_each, forest}
use Rattle.ipc_tablelog.specs.Below.{is_of, log_fields}
use Rattle.ipc_bodies.specs.Encodings.{text_of}
use Rattle.ipc_bodies.specs.Puts.{Moved, PutsPart}
use Rattle.ipc_bodies.specs.declared.encoding.Encoding.{Encoding}
use Rattle.ipc_concat.proofs.Writing.{NotWritten, going_on, not_written}
use Rattle.ipc_fields.specs.Causes.{IsOfBytes}
use Rattle.ipc_io.specs.Outside.{Rose}
use Rattle.ipc_concat.specs.Below.{cells_of, chunk_text, HasWritten, Writes, IsWritten, table_with, StreamCore, IsWriter}
use Rattle.laws_logs.specs.Tables.{MeansLog, table_of}
use Rattle.ipc_concat.proofs.Below.{Appends-text, of_put, part_behind, put_before, with_batch}
use Rattle.ipc_tablelog.specs.TableLogs.{IsTableOf}
use Rattle.ipc_log_streams.specs.Streams.{HasPut, IsFront, IsOfRead, PutCause, StopsPut, first_of, no_pairs}
use Rattle.ipc_log_streams.proofs.Writers.{stream_as}

-- ── a table and its fronts ──

module _ (content : Option (List ℕ)) (s : List Keyed) (t : ArrowTable) (h : IsTableOf content s t) where
  own_table : (m : MeansLog h.b t) → table_of t.fields t.batches ≡ t
  own_table m = subst (λ (u : ArrowTable). table_of u.fields u.batches ≡ u) (sym m.is) refl

  -- the table is that of its log's fields and of its batches
  pub table_is : table_of (log_fields s) t.batches ≡ t
  table_is = ap (λ (fs : Fields). table_of fs t.batches) (sym h.fields) ∙ own_table h.means

  pub whole_is : (w : StreamCore) → w.schema ≡ s → table_with no_pairs w t.batches ≡ t
  whole_is w is = stream_as s w t.batches is ∙ table_is

  pub front_is : (w : StreamCore) (i : ℕ) → w.schema ≡ s → table_with no_pairs w (take i t.batches) ≡ first_of t i
  front_is w i is = stream_as s w (take i t.batches) is ∙ ap (λ (u : ArrowTable). first_of u i) table_is

  -- what was put is a front
  pub is_front : (encoding : Encoding) (before now : Option (List ℕ)) (w : StreamCore) (i : ℕ) → w.schema ≡ s → (p : HasPut encoding before now w (take i t.batches)) → IsFront t i p.bytes
  is_front encoding before now w i is p = record { not_ended = p.written.not_ended; means = p.written.means ∙ ap (λ (u : ArrowTable). Some u) (front_is w i is) }

take_suc : {A : Type 0} (xs : List A) (i : ℕ) (x : A) → slice_get xs i ≡ Some x → take (suc i) xs ≡ take i xs ++ x ∷ []
take_suc [] i x h = cc
take_suc (y ∷ ys) zero x h = let same : y ≡ x = cc in ap (λ z. z ∷ []) same
take_suc (y ∷ ys) (suc i) x h = ap (λ zs. y ∷ zs) (take_suc ys i x h)

pub take_next : {A : Type 0} (xs : List A) (i : ℕ) (x : A) → slice_get xs i ≡ Some x → take (i + 1) xs ≡ take i xs ++ x ∷ []
take_next xs i x h = rw add-one (take_suc xs i x h)

-- ── a batch ──

module _ (content : Option (List ℕ)) (s : List Keyed) (w w' : StreamCore) (m : Moved) (y : Batch) (i : ℕ) (writer : IsWriter s w.encoding w) where
  -- it was put
  pub next_put : HasWritten (text_of w.encoding) m w w' y None → (t : ArrowTable) (before : Option (List ℕ)) → slice_get t.batches i ≡ Some (cells_of y) → HasPut w.encoding before m.old w (take i t.batches) → HasPut w.encoding before m.new w' (take (i + 1) t.batches)
  next_put k t before at p = record {
    bytes = p.bytes ++ chunk_text k.sends.sent y;
    written = subst (IsWritten no_pairs w' (p.bytes ++ chunk_text k.sends.sent y)) (sym (take_next t.batches i (cells_of y) at)) (k.written no_pairs p.bytes (take i t.batches) p.written);
    added = Appends-text w.encoding before m.old m.new p.bytes (chunk_text k.sends.sent y) p.added k.sends.appended;
  }

  pub next_writer : HasWritten (text_of w.encoding) m w w' y None → IsWriter s w.encoding w'
  next_writer k = going_on s w.encoding w w' k.sends.state k.sends.stays writer

  -- it was read, and not put
  module _ (kinds : is_of (fields_in s) y ≡ true) (sound : fault_each (forest y.arrays) ≡ None) where
    own_kinds : have_same_kinds (fields_in w.schema) (columns_of (forest y.arrays)) ≡ true
    own_kinds = ap (λ (k : List Keyed). is_of (fields_in k) y) writer.schema ∙ kinds

    stopped : (e : IpcError) → NotWritten (text_of w.encoding) m e w w' y → (t : ArrowTable) (before : Option (List ℕ)) → IsTableOf content s t → slice_get t.batches i ≡ Some (cells_of y) → HasPut w.encoding before m.old w (take i t.batches) → StopsPut e t w.encoding before m.new m.wants m.wants_now
    stopped e (NotWritten.before_put (inl memory) kept) t before h at p =
        StopsPut.behind {count = i} {bytes = p.bytes} (is_front content s t h w.encoding before m.old w i writer.schema p) (Appends-kept before m.old m.new (text_of w.encoding p.bytes) p.added kept) (inl (subst IsOfRead (sym memory) tt))
    stopped e (NotWritten.before_put (inr large) kept) t before h at p =
        StopsPut.behind {count = i} {bytes = p.bytes} (is_front content s t h w.encoding before m.old w i writer.schema p) (Appends-kept before m.old m.new (text_of w.encoding p.bytes) p.added kept) (inr (
          large.0,
          record { writer = w; options = writer.options; bytes = p.bytes; written = p.written; batch = y; next = at; sending = large.1.sending; found = large.1.found; large = large.1.large },
        ))
    stopped e (NotWritten.in_put f) t before h at p =
        let more = chunk_text f.sends.sending.sent y in
        let on = with_batch no_pairs w y f.sends.sending p.bytes (take i t.batches) f.sends.is_found f.sends.may own_kinds p.written in
        let front : IsFront t (i + 1) (p.bytes ++ more) = record {
          not_ended = on.going;
          means = on.means ∙ ap (λ xs. Some (table_with no_pairs w xs)) (sym (take_next t.batches i (cells_of y) at)) ∙ ap (λ (u : ArrowTable). Some u) (front_is content s t h w (i + 1) writer.schema);
        } in
        StopsPut.in_put {bytes = p.bytes ++ more} (inr (i + 1, front)) (of_put e m (text_of w.encoding more) f.sends.failed.put) (part_behind w.encoding before e m p.bytes more p.added f.sends.failed.put)

    pub next_stopped : (e : IpcError) → Writes (text_of w.encoding) m (Err e) w w' y None → (t : ArrowTable) (before : Option (List ℕ)) → IsTableOf content s t → slice_get t.batches i ≡ Some (cells_of y) → HasPut w.encoding before m.old w (take i t.batches) → StopsPut e t w.encoding before m.new m.wants m.wants_now
    next_stopped e k = stopped e (not_written s w.encoding w w' m e y writer kinds sound k)

    pub next_cause : (e : IpcError) (reads reads' : ℕ) → Writes (text_of w.encoding) m (Err e) w w' y None → PutCause e reads reads' m.faults m.faults_now
    next_cause e reads reads' k = by (not_written s w.encoding w w' m e y writer kinds sound k)
      where
        of_part : (f : IpcError) (bs : List ℕ) → PutsPart m f bs → PutCause f reads reads' m.faults m.faults_now
        of_part errors.WriteFault bs p = inr p.2
        of_part errors.Memory bs p = tt
        of_part f bs p = absurd p

        by : NotWritten (text_of w.encoding) m e w w' y → PutCause e reads reads' m.faults m.faults_now
        by (NotWritten.before_put (inl memory) kept) = subst (λ f. PutCause f reads reads' m.faults m.faults_now) (sym memory) tt
        by (NotWritten.before_put (inr large) kept) = subst (λ f. PutCause f reads reads' m.faults m.faults_now) (sym large.0) tt
        by (NotWritten.in_put f) = of_part e _ f.sends.failed.put

-- ── a batch that is not read ──

-- why it is not
abbrev pub ReadCause : IpcError → Bool → Option (List ℕ) → List Keyed → ℕ → ℕ → Type 0
ReadCause e failed content s faults faults' = ((e ≡ errors.State) × (failed ≡ true)) ⊎ ((e ≡ errors.Memory) ⊎ (((e ≡ errors.ReadFault) × Rose faults faults') ⊎ (IsOfBytes e × ((t : ArrowTable) → IsTableOf content s t → ⊥))))

module _ (e : IpcError) (failed : Bool) (content : Option (List ℕ)) (s : List Keyed) (faults faults' : ℕ) (ready : failed ≡ false) where
  is_of_read : ReadCause e failed content s faults faults' → (t : ArrowTable) → IsTableOf content s t → IsOfRead e
  is_of_read (inl never) t h = let clash : true ≡ false = sym never.1 ∙ ready in cc
  is_of_read (inr (inl memory)) t h = subst IsOfRead (sym memory) tt
  is_of_read (inr (inr (inl fault))) t h = subst IsOfRead (sym fault.0) tt
  is_of_read (inr (inr (inr other))) t h = absurd (other.1 t h)

  pub not_read : ReadCause e failed content s faults faults' → (w : StreamCore) (i : ℕ) (now : Option (List ℕ)) (wants wants' : ℕ) → w.schema ≡ s → (t : ArrowTable) (before : Option (List ℕ)) → IsTableOf content s t → HasPut w.encoding before now w (take i t.batches) → StopsPut e t w.encoding before now wants wants'
  not_read cause w i now wants wants' is t before h p = StopsPut.behind {count = i} {bytes = p.bytes} (is_front content s t h w.encoding before now w i is p) p.added (inl (is_of_read cause t h))

  pub read_cause : ReadCause e failed content s faults faults' → (writes writes' : ℕ) → PutCause e faults faults' writes writes'
  read_cause (inl never) writes writes' = let clash : true ≡ false = sym never.1 ∙ ready in cc
  read_cause (inr (inl memory)) writes writes' = subst (λ f. PutCause f faults faults' writes writes') (sym memory) tt
  read_cause (inr (inr (inl fault))) writes writes' = subst (λ f. PutCause f faults faults' writes writes') (sym fault.0) fault.1
  read_cause (inr (inr (inr other))) writes writes' = by e other.0
    where
      by : (f : IpcError) → IsOfBytes f → PutCause f faults faults' writes writes'
      by (errors.OutOfSpec kind) k = tt
      by (errors.Unsupported feature) k = tt
      by (errors.TooMany counted) k = tt
      by errors.TooDeep k = tt
      by errors.Memory k = tt
      by f k = absurd k

-- a cause by counts, seen from further before
pub cause_before : (e : IpcError) (reads reads' mid mid' writes writes' : ℕ) → reads ≤ mid → writes ≤ mid' → PutCause e mid reads' mid' writes' → PutCause e reads reads' writes writes'
cause_before errors.ReadFault reads reads' mid mid' writes writes' h k c = omega (arith, h, c)
cause_before errors.WriteFault reads reads' mid mid' writes writes' h k (inl c) = inl (omega (arith, h, c))
cause_before errors.WriteFault reads reads' mid mid' writes writes' h k (inr c) = inr (omega (arith, k, c))
cause_before errors.State reads reads' mid mid' writes writes' h k c = c
cause_before errors.SchemaMismatch reads reads' mid mid' writes writes' h k c = c
cause_before (errors.Projection index) reads reads' mid mid' writes writes' h k c = c
cause_before (errors.DictionaryReplaced id) reads reads' mid mid' writes writes' h k c = c
cause_before errors.NotRepresentable reads reads' mid mid' writes writes' h k c = c
cause_before errors.Memory reads reads' mid mid' writes writes' h k c = tt
cause_before errors.TooLarge reads reads' mid mid' writes writes' h k c = tt
cause_before errors.TooDeep reads reads' mid mid' writes writes' h k c = tt
cause_before (errors.OutOfSpec kind) reads reads' mid mid' writes writes' h k c = tt
cause_before (errors.Unsupported feature) reads reads' mid mid' writes writes' h k c = tt
cause_before (errors.TooMany counted) reads reads' mid mid' writes writes' h k c = tt

-- and what was put before it stopped
pub stops_before : (e : IpcError) (t : ArrowTable) (encoding : Encoding) (before now : Option (List ℕ)) (wants mid wants' : ℕ) → wants ≤ mid → StopsPut e t encoding before now mid wants' → StopsPut e t encoding before now wants wants'
stops_before e t encoding before now wants mid wants' h (StopsPut.behind {count = count} {bytes = bytes} front added why) = StopsPut.behind {count = count} {bytes = bytes} front added why
stops_before e t encoding before now wants mid wants' h (StopsPut.in_put {bytes = bytes} piece put part) = StopsPut.in_put {bytes = bytes} piece (put_before e wants mid wants' h put) part

-- ── the same under equal names ──

pub table_on : (content content' : Option (List ℕ)) (s s' : List Keyed) (t : ArrowTable) → content' ≡ content → s' ≡ s → IsTableOf content s t → IsTableOf content' s' t
table_on content content' s s' t is same h = subst (λ o. IsTableOf o s' t) (sym is) (subst (λ k. IsTableOf content k t) (sym same) h)

pub put_as : (a b : Encoding) (before now : Option (List ℕ)) (w : StreamCore) (xs : List TableBatch) → a ≡ b → HasPut a before now w xs → HasPut b before now w xs
put_as a b before now w xs is p = subst (λ e. HasPut e before now w xs) is p

pub stops_as : (e : IpcError) (t : ArrowTable) (a b : Encoding) (before now : Option (List ℕ)) (wants wants' : ℕ) → a ≡ b → StopsPut e t a before now wants wants' → StopsPut e t b before now wants wants'
stops_as e t a b before now wants wants' is p = subst (λ x. StopsPut e t x before now wants wants') is p

pub writer_as : (s s' : List Keyed) (a b : Encoding) (w : StreamCore) → s' ≡ s → b ≡ a → IsWriter s a w → IsWriter s' b w
writer_as s s' a b w same is h = subst (λ k. IsWriter k b w) (sym same) (subst (λ e. IsWriter s e w) (sym is) h)

-- all batches were put
pub all_put : (encoding : Encoding) (before now : Option (List ℕ)) (w : StreamCore) (t : ArrowTable) (i : ℕ) → length t.batches ≤ i → HasPut encoding before now w (take i t.batches) → HasPut encoding before now w t.batches
all_put encoding before now w t i h p = subst (HasPut encoding before now w) (take_all i t.batches h) p
