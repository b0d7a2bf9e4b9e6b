-- The next batch of a file, read and then written, or refused.
use Rattle.std.proofs.Common.{◌≡◌, ◌∙◌, ◌⊎◌, sym, refl, ap, inl, inr, ℕ, suc, ◌+◌, ◌≤◌, List, [], ◌∷◌, ◌++◌, length, true, Option, Some, None, Result, Ok, Err, subst, add-one, append_assoc}
use Rattle.std.specs.Prelude.{IfErr, IfOk, IfSome}
use Rattle.std.specs.Io.KnownBytes.{Appends, Keeps}
use Rattle.std.specs.Rc.{rc_value}
use Rattle.std.proofs.KnownBytes.{Appends-kept}
use Rattle.std.proofs.lemmas.List.{length-append, length-map}
use Rattle.arrow_spec.specs.declared.error.IpcError.{IpcError}
use Rattle.arrow_spec.specs.declared.error.IpcError.TheVariants as errors
use Rattle.arrow_spec.specs.Files.{TableBatch, «all», file_reading, to_read}
use Rattle.arrow_spec.specs.Kinds.{have_same_kinds}
use Rattle.arrow_types.specs.Schemas.{Keyed, fields_in}
use Rattle.arrow_arrays.specs.Batches.{Batch}
use Rattle.arrow_arrays.specs.Parts.{fault_each, forest}
use Rattle.arrow_arrays.specs.Columns.{columns_of}
use Rattle.ipc_io.specs.Outside.{Rose}
use Rattle.ipc_bodies.specs.Encodings.{text_of}
use Rattle.ipc_bodies.specs.Puts.{Moved, PutsPart}
use Rattle.laws_walk.proofs.Below.{kinds_of_schema}
use Rattle.same_fields.proofs.OneKind.{kinds_through}
use Rattle.laws_walk.specs.Below.{FileCause, FileMetadata, HasFields, file_block, meta_view, schema_shown, table_of, NextBatch, FileCursor, cells_of, chunk_text, counted, WriteFailed, Writes}
use Rattle.laws_walk.specs.Places.{IsReadBy, Walked, place_of, walking}
use Rattle.laws_walk.proofs.Cursors.{answered, next_none as none_walked, next_refused as walk_refused, read_on, reads_too}
use Rattle.laws_walk.proofs.Fronts.{of_put, part_behind}
use Rattle.laws_walk.proofs.Nexts.{with_batch}
use Rattle.ipc_concat.specs.Concat.{CauseOf}
use Rattle.ipc_concat.specs.Files.{AddsNext, HasReadBlocks, Holds, IsGoing, IsPut, IsReaderOf, NextAdded, NextTooLarge, Start, StopsFile, StopsNext, part_of, schema_of, whole_file, with_batches}
use Rattle.ipc_concat.specs.declared.stream.JoinedStream.{JoinedStream}
use Rattle.ipc_concat.proofs.Blocks.{call_stops, may_all, opened, part_read}
use Rattle.ipc_concat.proofs.Walks.{IsLargeFor, suits}
use Rattle.ipc_concat.proofs.Writing.{NotWritten, head_at, held_on, not_written, write_cause}

-- ── a reader ──

-- why metadata or a batch is not read
pub read_cause : (e : IpcError) (faults faults' : ℕ) (writes : Type 0) → FileCause e faults faults' → CauseOf (Rose faults faults') writes e
read_cause errors.ReadFault faults faults' writes h = h
read_cause errors.WriteFault faults faults' writes h = absurd h
read_cause errors.State faults faults' writes h = h
read_cause (errors.Projection index) faults faults' writes h = h
read_cause (errors.DictionaryReplaced id) faults faults' writes h = h
read_cause errors.NotRepresentable faults faults' writes h = h
read_cause errors.Memory faults faults' writes h = tt
read_cause errors.TooLarge faults faults' writes h = tt
read_cause errors.SchemaMismatch faults faults' writes h = tt
read_cause errors.TooDeep faults faults' writes h = tt
read_cause (errors.OutOfSpec kind) faults faults' writes h = tt
read_cause (errors.Unsupported feature) faults faults' writes h = tt
read_cause (errors.TooMany counted) faults faults' writes h = tt

pub read_fails : {X : Type 0} (r : Result X IpcError) (e : IpcError) (faults faults' : ℕ) (writes : Type 0) → r ≡ Err e → FileCause e faults faults' → IfErr r (λ e. CauseOf (Rose faults faults') writes e)
read_fails r e faults faults' writes is h = subst (λ z. IfErr z (λ e. CauseOf (Rose faults faults') writes e)) (sym is) (read_cause e faults faults' writes h)

-- a file has as many blocks as are given
pub blocks_as : (c : FileCursor) → length (meta_view c.metadata).blocks ≡ length c.metadata.blocks.items
blocks_as c = length-map c.metadata.blocks.items file_block

-- what stands there
pub is_put : (x : Start) (b : List ℕ) (c : FileCursor) (st : JoinedStream) (now : Option (List ℕ)) (before xs : List TableBatch) → HasReadBlocks b c xs → (h : Holds x st now (before ++ xs)) → IsPut x b c.metadata before xs h.bytes
is_put x b c st now before xs read h = record {
  read = part_read b c xs read;
  not_ended = h.written.not_ended;
  stream = h.written.means ∙ ap Some (head_at x h.pairs st.writer (before ++ xs) h.head);
}

-- of the same file
pub reads_same : (b : List ℕ) (c c' : FileCursor) (xs : List TableBatch) → c'.metadata ≡ c.metadata → c'.projection ≡ c.projection → IsReadBy c (whole_file b c.metadata) → Walked to_read (walking (whole_file b c.metadata)) (place_of c') xs → HasReadBlocks b c' xs
reads_same b c c' xs metadata projection by walked = record {
  by = subst (λ m. IsReadBy c' (whole_file b m)) (sym metadata) (reads_too c c' (whole_file b c.metadata) metadata projection by);
  walked = subst (λ m. Walked to_read (walking (whole_file b m)) (place_of c') xs) (sym metadata) walked;
}

module _ {S : Type 0} (content_of : S → Option (List ℕ)) (faults_of fetched_of : S → ℕ) (references_of : S → List ℕ) (s s' : S) (c c' : FileCursor) (st : JoinedStream) (now : Option (List ℕ)) where
  abbrev Next : Option (Result Batch IpcError) → Type 0
  Next r = NextBatch content_of faults_of fetched_of references_of s s' c c' r

  -- what is said of a call where the source's bytes are told
  abbrev pub Told : (Start → List ℕ → List TableBatch → List TableBatch → Type 0) → Type 0
  Told P = IfSome (content_of s) (λ b. (x : Start) (before xs : List TableBatch) → x.encoding ≡ st.writer.encoding → HasReadBlocks b c xs → Holds x st now (before ++ xs) → P x b before xs)

  tell : (P : Start → List ℕ → List TableBatch → List TableBatch → Type 0) → ((b : List ℕ) → content_of s ≡ Some b → (x : Start) (before xs : List TableBatch) → x.encoding ≡ st.writer.encoding → HasReadBlocks b c xs → Holds x st now (before ++ xs) → P x b before xs) → Told P
  tell P h = by (content_of s) refl
    where
      by : (o : Option (List ℕ)) → content_of s ≡ o → IfSome o (λ b. (x : Start) (before xs : List TableBatch) → x.encoding ≡ st.writer.encoding → HasReadBlocks b c xs → Holds x st now (before ++ xs) → P x b before xs)
      by None is = tt
      by (Some b) is = h b is

  -- ── none is left, or it is refused ──

  pub next_none : (wants wants' : ℕ) → Next None → Told (λ x b before xs. NextAdded (Ok tt) x b c c' st before now wants wants')
  next_none wants wants' n = tell (λ x b before xs. NextAdded (Ok tt) x b c c' st before now wants wants') λ b told x before xs enc read h.
      let both = none_walked content_of faults_of fetched_of references_of s s' c c' (whole_file b c.metadata) read.by to_read xs n read.walked in
      record { xs = xs; read = reads_same b c c' xs n.metadata n.projection read.by both.0; holds = h; further = inr (subst (λ (m : FileMetadata). length (meta_view m).blocks ≤ c'.block) (sym n.metadata) both.1) }

  pub next_refused : (e : IpcError) (r : Result (Unit {0}) IpcError) (st' : JoinedStream) (wants wants' : ℕ) → r ≡ Err e → Next (Some (Err e)) → Told (λ x b before xs. NextAdded r x b c c' st' before now wants wants')
  next_refused e r st' wants wants' is_err n = tell (λ x b before xs. NextAdded r x b c c' st' before now wants wants') λ b told x before xs enc read h.
      let stop = call_stops b c xs read e (walk_refused content_of faults_of fetched_of references_of s s' c c' (whole_file b c.metadata) read.by told to_read (opened b c xs read) e xs n read.walked) in
      subst (λ z. NextAdded z x b c c' st' before now wants wants') (sym is_err) (StopsFile.behind_put {xs = xs} {bytes = h.bytes} (is_put x b c st now before xs read h) h.added (inl stop))

  -- ── it was read ──

  read_more : (y : Batch) → Next (Some (Ok y)) → (b : List ℕ) → content_of s ≡ Some b → (xs : List TableBatch) → HasReadBlocks b c xs → HasReadBlocks b c' (xs ++ table_of y ∷ [])
  read_more y n b told xs read =
      let answer = answered content_of faults_of fetched_of references_of s s' c c' (whole_file b c.metadata) read.by told y n in
      reads_same b c c' (xs ++ table_of y ∷ []) n.metadata n.projection read.by (read_on (whole_file b c.metadata) c c' y read.by answer xs read.walked)

  -- its columns are of the kinds of the stream's fields
  pub kinds_on : (y : Batch) → Next (Some (Ok y)) → IsReaderOf st.writer.schema c → have_same_kinds (fields_in st.writer.schema) (columns_of (forest y.arrays)) ≡ true
  kinds_on y n reader =
      let has : HasFields y (schema_shown (rc_value c.metadata.schema) c.projection) = n.schema None (may_all c reader.projection) in
      let own : HasFields y (schema_of c) = subst (λ p. HasFields y (schema_shown (rc_value c.metadata.schema) p)) reader.projection has in
      kinds_through (fields_in st.writer.schema) (fields_in (schema_of c)) (columns_of (forest y.arrays)) reader.fields.kinds (kinds_of_schema (schema_of c) y.arrays own.kinds)

  module _ (y : Batch) (st' : JoinedStream) (m : Moved) (n : Next (Some (Ok y))) (reader : IsReaderOf st.writer.schema c) (going : IsGoing st) (sound : fault_each (forest y.arrays) ≡ None) (old : m.old ≡ now) where
    -- and written
    pub next_written : Writes (text_of st.writer.encoding) m (Ok tt) st.writer st'.writer y None → st'.batches ≡ counted (st.batches + 1) → st'.rows ≡ counted (st.rows + y.height) → (wants wants' : ℕ)
        → Told (λ x b before xs. NextAdded (Ok tt) x b c c' st' before m.new wants wants')
    next_written w batches rows wants wants' = tell (λ x b before xs. NextAdded (Ok tt) x b c c' st' before m.new wants wants') λ b told x before xs enc read h. record {
      xs = xs ++ table_of y ∷ [];
      read = read_more y n b told xs read;
      holds = subst (Holds x st' m.new) (append_assoc before xs (table_of y ∷ [])) (held_on x st st' now (before ++ xs) y m (sym enc) old h w batches rows);
      further = inl (n.block ∙ add-one c.block);
    }

    -- a put failed
    put_failed : (e : IpcError) → WriteFailed (text_of st.writer.encoding) m e st.writer st'.writer y None → (b : List ℕ) → content_of s ≡ Some b → (x : Start) (before xs : List TableBatch) → x.encoding ≡ st.writer.encoding → HasReadBlocks b c xs → Holds x st now (before ++ xs)
        → StopsFile e x b c.metadata before m.new m.wants m.wants_now
    put_failed e f b told x before xs enc read h =
        let more = chunk_text f.sends.sending.sent y in
        let kinds = kinds_on y n reader in
        let on = with_batch h.pairs st.writer y f.sends.sending h.bytes (before ++ xs) f.sends.is_found f.sends.may kinds h.written in
        let next = read_more y n b told xs read in
        let put : PutsPart m e (text_of x.encoding more) = subst (λ k. PutsPart m e (text_of k more)) (sym enc) f.sends.failed.put in
        let added : Appends x.before m.old (text_of x.encoding h.bytes) = subst (λ o. Appends x.before o (text_of x.encoding h.bytes)) (sym old) h.added in
        StopsFile.in_next {xs = xs ++ table_of y ∷ []} {bytes = h.bytes ++ more} (record {
          read = subst (λ (k : FileMetadata). file_reading to_read b «all» (Some (length (xs ++ table_of y ∷ []))) ≡ Ok (part_of k (xs ++ table_of y ∷ []))) n.metadata (part_read b c' (xs ++ table_of y ∷ []) next);
          not_ended = on.going;
          stream = on.means ∙ ap Some (head_at x h.pairs st.writer ((before ++ xs) ++ cells_of y ∷ []) h.head ∙ ap (with_batches x.head) (append_assoc before xs (table_of y ∷ [])));
        }) (of_put e m (text_of x.encoding more) put) (part_behind x.encoding x.before e m h.bytes more added put)

    -- nothing was put
    none_put : (e : IpcError) → (e ≡ errors.Memory) ⊎ ((e ≡ errors.TooLarge) × IsLargeFor st.writer y) → Keeps m.old m.new → (b : List ℕ) → content_of s ≡ Some b → (x : Start) (before xs : List TableBatch) → x.encoding ≡ st.writer.encoding → HasReadBlocks b c xs → Holds x st now (before ++ xs)
        → StopsFile e x b c.metadata before m.new m.wants m.wants_now
    none_put e why kept b told x before xs enc read h =
        StopsFile.behind_put {xs = xs} {bytes = h.bytes} (is_put x b c st now before xs read h) (Appends-kept x.before now m.new (text_of x.encoding h.bytes) h.added (subst (λ o. Keeps o m.new) old kept)) (by why)
      where
        by : (e ≡ errors.Memory) ⊎ ((e ≡ errors.TooLarge) × IsLargeFor st.writer y) → StopsNext e b c.metadata before xs h.bytes
        by (inl memory) = inl (rw memory tt, rw memory tt)
        by (inr large) = inr (
          large.0,
          record {
            next = table_of y;
            read = subst (λ k. file_reading to_read b «all» (Some k) ≡ Ok (part_of c.metadata (xs ++ table_of y ∷ []))) (length-append xs (table_of y ∷ []) ∙ add-one (length xs))
                (subst (λ (k : FileMetadata). file_reading to_read b «all» (Some (length (xs ++ table_of y ∷ []))) ≡ Ok (part_of k (xs ++ table_of y ∷ []))) n.metadata (part_read b c' (xs ++ table_of y ∷ []) (read_more y n b told xs read)));
            pairs = h.pairs;
            writer = st.writer;
            options = going.options;
            written = h.written;
            batch = y;
            cells = refl;
            sending = large.1.sending;
            found = large.1.found;
            large = large.1.large;
          },
        )

    -- or not
    pub next_not_written : (e : IpcError) → Writes (text_of st.writer.encoding) m (Err e) st.writer st'.writer y None → Told (λ x b before xs. NextAdded (Err e) x b c c' st' before m.new m.wants m.wants_now)
    next_not_written e w = by (not_written st.writer.schema st.writer.encoding st.writer st'.writer m e y going (kinds_on y n reader) sound w)
      where
        by : NotWritten (text_of st.writer.encoding) m e st.writer st'.writer y → Told (λ x b before xs. NextAdded (Err e) x b c c' st' before m.new m.wants m.wants_now)
        by (NotWritten.before_put why kept) = tell (λ x b before xs. NextAdded (Err e) x b c c' st' before m.new m.wants m.wants_now) (none_put e why kept)
        by (NotWritten.in_put failed) = tell (λ x b before xs. NextAdded (Err e) x b c c' st' before m.new m.wants m.wants_now) (put_failed e failed)

    pub next_done : (r : Result (Unit {0}) IpcError) → Writes (text_of st.writer.encoding) m r st.writer st'.writer y None → IfOk r (λ u. st'.batches ≡ counted (st.batches + 1)) → IfOk r (λ u. st'.rows ≡ counted (st.rows + y.height))
        → Told (λ x b before xs. NextAdded r x b c c' st' before m.new m.wants m.wants_now)
    next_done (Ok u) w batches rows = next_written w batches rows m.wants m.wants_now
    next_done (Err e) w batches rows = next_not_written e w

    -- why, whatever the file is
    pub next_cause : (r : Result (Unit {0}) IpcError) (reads : Type 0) → Writes (text_of st.writer.encoding) m r st.writer st'.writer y None → IfErr r (λ e. CauseOf reads (Rose m.faults m.faults_now) e)
    next_cause (Ok u) reads w = tt
    next_cause (Err e) reads w = write_cause reads (text_of st.writer.encoding) m e st.writer st'.writer y (not_written st.writer.schema st.writer.encoding st.writer st'.writer m e y going (kinds_on y n reader) sound w)
