-- All batches of a file, and all files.
use Rattle.std.proofs.Common.{◌≡◌, ◌∙◌, ◌⊎◌, sym, refl, ap, inl, inr, ℕ, zero, suc, ◌+◌, ◌<◌, ◌≤◌, List, [], ◌∷◌, ◌++◌, length, get_or, map, take, drop, slice_get, true, Option, Some, None, Result, Ok, Err, subst, arith, append_assoc}
use Rattle.std.specs.Prelude.{IfErr, IfSome, slice_set}
use Rattle.std.specs.List.{AllByRecursion}
use Rattle.std.proofs.lemmas.List.{append-nil}
use Rattle.arrow_spec.specs.declared.error.IpcError.{IpcError}
use Rattle.arrow_spec.specs.declared.error.IpcError.TheVariants as errors
use Rattle.arrow_spec.specs.Features.{chosen_floats}
use Rattle.arrow_spec.specs.Files.{ArrowTable, TableBatch}
use Rattle.arrow_spec.specs.Kinds.{bare, have_same_kinds}
use Rattle.arrow_types.specs.Schemas.{Keyed, fields_in}
use Rattle.std.specs.Rc.{rc_value}
use Rattle.ipc_io.specs.Outside.{Rose}
use Rattle.ipc_bodies.specs.Encodings.{text_of}
use Rattle.laws_walk.specs.Below.{FileMetadata, file_block, meta_view, FileCursor, IsWritten}
use Rattle.laws_walk.proofs.Places.{split_at, take_next}
use Rattle.laws_walk.proofs.Fronts.{put_before}
use Rattle.ipc_concat.specs.Concat.{AddsPart, SourceCause}
use Rattle.ipc_concat.specs.Files.{AddsFile, AddsFiles, AreOf, AreUnread, BeginTables, BeginsWith, FileAdded, FilesAdded, HasFieldsOf, HasHead, HasReadBlocks, Holds, IsPut, IsReaderOf, IsStartOf, IsUnread, NextAdded, NextTooLarge, Start, StopsFile, StopsNext, part_of, schema_of, with_batches}
use Rattle.ipc_concat.specs.Opening.{AreOpen}
use Rattle.ipc_concat.specs.Stopping.{IsFront, StopsBehind}
use Rattle.ipc_concat.specs.Tables.{AreTables, HaveFieldsOf, batches_in, joined_to, told}
use Rattle.ipc_concat.specs.declared.stream.JoinedStream.{JoinedStream}
use Rattle.ipc_concat.proofs.Adding.{blocks_as}
use Rattle.ipc_concat.proofs.Blocks.{none_read, whole_read}
use Rattle.ipc_concat.proofs.Fields.{bare_of, chosen_bare}
use Rattle.ipc_concat.proofs.Keeping.{cause_as}
use Rattle.ipc_concat.proofs.Joining.{all_and, all_as, are_tables_and, batches_and, length_taken, means_whole}

-- ── wants ──

pub stops_before : (e : IpcError) (x : Start) (b : List ℕ) (m : FileMetadata) (before : List TableBatch) (now : Option (List ℕ)) (wants mid wants' : ℕ) → wants ≤ mid → StopsFile e x b m before now mid wants' → StopsFile e x b m before now wants wants'
stops_before e x b m before now wants mid wants' less (StopsFile.behind_put put added why) = StopsFile.behind_put put added why
stops_before e x b m before now wants mid wants' less (StopsFile.in_next put failed added) = StopsFile.in_next put (put_before e wants mid wants' less failed) added

pub part_before : (e : IpcError) (bs : List (List ℕ)) (text : List ℕ → List ℕ) (old new : Option (List ℕ)) (wants mid wants' : ℕ) → wants ≤ mid → AddsPart e bs text old new mid wants' → AddsPart e bs text old new wants wants'
part_before e bs text old new wants mid wants' less (AddsPart.in_metadata s kept) = AddsPart.in_metadata s kept
part_before e bs text old new wants mid wants' less (AddsPart.in_schema opened s kept) = AddsPart.in_schema opened s kept
part_before e bs text old new wants mid wants' less (AddsPart.in_file opened front added why) = AddsPart.in_file opened front added why
part_before e bs text old new wants mid wants' less (AddsPart.at_end memory going joined added) = AddsPart.at_end memory going joined added
part_before e bs text old new wants mid wants' less (AddsPart.in_put opened failed piece) = AddsPart.in_put opened (put_before e wants mid wants' less failed) piece

-- ── all batches of a file ──

-- of a reader further on in its file
pub reader_on : (s t : List Keyed) (c c' : FileCursor) → t ≡ s → c'.metadata ≡ c.metadata → c'.projection ≡ c.projection → IsReaderOf s c → IsReaderOf t c'
reader_on s t c c' schema metadata projection is = record {
  read = rw metadata is.read;
  projection = projection ∙ is.projection;
  fields = record {
    fields = subst (λ (k : List Keyed). bare (fields_in k) ≡ bare (fields_in (schema_of c'))) (sym schema) (subst (λ (m : FileMetadata). bare (fields_in s) ≡ bare (fields_in (rc_value m.schema))) (sym metadata) is.fields.fields);
    kinds = subst (λ (k : List Keyed). have_same_kinds (fields_in k) (fields_in (schema_of c')) ≡ true) (sym schema) (subst (λ (m : FileMetadata). have_same_kinds (fields_in s) (fields_in (rc_value m.schema)) ≡ true) (sym metadata) is.fields.kinds);
  };
}

module _ (c : FileCursor) (st : JoinedStream) (now : Option (List ℕ)) where
  -- so many calls have added what there is
  pub record AddsSome (x : Start) (b : List ℕ) (before : List TableBatch) (c' : FileCursor) (st' : JoinedStream) (now' : Option (List ℕ)) (calls : ℕ) : Type 0 where
    pub xs : List TableBatch
    pub read : HasReadBlocks b c' xs
    pub holds : Holds x st' now' (before ++ xs)
    pub further : (calls ≤ c'.block) ⊎ (length (meta_view c'.metadata).blocks ≤ c'.block)

  abbrev pub SoFar : Option (List ℕ) → FileCursor → JoinedStream → Option (List ℕ) → ℕ → Type 0
  SoFar content c' st' now' calls = IfSome content (λ b. (x : Start) (before : List TableBatch) → x.encoding ≡ st.writer.encoding → HasReadBlocks b c [] → Holds x st now before → AddsSome x b before c' st' now' calls)

  -- what the next call does
  abbrev pub NextOf : Option (List ℕ) → FileCursor → JoinedStream → Option (List ℕ) → Result (Unit {0}) IpcError → FileCursor → JoinedStream → Option (List ℕ) → ℕ → ℕ → Type 0
  NextOf content c' st' now' r c2 st2 now2 wants wants' = IfSome content (λ b. (x : Start) (before xs : List TableBatch) → x.encoding ≡ st'.writer.encoding → HasReadBlocks b c' xs → Holds x st' now' (before ++ xs) → NextAdded r x b c' c2 st2 before now2 wants wants')

  pub none_so_far : (content : Option (List ℕ)) → SoFar content c st now 0
  none_so_far None = tt
  none_so_far (Some b) = λ x before enc read h. record { xs = []; read = read; holds = subst (Holds x st now) (sym (append-nil before)) h; further = inl (omega arith) }

  module _ (content after : Option (List ℕ)) (c' c2 : FileCursor) (st' st2 : JoinedStream) (now' now2 : Option (List ℕ)) (calls wants wants' : ℕ) (same : after ≡ content) (enc : st'.writer.encoding ≡ st.writer.encoding) (s : SoFar content c' st' now' calls) where
    pub one_more : NextOf after c' st' now' (Ok tt) c2 st2 now2 wants wants' → c2.metadata ≡ c'.metadata → SoFar content c2 st2 now2 (calls + 1)
    one_more n metadata = by content s (subst (λ o. NextOf o c' st' now' (Ok tt) c2 st2 now2 wants wants') same n)
      where
        on : (blocks : ℕ) → blocks ≡ length (meta_view c'.metadata).blocks → (calls ≤ c'.block) ⊎ (length (meta_view c'.metadata).blocks ≤ c'.block) → (c2.block ≡ suc c'.block) ⊎ (blocks ≤ c2.block) → c'.block ≤ blocks → (calls + 1 ≤ c2.block) ⊎ (blocks ≤ c2.block)
        on blocks is (inl early) (inl next) within = inl (omega (arith, early, next))
        on blocks is (inr late) (inl next) within = inr (omega (arith, late, next, is))
        on blocks is at (inr done) within = inr done

        by : (o : Option (List ℕ)) → SoFar o c' st' now' calls → NextOf o c' st' now' (Ok tt) c2 st2 now2 wants wants' → SoFar o c2 st2 now2 (calls + 1)
        by None so_far next = tt
        by (Some b) so_far next = λ x before asked read h.
            let r = so_far x before asked read h in
            let a = next x before r.xs (asked ∙ sym enc) r.read r.holds in
            record { xs = a.xs; read = a.read; holds = a.holds; further = on (length (meta_view c2.metadata).blocks) (ap (λ (m : FileMetadata). length (meta_view m).blocks) metadata) r.further a.further (subst (λ (m : FileMetadata). c'.block ≤ length (meta_view m).blocks) (sym metadata) r.read.walked.within) }

    pub file_stopped : (r : Result (Unit {0}) IpcError) (e : IpcError) (before_wants : ℕ) → r ≡ Err e → before_wants ≤ wants → c'.metadata ≡ c.metadata → (st3 : JoinedStream) → NextOf after c' st' now' (Err e) c2 st2 now2 wants wants'
        → IfSome content (λ b. (x : Start) (before : List TableBatch) → x.encoding ≡ st.writer.encoding → HasReadBlocks b c [] → Holds x st now before → FileAdded r x b c st3 before now2 before_wants wants')
    file_stopped r e before_wants is_err less metadata st3 n = by content s (subst (λ o. NextOf o c' st' now' (Err e) c2 st2 now2 wants wants') same n)
      where
        by : (o : Option (List ℕ)) → SoFar o c' st' now' calls → NextOf o c' st' now' (Err e) c2 st2 now2 wants wants' → IfSome o (λ b. (x : Start) (before : List TableBatch) → x.encoding ≡ st.writer.encoding → HasReadBlocks b c [] → Holds x st now before → FileAdded r x b c st3 before now2 before_wants wants')
        by None so_far next = tt
        by (Some b) so_far next = λ x before asked read h.
            let a = so_far x before asked read h in
            let stop = next x before a.xs (asked ∙ sym enc) a.read a.holds in
            subst (λ z. FileAdded z x b c st3 before now2 before_wants wants') (sym is_err) (stops_before e x b c.metadata before now2 before_wants wants wants' less (subst (λ m. StopsFile e x b m before now2 wants wants') metadata stop))

  -- all were added
  pub file_done : (content : Option (List ℕ)) (c' : FileCursor) (st' : JoinedStream) (now' : Option (List ℕ)) (calls wants wants' : ℕ) → length c.metadata.blocks.items ≤ calls → c'.metadata ≡ c.metadata → SoFar content c' st' now' calls
      → IfSome content (λ b. (x : Start) (before : List TableBatch) → x.encoding ≡ st.writer.encoding → HasReadBlocks b c [] → Holds x st now before → FileAdded (Ok tt) x b c st' before now' wants wants')
  file_done None c' st' now' calls wants wants' all metadata so_far = tt
  file_done (Some b) c' st' now' calls wants wants' all metadata so_far = λ x before asked read h.
      let a = so_far x before asked read h in
      let count : length (meta_view c'.metadata).blocks ≡ length c.metadata.blocks.items = blocks_as c' ∙ ap (λ (m : FileMetadata). length m.blocks.items) metadata in
      let done : length (meta_view c'.metadata).blocks ≤ c'.block = elim a.further [ inl early ↦ omega (arith, early, all, count) | inr late ↦ late ] in
      record {
        xs = a.xs;
        means = means_whole b (part_of c.metadata a.xs) (whole_read b c' a.xs a.read done ∙ ap (λ m. Ok (part_of m a.xs)) metadata);
        holds = a.holds;
      }

-- ── one of several ──

pub drop_set : {A : Type 0} (xs : List A) (i : ℕ) (y : A) → drop (suc i) (slice_set xs i y) ≡ drop (suc i) xs
drop_set [] i y = refl
drop_set (x ∷ xs) zero y = refl
drop_set (x ∷ xs) (suc i) y = drop_set xs i y

drop_nil : {A : Type 0} (i : ℕ) → drop {A = A} i [] ≡ []
drop_nil zero = refl
drop_nil (suc i) = refl

pub drop_more : {A : Type 0} (xs ys : List A) (i : ℕ) → drop i xs ≡ drop i ys → drop (suc i) xs ≡ drop (suc i) ys
drop_more [] [] i h = refl
drop_more [] (y ∷ ys) zero h = cc
drop_more [] (y ∷ ys) (suc i) h = drop_more [] ys i (drop_nil i ∙ h)
drop_more (x ∷ xs) [] zero h = cc
drop_more (x ∷ xs) [] (suc i) h = drop_more xs [] i (h ∙ sym (drop_nil i))
drop_more (x ∷ xs) (y ∷ ys) zero h = cc
drop_more (x ∷ xs) (y ∷ ys) (suc i) h = drop_more xs ys i h

pub same_at : {A : Type 0} (xs ys : List A) (i : ℕ) (d : A) → drop i xs ≡ drop i ys → get_or xs i d ≡ get_or ys i d
same_at [] [] i d h = refl
same_at [] (y ∷ ys) zero d h = cc
same_at [] (y ∷ ys) (suc i) d h = same_at [] ys i d (drop_nil i ∙ h)
same_at (x ∷ xs) [] zero d h = cc
same_at (x ∷ xs) [] (suc i) d h = same_at xs [] i d (h ∙ sym (drop_nil i))
same_at (x ∷ xs) (y ∷ ys) zero d h = cc
same_at (x ∷ xs) (y ∷ ys) (suc i) d h = same_at xs ys i d h

pub unread_at : (contents : List (Option (List ℕ))) (cs : List FileCursor) (i : ℕ) (o : Option (List ℕ)) (d : FileCursor) → AreUnread contents cs → i < length cs → IsUnread (get_or contents i o) (get_or cs i d)
unread_at [] [] i o d h l = absurd (omega (arith, l))
unread_at [] (c ∷ cs) i o d h l = absurd h
unread_at (b ∷ bs) [] i o d h l = absurd h
unread_at (b ∷ bs) (c ∷ cs) zero o d h l = h.0
unread_at (b ∷ bs) (c ∷ cs) (suc i) o d h l = unread_at bs cs i o d h.1 (omega (arith, l))

pub all_at : {A : Type 0} (P : A → Type 0) (xs : List A) (i : ℕ) (d : A) → AllByRecursion P xs → i < length xs → P (get_or xs i d)
all_at P [] i d h l = absurd (omega (arith, l))
all_at P (x ∷ xs) zero d h l = h.0
all_at P (x ∷ xs) (suc i) d h l = all_at P xs i d h.1 (omega (arith, l))

-- the first has the stream's head
pub head_of_first : (x : Start) (cs : List FileCursor) (d : FileCursor) → BeginsWith x cs → 0 < length cs → HasHead x.head (part_of (get_or cs 0 d).metadata [])
head_of_first x [] d h l = absurd (omega (arith, l))
head_of_first x (c ∷ cs) d h l = h

-- ── tables ──

joined_head : (head : ArrowTable) (ts : List ArrowTable) (u : ArrowTable) → BeginTables head (ts ++ u ∷ []) → joined_to ts u ≡ with_batches head (batches_in ts ++ u.batches)
joined_head head [] u h = ap (λ t. with_batches t u.batches) h
joined_head head (t ∷ ts) u h =
    ap (λ v. with_batches v (t.batches ++ batches_in (ts ++ u ∷ []))) h
    ∙ ap (with_batches head) (ap (λ ys. t.batches ++ ys) (batches_and ts u) ∙ sym (append_assoc t.batches (batches_in ts) u.batches))

begin_more : (head : ArrowTable) (ts : List ArrowTable) (u : ArrowTable) → BeginTables head ts → (ts ≡ [] → HasHead head u) → BeginTables head (ts ++ u ∷ [])
begin_more head [] u h first = first refl
begin_more head (t ∷ ts) u h first = h

tables_length : (bs : List (List ℕ)) (ts : List ArrowTable) → AreTables bs ts → length ts ≡ length bs
tables_length [] [] h = refl
tables_length [] (t ∷ ts) h = absurd h
tables_length (b ∷ bs) [] h = absurd h
tables_length (b ∷ bs) (t ∷ ts) h = ap suc (tables_length bs ts h.1)

-- ── a file behind others ──

module _ (x : Start) (s : List Keyed) (start : IsStartOf x s) (bs : List (List ℕ)) (i : ℕ) (b : List ℕ) (own : slice_get bs i ≡ Some b) (within : i < length bs) (c : FileCursor) (fields : HasFieldsOf s c) (first : i ≡ 0 → HasHead x.head (part_of c.metadata [])) where
  -- it has the stream's fields
  same_fields : bare (meta_view c.metadata).schema.fields ≡ x.head.fields
  same_fields = bare_of c.metadata ∙ sym fields.fields ∙ sym start.fields

  -- nothing of it was read, and its kinds can be
  pub unread_as : IsUnread (Some b) c → HasReadBlocks b c []
  unfolding same_fields
  unread_as u = none_read b c u (sym (chosen_bare (meta_view c.metadata).schema.fields 0) ∙ ap (λ fs. chosen_floats None fs 0) same_fields ∙ start.readable)

  module _ (ts : List ArrowTable) (are : AreOf x (take i bs) ts) where
    begins : (xs : List TableBatch) → BeginTables x.head (ts ++ part_of c.metadata xs ∷ [])
    begins xs = begin_more x.head ts (part_of c.metadata xs) are.first (λ none. first (sym (sym (ap length none) ∙ tables_length (take i bs) ts are.tables ∙ length_taken bs i (omega (arith, within)))))

    -- with its table
    pub files_more : (st' : JoinedStream) (now' : Option (List ℕ)) → AddsFile x b c st' (batches_in ts) now' → AddsFiles x (take (i + 1) bs) st' now'
    unfolding same_fields
    files_more st' now' a = record {
      ts = ts ++ part_of c.metadata a.xs ∷ [];
      are = record {
        tables = subst (λ ds. AreTables ds (ts ++ part_of c.metadata a.xs ∷ [])) (sym (take_next bs i b own)) (are_tables_and (take i bs) ts b (part_of c.metadata a.xs) are.tables a.means);
        first = begins a.xs;
        same = all_and (λ (t : ArrowTable). t.fields ≡ x.head.fields) ts (part_of c.metadata a.xs) are.same same_fields;
      };
      holds = subst (Holds x st' now') (sym (batches_and ts (part_of c.metadata a.xs))) a.holds;
    }

    -- a front
    front : {xs : List TableBatch} {bytes : List ℕ} → IsPut x b c.metadata (batches_in ts) xs bytes → IsFront bs bytes
    unfolding same_fields begins
    front {xs = xs} {bytes = bytes} put = record {
      before = take i bs;
      file = b;
      behind = drop (i + 1) bs;
      are = split_at bs i b own;
      tables = ts;
      means = are.tables;
      part = part_of c.metadata xs;
      read = put.read;
      same = all_as (λ (t : ArrowTable). t.fields ≡ x.head.fields) (λ (t : ArrowTable). t.fields ≡ (part_of c.metadata xs).fields) ts (λ t h. h ∙ sym same_fields) are.same;
      not_ended = put.not_ended;
      stream = put.stream ∙ ap Some (sym (joined_head x.head ts (part_of c.metadata xs) (begins xs)));
    }

    stops_front : (e : IpcError) {xs : List TableBatch} {bytes : List ℕ} (put : IsPut x b c.metadata (batches_in ts) xs bytes) → StopsNext e b c.metadata (batches_in ts) xs bytes → StopsBehind e (front put)
    unfolding front begins
    stops_front e put (inl refused) = inl refused
    stops_front e {xs = xs} {bytes = bytes} put (inr large) = inr (
      large.0,
      record {
        next = large.1.next;
        read = large.1.read;
        pairs = large.1.pairs;
        writer = large.1.writer;
        options = large.1.options;
        written = subst (IsWritten large.1.pairs large.1.writer bytes) (ap (λ (t : ArrowTable). t.batches) (sym (joined_head x.head ts (part_of c.metadata xs) (begins xs)))) large.1.written;
        batch = large.1.batch;
        cells = large.1.cells;
        sending = large.1.sending;
        found = large.1.found;
        large = large.1.large;
      },
    )

    pub file_stops : (e : IpcError) (now' : Option (List ℕ)) (wants wants' : ℕ) → AreOpen bs → StopsFile e x b c.metadata (batches_in ts) now' wants wants' → AddsPart e bs (text_of x.encoding) x.before now' wants wants'
    file_stops e now' wants wants' opened (StopsFile.behind_put put added why) = AddsPart.in_file opened (front put) added (stops_front e put why)
    file_stops e now' wants wants' opened (StopsFile.in_next {bytes = bytes} put failed added) = AddsPart.in_put opened failed (record { bytes = bytes; piece = inr (front put); added = added })

-- ── causes ──

-- of a call behind others
pub cause_before : {X : Type 0} (r : Result X IpcError) (e : IpcError) (f0 f1 f2 g0 g1 g2 : ℕ) → r ≡ Err e → f0 ≤ f1 → g0 ≤ g1 → SourceCause e f1 f2 g1 g2 → IfErr r (λ e. SourceCause e f0 f2 g0 g2)
cause_before r e f0 f1 f2 g0 g1 g2 is f g h = subst (λ z. IfErr z (λ e. SourceCause e f0 f2 g0 g2)) (sym is) (cause_as e (λ (k : Rose f1 f2). omega (arith, f, k)) (λ (k : Rose g1 g2). omega (arith, g, k)) h)
