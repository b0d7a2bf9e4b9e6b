-- A stream of several files, from its schema to its end.
use Rattle.std.proofs.Common.{◌≡◌, ◌∙◌, ◌⊎◌, sym, refl, ap, inl, inr, ℕ, zero, suc, ◌+◌, ◌<◌, ◌≤◌, List, [], ◌∷◌, ◌++◌, length, get_or, drop, slice_get, Option, Some, None, Result, Ok, Err, subst, arith}
use Rattle.std.specs.Prelude.{IfOk, IfErr, IfSome}
use Rattle.std.specs.List.{AllByRecursion}
use Rattle.std.proofs.lemmas.Option.{get_or_from_slice_get}
use Rattle.arrow_spec.specs.declared.error.IpcError.{IpcError}
use Rattle.arrow_spec.specs.Files.{ArrowTable}
use Rattle.arrow_spec.specs.Kinds.{bare}
use Rattle.arrow_types.specs.Schemas.{Keyed, fields_in}
use Rattle.std.proofs.KnownBytes.{Keeps-refl}
use Rattle.ipc_io.specs.Outside.{Rose, Stands}
use Rattle.ipc_bodies.specs.Encodings.{text_of}
use Rattle.ipc_bodies.specs.declared.encoding.Encoding.{Encoding}
use Rattle.laws_walk.specs.Below.{FileSays, file_custom, meta_view, FileCursor}
use Rattle.laws_walk.specs.declared.summary.Summary.{Summary}
use Rattle.ipc_concat.specs.Begins.{Begins, Joins, NotBegun, start_of}
use Rattle.ipc_concat.specs.Concat.{AddsPart, AllStand, CauseOf, ConcatCause, Concatenates, IsSmallRefusal}
use Rattle.ipc_concat.specs.Files.{AddsFiles, AreAlike, AreUnread, BeginsWith, FilesAdded, HasFieldsOf, Holds, IsPut, IsStartOf, IsUnread, Start, first_schema, head_of, part_of, schema_of}
use Rattle.ipc_concat.specs.Opening.{AreOpen, StopsOpening}
use Rattle.ipc_concat.specs.Stopping.{IsFront}
use Rattle.ipc_concat.specs.Tables.{MeanTables, told}
use Rattle.ipc_concat.specs.declared.stream.JoinedStream.{JoinedStream}
use Rattle.ipc_concat.proofs.Fields.{bare_of, chosen_bare}
use Rattle.ipc_concat.proofs.Files.{part_before, unread_at}
use Rattle.ipc_concat.proofs.Joining.{ToldAt, told_at, told_length, unread_length}
use Rattle.ipc_concat.proofs.Keeping.{cause_as}
use Rattle.ipc_concat.proofs.Opened.{are_open, tell_all}
use Rattle.ipc_concat.proofs.Refusing.{small}

-- ── the first file ──

-- whose bytes are told or not
pub unread_untold : (o : Option (List ℕ)) (c : FileCursor) → IsUnread o c → IsUnread None c
unread_untold o c u = record { says = tt; size = tt; read = u.read; projection = u.projection; left = u.left; block = u.block; dictionaries = u.dictionaries }

pub first_unread : (contents : List (Option (List ℕ))) (cs : List FileCursor) (d : FileCursor) → 0 < length cs → AreUnread contents cs → IsUnread None (get_or cs 0 d)
first_unread [] [] d some h = absurd (omega (arith, some))
first_unread [] (c ∷ cs) d some h = absurd h
first_unread (o ∷ os) [] d some h = absurd h
first_unread (o ∷ os) (c ∷ cs) d some h = unread_untold o c h.0

begins_with : (c : FileCursor) (cs : List FileCursor) (d : FileCursor) (encoding : Encoding) (old : Option (List ℕ)) → c ≡ get_or cs 0 d → BeginsWith (start_of c encoding old) cs
begins_with c [] d encoding old h = tt
begins_with c (e ∷ es) d encoding old h = ap (λ (k : FileCursor). head_of k.metadata) (sym h)

first_is : (cs : List FileCursor) (d : FileCursor) → 0 < length cs → first_schema cs ≡ schema_of (get_or cs 0 d)
first_is [] d some = absurd (omega (arith, some))
first_is (c ∷ cs) d some = refl

module _ (contents : List (Option (List ℕ))) (cs : List FileCursor) (c : FileCursor) (encoding : Encoding) (old : Option (List ℕ)) (some : 0 < length cs) (unread : AreUnread contents cs) (alike : AreAlike cs) (first : c ≡ get_or cs 0 c) where
  -- files whose bytes are told
  module _ (bs : List (List ℕ)) (is : told contents ≡ Some bs) where
    pub opened : AreOpen bs
    opened = record { fields = bare (fields_in (first_schema cs)); each = are_open (first_schema cs) contents cs bs is unread alike }

    pub some_bytes : 0 < length bs
    some_bytes = let one = told_length contents bs is in let two = unread_length contents cs unread in omega (arith, some, one, two)

    pub there : ToldAt contents bs 0
    there = told_at contents bs 0 is (let two = unread_length contents cs unread in omega (arith, some, two))

    are_first : (xs : List (List ℕ)) (b : List ℕ) → slice_get xs 0 ≡ Some b → xs ≡ b ∷ drop 1 xs
    are_first [] b h = cc
    are_first (x ∷ xs) b h = ap (λ y. y ∷ xs) cc

    -- its metadata says its bytes
    says : FileSays there.bytes (meta_view c.metadata) (file_custom c.metadata)
    unfolding there
    says =
        let u : IsUnread (get_or contents 0 None) (get_or cs 0 c) = unread_at contents cs 0 None c unread some in
        let own : get_or contents 0 None ≡ Some there.bytes = get_or_from_slice_get contents 0 (Some there.bytes) None there.content in
        (subst (λ o. IsUnread o c) own (subst (IsUnread (get_or contents 0 None)) (sym first) u)).says

    -- ── the stream is not begun ──

    front : {bytes : List ℕ} → IsPut (start_of c encoding old) there.bytes c.metadata [] [] bytes → IsFront bs bytes
    unfolding there
    front put = record {
      before = [];
      file = there.bytes;
      behind = drop 1 bs;
      are = are_first bs there.bytes there.own;
      tables = [];
      means = tt;
      part = part_of c.metadata [];
      read = put.read;
      same = tt;
      not_ended = put.not_ended;
      stream = put.stream;
    }

    pub none_begun : (e : IpcError) (new : Option (List ℕ)) (wants wants' : ℕ) → Begins (Err e) there.bytes c encoding old new wants wants' → AddsPart e bs (text_of encoding) old new wants wants'
    unfolding front opened
    none_begun e new wants wants' (NotBegun.refused why kept) =
        AddsPart.in_schema opened (record {
          first = there.bytes;
          others = drop 1 bs;
          are = are_first bs there.bytes there.own;
          meta = meta_view c.metadata;
          custom = file_custom c.metadata;
          opened = record { read = says.read; pairs = says.pairs };
          why = why;
        }) kept
    none_begun e new wants wants' (NotBegun.in_put {bytes = bytes} put failed added) = AddsPart.in_put opened failed (record { bytes = bytes; piece = inr (front put); added = added })

    -- ── the stream is begun ──

    abbrev pub Origin : Start
    Origin = start_of c encoding old

    pub start_is : (s : List Keyed) (new : Option (List ℕ)) (wants wants' : ℕ) (st : JoinedStream) → s ≡ schema_of c → Begins (Ok st) there.bytes c encoding old new wants wants' → IsStartOf (start_of c encoding old) s
    start_is s new wants wants' st schema both = record {
      fields = bare_of c.metadata ∙ ap (λ k. bare (fields_in k)) (sym schema);
      readable = chosen_bare (meta_view c.metadata).schema.fields 0 ∙ both.0.readable;
    }

  pub begins_so : BeginsWith (start_of c encoding old) cs
  begins_so = begins_with c cs c encoding old first

  -- all have its fields
  pub fields_so : (s : List Keyed) → s ≡ schema_of c → AllByRecursion (HasFieldsOf s) cs
  fields_so s schema = subst (λ k. AllByRecursion (HasFieldsOf k) cs) (first_is cs c some ∙ ap schema_of (sym first) ∙ sym schema) alike

  -- ── what is answered ──

  abbrev pub BeginsSo : Result JoinedStream IpcError → Option (List ℕ) → ℕ → ℕ → Type 0
  BeginsSo r new wants wants' = (b : List ℕ) → FileSays b (meta_view c.metadata) (file_custom c.metadata) → Begins r b c encoding old new wants wants'

  pub not_begun : (e : IpcError) (r : Result Summary IpcError) (new : Option (List ℕ)) (wants wants' : ℕ) → r ≡ Err e → BeginsSo (Err e) new wants wants' → IfSome (told contents) (λ bs. Joins r bs encoding old new wants wants')
  unfolding says there
  not_begun e r new wants wants' is h = tell_all contents (λ bs. Joins r bs encoding old new wants wants') λ bs all. subst (λ z. Joins z bs encoding old new wants wants') (sym is) (none_begun bs all e new wants wants' (h (there bs all).bytes (says bs all)))

  -- what is said of the files behind it
  abbrev pub AddedSo : Result (Unit {0}) IpcError → JoinedStream → Option (List ℕ) → JoinedStream → Option (List ℕ) → ℕ → ℕ → Type 0
  AddedSo r st mid st' new wants wants' = IfSome (told contents) (λ bs. (x : Start) → x.encoding ≡ st.writer.encoding → AreOpen bs → BeginsWith x cs → IsStartOf x st.writer.schema → Holds x st mid [] → FilesAdded r x bs st' new wants wants')

  pub some_added : (r : Result (Unit {0}) IpcError) (st st' : JoinedStream) (mid new : Option (List ℕ)) (wants middle wants' : ℕ) → st.writer.encoding ≡ encoding → st.writer.schema ≡ schema_of c → BeginsSo (Ok st) mid wants middle → AddedSo r st mid st' new middle wants'
      → IfSome (told contents) (λ bs. FilesAdded r (start_of c encoding old) bs st' new middle wants')
  unfolding says there opened
  some_added r st st' mid new wants middle wants' enc schema begun added = by (told contents) refl added
    where
      by : (o : Option (List (List ℕ))) → told contents ≡ o → IfSome o (λ bs. (x : Start) → x.encoding ≡ st.writer.encoding → AreOpen bs → BeginsWith x cs → IsStartOf x st.writer.schema → Holds x st mid [] → FilesAdded r x bs st' new middle wants') → IfSome o (λ bs. FilesAdded r (start_of c encoding old) bs st' new middle wants')
      by None is h = tt
      by (Some bs) is h =
          let both = begun (there bs is).bytes (says bs is) in
          h (start_of c encoding old) (sym enc) (opened bs is) begins_so (start_is bs is st.writer.schema mid wants middle st schema both) both.1

  pub not_added : (e : IpcError) (r : Result Summary IpcError) (st' : JoinedStream) (new : Option (List ℕ)) (wants middle wants' : ℕ) → r ≡ Err e → wants ≤ middle → IfSome (told contents) (λ bs. FilesAdded (Err e) (start_of c encoding old) bs st' new middle wants')
      → IfSome (told contents) (λ bs. Joins r bs encoding old new wants wants')
  not_added e r st' new wants middle wants' is less h = by (told contents) h
    where
      by : (o : Option (List (List ℕ))) → IfSome o (λ bs. FilesAdded (Err e) (start_of c encoding old) bs st' new middle wants') → IfSome o (λ bs. Joins r bs encoding old new wants wants')
      by None k = tt
      by (Some bs) k = subst (λ z. Joins z bs encoding old new wants wants') (sym is) (part_before e bs (text_of encoding) old new wants middle wants' less k)

  -- what is said of the end
  abbrev pub EndsSo : Result Summary IpcError → JoinedStream → Option (List ℕ) → Option (List ℕ) → ℕ → ℕ → Type 0
  EndsSo r st mid new wants wants' = (x : Start) (bs : List (List ℕ)) → x.encoding ≡ st.writer.encoding → AddsFiles x bs st mid → AreOpen bs → 0 < length bs → Joins r bs x.encoding x.before new wants wants'

  joins_before : (r : Result Summary IpcError) (bs : List (List ℕ)) (new : Option (List ℕ)) (wants mid wants' : ℕ) → wants ≤ mid → Joins r bs encoding old new mid wants' → Joins r bs encoding old new wants wants'
  joins_before (Ok s) bs new wants mid wants' less h = h
  joins_before (Err e) bs new wants mid wants' less h = part_before e bs (text_of encoding) old new wants mid wants' less h

  pub all_joined : (r : Result Summary IpcError) (st : JoinedStream) (mid new : Option (List ℕ)) (wants middle1 middle wants' : ℕ) → wants ≤ middle → st.writer.encoding ≡ encoding → IfSome (told contents) (λ bs. FilesAdded (Ok tt) (start_of c encoding old) bs st mid middle1 middle) → EndsSo r st mid new middle wants'
      → IfSome (told contents) (λ bs. Joins r bs encoding old new wants wants')
  unfolding opened some_bytes
  all_joined r st mid new wants middle1 middle wants' less enc added ends = by (told contents) refl added
    where
      by : (o : Option (List (List ℕ))) → told contents ≡ o → IfSome o (λ bs. FilesAdded (Ok tt) (start_of c encoding old) bs st mid middle1 middle) → IfSome o (λ bs. Joins r bs encoding old new wants wants')
      by None is h = tt
      by (Some bs) is h = joins_before r bs new wants middle wants' less (ends (start_of c encoding old) bs (sym enc) h (opened bs is) (some_bytes bs is))

-- ── all of it ──

pub whole_of : (contents : List (Option (List ℕ))) (r : Result Summary IpcError) (encoding : Encoding) (old new : Option (List ℕ)) (wants wants' : ℕ) → IfSome (told contents) (λ bs. Joins r bs encoding old new wants wants') → IfOk r (λ s. IfSome (told contents) (λ bs. Concatenates s bs (text_of encoding) old new))
whole_of contents (Ok s) encoding old new wants wants' h = h
whole_of contents (Err e) encoding old new wants wants' h = tt

pub part_of_joins : (contents : List (Option (List ℕ))) (r : Result Summary IpcError) (encoding : Encoding) (old new : Option (List ℕ)) (wants wants' : ℕ) → IfSome (told contents) (λ bs. Joins r bs encoding old new wants wants') → IfErr r (λ e. IfSome (told contents) (λ bs. AddsPart e bs (text_of encoding) old new wants wants'))
part_of_joins contents (Ok s) encoding old new wants wants' h = tt
part_of_joins contents (Err e) encoding old new wants wants' h = h

-- files that mean tables
pub complete_of : (contents : List (Option (List ℕ))) (r : Result Summary IpcError) (text : List ℕ → List ℕ) (old new : Option (List ℕ)) (wants wants' : ℕ) (reads reads' : List ℕ) (writes writes' : ℕ)
    → IfErr r (λ e. IfSome (told contents) (λ bs. AddsPart e bs text old new wants wants')) → IfErr r (λ e. ConcatCause e reads reads' writes writes')
    → IfSome (told contents) (λ bs. MeanTables bs → AllStand reads reads' → Stands writes writes' → IfErr r IsSmallRefusal)
complete_of contents (Ok s) text old new wants wants' reads reads' writes writes' part cause = tell_all contents (λ bs. MeanTables bs → AllStand reads reads' → Stands writes writes' → IfErr (Ok s) IsSmallRefusal) (λ bs is means stand stands. tt)
complete_of contents (Err e) text old new wants wants' reads reads' writes writes' part cause = by (told contents) part
  where
    by : (o : Option (List (List ℕ))) → IfSome o (λ bs. AddsPart e bs text old new wants wants') → IfSome o (λ bs. MeanTables bs → AllStand reads reads' → Stands writes writes' → IsSmallRefusal e)
    by None h = tt
    by (Some bs) h = λ means stand stands. small e reads reads' writes writes' cause stand stands bs means text old new wants wants' h

-- ── calls ──

-- metadata that is refused
pub opening_part : {X : Type 0} (r : Result X IpcError) (e : IpcError) (contents : List (Option (List ℕ))) (text : List ℕ → List ℕ) (old : Option (List ℕ)) (wants wants' : ℕ) → r ≡ Err e → IfSome (told contents) (λ bs. StopsOpening e bs) → IfErr r (λ e. IfSome (told contents) (λ bs. AddsPart e bs text old old wants wants'))
opening_part r e contents text old wants wants' is h = subst (λ z. IfErr z (λ e. IfSome (told contents) (λ bs. AddsPart e bs text old old wants wants'))) (sym is) (by (told contents) h)
  where
    by : (o : Option (List (List ℕ))) → IfSome o (λ bs. StopsOpening e bs) → IfSome o (λ bs. AddsPart e bs text old old wants wants')
    by None k = tt
    by (Some bs) k = AddsPart.in_metadata k (Keeps-refl old)

-- a cause without a sink's
pub opening_cause : {X : Type 0} (r : Result X IpcError) (e : IpcError) (reads writes : Type 0) → r ≡ Err e → CauseOf reads (Rose 0 0) e → IfErr r (λ e. CauseOf reads writes e)
opening_cause r e reads writes is h = subst (λ z. IfErr z (λ e. CauseOf reads writes e)) (sym is) (cause_as e (λ k. k) (λ (k : Rose 0 0). absurd (omega (arith, k))) h)

-- and one without a source's
pub putting_cause : {X : Type 0} (r : Result X IpcError) (e : IpcError) (reads : Type 0) (g0 g1 g2 : ℕ) → r ≡ Err e → g0 ≤ g1 → ((n m : ℕ) → CauseOf (Rose n m) (Rose g1 g2) e) → IfErr r (λ e. CauseOf reads (Rose g0 g2) e)
putting_cause r e reads g0 g1 g2 is less h = subst (λ z. IfErr z (λ e. CauseOf reads (Rose g0 g2) e)) (sym is) (cause_as e (λ (k : Rose 0 0). absurd (omega (arith, k))) (λ (k : Rose g1 g2). omega (arith, less, k)) (h 0 0))

pub putting_causes : {X : Type 0} (r : Result X IpcError) (reads : Type 0) (g0 g1 g2 : ℕ) → g0 ≤ g1 → IfErr r (λ e. (n m : ℕ) → CauseOf (Rose n m) (Rose g1 g2) e) → IfErr r (λ e. CauseOf reads (Rose g0 g2) e)
putting_causes {X = X} (Ok x) reads g0 g1 g2 less h = tt
putting_causes {X = X} (Err e) reads g0 g1 g2 less h = putting_cause {X = X} (Err e) e reads g0 g1 g2 refl less h

-- behind calls that rose no less
pub causes_before : {X : Type 0} (r : Result X IpcError) (A B C : Type 0) → (A → B) → IfErr r (λ e. CauseOf A C e) → IfErr r (λ e. CauseOf B C e)
causes_before (Ok x) A B C f h = tt
causes_before (Err e) A B C f h = cause_as e f (λ k. k) h
