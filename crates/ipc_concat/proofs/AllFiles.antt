-- All files, one after another, whose bytes are told or not.
use Rattle.std.proofs.Common.{◌≡◌, ◌∙◌, ◌⊎◌, sym, refl, ap, ℕ, ◌+◌, ◌<◌, ◌≤◌, List, [], ◌∷◌, length, get_or, take, slice_get, Option, Some, None, Result, Ok, Err, subst, arith}
use Rattle.std.specs.Prelude.{IfErr, IfSome}
use Rattle.std.specs.List.{AllByRecursion}
use Rattle.std.proofs.lemmas.List.{take_all}
use Rattle.std.proofs.lemmas.Option.{get_or_from_slice_get, slice_get_within}
use Rattle.arrow_spec.specs.declared.error.IpcError.{IpcError}
use Rattle.arrow_spec.specs.Files.{TableBatch}
use Rattle.arrow_types.specs.Schemas.{Keyed}
use Rattle.ipc_bodies.specs.Encodings.{text_of}
use Rattle.laws_walk.specs.Below.{FileCursor}
use Rattle.ipc_io.specs.Outside.{Rose}
use Rattle.ipc_concat.specs.Concat.{AddsPart, CauseOf}
use Rattle.ipc_concat.proofs.Keeping.{cause_as}
use Rattle.ipc_concat.specs.Files.{AddsFiles, AreUnread, BeginsWith, FileAdded, FilesAdded, HasFieldsOf, HasHead, HasReadBlocks, Holds, IsStartOf, IsUnread, Start, part_of}
use Rattle.ipc_concat.specs.Opening.{AreOpen}
use Rattle.ipc_concat.specs.Tables.{batches_in, told}
use Rattle.ipc_concat.specs.declared.stream.JoinedStream.{JoinedStream}
use Rattle.ipc_concat.proofs.Files.{all_at, file_stops, files_more, head_of_first, part_before, unread_as, unread_at}
use Rattle.ipc_concat.proofs.Joining.{ToldAt, told_at, told_length, unread_length}
use Rattle.ipc_concat.proofs.Opened.{tell_all}

module _ (contents : List (Option (List ℕ))) (cs : List FileCursor) (st : JoinedStream) (now : Option (List ℕ)) where
  -- what is asked of the stream before them
  abbrev pub Given : (Start → List (List ℕ) → Type 0) → Type 0
  Given P = IfSome (told contents) (λ bs. (x : Start) → x.encoding ≡ st.writer.encoding → AreOpen bs → BeginsWith x cs → IsStartOf x st.writer.schema → Holds x st now [] → P x bs)

  -- so many files were added
  abbrev pub FilesSoFar : JoinedStream → Option (List ℕ) → ℕ → Type 0
  FilesSoFar st' now' i = Given (λ x bs. AddsFiles x (take i bs) st' now')

  give : (P Q : Start → List (List ℕ) → Type 0) → ((bs : List (List ℕ)) → told contents ≡ Some bs → (x : Start) → x.encoding ≡ st.writer.encoding → AreOpen bs → BeginsWith x cs → IsStartOf x st.writer.schema → P x bs → Q x bs) → Given P → Given Q
  give P Q f h = by (told contents) refl h
    where
      by : (o : Option (List (List ℕ))) → told contents ≡ o → IfSome o (λ bs. (x : Start) → x.encoding ≡ st.writer.encoding → AreOpen bs → BeginsWith x cs → IsStartOf x st.writer.schema → Holds x st now [] → P x bs)
          → IfSome o (λ bs. (x : Start) → x.encoding ≡ st.writer.encoding → AreOpen bs → BeginsWith x cs → IsStartOf x st.writer.schema → Holds x st now [] → Q x bs)
      by None is k = tt
      by (Some bs) is k = λ x enc opened begins start holds. f bs is x enc opened begins start (k x enc opened begins start holds)

  pub none_so_far : FilesSoFar st now 0
  none_so_far = tell_all contents (λ bs. (x : Start) → x.encoding ≡ st.writer.encoding → AreOpen bs → BeginsWith x cs → IsStartOf x st.writer.schema → Holds x st now [] → AddsFiles x (take 0 bs) st now)
      λ bs is x enc opened begins start holds. record { ts = []; are = record { tables = tt; first = tt; same = tt }; holds = holds }

  -- all were
  pub all_so_far : (st' : JoinedStream) (now' : Option (List ℕ)) (i wants wants' : ℕ) → length contents ≤ i → FilesSoFar st' now' i → Given (λ x bs. FilesAdded (Ok tt) x bs st' now' wants wants')
  all_so_far st' now' i wants wants' all = give (λ x bs. AddsFiles x (take i bs) st' now') (λ x bs. FilesAdded (Ok tt) x bs st' now' wants wants') λ bs is x enc opened begins start a.
      let count = told_length contents bs is in
      subst (λ ds. AddsFiles x ds st' now') (take_all i bs (omega (arith, all, count))) a

  module _ (i : ℕ) (c d : FileCursor) (o : Option (List ℕ)) (st' st2 : JoinedStream) (now' now2 : Option (List ℕ)) (wants wants' : ℕ) (unread : AreUnread contents cs) (fields : AllByRecursion (HasFieldsOf st.writer.schema) cs) (less : i < length cs) (is_c : c ≡ get_or cs i d) (is_o : o ≡ get_or contents i o) (enc : st'.writer.encoding ≡ st.writer.encoding)
      (s : FilesSoFar st' now' i) where
    -- what is said of the next one
    abbrev pub NextFile : Result (Unit {0}) IpcError → Type 0
    NextFile r = IfSome o (λ b. (x : Start) (before : List TableBatch) → x.encoding ≡ st'.writer.encoding → HasReadBlocks b c [] → Holds x st' now' before → FileAdded r x b c st2 before now2 wants wants')

    own_fields : HasFieldsOf st.writer.schema c
    own_fields = subst (HasFieldsOf st.writer.schema) (sym is_c) (all_at (HasFieldsOf st.writer.schema) cs i d fields less)

    first : (x : Start) → BeginsWith x cs → i ≡ 0 → HasHead x.head (part_of c.metadata [])
    first x begins none = subst (λ (k : FileCursor). HasHead x.head (part_of k.metadata [])) (sym (is_c ∙ ap (λ j. get_or cs j d) none)) (head_of_first x cs d begins (omega (arith, less)))

    there : (bs : List (List ℕ)) → told contents ≡ Some bs → ToldAt contents bs i
    there bs is = told_at contents bs i is (let count = unread_length contents cs unread in omega (arith, less, count))

    -- with its bytes
    at : (r : Result (Unit {0}) IpcError) → NextFile r → (bs : List (List ℕ)) → (is : told contents ≡ Some bs) → (x : Start) → x.encoding ≡ st.writer.encoding → IsStartOf x st.writer.schema → BeginsWith x cs → (a : AddsFiles x (take i bs) st' now')
        → FileAdded r x (there bs is).bytes c st2 (batches_in a.ts) now2 wants wants'
    unfolding there own_fields first
    at r n bs is x asked start begins a =
        let t = there bs is in
        let told_so : o ≡ Some t.bytes = is_o ∙ get_or_from_slice_get contents i (Some t.bytes) o t.content in
        let within : i < length bs = slice_get_within bs i t.bytes t.own in
        let u : IsUnread (Some t.bytes) c = subst (λ k. IsUnread (Some t.bytes) k) (sym is_c) (subst (λ k. IsUnread k (get_or cs i d)) (get_or_from_slice_get contents i (Some t.bytes) o t.content) (unread_at contents cs i o d unread less)) in
        let here : IfSome (Some t.bytes) (λ b. (x : Start) (before : List TableBatch) → x.encoding ≡ st'.writer.encoding → HasReadBlocks b c [] → Holds x st' now' before → FileAdded r x b c st2 before now2 wants wants')
        = subst (λ k. IfSome k (λ b. (x : Start) (before : List TableBatch) → x.encoding ≡ st'.writer.encoding → HasReadBlocks b c [] → Holds x st' now' before → FileAdded r x b c st2 before now2 wants wants')) told_so n in
        here x (batches_in a.ts) (asked ∙ sym enc) (unread_as x st.writer.schema start bs i t.bytes t.own within c own_fields (first x begins) u) a.holds

    pub more_so_far : NextFile (Ok tt) → FilesSoFar st2 now2 (i + 1)
    unfolding at there own_fields first
    more_so_far n = give (λ x bs. AddsFiles x (take i bs) st' now') (λ x bs. AddsFiles x (take (i + 1) bs) st2 now2) (λ bs is x asked opened begins start a.
        let t = there bs is in
        files_more x st.writer.schema start bs i t.bytes t.own (slice_get_within bs i t.bytes t.own) c own_fields (first x begins) a.ts a.are st2 now2 (at (Ok tt) n bs is x asked start begins a)) s

    pub stopped_so : (e : IpcError) (r : Result (Unit {0}) IpcError) (before : ℕ) (st3 : JoinedStream) → r ≡ Err e → before ≤ wants → NextFile (Err e) → Given (λ x bs. FilesAdded r x bs st3 now2 before wants')
    unfolding at there own_fields first
    stopped_so e r before st3 is_err less_wants n = give (λ x bs. AddsFiles x (take i bs) st' now') (λ x bs. FilesAdded r x bs st3 now2 before wants') (λ bs is x asked opened begins start a.
        let t = there bs is in
        let stop = file_stops x st.writer.schema start bs i t.bytes t.own (slice_get_within bs i t.bytes t.own) c own_fields (first x begins) a.ts a.are e now2 wants wants' opened (at (Err e) n bs is x asked start begins a) in
        subst (λ z. FilesAdded z x bs st3 now2 before wants') (sym is_err) (part_before e bs (text_of x.encoding) x.before now2 before wants wants' less_wants stop)) s

-- why, whatever their bytes are
pub files_cause : {X : Type 0} (r : Result X IpcError) (e : IpcError) (A B : Type 0) (g0 g1 g2 : ℕ) → r ≡ Err e → (A → B) → g0 ≤ g1 → CauseOf A (Rose g1 g2) e → IfErr r (λ e. CauseOf B (Rose g0 g2) e)
files_cause r e A B g0 g1 g2 is f g h = subst (λ z. IfErr z (λ e. CauseOf B (Rose g0 g2) e)) (sym is) (cause_as e f (λ (k : Rose g1 g2). omega (arith, g, k)) h)
