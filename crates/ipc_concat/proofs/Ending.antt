-- The end of a stream of several files, and the files whose metadata was read.
use Rattle.std.proofs.Common.{◌≡◌, ◌∙◌, ◌⊎◌, sym, refl, ap, inl, inr, ℕ, zero, suc, ◌+◌, ◌<◌, ◌≤◌, List, [], ◌∷◌, ◌++◌, length, true, false, Option, Some, None, Result, Ok, Err, subst, arith}
use Rattle.std.specs.Prelude.{IfErr, sum_by}
use Rattle.std.specs.Io.KnownBytes.{Appends, Keeps}
use Rattle.std.proofs.KnownBytes.{Appends-kept}
use Rattle.arrow_spec.specs.declared.error.IpcError.{IpcError}
use Rattle.arrow_spec.specs.declared.error.IpcError.TheVariants as errors
use Rattle.arrow_spec.specs.Files.{ArrowTable, TableBatch}
use Rattle.arrow_spec.specs.Streams.{closed, end_mark}
use Rattle.ipc_io.specs.Outside.{Rose}
use Rattle.ipc_bodies.specs.Encodings.{text_of}
use Rattle.ipc_bodies.specs.Puts.{Moved, PutsPart}
use Rattle.laws_walk.specs.Below.{counted, is_started, Finishes, HasFinished, StreamCore}
use Rattle.laws_walk.specs.declared.summary.Summary.{Summary}
use Rattle.laws_walk.proofs.Fronts.{Appends-text, of_put, part_behind}
use Rattle.laws_walk.proofs.Nexts.{with_end}
use Rattle.ipc_concat.specs.Begins.{Joins}
use Rattle.ipc_concat.specs.Concat.{AddsPart, AreJoined, CauseOf, Concatenates}
use Rattle.ipc_concat.specs.Files.{AddsFiles, AreOf, Holds, IsGoing, Start, with_batches}
use Rattle.ipc_concat.specs.Opening.{AreOpen}
use Rattle.ipc_concat.specs.Tables.{AreTables, MeanTables, batches_in, joined}
use Rattle.ipc_concat.specs.declared.stream.JoinedStream.{JoinedStream}
use Rattle.ipc_concat.proofs.Joining.{all_as}
use Rattle.ipc_concat.proofs.Writing.{head_at, head_stays, put_cause}

-- ── the tables of all files ──

-- the first of several tables, and the others
record AreSome (x : Start) (bs : List (List ℕ)) (ts : List ArrowTable) : Type 0 where
  files : MeanTables bs
  batches : batches_in ts ≡ (joined files.first files.others).batches
  head : with_batches files.first [] ≡ x.head

are_some : (x : Start) (bs : List (List ℕ)) (ts : List ArrowTable) → 0 < length bs → AreOf x bs ts → AreSome x bs ts
are_some x [] ts some are = absurd (omega (arith, some))
are_some x (b ∷ bs) [] some are = absurd are.tables
are_some x (b ∷ bs) (t ∷ ts) some are = record {
  files = record {
    first = t;
    others = ts;
    tables = are.tables;
    same = all_as (λ (u : ArrowTable). u.fields ≡ x.head.fields) (λ (u : ArrowTable). u.fields ≡ t.fields) ts (λ u h. h ∙ sym are.same.0) are.same.1;
  };
  batches = refl;
  head = are.first;
}

joined_is : (x : Start) (bs : List (List ℕ)) (ts : List ArrowTable) (a : AreSome x bs ts) → with_batches x.head (batches_in ts) ≡ joined a.files.first a.files.others
joined_is x bs ts a = ap (λ h. with_batches h (batches_in ts)) (sym a.head) ∙ ap (with_batches a.files.first) a.batches

module _ (x : Start) (bs : List (List ℕ)) (st : JoinedStream) (now : Option (List ℕ)) (some : 0 < length bs) (going : IsGoing st) (enc : x.encoding ≡ st.writer.encoding) (a : AddsFiles x bs st now) where
  tables : AreSome x bs a.ts
  tables = are_some x bs a.ts some a.are

  -- it means them before its end mark
  joined_so : AreJoined bs a.holds.bytes
  unfolding tables
  joined_so = record { files = tables.files; stream = a.holds.written.means ∙ ap Some (head_at x a.holds.pairs st.writer (batches_in a.ts) a.holds.head ∙ joined_is x bs a.ts tables) }

  -- and behind it
  joined_end : closed (a.holds.bytes ++ end_mark) × AreJoined bs (a.holds.bytes ++ end_mark)
  unfolding tables
  joined_end =
      let end = with_end a.holds.pairs st.writer a.holds.bytes (batches_in a.ts) a.holds.written in
      (end.0, record { files = tables.files; stream = end.1 ∙ ap Some (head_at x a.holds.pairs st.writer (batches_in a.ts) a.holds.head ∙ joined_is x bs a.ts tables) })

  finished : (w' : StreamCore) (m : Moved) (s : Summary) → m.old ≡ now → HasFinished (text_of st.writer.encoding) m st.writer w' → s.batches ≡ st.batches → s.rows ≡ st.rows → s.bytes ≡ w'.byte_count → Concatenates s bs (text_of x.encoding) x.before m.new
  unfolding tables joined_end
  finished w' m s old h batches rows count =
      let put : Appends now m.new (text_of x.encoding end_mark) = subst (λ e. Appends now m.new (text_of e end_mark)) (sym enc) (subst (λ o. Appends o m.new (text_of st.writer.encoding end_mark)) old h.appended) in
      let ended = h.written a.holds.pairs a.holds.bytes (batches_in a.ts) a.holds.written in
      record {
        bytes = a.holds.bytes ++ end_mark;
        is_closed = joined_end.0;
        joins = joined_end.1;
        added = Appends-text x.encoding x.before now m.new a.holds.bytes end_mark a.holds.added put;
        summary = record {
          batches = batches ∙ a.holds.batches ∙ ap (λ ys. counted (length ys)) tables.batches;
          rows = rows ∙ a.holds.rows ∙ ap (λ ys. counted (sum_by (λ (b : TableBatch). b.rows) ys)) tables.batches;
          bytes = count ∙ ended.count;
        };
      }

  not_finished : (e : IpcError) (w' : StreamCore) (m : Moved) → AreOpen bs → m.old ≡ now → Finishes (text_of st.writer.encoding) m (Err e) st.writer w' → AddsPart e bs (text_of x.encoding) x.before m.new m.wants m.wants_now
  unfolding joined_so joined_end
  not_finished e w' m opened old (inl (inl never, leaves)) = let clash : true ≡ false = sym (ap is_started going.state) ∙ never.1 in cc
  not_finished e w' m opened old (inl (inr memory, leaves)) =
      AddsPart.at_end {x = a.holds.bytes} memory.1 a.holds.written.not_ended joined_so (Appends-kept x.before now m.new (text_of x.encoding a.holds.bytes) a.holds.added (subst (λ o. Keeps o m.new) old leaves.untouched.bytes))
  not_finished e w' m opened old (inr failed) =
      let put : PutsPart m e (text_of x.encoding end_mark) = subst (λ k. PutsPart m e (text_of k end_mark)) (sym enc) failed.1.put in
      let added : Appends x.before m.old (text_of x.encoding a.holds.bytes) = subst (λ o. Appends x.before o (text_of x.encoding a.holds.bytes)) (sym old) a.holds.added in
      AddsPart.in_put opened (of_put e m (text_of x.encoding end_mark) put) (record { bytes = a.holds.bytes ++ end_mark; piece = inl joined_end; added = part_behind x.encoding x.before e m a.holds.bytes end_mark added put })

pub ends_well : (x : Start) (bs : List (List ℕ)) (st : JoinedStream) (r : Result Summary IpcError) (w' : StreamCore) (m : Moved) (s : Summary) → IsGoing st → Finishes (text_of st.writer.encoding) m (Ok tt) st.writer w' → s.batches ≡ st.batches → s.rows ≡ st.rows → s.bytes ≡ w'.byte_count → r ≡ Ok s
    → x.encoding ≡ st.writer.encoding → AddsFiles x bs st m.old → AreOpen bs → 0 < length bs → Joins r bs x.encoding x.before m.new m.wants m.wants_now
ends_well x bs st r w' m s going h batches rows bytes is enc a opened some = subst (λ z. Joins z bs x.encoding x.before m.new m.wants m.wants_now) (sym is) (finished x bs st m.old some going enc a w' m s refl h batches rows bytes)

pub ends_badly : (x : Start) (bs : List (List ℕ)) (st : JoinedStream) (r : Result Summary IpcError) (w' : StreamCore) (m : Moved) (e : IpcError) → IsGoing st → Finishes (text_of st.writer.encoding) m (Err e) st.writer w' → r ≡ Err e
    → x.encoding ≡ st.writer.encoding → AddsFiles x bs st m.old → AreOpen bs → 0 < length bs → Joins r bs x.encoding x.before m.new m.wants m.wants_now
ends_badly x bs st r w' m e going h is enc a opened some = subst (λ z. Joins z bs x.encoding x.before m.new m.wants m.wants_now) (sym is) (not_finished x bs st m.old some going enc a e w' m opened refl h)

pub end_cause : (st : JoinedStream) (w' : StreamCore) (m : Moved) (e : IpcError) → IsGoing st → Finishes (text_of st.writer.encoding) m (Err e) st.writer w' → (reads : Type 0) → CauseOf reads (Rose m.faults m.faults_now) e
end_cause st w' m e going (inl (inl never, leaves)) reads = let clash : true ≡ false = sym (ap is_started going.state) ∙ never.1 in cc
end_cause st w' m e going (inl (inr memory, leaves)) reads = rw memory.1 tt
end_cause st w' m e going (inr failed) reads = put_cause reads e m _ failed.1.put

pub with_cause : {X : Type 0} (r : Result X IpcError) (e : IpcError) (writes : Type 0) → r ≡ Err e → ((reads : Type 0) → CauseOf reads writes e) → IfErr r (λ e. (n m : ℕ) → CauseOf (Rose n m) writes e)
with_cause r e writes is h = subst (λ z. IfErr z (λ e. (n m : ℕ) → CauseOf (Rose n m) writes e)) (sym is) (λ n m. h (Rose n m))
