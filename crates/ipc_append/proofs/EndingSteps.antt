-- A file that is ended on its disk, behind batches that were written there.
use Rattle.std.proofs.Common.{◌≡◌, ◌∙◌, ◌⊎◌, inl, inr, ℕ, ◌≤◌, List, [], ◌∷◌, ◌++◌, length, map, take, Option, None, Some, Result, Ok, Err, IfErr, IfOk, IfSome, refl, sym, ap, subst, arith, true, append_assoc, append-nil, length-take-le}
use Rattle.std.proofs.Math.Bridge.{le_prop}
use Rattle.std.proofs.Math.Logic.{∥∥₁_elim}
use Rattle.std.specs.Option.{option_map}
use Rattle.std.proofs.lemmas.List.{take_all}
use Rattle.std.specs.Io.KnownBytes.{Appends, Keeps}
use Rattle.arrow_spec.specs.declared.error.IpcError.{IpcError}
use Rattle.arrow_spec.specs.declared.error.IpcError.TheVariants as errors
use Rattle.arrow_spec.specs.Files.{ArrowTable, TableBatch, «all»}
use Rattle.arrow_spec.specs.Meaning.{file_table}
use Rattle.arrow_arrays.specs.Batches.{Batch}
use Rattle.ipc_append.specs.Appended.{KeepsBelow}
use Rattle.ipc_append.specs.Appends.{IsAppending, MeansBefore}
use Rattle.ipc_append.specs.Endings.{AreWritten, EndCause, IsEndedOnDisk, IsOneMore, NotEndedOnDisk, none_written, one_written}
use Rattle.ipc_append.proofs.AppendMeaning.{same_table, still_said}
use Rattle.ipc_append.proofs.AppendSteps.{front_of}
use Rattle.ipc_append.proofs.PutSteps.{same_stays, stays_more}
use Rattle.ipc_disk.specs.Disks.{IsWithin, below}
use Rattle.ipc_disk.specs.Tails.{cut_and_padded}
use Rattle.ipc_file_writer.specs.Below.{Untouched, cells_of, chunk_text}
use Rattle.ipc_file_writer.specs.Calls.{Finishes, HasFinished, HasWritten, Stays}
use Rattle.ipc_file_writer.specs.Written.{IsFile, cells_by, table_by}
use Rattle.ipc_file_writer.specs.declared.file.FileCore.{FileCore}
use Rattle.ipc_io.specs.Outside.{Rose}
use Rattle.ipc_streams.specs.Below.{FileMetadata, WriteOptions}
use Rattle.laws_files.specs.Files.{followed_by}
use Rattle.laws_sent.specs.Below.{Moved, PutsPart, moved}

-- ── the end ──

front_there : (b y : List ℕ) (place end : ℕ) (added : List ℕ) → place ≤ length b → take end y ≡ take place b ++ added → take place y ≡ take place b
front_there b y place end added w h =
    let n : length (take place b) ≡ place = length-take-le place b w in
    subst (λ k. take k y ≡ take place b) n (front_of (take place b) y added end h)

below_behind : (b : List ℕ) (x : Option (List ℕ)) (place end : ℕ) (added : List ℕ) → place ≤ length b → Appends (Some (take place b)) (below end x) added → below place x ≡ Some (take place b)
below_behind b None place end added w h = absurd h
below_behind b (Some y) place end added w h = ap (λ z. Some z) (front_there b y place end added w h)

kept_at : (old mid : Option (List ℕ)) (place end : ℕ) (added : List ℕ) → IsWithin old place → Appends (below place old) (below end mid) added → KeepsBelow place old mid
kept_at None mid place end added w h = tt
kept_at (Some b) mid place end added w h = below_behind b mid place end added w h

put_at : (old mid new : Option (List ℕ)) (place end : ℕ) (bytes : List ℕ) → Appends (below place old) (below end mid) bytes → new ≡ below end mid → IfSome old (λ b. new ≡ Some (take place b ++ bytes))
put_at None mid new place end bytes h is = tt
put_at (Some b) None new place end bytes h is = absurd h
put_at (Some b) (Some x) new place end bytes h is = is ∙ ap (λ y. Some y) h

-- a tail's place is within its disk
within_once : (o : Option (List ℕ)) (n : ℕ) → IsProp (IsWithin o n)
within_once None n = λ x y. refl
within_once (Some b) n = le_prop

pub lies_in : (o : Option (List ℕ)) (n : ℕ) → ∥ IsWithin o n ∥₁ → IsWithin o n
lies_in o n h = ∥∥₁_elim h (within_once o n) (λ w. w)

keeps_nothing : (a b : Option (List ℕ)) → Keeps a b → Appends a b []
keeps_nothing None b p = tt
keeps_nothing (Some x) None p = absurd p
keeps_nothing (Some x) (Some y) p = p ∙ sym (append-nil x)

part_put : (m : Moved) (bytes : List ℕ) → PutsPart m errors.WriteFault bytes → (added : List ℕ) × Appends m.old m.new added
part_put m bytes h = (take h.0.0 bytes, h.0.1)

module _ (old mid : Option (List ℕ)) (place end : ℕ) (f g u v : ℕ) (c d : FileCore) where
  pub ended_there : {X E : Type 0} (r : Result X E) (content_of : X → Option (List ℕ)) (w : Result (Unit {0}) IpcError) (there : Option (List ℕ)) → w ≡ Ok tt → Finishes (moved (below place old) (below end mid) f g u v) w c d → there ≡ below end mid → IfOk r (λ x. content_of x ≡ there)
      → IfOk r (λ x. IsEndedOnDisk old (content_of x) place c)
  ended_there (Err x) content_of w there is k same h = tt
  ended_there (Ok x) content_of w there is k same h =
      let e : HasFinished (moved (below place old) (below end mid) f g u v) c d = subst (λ y. Finishes (moved (below place old) (below end mid) f g u v) y c d) is k in
      record { started = e.started; ending = e.bytes; ends = e.text; means = e.means; content = put_at old mid (content_of x) place end e.bytes e.appended (h ∙ same) }

  pub not_cut_there : {X E : Type 0} (r : Result X E) (content_of : E → Option (List ℕ)) (faults_of : E → ℕ) (error_of : E → IpcError) (w : Result (Unit {0}) IpcError) (there : Option (List ℕ)) (n : ℕ) → ∥ IsWithin old place ∥₁ → w ≡ Ok tt → Finishes (moved (below place old) (below end mid) f g u v) w c d
      → there ≡ mid → n ≡ g → IfErr r (λ x. content_of x ≡ there) → IfErr r (λ x. error_of x ≡ errors.WriteFault) → IfErr r (λ x. Rose n (faults_of x)) → IfErr r (λ x. NotEndedOnDisk old (content_of x) place (error_of x) c f (faults_of x))
  not_cut_there (Ok x) content_of faults_of error_of w there n lies is k same count h q z = tt
  not_cut_there (Err x) content_of faults_of error_of w there n lies is k same count h q z =
      let e : HasFinished (moved (below place old) (below end mid) f g u v) c d = subst (λ y. Finishes (moved (below place old) (below end mid) f g u v) y c d) is k in
      let rose : Rose f (faults_of x) = omega (arith, z, count, e.counts.faults) in
      record { cause = inr (e.started, q, rose); kept = subst (λ o. KeepsBelow place old o) (sym (h ∙ same)) (kept_at old mid place end e.bytes (lies_in old place lies) e.appended) }

  pub not_ended_there : (e : IpcError) (w : Result (Unit {0}) IpcError) (there : Option (List ℕ)) (n : ℕ) → ∥ IsWithin old place ∥₁ → w ≡ Err e → Finishes (moved (below place old) (below end mid) f g u v) w c d → there ≡ mid → n ≡ g → NotEndedOnDisk old there place e c f n
  not_ended_there e w there n lies is k same count =
      subst (λ o. NotEndedOnDisk old o place e c f n) (sym same) (subst (NotEndedOnDisk old mid place e c f) (sym count) (by (subst (λ y. Finishes (moved (below place old) (below end mid) f g u v) y c d) is k)))
    where
      by : Finishes (moved (below place old) (below end mid) f g u v) (Err e) c d → NotEndedOnDisk old mid place e c f g
      by (inl h) = record { cause = inl h.0; kept = kept_at old mid place end [] (lies_in old place lies) (keeps_nothing (below place old) (below end mid) h.1.untouched.bytes) }
      by (inr h) =
          let put = subst (λ x. PutsPart (moved (below place old) (below end mid) f g u v) x h.bytes) h.whole h.failed.put in
          let part = part_put (moved (below place old) (below end mid) f g u v) h.bytes put in
          record { cause = inr (h.started, h.whole, put.2); kept = kept_at old mid place end part.0 (lies_in old place lies) part.1 }

  pub counts_at_end : (w : Result (Unit {0}) IpcError) → Finishes (moved (below place old) (below end mid) f g u v) w c d → f ≤ g
  counts_at_end (Ok tt) h = h.counts.faults
  counts_at_end (Err e) (inl h) = h.1.untouched.counts.faults
  counts_at_end (Err e) (inr h) =
      let put = subst (λ x. PutsPart (moved (below place old) (below end mid) f g u v) x h.bytes) h.whole h.failed.put in
      put.1.faults

-- ── batches behind one another ──

-- bytes that are known mean some batches
record MeansAt (o : Option (List ℕ)) (c : FileCore) (ts : List TableBatch) : Type 0 where
  bytes : List ℕ
  known : o ≡ Some bytes
  file : IsFile (cells_by c) c bytes ts

appended_to : (a b : Option (List ℕ)) (xs bs : List ℕ) → a ≡ Some xs → Appends a b bs → b ≡ Some (xs ++ bs)
appended_to a b xs bs is h = by b (subst (λ o. Appends o b bs) is h)
  where
    by : (o : Option (List ℕ)) → Appends (Some xs) o bs → o ≡ Some (xs ++ bs)
    by None k = absurd k
    by (Some zs) k = ap (λ z. Some z) k

one_means : (x y : Option (List ℕ)) (c d : FileCore) (b : Batch) (ts : List TableBatch) → IsOneMore x y c d b → MeansAt x c ts → MeansAt y d (ts ++ cells_of b ∷ [])
one_means x y c d b ts o h = record {
  bytes = h.bytes ++ chunk_text o.written.sends.sent b;
  known = sym o.to ∙ appended_to o.moved.old o.moved.new h.bytes (chunk_text o.written.sends.sent b) (o.from ∙ h.known) o.written.sends.appended;
  file = o.written.means h.bytes ts h.file;
}

all_means : (x y : Option (List ℕ)) (c d : FileCore) (bs : List Batch) (ts : List TableBatch) → AreWritten x y c d bs → MeansAt x c ts → MeansAt y d (ts ++ map cells_of bs)
all_means x y c d [] ts none_written h = subst (λ z. MeansAt y d z) (sym (append-nil ts)) h
all_means x y c d (b ∷ bs) ts (one_written {y = v} {d = w} first others) h =
    subst (λ z. MeansAt y d z) (append_assoc ts (cells_of b ∷ []) (map cells_of bs)) (all_means v y w d bs (ts ++ cells_of b ∷ []) others (one_means x v c w b ts first h))

stays_written : (x y : Option (List ℕ)) (c d : FileCore) (bs : List Batch) → AreWritten x y c d bs → Stays c d
stays_written x y c d [] none_written = same_stays c
stays_written x y c d (b ∷ bs) (one_written {y = v} {d = w} first others) = stays_more c w d first.written.sends.stays (stays_written v y w d bs others)

ended_at : (y new : Option (List ℕ)) (end : ℕ) (xs ending : List ℕ) → below end y ≡ Some xs → IfSome y (λ b. new ≡ Some (take end b ++ ending)) → new ≡ Some (xs ++ ending)
ended_at None new end xs ending is h = cc
ended_at (Some w) new end xs ending is h = let same : take end w ≡ xs = cc in h ∙ ap (λ z. Some (z ++ ending)) same

-- Batches that a writer writes behind the file on a disk, as `try_from_file` makes it, whose file is ended there: where the file meant a table, the disk's bytes mean that table with these batches behind its own.
module _ (old cut written new : Option (List ℕ)) (end end' : ℕ) (asked : WriteOptions) (m : FileMetadata) (c d : FileCore) (bs : List Batch) (a : IsAppending old cut end asked m c) (w : AreWritten (below end cut) (below end' written) c d bs) (e : IsEndedOnDisk written new end' d) where
  pub written_behind_means_its_table : (b : List ℕ) (t : ArrowTable) → old ≡ Some b → MeansBefore b m a.place t → IfSome new (λ x. file_table x «all» ≡ Some (followed_by t (map cells_of bs)))
  written_behind_means_its_table b t is before =
      let go = a.means b t is before in
      let z = cut_and_padded a.place b in
      let here : cut ≡ Some z = a.cut ∙ ap (option_map (cut_and_padded a.place)) is in
      let long : end ≡ length z = a.behind ∙ sym a.continued.continues.end ∙ go.file.end in
      let start : MeansAt (below end cut) c t.batches = record { bytes = z; known = ap (below end) here ∙ ap (λ y. Some y) (take_all end z (omega (arith, long))); file = go.file } in
      let there = all_means (below end cut) (below end' written) c d bs t.batches w start in
      let stays = stays_written (below end cut) (below end' written) c d bs w in
      let is_new : new ≡ Some (there.bytes ++ e.ending) = ended_at written new end' there.bytes e.ending there.known e.content in
      subst (λ o. IfSome o (λ x. file_table x «all» ≡ Some (followed_by t (map cells_of bs)))) (sym is_new)
      (e.means.said (still_said c d stays go.said) (cells_by d) there.bytes (t.batches ++ map cells_of bs) there.file ∙ ap (λ y. Some y) (same_table c d t (map cells_of bs) stays go.table))
