-- A batch over a file's lists that is written behind others, or not.
use Rattle.std.proofs.Common.{◌≡◌, ◌⊎◌, inl, inr, ℕ, List, [], ◌∷◌, ◌++◌, map, length, take, drop, get_or, suc, ◌+◌, ◌<◌, true, false, Option, None, Ok, Err, Result, refl, sym, ap, subst, ◌∙◌, add-one, All, ◌≤◌, ◌*◌, arith, OnOk}
use Rattle.std.specs.Rc.{rc_value}
use Rattle.std.specs.Result.{IsErrAnd}
use Rattle.std.proofs.KnownBytes.{Appends-trans}
use Rattle.std.proofs.Math.Seq.{split_at, take-suc}
use Rattle.std.specs.Prelude.{sum_by}
use Rattle.std.proofs.lemmas.List.{map-append, take_all}
use Rattle.std.proofs.lemmas.List.Sums.{AllPass-from_list_all, sum_by_push}
use Rattle.arrow_spec.specs.declared.error.IpcError.{IpcError}
use Rattle.arrow_spec.specs.declared.error.IpcError.TheVariants as errors
use Rattle.arrow_spec.specs.Files.{TableBatch}
use Rattle.arrow_spec.specs.Kinds.{have_same_kinds}
use Rattle.arrow_types.specs.Schemas.{fields_in}
use Rattle.arrow_arrays.specs.Batches.{Batch}
use Rattle.arrow_arrays.specs.Parts.{fault_each, forest}
use Rattle.arrow_arrays.specs.Columns.{columns_of}
use Rattle.ipc_fields.specs.IpcFields.{Ids}
use Rattle.ipc_append.specs.Columns.{are_of, is_of}
use Rattle.ipc_io.specs.Outside.{SinkKept}
use Rattle.ipc_bodies.specs.Puts.{Moved, NoneFalls}
use Rattle.laws_walk.proofs.Below.{columns_right}
use Rattle.ipc_append.specs.Below.{arrays_sent, begun, columns_fault, held_by, options_of, unless_fault, SendCause, SuitsFile, Writes, file_ids, file_schema, found_before, IsFile, cells_by, FileCore, WriteOptions, StreamMetadata}
use Rattle.ipc_append.proofs.Below.{columns_of_kinds, more_limit}
use Rattle.laws_walk.specs.Below.{cells_of, chunk_text, is_started, table_of}
use Rattle.ipc_append.specs.Below.Calls as writer
use Rattle.ipc_unify.specs.Below.{AreOver, Lists}
use Rattle.ipc_to_file.specs.Writing.{IsFront, IsGoing, IsNext, StopsBatch, StopsFile, in_batch}
use Rattle.ipc_to_file.proofs.Fields.{are_file_fields}
use Rattle.ipc_to_file.proofs.Puts.{file_stays, part_counts, part_stops, sink_same, sink_since, stops_since}
use Rattle.ipc_to_file.proofs.Walks.{Ends, HoldsLists, arrays_end}

pub write_counts : (v : Moved) (r : Result (Unit {0}) IpcError) (old new : FileCore) (b : Batch) (given : Option Ids) → Writes v r old new b given → NoneFalls v
write_counts v (Ok u) old new b given h = h.sends.counts
write_counts v (Err e) old new b given (inl h) = h.1.untouched.counts
write_counts v (Err e) old new b given (inr h) = part_counts v e _ h.sends.failed.put

module _ (m : StreamMetadata) (us : Lists) (old new : FileCore) (start : Option (List ℕ)) (v : Moved) (before : List Batch) (b : Batch) (is : IsGoing m us old start v.old before) (next : IsNext m us b) (sound : fault_each (forest b.arrays) ≡ None) where
  abbrev front : IsFront m old is.put.bytes before
  front = is.put.front

  own_kinds : have_same_kinds (fields_in (file_schema old)) (columns_of (forest b.arrays)) ≡ true
  own_kinds = subst (λ s. have_same_kinds (fields_in s) (columns_of (forest b.arrays)) ≡ true) (sym front.file.schema) next.kinds

  suits : SuitsFile old b None
  suits = record { types = own_kinds; own = tt }

  pub walked : Ends us (arrays_sent (options_of old.tracker) (forest b.arrays) (file_ids old) (begun old.tracker))
  walked =
      let fields = are_file_fields m (file_ids old) is.may front.file.ids in
      let fs = fields_in (rc_value m.schema) in
      arrays_end us (options_of old.tracker) (old.deltas ∙ ap (λ (o : WriteOptions). o.deltas) front.file.options) (forest b.arrays) fs 0 (file_ids old) (begun old.tracker) fields.numbers (columns_of_kinds (forest b.arrays) fs next.kinds) sound next.over is.holds

  -- its dictionaries are not refused
  pub found : found_before old b ≡ Ok walked.behind
  found =
      let fields = are_file_fields m (file_ids old) is.may front.file.ids in
      let none : columns_fault (columns_of (forest b.arrays)) (file_ids old) ≡ None = columns_right (fields_in (rc_value m.schema)) (file_ids old) (forest b.arrays) next.kinds fields.shapes fields.agree fields.all in
      ap (λ f. unless_fault f (arrays_sent (options_of old.tracker) (forest b.arrays) (file_ids old) (begun old.tracker))) none ∙ walked.is

  pub going : writer.HasWritten v old new b None → IsGoing m us new start v.new (before ++ b ∷ [])
  going h =
      let s = h.sends in
      let x = is.put.bytes in
      let both = sym found ∙ s.is_found in
      let same : walked.behind ≡ record { held = held_by new.tracker; used = s.used; sent = s.sent } = cc in
      let cells : map cells_of before ++ cells_of b ∷ [] ≡ map cells_of (before ++ b ∷ []) = sym (map-append cells_of before (b ∷ [])) in
      record {
        may = is.may;
        put = record {
          bytes = x ++ chunk_text s.sent b;
          front = record {
            file = file_stays m old new front.file s.stays;
            started = ap is_started s.state ∙ front.started;
            means = subst (λ ts. IsFile (cells_by new) new (x ++ chunk_text s.sent b) ts) cells (h.means x (map cells_of before) front.means);
          };
          added = Appends-trans start v.old v.new x (chunk_text s.sent b) is.put.added s.appended;
        };
        holds = subst (HoldsLists us) same walked.holds;
      }

  sends_stops : (e : IpcError) → SendCause e old b → StopsBatch e m before b start v.new v.faults v.faults_now
  sends_stops e (inl memory) = λ behind. subst (λ z. StopsFile z m (before ++ b ∷ behind) start v.new v.faults v.faults_now) (sym memory) tt
  sends_stops e (inr (inl never)) = λ behind. let clash : Err e ≡ Ok walked.behind = sym never ∙ found in cc
  sends_stops e (inr (inr (s, found_is, refused))) = λ behind. by behind (more_limit e old s.sent b (ap (λ (o : WriteOptions). o.compression) front.file.options) refused)
    where
      by : (behind : List Batch) → (e ≡ errors.Memory) ⊎ (e ≡ errors.TooLarge) → StopsFile e m (before ++ b ∷ behind) start v.new v.faults v.faults_now
      by behind (inl memory) = subst (λ z. StopsFile z m (before ++ b ∷ behind) start v.new v.faults v.faults_now) (sym memory) tt
      by behind (inr large) =
          subst (λ z. StopsFile z m (before ++ b ∷ behind) start v.new v.faults v.faults_now) (sym large) (in_batch behind refl front found_is (subst (λ z. writer.RefusesMore z old s.sent b) large refused))

  pub stops : (e : IpcError) → Writes v (Err e) old new b None → StopsBatch e m before b start v.new v.faults v.faults_now
  stops e (inr failed) = λ behind. part_stops m (before ++ b ∷ behind) start v e _ failed.sends.failed.put
  stops e (inl (inl never, leaves)) = let clash : true ≡ false = sym front.started ∙ never.1 in cc
  stops e (inl (inr (_, inl never), leaves)) = absurd (never.1 suits)
  stops e (inl (inr (_, inr (_, cause)), leaves)) = sends_stops e cause

pub not_ok : {A : Type 0} (r : Result A IpcError) (X : Type 0) (e : IpcError) → IsErrAnd r (λ f. f ≡ e) → OnOk r X
not_ok (Ok x) X e h = absurd h
not_ok (Err f) X e h = tt

-- ── all of them ──

one_of : {A : Type 0} (i : ℕ) (xs : List A) (x : A) → i < length xs → x ≡ get_or xs i x → take (i + 1) xs ≡ take i xs ++ x ∷ []
one_of i xs x less is = rw add-one (take-suc xs i x less ∙ ap (λ y. take i xs ++ y ∷ []) (sym is))

all_of : {A : Type 0} (i : ℕ) (xs : List A) (x : A) → i < length xs → x ≡ get_or xs i x → xs ≡ take i xs ++ x ∷ drop (suc i) xs
all_of i xs x less is = split_at xs i x less ∙ ap (λ y. take i xs ++ y ∷ drop (suc i) xs) (sym is)

pub are_next : (m : StreamMetadata) (us : Lists) (bs : List Batch) → are_of (fields_in (rc_value m.schema)) bs ≡ true → All (λ b. AreOver us (forest b.arrays) 0) bs → All (IsNext m us) bs
are_next m us bs kinds over k d less = record { kinds = AllPass-from_list_all (is_of (fields_in (rc_value m.schema))) bs kinds k d less; over = over k d less }

abbrev rows_of : List Batch → ℕ
rows_of bs = sum_by (λ (t : TableBatch). t.rows) (map table_of bs)

rows_more : (bs : List Batch) (b : Batch) → rows_of (bs ++ b ∷ []) ≡ rows_of bs + b.height
rows_more bs b = ap (sum_by (λ (t : TableBatch). t.rows)) (map-append table_of bs (b ∷ [])) ∙ sum_by_push (λ (t : TableBatch). t.rows) (map table_of bs) (table_of b)

module _ {W : Type 0} (written_of : W → Option (List ℕ)) (faults_of wants_of : W → ℕ) (references_of : W → List ℕ) where
  -- so many of a file's batches were written
  pub record AreWritten (c c' : FileCore) (w w' : W) (bs : List Batch) (i rows : ℕ) : Type 0 where
    pub rows_are : rows ≡ rows_of (take i bs)
    pub few : rows ≤ i * 18446744073709551615
    pub going : (m : StreamMetadata) (us : Lists) (start : Option (List ℕ)) → IsGoing m us c start (written_of w) [] → All (IsNext m us) bs → IsGoing m us c' start (written_of w') (take i bs)
    pub kept : SinkKept faults_of wants_of references_of w w'

  pub none_written : (c : FileCore) (w : W) (bs : List Batch) → AreWritten c c w w bs 0 0
  none_written c w bs = record { rows_are = refl; few = omega arith; going = λ m us start h all. h; kept = sink_same faults_of wants_of references_of w }

  module _ (c c' c'' : FileCore) (w w' w'' : W) (bs : List Batch) (i rows : ℕ) (b : Batch) (less : i < length bs) (is : b ≡ get_or bs i b) (a : AreWritten c c' w w' bs i rows) where
    pub one_written : (count : ℕ) → count ≡ b.height → count ≤ 18446744073709551615
        → ((m : StreamMetadata) (us : Lists) (start : Option (List ℕ)) (before : List Batch) → IsGoing m us c' start (written_of w') before → IsNext m us b → IsGoing m us c'' start (written_of w'') (before ++ b ∷ []))
        → SinkKept faults_of wants_of references_of w' w'' → AreWritten c c'' w w'' bs (i + 1) (rows + count)
    one_written count height few goes kept =
        let more = one_of i bs b less is in
        record {
          rows_are = ap (λ n. n + count) a.rows_are ∙ ap (λ n. rows_of (take i bs) + n) height ∙ sym (rows_more (take i bs) b) ∙ ap rows_of (sym more);
          few = omega (arith, a.few, few);
          going = λ m us start h all. subst (IsGoing m us c'' start (written_of w'')) (sym more) (goes m us start (take i bs) (a.going m us start h all) (subst (IsNext m us) (sym is) (all i b less)));
          kept = sink_since faults_of wants_of references_of w w' w'' a.kept kept;
        }

    pub one_stopped : (e : IpcError)
        → ((m : StreamMetadata) (us : Lists) (start : Option (List ℕ)) (before : List Batch) → IsGoing m us c' start (written_of w') before → IsNext m us b → StopsBatch e m before b start (written_of w'') (faults_of w') (faults_of w''))
        → (m : StreamMetadata) (us : Lists) (start : Option (List ℕ)) → IsGoing m us c start (written_of w) [] → All (IsNext m us) bs → StopsFile e m bs start (written_of w'') (faults_of w) (faults_of w'')
    one_stopped e stops m us start h all =
        let stopped = stops m us start (take i bs) (a.going m us start h all) (subst (IsNext m us) (sym is) (all i b less)) (drop (suc i) bs) in
        stops_since e m bs start (written_of w'') (faults_of w) (faults_of w') (faults_of w'') a.kept.faults (subst (λ ys. StopsFile e m ys start (written_of w'') (faults_of w') (faults_of w'')) (sym (all_of i bs b less is)) stopped)

  pub all_written : (c c' : FileCore) (w w' : W) (bs : List Batch) (i rows : ℕ) → length bs ≤ i → AreWritten c c' w w' bs i rows → (m : StreamMetadata) (us : Lists) (start : Option (List ℕ)) → IsGoing m us c start (written_of w) [] → All (IsNext m us) bs → IsGoing m us c' start (written_of w') bs
  all_written c c' w w' bs i rows done a m us start h all = subst (IsGoing m us c' start (written_of w')) (take_all i bs done) (a.going m us start h all)

  pub all_rows : (c c' : FileCore) (w w' : W) (bs : List Batch) (i rows : ℕ) → length bs ≤ i → AreWritten c c' w w' bs i rows → rows ≡ sum_by (λ (t : TableBatch). t.rows) (map table_of bs)
  all_rows c c' w w' bs i rows done a = a.rows_are ∙ ap rows_of (take_all i bs done)
