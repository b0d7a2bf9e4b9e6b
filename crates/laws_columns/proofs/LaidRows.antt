-- Views that are laid anew: the buffers have the lengths that the record batch says.
use Rattle.std.proofs.Common.{◌≡◌, ℕ, zero, suc, ◌+◌, ◌-◌, ◌*◌, ◌≤◌, ◌<◌, List, [], ◌∷◌, ◌++◌, Bool, true, false, None, length, map, min, nat_le, refl, sym, ap, ◌∙◌, arith, length-append}
use Rattle.std.specs.Prelude.{nat_lt, sum_by, if◌then◌else◌}
use Rattle.std.proofs.lemmas.Bool.{le-leb, lt-leb, lt-ltb}
use Rattle.std.proofs.lemmas.List.Sums.{sum-map}
use Rattle.arrow_spec.specs.Kinds.{Kind}
use Rattle.arrow_spec.specs.Counts.{RecordBatch, Place, count_at}
use Rattle.arrow_spec.specs.Arrays.{u32_of}
use Rattle.arrow_spec.specs.Faults.{view_parts_faults}
use Rattle.arrow_spec.specs.Sent as sent
use Rattle.arrow_spec.specs.Sent.{lengths_on, view_length, view_lengths}
use Rattle.ipc_write.specs.Below.{is_valid, Views, view_rows, view_at, view_fault, views_read}
use Rattle.ipc_write.proofs.Below.{valid-read, count-rows, view-told, lengths-buffers, views_held, buffers_held}
use Rattle.ipc_write.specs.Compaction.{begun_buffer, laid_from, laid_anew, value_at, value_length, value_lengths, views_need_compaction}
use Rattle.ipc_write.proofs.CompactedRows.{by_row, length-laid}
use Rattle.ipc_write.proofs.Laying.{value_size}

-- ── what is read ──

-- views are what a record batch has at a place: as many rows, values of the same lengths, and buffers of the stated lengths
pub record AreRead (m : RecordBatch) (p : Place) (rows : ℕ) (q : Views) : Type 0 where
  pub rows_same : view_rows q.views ≡ rows
  pub lengths : (row : ℕ) → row < rows → value_length q row ≡ view_length m p row
  pub values : (row : ℕ) → row < rows → is_valid q.validity row ≡ true → 12 < u32_of (view_at q.views row) 0 → length (value_at q row) ≡ u32_of (view_at q.views row) 0
  pub buffers : map length q.buffers ≡ lengths_on m (p.buffer + 2) (count_at m p.view)

length_same : (v w : Bool) (a b : List ℕ) → v ≡ w → a ≡ b → (if v then u32_of a 0 else 0) ≡ (if w then u32_of b 0 else 0)
length_same v w a b e f = rw (e, f) refl

pub are_read : (is_text s : Bool) (m : RecordBatch) (k : Kind) (p : Place) (n : ℕ) → view_parts_faults m p (suc n) ≡ [] → view_fault is_text s (views_read m k p (suc n)) ≡ None → AreRead m p (suc n) (views_read m k p (suc n))
are_read is_text s m k p n parts fine =
    let q = views_read m k p (suc n) in
    let count : view_rows q.views ≡ suc n = count-rows m 16 (p.buffer + 1) (suc n) (omega arith) (views_held m p (suc n) parts) in
    record {
      rows_same = count;
      lengths = λ row lt. length_same _ _ _ _ (valid-read m p (suc n) row lt) (view-told m p (suc n) row lt);
      values = λ row lt v long. value_size is_text s q row fine (rw count lt) v long;
      buffers = lengths-buffers m p (buffers_held m p (suc n) parts);
    }

-- ── when ──

lengths_same : (m : RecordBatch) (p : Place) (rows : ℕ) (q : Views) → AreRead m p rows q → (n : ℕ) → n ≤ rows → value_lengths q n ≡ view_lengths m p n
lengths_same m p rows q is zero h = refl
lengths_same m p rows q is (suc n) h = rw (lengths_same m p rows q is n (omega arith), is.lengths n (omega arith)) refl

-- they are laid anew exactly where the record batch says so
pub compacted_same : (m : RecordBatch) (p : Place) (rows : ℕ) (q : Views) → AreRead m p rows q → sent.needs_compaction m p rows ≡ views_need_compaction q
unfolding views_need_compaction
compacted_same m p rows q is =
    let values : value_lengths q (view_rows q.views) ≡ view_lengths m p rows = ap (value_lengths q) is.rows_same ∙ lengths_same m p rows q is rows (omega arith) in
    let held : sum_by length q.buffers ≡ sum_by (λ x. x) (lengths_on m (p.buffer + 2) (count_at m p.view)) = sym (sum-map length q.buffers) ∙ ap (λ xs. sum_by (λ x. x) xs) is.buffers in
    let test : ℕ → ℕ → Bool = λ v all. nat_le (min v 1024) (all - v) in
    sym (ap (λ v. test v (sum_by length q.buffers)) values ∙ ap (test (view_lengths m p rows)) held)

-- ── how ──

begun_length : (begun : List ℕ) → map length (begun_buffer begun) ≡ (if nat_lt 0 (length begun) then length begun ∷ [] else [])
begun_length [] = refl
begun_length (x ∷ begun) = let some : nat_lt 0 (length (x ∷ begun)) ≡ true = lt-ltb 0 (length (x ∷ begun)) (omega arith) in rw some refl

-- the same in the record batch
passed_row : (m : RecordBatch) (p : Place) (row begun n : ℕ) → view_length m p row ≤ 12 → sent.compacted m p row begun (suc n) ≡ sent.compacted m p (suc row) begun n
passed_row m p row begun n h = let t : nat_le (view_length m p row) 12 ≡ true = le-leb _ 12 h in rw t refl

here_row : (m : RecordBatch) (p : Place) (row begun n : ℕ) → 12 < view_length m p row → sent.has_room begun (view_length m p row) ≡ true → sent.compacted m p row begun (suc n) ≡ sent.compacted m p (suc row) (begun + view_length m p row) n
here_row m p row begun n h k =
    let t : nat_le (view_length m p row) 12 ≡ false = lt-leb _ 12 h in
    rw (t, k) refl

new_row : (m : RecordBatch) (p : Place) (row begun n : ℕ) → 12 < view_length m p row → sent.has_room begun (view_length m p row) ≡ false → sent.compacted m p row begun (suc n) ≡ begun ∷ sent.compacted m p (suc row) (view_length m p row) n
new_row m p row begun n h k =
    let t : nat_le (view_length m p row) 12 ≡ false = lt-leb _ 12 h in
    rw (t, k) refl

length_null : (v : Bool) (a b : ℕ) → v ≡ false → (if v then a else 0) ≡ b → b ≡ 0
length_null v a b e h = sym (rw e at h)

length_there : (v : Bool) (a b : ℕ) → v ≡ true → (if v then a else 0) ≡ b → b ≡ a
length_there v a b e h = sym (rw e at h)

module _ (m : RecordBatch) (p : Place) (rows : ℕ) (q : Views) (is : AreRead m p rows q) where
  null_length : (row : ℕ) → row < rows → is_valid q.validity row ≡ false → view_length m p row ≡ 0
  null_length row lt v = length_null (is_valid q.validity row) (u32_of (view_at q.views row) 0) (view_length m p row) v (is.lengths row lt)

  there_length : (row : ℕ) → row < rows → is_valid q.validity row ≡ true → view_length m p row ≡ u32_of (view_at q.views row) 0
  there_length row lt v = length_there (is_valid q.validity row) (u32_of (view_at q.views row) 0) (view_length m p row) v (is.lengths row lt)

  -- the lengths of the buffers that are laid
  pub laid_lengths : (n row number : ℕ) (begun : List ℕ) → row + n ≤ rows → map length (laid_from q row number begun n).buffers ≡ sent.compacted m p row (length begun) n
  laid_lengths zero row number begun h = begun_length begun
  laid_lengths (suc n) row number begun h =
      let lt : row < rows = omega arith in
      by_row (λ l. map length l.buffers ≡ sent.compacted m p row (length begun) (suc n)) q row number begun n
      (λ v.
      let size = null_length row lt v in
      laid_lengths n (suc row) number begun (omega arith) ∙ sym (passed_row m p row (length begun) n (omega arith)))
      (λ v few.
      let size = there_length row lt v in
      laid_lengths n (suc row) number begun (omega arith) ∙ sym (passed_row m p row (length begun) n (rw size few)))
      (λ v long fits.
      let size = there_length row lt v in
      let value = value_at q row in
      let more : length (begun ++ value) ≡ length begun + view_length m p row = omega (arith, length-append begun value, is.values row lt v long, size) in
      laid_lengths n (suc row) number (begun ++ value) (omega arith) ∙ ap (λ b. sent.compacted m p (suc row) b n) more ∙ sym (here_row m p row (length begun) n (rw size long) (rw size fits)))
      (λ v long over.
      let size = there_length row lt v in
      let value = value_at q row in
      let one : length value ≡ view_length m p row = is.values row lt v long ∙ sym size in
      ap (λ ns. length begun ∷ ns) (laid_lengths n (suc row) (suc number) value (omega arith) ∙ ap (λ b. sent.compacted m p (suc row) b n) one) ∙ sym (new_row m p row (length begun) n (rw size long) (rw size over)))

  long_value : (row : ℕ) → row < view_rows q.views → is_valid q.validity row ≡ true → 12 < u32_of (view_at q.views row) 0 → 12 < length (value_at q row)
  long_value row lt v long = rw (is.values row (omega (arith, lt, is.rows_same)) v long) long

  -- all of them
  pub anew_lengths : map length (laid_anew q).buffers ≡ sent.compacted m p 0 0 rows
  unfolding laid_anew
  anew_lengths =
      let few : 0 + view_rows q.views ≤ rows = omega (arith, is.rows_same) in
      laid_lengths (view_rows q.views) 0 0 [] few ∙ ap (sent.compacted m p 0 0) is.rows_same

  -- and as many views as rows
  pub anew_views : length (laid_anew q).views ≡ 16 * rows
  unfolding laid_anew
  anew_views = length-laid q long_value (view_rows q.views) 0 0 [] (omega arith) ∙ ap (λ n. 16 * n) is.rows_same
