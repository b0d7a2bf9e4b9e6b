-- All rows that are laid anew, by an induction over those that are left.
use Rattle.std.proofs.Common.{◌≡◌, ℕ, zero, suc, ◌+◌, ◌*◌, ◌^◌, ◌≤◌, ◌<◌, List, [], ◌∷◌, ◌++◌, true, false, length, nat_eq, nat_le, ◌||◌, refl, sym, ap, subst, ◌∙◌, arith, inl, inr, append-nil, append_assoc, length-append}
use Rattle.std.proofs.lemmas.Bool.{eqb-true, le-leb, leb-true, lt-leb, cases_lt, cases_Bool}
use Rattle.arrow_spec.specs.Layout.{zeros}
use Rattle.arrow_spec.specs.Arrays.{u32_of}
use Rattle.arrow_buffers.specs.Rows.{is_valid}
use Rattle.arrow_buffers.specs.Views.{Views, view_rows, view_at}
use Rattle.arrow_buffers.proofs.ViewParts.{Seen, good_row}
use Rattle.arrow_arrays.proofs.PieceLaws.{Viewed}
use Rattle.ipc_write.specs.Compaction.{Laid, view_before, buffer_before, laid_from, value_at, long_view, buffer_limit, begun_buffer, has_room}
use Rattle.ipc_write.proofs.CompactedViews.{short_viewed, value_viewed, length-long_view, length-view, first_view, next_view}

-- what holds of each way to lay a row holds of the row that is laid
pub by_row : (P : Laid → Type 0) (p : Views) (row number : ℕ) (begun : List ℕ) (n : ℕ)
    → (is_valid p.validity row ≡ false → P (view_before (zeros 16) (laid_from p (suc row) number begun n)))
    → (is_valid p.validity row ≡ true → u32_of (view_at p.views row) 0 ≤ 12 → P (view_before (view_at p.views row) (laid_from p (suc row) number begun n)))
    → (is_valid p.validity row ≡ true → 12 < u32_of (view_at p.views row) 0 → has_room (length begun) (u32_of (view_at p.views row) 0) ≡ true → P (view_before (long_view (value_at p row) number (length begun)) (laid_from p (suc row) number (begun ++ value_at p row) n)))
    → (is_valid p.validity row ≡ true → 12 < u32_of (view_at p.views row) 0 → has_room (length begun) (u32_of (view_at p.views row) 0) ≡ false → P (buffer_before begun (view_before (long_view (value_at p row) (suc number) 0) (laid_from p (suc row) (suc number) (value_at p row) n))))
    → P (laid_from p row number begun (suc n))
by_row P p row number begun n null short here new =
    let size = u32_of (view_at p.views row) 0 in
    elim (cases_Bool (is_valid p.validity row)) [
      | inr v ↦ rw v (null v)
      | inl v ↦
          elim (cases_lt 12 size) [
            | inr few ↦
                let t : nat_le size 12 ≡ true = le-leb _ 12 few in
                rw (v, t) (short v few)
            | inl long ↦
                let t : nat_le size 12 ≡ false = lt-leb _ 12 long in
                elim (cases_Bool (has_room (length begun) size)) [
                  | inl fits ↦ rw (v, t, fits) (here v long fits)
                  | inr over ↦ rw (v, t, over) (new v long over)
                ]
          ]
    ]

-- a buffer that has room is not long
room_short : (begun count : ℕ) → has_room begun count ≡ true → begun < 2 ^ 32
room_short begun count h =
    elim (cases_Bool (nat_eq begun 0)) [
      | inl e ↦ omega (arith, eqb-true begun 0 e)
      | inr e ↦
          let within : nat_le (begun + count) buffer_limit ≡ true = ap (λ b. b || nat_le (begun + count) buffer_limit) (sym e) ∙ h in
          let near : begun + count ≤ buffer_limit = leb-true (begun + count) buffer_limit within in
          omega arith
    ]

-- a long value has the length that its view says, which is small
pub record LongValue (p : Views) (row : ℕ) : Type 0 where
  pub long : 12 < length (value_at p row)
  pub small : length (value_at p row) < 2 ^ 32

-- a list of buffers of which the first begins with some bytes
record Begins (begun : List ℕ) (buffers : List (List ℕ)) : Type 0 where
  more : List ℕ
  others : List (List ℕ)
  whole : buffers ≡ (begun ++ more) ∷ others

begins_last : (begun : List ℕ) → 0 < length begun → Begins begun (begun_buffer begun)
begins_last [] h = absurd (omega arith)
begins_last (x ∷ xs) h = record { more = []; others = []; whole = ap (λ b. b ∷ []) (sym (append-nil (x ∷ xs))) }

begins_less : (begun value : List ℕ) (buffers : List (List ℕ)) → Begins (begun ++ value) buffers → Begins begun buffers
begins_less begun value buffers b = record { more = value ++ b.more; others = b.others; whole = b.whole ∙ ap (λ x. x ∷ b.others) (append_assoc begun value b.more) }

-- the buffer that is begun is the first, and more is laid behind what it has
begins : (p : Views) (n row number : ℕ) (begun : List ℕ) → 0 < length begun → Begins begun (laid_from p row number begun n).buffers
begins p zero row number begun h = begins_last begun h
begins p (suc n) row number begun h =
    by_row (λ l. Begins begun l.buffers) p row number begun n
    (λ v. begins p n (suc row) number begun h)
    (λ v few. begins p n (suc row) number begun h)
    (λ v long fits. begins_less begun (value_at p row) _ (begins p n (suc row) number (begun ++ value_at p row) (omega (arith, length-append begun (value_at p row)))))
    (λ v long over. record { more = []; others = (laid_from p (suc row) (suc number) (value_at p row) n).buffers; whole = ap (λ b. b ∷ (laid_from p (suc row) (suc number) (value_at p row) n).buffers) (sym (append-nil begun)) })

-- ── the views ──

length-before : (view : List ℕ) (rest : List ℕ) (n : ℕ) → length view ≡ 16 → length rest ≡ 16 * n → length (view ++ rest) ≡ 16 * suc n
length-before view rest n e f = omega (arith, length-append view rest)

-- a row that is not null has a view of its value
abbrev pub RowViewed : Views → List (List ℕ) → List ℕ → ℕ → Type 0
RowViewed p buffers view row = is_valid p.validity row ≡ true → Viewed buffers view (value_at p row)

rows_before : (p : Views) (buffers : List (List ℕ)) (view rest : List ℕ) (row n : ℕ) → length view ≡ 16 → RowViewed p buffers view row
    → ((k : ℕ) → k < n → RowViewed p buffers (view_at rest k) (suc row + k)) → (k : ℕ) → k < suc n → RowViewed p buffers (view_at (view ++ rest) k) (row + k)
rows_before p buffers view rest row n e first others zero h =
    let same : row ≡ row + 0 = omega arith in
    subst (λ r. RowViewed p buffers (view_at (view ++ rest) 0) r) same (subst (λ w. RowViewed p buffers w row) (sym (first_view view rest e)) first)
rows_before p buffers view rest row n e first others (suc k) h =
    let same : suc row + k ≡ row + suc k = omega arith in
    subst (λ r. RowViewed p buffers (view_at (view ++ rest) (suc k)) r) same (subst (λ w. RowViewed p buffers w (suc row + k)) (sym (next_view view rest k e)) (others k (omega arith)))

-- premises
module _ (p : Views) (are_long : (row : ℕ) → row < view_rows p.views → is_valid p.validity row ≡ true → 12 < u32_of (view_at p.views row) 0 → 12 < length (value_at p row)) where
  -- as many views as rows
  pub length-laid : (n row number : ℕ) (begun : List ℕ) → row + n ≤ view_rows p.views → length (laid_from p row number begun n).views ≡ 16 * n
  length-laid zero row number begun h = omega arith
  length-laid (suc n) row number begun h =
      by_row (λ l. length l.views ≡ 16 * suc n) p row number begun n
      (λ v. length-before (zeros 16) (laid_from p (suc row) number begun n).views n refl (length-laid n (suc row) number begun (omega arith)))
      (λ v few. length-before (view_at p.views row) (laid_from p (suc row) number begun n).views n (length-view p row (omega arith)) (length-laid n (suc row) number begun (omega arith)))
      (λ v long fits. length-before (long_view (value_at p row) number (length begun)) (laid_from p (suc row) number (begun ++ value_at p row) n).views n (length-long_view (value_at p row) number (length begun) (are_long row (omega arith) v long)) (length-laid n (suc row) number (begun ++ value_at p row) (omega arith)))
      (λ v long over. length-before (long_view (value_at p row) (suc number) 0) (laid_from p (suc row) (suc number) (value_at p row) n).views n (length-long_view (value_at p row) (suc number) 0 (are_long row (omega arith) v long)) (length-laid n (suc row) (suc number) (value_at p row) (omega arith)))

-- premises
module _ (p : Views) (seen : Seen p) (values : (row : ℕ) → row < view_rows p.views → is_valid p.validity row ≡ true → 12 < u32_of (view_at p.views row) 0 → LongValue p row) where
  -- the value that is laid behind what was begun
  here_viewed : (front buffers : List (List ℕ)) (begun : List ℕ) (row number : ℕ) → length front ≡ number → LongValue p row → length begun < 2 ^ 32 → number + length buffers ≤ 2 ^ 32 → Begins (begun ++ value_at p row) buffers
      → Viewed (front ++ buffers) (long_view (value_at p row) number (length begun)) (value_at p row)
  here_viewed front buffers begun row number e l near few b =
      let some : length buffers ≡ suc (length b.others) = ap length b.whole in
      subst (λ x. Viewed (front ++ x) (long_view (value_at p row) number (length begun)) (value_at p row)) (sym b.whole)
      (value_viewed front b.others begun (value_at p row) b.more number e l.long l.small (omega arith) near)

  -- each row's view is of its value, behind as many buffers as the number says
  pub laid_rows : (n row number : ℕ) (begun : List ℕ) (front : List (List ℕ)) → length front ≡ number → row + n ≤ view_rows p.views → number + length (laid_from p row number begun n).buffers ≤ 2 ^ 32
      → (k : ℕ) → k < n → RowViewed p (front ++ (laid_from p row number begun n).buffers) (view_at (laid_from p row number begun n).views k) (row + k)
  laid_rows zero row number begun front e h = λ few k lt. absurd (omega (arith, lt))
  laid_rows (suc n) row number begun front e h =
      by_row (λ l. number + length l.buffers ≤ 2 ^ 32 → (k : ℕ) → k < suc n → RowViewed p (front ++ l.buffers) (view_at l.views k) (row + k)) p row number begun n
      (λ v few.
      let rest = laid_from p (suc row) number begun n in
      rows_before p (front ++ rest.buffers) (zeros 16) rest.views row n refl (λ w. absurd (cc (v, w))) (laid_rows n (suc row) number begun front e (omega arith) few))
      (λ v short few.
      let rest = laid_from p (suc row) number begun n in
      rows_before p (front ++ rest.buffers) (view_at p.views row) rest.views row n (length-view p row (omega arith))
      (λ w. short_viewed p.buffers (front ++ rest.buffers) (view_at p.views row) short (good_row p row seen (omega arith) v))
      (laid_rows n (suc row) number begun front e (omega arith) few))
      (λ v long fits few.
      let value = value_at p row in
      let rest = laid_from p (suc row) number (begun ++ value) n in
      let l = values row (omega arith) v long in
      let long_here : 12 < length value = l.long in
      let first = begins p n (suc row) number (begun ++ value) (omega (arith, length-append begun value)) in
      rows_before p (front ++ rest.buffers) (long_view value number (length begun)) rest.views row n (length-long_view value number (length begun) l.long)
      (λ w. here_viewed front rest.buffers begun row number e l (room_short (length begun) (u32_of (view_at p.views row) 0) fits) few first)
      (laid_rows n (suc row) number (begun ++ value) front e (omega arith) few))
      (λ v long over few.
      let value = value_at p row in
      let rest = laid_from p (suc row) (suc number) value n in
      let l = values row (omega arith) v long in
      let long_here : 12 < length value = l.long in
      let first = begins p n (suc row) (suc number) value (omega arith) in
      let ended = front ++ begun ∷ [] in
      let count : length ended ≡ suc number = omega (arith, length-append front (begun ∷ [])) in
      let fewer : suc number + length rest.buffers ≤ 2 ^ 32 = omega (arith, few) in
      let same : ended ++ rest.buffers ≡ front ++ begun ∷ rest.buffers = append_assoc front (begun ∷ []) rest.buffers in
      subst (λ x. (k : ℕ) → k < suc n → RowViewed p x (view_at (long_view value (suc number) 0 ++ rest.views) k) (row + k)) same
      (rows_before p (ended ++ rest.buffers) (long_view value (suc number) 0) rest.views row n (length-long_view value (suc number) 0 l.long)
      (λ w. here_viewed ended rest.buffers [] row (suc number) count l (omega arith) fewer first)
      (laid_rows n (suc row) (suc number) value ended count (omega arith) fewer)))
