-- Offsets that are read, and the bytes between them.
use Rattle.std.proofs.Common.{◌≡◌, ℕ, zero, suc, ◌+◌, ◌<◌, ◌≤◌, List, [], ◌∷◌, Bool, true, false, ℤ, pos, negsuc, length, get_or, nat_le, nat_lt, not, ◌&&◌, ◌||◌, refl, sym, ap, ◌∙◌, arith}
use Rattle.std.specs.Str.{is_utf8}
use Rattle.std.proofs.lemmas.Bool.{le-ltb, ltb-false, le-leb, and_from, or_parts, or_from}
use Rattle.arrow_spec.specs.declared.error.IpcError.TheVariants.{OutOfSpec}
use Rattle.arrow_spec.specs.declared.error.OutOfSpecKind.TheVariants as kinds
use Rattle.arrow_spec.specs.Kinds.{Offsets}
use Rattle.arrow_spec.specs.Counts.{RecordBatch, Place, magnitude, is_negative}
use Rattle.arrow_spec.specs.Arrays as spec
use Rattle.arrow_spec.specs.Arrays.{buf, range_of, signed_in, offset_width, offset, valid, from_on}
use Rattle.arrow_spec.specs.Faults.{range_faults, offsets_faults, some_row, some_valid_row, cause}
use Rattle.arrow_spec.proofs.Fewer.{cause-false, some_row-none, some_row-all, offset-fewer}
use Rattle.arrow_buffers.specs.Rows.{is_valid}
use Rattle.arrow_buffers.specs.Variable.{place_at, rise_from, are_offsets, variable_rows, row_bytes, has_bad_text}
use Rattle.arrow_buffers.proofs.Parts.{length-from_on}
use Rattle.arrow_buffers.proofs.Rising.{offset_risen, offset_climbs}
use Rattle.ipc_read_laws.specs.PartsRead.{validity_read}
use Rattle.ipc_read_laws.proofs.Buffers.{length-buf, get-told, some_row-same}
use Rattle.ipc_read_laws.proofs.Validities.{valid-read}

-- the offsets of so many rows
abbrev pub offsets_told : RecordBatch → Offsets → ℕ → ℕ → List ℤ
offsets_told m o i rows = from_on (λ j. signed_in m (offset_width o) i j) 0 (suc rows)

pub offset-told : (m : RecordBatch) (o : Offsets) (i rows j : ℕ) → j < suc rows → get_or (offsets_told m o i rows) j (pos 0) ≡ signed_in m (offset_width o) i j
offset-told m o i rows j h = get-told (λ k. signed_in m (offset_width o) i k) 0 (suc rows) j (pos 0) h ∙ ap (λ k. signed_in m (offset_width o) i k) (omega arith)

pub place-told : (m : RecordBatch) (o : Offsets) (i rows j : ℕ) → j < suc rows → place_at (offsets_told m o i rows) j ≡ offset m o i j
place-told m o i rows j h = ap magnitude (offset-told m o i rows j h)

pub rows-told : (m : RecordBatch) (o : Offsets) (i rows : ℕ) → variable_rows (offsets_told m o i rows) ≡ rows
rows-told m o i rows = let l = length-from_on (λ k. signed_in m (offset_width o) i k) 0 (suc rows) in omega (arith, l)

-- the bytes of a row
pub row-told : (m : RecordBatch) (o : Offsets) (p : Place) (rows row : ℕ) → row < rows → row_bytes (offsets_told m o (p.buffer + 1) rows) (buf m (p.buffer + 2)) row ≡ spec.row_bytes m o p row
row-told m o p rows row h =
    let a = place-told m o (p.buffer + 1) rows row (omega (arith, h)) in
    let b = place-told m o (p.buffer + 1) rows (suc row) (omega (arith, h)) in
    rw (a, b) refl

-- ── offsets that rise ──

-- a number that is not negative is its magnitude
magnitude_of : (z : ℤ) → is_negative z ≡ false → z ≡ pos (magnitude z)
magnitude_of (pos n) h = refl
magnitude_of (negsuc n) h = cc

rise-told : (f : ℕ → ℤ) (low limit i n : ℕ)
    → ((j : ℕ) → i ≤ j → j < i + n → is_negative (f j) ≡ false)
    → ((j : ℕ) → i ≤ j → suc j < i + n → magnitude (f j) ≤ magnitude (f (suc j)))
    → ((j : ℕ) → i ≤ j → j < i + n → magnitude (f j) ≤ limit)
    → (0 < n → low ≤ magnitude (f i))
    → rise_from low (from_on f i n) limit ≡ true
rise-told f low limit i zero a b c d = refl
rise-told f low limit i (suc n) a b c d =
    let here : f i ≡ pos (magnitude (f i)) = magnitude_of (f i) (a i (omega arith) (omega arith)) in
    let x : nat_le low (magnitude (f i)) ≡ true = le-leb low (magnitude (f i)) (d (omega arith)) in
    let y : nat_le (magnitude (f i)) limit ≡ true = le-leb (magnitude (f i)) limit (c i (omega arith) (omega arith)) in
    let rest : rise_from (magnitude (f i)) (from_on f (suc i) n) limit ≡ true =
    rise-told f (magnitude (f i)) limit (suc i) n (λ j le lt. a j (omega (arith, le)) (omega (arith, lt))) (λ j le lt. b j (omega (arith, le)) (omega (arith, lt))) (λ j le lt. c j (omega (arith, le)) (omega (arith, lt))) (λ more. b i (omega arith) (omega (arith, more))) in
    let all : rise_from low (pos (magnitude (f i)) ∷ from_on f (suc i) n) limit ≡ true = and_from _ _ (and_from _ _ x y) rest in
    ap (λ z. rise_from low (z ∷ from_on f (suc i) n) limit) here ∙ all

-- what is wrong with offsets
abbrev pub offsets_bad : RecordBatch → Offsets → ℕ → ℕ → ℕ → Bool
offsets_bad m o i rows most = some_row (λ j. is_negative (signed_in m (offset_width o) i j)) (suc rows) || some_row (λ j. nat_lt (offset m o i (suc j)) (offset m o i j)) rows || nat_lt most (offset m o i rows)

fine_rise : (m : RecordBatch) (o : Offsets) (i rows most : ℕ) → offsets_bad m o i rows most ≡ false → are_offsets (offsets_told m o i rows) most ≡ true
unfolding offsets_faults
fine_rise m o i rows most h =
    let outer = or_parts _ (nat_lt most (offset m o i rows)) h in
    let inner = or_parts _ _ outer.0 in
    let none : offsets_faults m o i rows most ≡ [] = cause-false _ _ h in
    let last : offset m o i rows ≤ most = ltb-false most (offset m o i rows) outer.1 in
    rise-told (λ j. signed_in m (offset_width o) i j) 0 most 0 (suc rows)
    (λ j le lt. some_row-none (λ k. is_negative (signed_in m (offset_width o) i k)) (suc rows) j inner.0 (omega (arith, lt)))
    (λ j le lt. ltb-false (offset m o i (suc j)) (offset m o i j) (some_row-none (λ k. nat_lt (offset m o i (suc k)) (offset m o i k)) rows j inner.1 (omega (arith, lt))))
    (λ j le lt. let up : offset m o i j ≤ offset m o i rows = offset-fewer m o i rows j most (omega (arith, lt)) none in omega (arith, up, last))
    (λ more. omega arith)

negative_none : (z : ℤ) (n : ℕ) → z ≡ pos n → is_negative z ≡ false
negative_none (pos k) n h = refl
negative_none (negsuc k) n h = cc

rise_fine : (m : RecordBatch) (o : Offsets) (i rows most : ℕ) → are_offsets (offsets_told m o i rows) most ≡ true → offsets_bad m o i rows most ≡ false
rise_fine m o i rows most h =
    let offsets = offsets_told m o i rows in
    let l : length offsets ≡ suc rows = length-from_on (λ k. signed_in m (offset_width o) i k) 0 (suc rows) in
    or_from _ _
    (or_from _ _
    (some_row-all (λ j. is_negative (signed_in m (offset_width o) i j)) (suc rows) (λ j lt. negative_none _ _ (sym (offset-told m o i rows j lt) ∙ (offset_risen offsets most j h (omega (arith, l, lt))).placed)))
    (some_row-all (λ j. nat_lt (offset m o i (suc j)) (offset m o i j)) rows (λ j lt. le-ltb (offset m o i (suc j)) (offset m o i j)
    (omega (arith, offset_climbs offsets most j h (omega (arith, l, lt)), place-told m o i rows j (omega (arith, lt)), place-told m o i rows (suc j) (omega (arith, lt)))))))
    (le-ltb most (offset m o i rows) (omega (arith, (offset_risen offsets most rows h (omega (arith, l))).within, place-told m o i rows rows (omega arith))))

opposites : (a b : Bool) → (b ≡ false → a ≡ true) → (a ≡ true → b ≡ false) → b ≡ not a
opposites true b f g = g refl
opposites false true f g = refl
opposites false false f g = let e : false ≡ true = f refl in cc

-- offsets are refused where they are no good offsets
pub offsets-bad : (m : RecordBatch) (o : Offsets) (i rows most : ℕ) → offsets_bad m o i rows most ≡ not (are_offsets (offsets_told m o i rows) most)
offsets-bad m o i rows most = opposites (are_offsets (offsets_told m o i rows) most) (offsets_bad m o i rows most) (fine_rise m o i rows most) (rise_fine m o i rows most)

-- the same of the buffer's own length, whatever it is
pub offsets-read : (m : RecordBatch) (o : Offsets) (p : Place) (rows : ℕ) → range_faults m (p.buffer + 2) ≡ []
    → offsets_faults m o (p.buffer + 1) rows (magnitude (range_of m (p.buffer + 2)).length) ≡ cause (not (are_offsets (offsets_told m o (p.buffer + 1) rows) (length (buf m (p.buffer + 2))))) (OutOfSpec kinds.InvalidOffsets)
unfolding offsets_faults
offsets-read m o p rows h =
    ap (λ b. cause b (OutOfSpec kinds.InvalidOffsets)) (offsets-bad m o (p.buffer + 1) rows (magnitude (range_of m (p.buffer + 2)).length))
    ∙ ap (λ n. cause (not (are_offsets (offsets_told m o (p.buffer + 1) rows) n)) (OutOfSpec kinds.InvalidOffsets)) (sym (length-buf m (p.buffer + 2) h))

-- ── texts ──

-- some row that is not null is no text, in what was read as in the record batch
pub texts-read : (m : RecordBatch) (o : Offsets) (p : Place) (rows : ℕ) → has_bad_text (offsets_told m o (p.buffer + 1) rows) (buf m (p.buffer + 2)) (validity_read m p rows) ≡ some_valid_row m p (λ row. not (is_utf8 (spec.row_bytes m o p row))) rows
unfolding has_bad_text
texts-read m o p rows =
    let mine : ℕ → Bool = λ row. is_valid (validity_read m p rows) row && not (is_utf8 (row_bytes (offsets_told m o (p.buffer + 1) rows) (buf m (p.buffer + 2)) row)) in
    let told : ℕ → Bool = λ row. valid m p row && not (is_utf8 (spec.row_bytes m o p row)) in
    ap (some_row mine) (rows-told m o (p.buffer + 1) rows)
    ∙ some_row-same mine told rows (λ row h. rw (valid-read m p rows row h, row-told m o p rows row h) refl)
