-- What a column's node and validity say where it stands, and what shows that a column means its cells.
use Rattle.std.proofs.Common.{◌≡◌, ℕ, zero, suc, ◌+◌, ◌*◌, ◌≤◌, ◌<◌, List, [], ◌∷◌, ◌++◌, length, map, get_or, slice_get, Option, Some, None, Bool, true, false, cond, pos, refl, sym, ap, subst, ◌∙◌, arith, inl, inr}
use Rattle.std.specs.Prelude.{not, nat_lt}
use Rattle.std.specs.List.{count_by}
use Rattle.std.proofs.lemmas.Bool.{lt-ltb, le-ltb, eqb-true, cases_lt, cases_Bool}
use Rattle.std.proofs.lemmas.List.{get_or_default}
use Rattle.std.proofs.lemmas.List.Sums.{get_or-le-sum_by}
use Rattle.arrow_spec.specs.declared.error.IpcError.{IpcError}
use Rattle.arrow_spec.specs.Flat.{Order}
use Rattle.arrow_spec.specs.Kinds.{Kind, extension}
use Rattle.arrow_spec.specs.Cells as cells
use Rattle.arrow_spec.specs.Cells.{Cell}
use Rattle.arrow_spec.specs.Counts.{RecordBatch, Place, nodes, buffers, views}
use Rattle.arrow_spec.specs.Arrays.{Dictionaries, bit, valid, if_valid, from_on}
use Rattle.arrow_spec.specs.ArrayCells.{cell}
use Rattle.arrow_spec.specs.Faults.{node_faults, bitmap_faults, validity_faults, array_faults}
use Rattle.arrow_spec.specs.Framing.{packed}
use Rattle.arrow_spec.specs.Framing.{validity_bytes}
use Rattle.arrow_spec.proofs.PackedBits.{packed_bit, length-packed}
use Rattle.arrow_spec.proofs.Bodies.{from_head, held_bytes, held_faults}
use Rattle.arrow_spec.specs.Bodies.{BufferHeld}
use Rattle.arrow_spec.proofs.CellLists.{from_on-same}
use Rattle.arrow_types.specs.BytesBack.{later}
use Rattle.arrow_buffers.specs.Rows.{has_rows, is_valid, null_rows, masked}
use Rattle.arrow_buffers.proofs.Parts.{length-from_on}
use Rattle.arrow_buffers.proofs.Masks.{length-masked}
use Rattle.arrow_arrays.proofs.CellRows.{same_lists, get-row, null_told, valid_told}
use Rattle.ipc_write_laws.specs.Columns.{WrittenColumn, StandsAt, Means}
use Rattle.ipc_write_laws.proofs.Counted.{node_there, means_by_array}

-- ── validity ──

-- a column's node and validity in a record batch
pub record Headed (m : RecordBatch) (p : Place) (rows : ℕ) (v : Option (List Bool)) : Type 0 where
  pub node : slice_get m.nodes p.node ≡ Some (record { length = pos rows; null_count = pos (null_rows v) })
  pub bytes : BufferHeld m p.buffer (validity_bytes v)
  pub bits : has_rows v rows ≡ true

true_if_none : (b : Bool) → cond (not b) 1 0 ≤ 0 → b ≡ true
true_if_none true h = refl
true_if_none false h = absurd (omega arith)

-- where no bit is counted as unset each is set
none_null : (bits : List Bool) (row : ℕ) → row < length bits → count_by not bits ≡ 0 → get_or bits row true ≡ true
none_null bits row h e =
    let least : cond (not (get_or bits row true)) 1 0 ≤ count_by not bits = get_or-le-sum_by (λ b. cond (not b) 1 0) bits row true h in
    true_if_none (get_or bits row true) (omega arith)

-- a row is read as valid where it is
pub valid_by : (m : RecordBatch) (p : Place) (rows : ℕ) (v : Option (List Bool)) (row : ℕ) → Headed m p rows v → row < rows → valid m p row ≡ is_valid v row
unfolding valid
valid_by m p rows None row h lt = rw h.node refl
valid_by m p rows (Some bits) row h lt =
    let l : length bits ≡ rows = eqb-true (length bits) rows h.bits in
    elim (cases_lt 0 (count_by not bits)) [
      | inl some ↦
          let many : nat_lt 0 (count_by not bits) ≡ true = lt-ltb 0 (count_by not bits) some in
          let read : bit (packed bits) row ≡ get_or bits row true = packed_bit bits row (omega arith) ∙ get_or_default bits row false true (omega arith) in
          rw (h.node, many, held_bytes m p.buffer (packed bits) h.bytes) read
      | inr le ↦
          let few : nat_lt 0 (count_by not bits) ≡ false = le-ltb 0 (count_by not bits) le in
          rw (h.node, few) (sym (none_null bits row (omega arith) (omega arith)))
    ]

pub validity_right : (m : RecordBatch) (p : Place) (rows : ℕ) (v : Option (List Bool)) → Headed m p rows v → validity_faults m p rows ≡ []
unfolding validity_faults bitmap_faults
validity_right m p zero v h = refl
validity_right m p (suc n) None h = rw h.node refl
validity_right m p (suc n) (Some bits) h =
    let l : length bits ≡ suc n = eqb-true (length bits) (suc n) h.bits in
    elim (cases_lt 0 (count_by not bits)) [
      | inl some ↦
          let many : nat_lt 0 (count_by not bits) ≡ true = lt-ltb 0 (count_by not bits) some in
          let enough : nat_lt (8 * length (packed bits)) (suc n) ≡ false = le-ltb _ _ (omega (arith, l, length-packed bits)) in
          rw (h.node, many, held_faults m p.buffer (packed bits) h.bytes, h.bytes.range, enough) refl
      | inr le ↦ let few : nat_lt 0 (count_by not bits) ≡ false = le-ltb 0 (count_by not bits) le in rw (h.node, few) refl
    ]

-- ── cells ──

-- cells that are read row by row are those that are masked
masked_told : (v : Option (List Bool)) (f g : ℕ → Cell) (rows : ℕ) → has_rows v rows ≡ true → ((row : ℕ) → row < rows → is_valid v row ≡ true → f row ≡ g row) → ((row : ℕ) → row < rows → is_valid v row ≡ false → f row ≡ cells.null)
    → from_on f 0 rows ≡ masked v (from_on g 0 rows)
masked_told v f g rows h there gone =
    let l : length (from_on g 0 rows) ≡ rows = length-from_on g 0 rows in
    let one : (i : ℕ) → i < rows → slice_get (from_on f 0 rows) i ≡ slice_get (masked v (from_on g 0 rows)) i = λ i lt.
    elim (cases_Bool (is_valid v i)) [
      | inl e ↦ get-row f rows i lt ∙ ap Some (there i lt e) ∙ sym (valid_told g v i rows h lt e)
      | inr e ↦ get-row f rows i lt ∙ ap Some (gone i lt e) ∙ sym (null_told g v i rows h lt e)
    ] in
    let le : length (from_on f 0 rows) ≡ rows = length-from_on f 0 rows in
    same_lists (from_on f 0 rows) (masked v (from_on g 0 rows)) (le ∙ sym (length-masked v (from_on g 0 rows) (rw l h) ∙ l)) (λ i lt. one i (omega arith))

if_there : (m : RecordBatch) (p : Place) (row : ℕ) (x : Cell) (b : Bool) → valid m p row ≡ b → if_valid m p row x ≡ cond b x cells.null
if_there m p row x b e = rw e refl

-- each cell is read, null where the row is
pub cells_told : (m : RecordBatch) (p : Place) (rows : ℕ) (v : Option (List Bool)) (f value g : ℕ → Cell) → Headed m p rows v → ((row : ℕ) → f row ≡ if_valid m p row (value row)) → ((row : ℕ) → row < rows → is_valid v row ≡ true → value row ≡ g row)
    → from_on f 0 rows ≡ masked v (from_on g 0 rows)
cells_told m p rows v f value g h form same =
    masked_told v f g rows h.bits
    (λ row lt e. form row ∙ if_there m p row (value row) true (valid_by m p rows v row h lt ∙ e) ∙ same row lt e)
    (λ row lt e. form row ∙ if_there m p row (value row) false (valid_by m p rows v row h lt ∙ e))

-- what a list is told of is told of its places
pub map_told : {A B : Type 0} (f : A → B) (xs : List A) (d : A) → from_on (λ row. f (get_or xs row d)) 0 (length xs) ≡ map f xs
map_told f [] d = refl
map_told f (x ∷ xs) d = ap (λ r. f x ∷ r) (sym (later (λ row. f (get_or (x ∷ xs) row d)) 0 (length xs)) ∙ map_told f xs d)

-- ── columns ──

-- a column of one node
abbrev pub one_column : Kind → ℕ → ℕ → List (List ℕ) → List ℕ → List Cell → WrittenColumn
one_column k rows null_count pieces counts xs = record { kind = k; nodes = record { length = pos rows; null_count = pos null_count } ∷ []; pieces = pieces; views = counts; cells = xs }

-- how a kind without children is read: its view counts, its buffers, what must hold of them where there are rows, and the cell of a row
pub record Shape (d : Dictionaries) (k : Kind) (count : ℕ) (own : RecordBatch → Place → ℕ) (faults : RecordBatch → Place → ℕ → List IpcError) (told : RecordBatch → Place → ℕ → Cell) : Type 0 where
  pub node : nodes k ≡ 1
  pub view : views k ≡ count
  pub buffer : (m : RecordBatch) (p : Place) → buffers m.version m.variadic k p.view ≡ own m p
  pub empty : (m : RecordBatch) (p : Place) → array_faults m d k p 0 ≡ node_faults m p 0 ++ []
  pub some : (m : RecordBatch) (p : Place) (n : ℕ) → array_faults m d k p (suc n) ≡ node_faults m p (suc n) ++ faults m p (suc n)
  pub row : (m : RecordBatch) (p : Place) (row : ℕ) → cell m d k p row ≡ told m p row

-- an extension is read as what it extends
pub extended : (d : Dictionaries) (name : List ℕ) (metadata : Option (List ℕ)) (k : Kind) (count : ℕ) (own : RecordBatch → Place → ℕ) (faults : RecordBatch → Place → ℕ → List IpcError) (told : RecordBatch → Place → ℕ → Cell)
    → Shape d k count own faults told → Shape d (extension name metadata k) count own faults told
extended d name metadata k count own faults told s = record { node = s.node; view = s.view; buffer = s.buffer; empty = s.empty; some = s.some; row = s.row }

pub node_right : (m : RecordBatch) (p : Place) (rows n : ℕ) → slice_get m.nodes p.node ≡ Some (record { length = pos rows; null_count = pos n }) → node_faults m p rows ≡ []
unfolding node_faults
node_right m p rows n e = rw (e, le-ltb rows rows (omega arith)) refl

module _ (d : Dictionaries) (k : Kind) (count : ℕ) (own : RecordBatch → Place → ℕ) (faults : RecordBatch → Place → ℕ → List IpcError) (told : RecordBatch → Place → ℕ → Cell) (order : Order) (rows null_count : ℕ) (pieces : List (List ℕ)) (counts : List ℕ) (xs : List Cell) where
  array_right : (shape : Shape d k count own faults told) (m : RecordBatch) (p : Place) (n : ℕ) → slice_get m.nodes p.node ≡ Some (record { length = pos n; null_count = pos null_count }) → (0 < n → faults m p n ≡ []) → array_faults m d k p n ≡ []
  array_right shape m p zero e fine = shape.empty m p ∙ ap (λ l. l ++ []) (node_right m p 0 null_count e)
  array_right shape m p (suc n) e fine = shape.some m p n ∙ rw (node_right m p (suc n) null_count e, fine (omega arith)) refl

  -- a column of such a kind means its cells
  pub means_by : Shape d k count own faults told → count ≡ length counts → ((m : RecordBatch) (p : Place) → StandsAt m p (one_column k rows null_count pieces counts xs) → own m p ≡ length pieces)
      → ((m : RecordBatch) (p : Place) → m.order ≡ order → StandsAt m p (one_column k rows null_count pieces counts xs) → 0 < rows → faults m p rows ≡ [])
      → ((m : RecordBatch) (p : Place) → m.order ≡ order → StandsAt m p (one_column k rows null_count pieces counts xs) → from_on (told m p) 0 rows ≡ xs)
      → Means order d rows (one_column k rows null_count pieces counts xs)
  means_by shape same taken fine read =
      let c : WrittenColumn = one_column k rows null_count pieces counts xs in
      means_by_array order d rows null_count c [] refl shape.node (shape.view ∙ same)
      (λ m p five s. shape.buffer m p ∙ taken m p s)
      (λ m p o five s. array_right shape m p rows (node_there order d rows null_count c [] refl m p s) (fine m p o s))
      (λ m p o five s. from_on-same (cell m d k p) (told m p) 0 rows (λ j lt. shape.row m p j) ∙ read m p o s)

-- a column whose first buffer is a validity has that and its node in front
pub headed : (m : RecordBatch) (p : Place) (k : Kind) (rows : ℕ) (v : Option (List Bool)) (pieces : List (List ℕ)) (counts : List ℕ) (xs : List Cell) → has_rows v rows ≡ true
    → StandsAt m p (one_column k rows (null_rows v) (validity_bytes v ∷ pieces) counts xs) → Headed m p rows v
headed m p k rows v pieces counts xs h s = record { node = from_head m.nodes p.node (record { length = pos rows; null_count = pos (null_rows v) }) s.nodes_behind s.nodes; bytes = s.pieces.0; bits = h }

-- and its second buffer behind
pub second : (m : RecordBatch) (p : Place) (k : Kind) (rows n : ℕ) (first bytes : List ℕ) (pieces : List (List ℕ)) (counts : List ℕ) (xs : List Cell) → StandsAt m p (one_column k rows n (first ∷ bytes ∷ pieces) counts xs) → BufferHeld m (p.buffer + 1) bytes
second m p k rows n first bytes pieces counts xs s = let e : suc p.buffer ≡ p.buffer + 1 = omega arith in subst (λ i. BufferHeld m i bytes) e s.pieces.1.0
