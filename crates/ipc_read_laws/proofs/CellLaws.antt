-- The cells of the parts that are read are those of the record batch.
use Rattle.std.proofs.Common.{◌≡◌, ℕ, zero, suc, ◌+◌, ◌*◌, ◌<◌, ◌≤◌, List, [], ◌∷◌, Bool, true, false, length, take, drop, not, ◌&&◌, refl, subst, sym, ap, ◌∙◌, arith, replicate}
use Rattle.std.specs.Prelude.{nat_lt}
use Rattle.std.proofs.lemmas.Bool.{ltb-true}
use Rattle.arrow_spec.specs.Kinds as kinds
use Rattle.arrow_spec.specs.Kinds.{Kind, Offsets, small, large}
use Rattle.arrow_spec.specs.Cells as cells
use Rattle.arrow_spec.specs.Cells.{Cell}
use Rattle.arrow_spec.specs.Counts.{RecordBatch, Place}
use Rattle.arrow_spec.specs.Arrays as spec
use Rattle.arrow_spec.specs.Faults as refused
use Rattle.arrow_spec.specs.Arrays.{Dictionaries, buf, bit, valid, if_valid, from_on, view_of}
use Rattle.arrow_spec.specs.ArrayCells.{cell}
use Rattle.arrow_spec.specs.Faults.{node_faults, validity_faults, fixed_faults, view_parts_faults, bad_view_faults, views_faults, view_text_faults, array_faults}
use Rattle.arrow_spec.specs.Laws.{AreBytes}
use Rattle.arrow_spec.proofs.Fewer.{cause-none, none_first, none_second, sound_first, sound_second, some_row-none}
use Rattle.arrow_types.specs.Physical.{primitive_size, physical_of}
use Rattle.arrow_types.specs.declared.physical.PrimitiveType.{PrimitiveType}
use Rattle.arrow_buffers.specs.Rows.{bytes_cell, masked}
use Rattle.arrow_buffers.specs.Leaf.{fixed_row}
use Rattle.arrow_buffers.specs.Variable.{variable_cells, row_bytes}
use Rattle.arrow_buffers.specs.Views.{view_cells, view_at, view_bytes}
use Rattle.arrow_buffers.proofs.Parts.{shift-from_on}
use Rattle.arrow_arrays.specs.LeafParts.{number_size, leaf_cells_in, number_cell, layout_cell}
use Rattle.arrow_arrays.specs.Parts.{cells_in}
use Rattle.arrow_arrays.specs.LeafKinds.{is_leaf_kind}
use Rattle.ipc_read_laws.specs.PartsRead.{parts_in, plain_read, numbers_bytes, bytes_of_rows, validity_read, variable_read, views_read, number_read, item_bytes}
use Rattle.ipc_read_laws.proofs.Buffers.{part_bytes, map-from_on, numbers_held}
use Rattle.ipc_read_laws.proofs.Validities.{masked-read, valid_cells}
use Rattle.ipc_read_laws.proofs.KindCases.{IsNumbers, by_kind, Like, like_itself, primitive_at}
use Rattle.ipc_read_laws.proofs.NumbersBack.{number_cell-read}
use Rattle.ipc_read_laws.proofs.OffsetsRead.{offsets_told, rows-told, row-told}
use Rattle.ipc_read_laws.proofs.ViewsRead.{count-rows, row-of_rows, views_told, buffers_told, view-told, bytes-view}
use Rattle.ipc_read_laws.proofs.Sound.{views_held}
use Rattle.ipc_read_laws.proofs.FaultLaws.{fixed_held}

-- cells that agree row by row, with the same rows null
pub masked_same : (m : RecordBatch) (p : Place) (rows : ℕ) (f g : ℕ → Cell) → ((row : ℕ) → row < rows → valid m p row ≡ true → f row ≡ g row) → masked (validity_read m p rows) (from_on f 0 rows) ≡ from_on (λ row. if_valid m p row (g row)) 0 rows
masked_same m p rows f g h = masked-read m p rows f ∙ valid_cells m p rows f g h

abbrev CellsRead : RecordBatch → Dictionaries → Place → ℕ → Kind → Type 0
CellsRead m d p rows k = (l : Kind) → Like l k → AreBytes (numbers_bytes m k p rows) → array_faults m d k p rows ≡ [] → leaf_cells_in (parts_in (physical_of k) m l p rows) ≡ from_on (cell m d k p) 0 rows

nulls_told : (i n : ℕ) → replicate n cells.null ≡ from_on (λ row. cells.null) i n
nulls_told i zero = refl
nulls_told i (suc n) = ap (λ r. cells.null ∷ r) (nulls_told (suc i) n)

cells_bits : (m : RecordBatch) (d : Dictionaries) (p : Place) (rows : ℕ) → CellsRead m d p rows kinds.boolean
cells_bits m d p rows l like b h =
    ap (masked (validity_read m p rows)) (map-from_on cells.bool (bit (buf m (p.buffer + 1))) 0 rows)
    ∙ masked-read m p rows (λ row. cells.bool (bit (buf m (p.buffer + 1)) row))

-- ── numbers ──

numbers_held_by : (m : RecordBatch) (d : Dictionaries) (p : Place) (n : ℕ) (t : PrimitiveType) (k : Kind) → IsNumbers t k → array_faults m d k p (suc n) ≡ [] → primitive_size t * suc n ≤ length (buf m (p.buffer + 1))
numbers_held_by m d p n t k is h =
    let fixed : fixed_faults m p (primitive_size t) (suc n) ≡ [] = none_second (node_faults m p (suc n)) _ (sym (is.faults m d p n) ∙ h) in
    numbers_held m (p.buffer + 1) (primitive_size t) (suc n) (none_second (validity_faults m p (suc n)) _ fixed)

cells_numbers : (m : RecordBatch) (d : Dictionaries) (p : Place) (rows : ℕ) (t : PrimitiveType) (k : Kind) → IsNumbers t k → CellsRead m d p rows k
cells_numbers m d p zero t k is l like b h = ap (λ x. leaf_cells_in (parts_in x m l p 0)) is.layout
cells_numbers m d p (suc n) t k is l like b h =
    let rows = suc n in
    let held = numbers_held_by m d p n t k is h in
    let read : ℕ → List ℕ = λ j. number_read t m.order (item_bytes m (p.buffer + 1) (primitive_size t) j) in
    let told : ℕ → Cell = λ row. primitive_at t m p row in
    let size = primitive_size t in
    let bytes : AreBytes (bytes_of_rows m size (p.buffer + 1) rows) = subst (λ s. AreBytes (take (s * suc n) (buf m (p.buffer + 1)))) (ap number_size is.layout) b in
    let item : (row : ℕ) → row < rows → AreBytes (item_bytes m (p.buffer + 1) size row) = λ row lt. subst (λ x. AreBytes x) (row-of_rows m size (p.buffer + 1) rows row lt) (part_bytes (size * row) size (bytes_of_rows m size (p.buffer + 1) rows) bytes) in
    let here : (row : ℕ) → row < rows → number_cell l (read row) ≡ told row = λ row lt. ap (λ x. layout_cell x (read row)) (like.layout ∙ is.layout) ∙ number_cell-read t m p row rows (item row lt) lt held in
    ap (λ x. leaf_cells_in (parts_in x m l p rows)) is.layout
    ∙ ap (masked (validity_read m p rows)) (map-from_on (number_cell l) read 0 rows)
    ∙ masked_same m p rows (λ row. number_cell l (read row)) told (λ row lt v. here row lt)
    ∙ shift-from_on (λ row. if_valid m p row (told row)) (cell m d k p) 0 0 rows (λ row lt. sym (is.cells m d p (0 + row)))

-- ── byte strings and texts ──

cells_fixed : (m : RecordBatch) (d : Dictionaries) (p : Place) (rows size : ℕ) → nat_lt 0 size ≡ true → CellsRead m d p rows (kinds.fixed_size_binary size)
cells_fixed m d p rows size above l like b h =
    let values = bytes_of_rows m size (p.buffer + 1) rows in
    let count = count-rows m size (p.buffer + 1) rows (ltb-true 0 size above) (fixed_held m d p size rows h) in
    rw (like.size) (ap (λ n. masked (validity_read m p rows) (from_on (λ row. cells.bytes (fixed_row size values row)) 0 n)) count
    ∙ masked_same m p rows (λ row. cells.bytes (fixed_row size values row)) (λ row. cells.bytes (take size (drop (size * row) (buf m (p.buffer + 1))))) (λ row lt v. ap cells.bytes (row-of_rows m size (p.buffer + 1) rows row lt)))

cells_between : (is_text : Bool) (m : RecordBatch) (l : Kind) (o : Offsets) (p : Place) (rows : ℕ) → variable_cells is_text (variable_read m l o p rows) ≡ from_on (λ row. if_valid m p row (bytes_cell is_text (spec.row_bytes m o p row))) 0 rows
cells_between is_text m l o p zero = refl
cells_between is_text m l o p (suc n) =
    let rows = suc n in
    let read : ℕ → Cell = λ row. bytes_cell is_text (row_bytes (offsets_told m o (p.buffer + 1) rows) (buf m (p.buffer + 2)) row) in
    ap (λ c. masked (validity_read m p rows) (from_on read 0 c)) (rows-told m o (p.buffer + 1) rows)
    ∙ masked_same m p rows read (λ row. bytes_cell is_text (spec.row_bytes m o p row)) (λ row lt v. ap (bytes_cell is_text) (row-told m o p rows row lt))

cells_binary : (m : RecordBatch) (d : Dictionaries) (p : Place) (rows : ℕ) (o : Offsets) → CellsRead m d p rows (kinds.binary o)
cells_binary m d p rows small l like b h = cells_between false m l small p rows
cells_binary m d p rows large l like b h = cells_between false m l large p rows

cells_text : (m : RecordBatch) (d : Dictionaries) (p : Place) (rows : ℕ) (o : Offsets) → CellsRead m d p rows (kinds.utf8 o)
cells_text m d p rows small l like b h = cells_between true m l small p rows
cells_text m d p rows large l like b h = cells_between true m l large p rows

-- ── views ──

good_of : (v g : Bool) → (v && not g) ≡ false → v ≡ true → g ≡ true
good_of true true e f = refl
good_of true false e f = cc
good_of false g e f = cc

-- a view of a row that is not null is good
good_at : (m : RecordBatch) (p : Place) (rows row : ℕ) → bad_view_faults m p rows ≡ [] → row < rows → valid m p row ≡ true → refused.is_good_view m p (view_of m p row) ≡ true
good_at m p rows row h lt v = good_of (valid m p row) (refused.is_good_view m p (view_of m p row)) (some_row-none (λ j. valid m p j && not (refused.is_good_view m p (view_of m p j))) rows row (cause-none _ _ h) lt) v

cells_led : (is_text : Bool) (m : RecordBatch) (l : Kind) (p : Place) (n : ℕ) → view_parts_faults m p (suc n) ≡ [] → bad_view_faults m p (suc n) ≡ [] → view_cells is_text (views_read m l p (suc n)) ≡ from_on (λ row. if_valid m p row (bytes_cell is_text (spec.view_bytes m p (view_of m p row)))) 0 (suc n)
cells_led is_text m l p n parts good =
    let rows = suc n in
    let read : ℕ → Cell = λ row. bytes_cell is_text (view_bytes (buffers_told m p) (view_at (views_told m p rows) row)) in
    ap (λ c. masked (validity_read m p rows) (from_on read 0 c)) (count-rows m 16 (p.buffer + 1) rows (omega arith) (views_held m p rows parts))
    ∙ masked_same m p rows read (λ row. bytes_cell is_text (spec.view_bytes m p (view_of m p row)))
    (λ row lt v. ap (λ x. bytes_cell is_text (view_bytes (buffers_told m p) x)) (view-told m p rows row lt) ∙ ap (bytes_cell is_text) (bytes-view m p (view_of m p row) (good_at m p rows row good lt v)))

cells_views : (m : RecordBatch) (d : Dictionaries) (p : Place) (rows : ℕ) → CellsRead m d p rows kinds.binary_view
unfolding views_faults
cells_views m d p zero l like b h = refl
cells_views m d p (suc n) l like b h =
    let of : views_faults m p (suc n) ≡ [] = none_second (node_faults m p (suc n)) _ h in
    cells_led false m l p n (sound_first _ _ of) (sound_second (view_parts_faults m p (suc n)) _ of)

cells_text_views : (m : RecordBatch) (d : Dictionaries) (p : Place) (rows : ℕ) → CellsRead m d p rows kinds.utf8_view
unfolding view_text_faults
cells_text_views m d p zero l like b h = refl
cells_text_views m d p (suc n) l like b h =
    let of : view_text_faults m p (suc n) ≡ [] = none_second (node_faults m p (suc n)) _ h in
    cells_led true m l p n (sound_first _ _ of) (none_first _ _ (sound_second (view_parts_faults m p (suc n)) _ of))

-- an array that is not refused, and whose numbers are of bytes, is read with its cells
pub cells_under : (m : RecordBatch) (d : Dictionaries) (k l : Kind) (p : Place) (rows : ℕ) → is_leaf_kind k ≡ true → Like l k → AreBytes (numbers_bytes m k p rows) → array_faults m d k p rows ≡ [] → leaf_cells_in (parts_in (physical_of k) m l p rows) ≡ from_on (cell m d k p) 0 rows
cells_under m d k l p rows leaf like b h = by_kind (CellsRead m d p rows) (record {
  on_null = λ l like b h. nulls_told 0 rows;
  on_bits = cells_bits m d p rows;
  on_numbers = cells_numbers m d p rows;
  on_fixed = cells_fixed m d p rows;
  on_binary = cells_binary m d p rows;
  on_text = cells_text m d p rows;
  on_binary_view = cells_views m d p rows;
  on_text_view = cells_text_views m d p rows;
  on_extension = λ name metadata k f l like b h. f l (record { layout = like.layout; size = like.size }) b h;
}) k leaf l like b h

pub cells_read_of : (m : RecordBatch) (d : Dictionaries) (k : Kind) (p : Place) (rows : ℕ) → is_leaf_kind k ≡ true → AreBytes (numbers_bytes m k p rows) → array_faults m d k p rows ≡ [] → cells_in (plain_read m k p rows) ≡ from_on (cell m d k p) 0 rows
cells_read_of m d k p rows leaf b h = cells_under m d k k p rows leaf (like_itself k) b h
