-- Columns with children mean their cells, where their children do.
use Rattle.std.proofs.Common.{◌≡◌, ℕ, zero, suc, ◌+◌, ◌*◌, ◌-◌, ◌≤◌, ◌<◌, List, [], ◌∷◌, ◌++◌, length, get_or, Option, Bool, true, map, ℤ, pos, refl, sym, ap, subst, ◌∙◌, arith}
use Rattle.std.specs.List.{AllByRecursion}
use Rattle.std.proofs.Math.Nat.{mul-le-mul_left}
use Rattle.std.specs.Int.{byte_len}
use Rattle.arrow_spec.specs.declared.message.FieldNode.{FieldNode}
use Rattle.arrow_spec.specs.declared.message.MetadataVersion.TheVariants.{V5}
use Rattle.arrow_spec.specs.Flat.{Order}
use Rattle.arrow_spec.specs.Kinds as kind
use Rattle.arrow_spec.specs.Kinds.{Kind, Fields, none, field, Offsets, small, large}
use Rattle.arrow_spec.specs.Cells as cells
use Rattle.arrow_spec.specs.Cells.{Cell, cells_of}
use Rattle.arrow_spec.specs.Counts.{RecordBatch, Place, inside, magnitude}
use Rattle.arrow_spec.specs.Arrays.{Dictionaries, from_on, if_valid, offset, offset_width}
use Rattle.arrow_spec.specs.ArrayCells.{cell, cell_in, row_of}
use Rattle.arrow_spec.specs.Faults.{node_faults, validity_faults, child_faults, array_faults, offsets_buffer_faults, child_end, end_of, offsets_faults, if_sound}
use Rattle.arrow_spec.specs.Framing.{validity_bytes}
use Rattle.arrow_spec.specs.Bodies.{BufferHeld}
use Rattle.arrow_buffers.specs.Rows.{part, has_rows, null_rows, masked}
use Rattle.arrow_buffers.specs.Variable.{place_at}
use Rattle.arrow_buffers.proofs.Parts.{part-from_on}
use Rattle.arrow_arrays.specs.Heads.{across, row_items, list_size, child_fields, is_list, is_map, is_sized, is_struct}
use Rattle.ipc_write_laws.specs.Columns.{WrittenColumn, Means}
use Rattle.ipc_write_laws.specs.Streams.{AreOf}
use Rattle.ipc_write_laws.proofs.Counted.{node_there}
use Rattle.ipc_write_laws.proofs.Children.{StandTogether, AreMeant, AreRead, first_child, children_right, across_right}
use Rattle.ipc_write_laws.proofs.Tops.{TopShape, TopStands, top_column, top_means}
use Rattle.ipc_bodies.specs.Fitting.{offset_limit}
use Rattle.ipc_bodies.specs.Pieces.{offset_bytes}
use Rattle.ipc_write_arrays.proofs.RoundTripHeads.{Headed, node_right, validity_right, cells_told}
use Rattle.ipc_write_arrays.proofs.RoundTripPlain.{numbers_right}
use Rattle.ipc_write_arrays.proofs.RoundTripPlaces.{OffsetsHeld, offset_read, offsets_right, length-offset_bytes}

-- ── children ──

-- a child that means its cells for so many rows, and says so in its node
pub record MeansOwn (order : Order) (d : Dictionaries) (rows : ℕ) (x : WrittenColumn) : Type 0 where
  pub means : Means order d rows x
  pub nulls : ℕ
  pub others : List FieldNode
  pub own : x.nodes ≡ record { length = pos rows; null_count = pos nulls } ∷ others

-- the rows that a column's node tells
abbrev pub first_rows : List FieldNode → ℕ
first_rows [] = 0
first_rows (n ∷ ns) = magnitude n.length

abbrev pub own_rows : WrittenColumn → ℕ
own_rows x = first_rows x.nodes

pub all_mean : (order : Order) (d : Dictionaries) (rows : ℕ) (cs : List WrittenColumn) → AllByRecursion (λ x. MeansOwn order d rows x) cs → AreMeant order d (λ x. rows) cs
all_mean order d rows [] h = tt
all_mean order d rows (x ∷ cs) h = (h.0.means, all_mean order d rows cs h.1)

pub all_read : (order : Order) (d : Dictionaries) (rows : ℕ) (cs : List WrittenColumn) (m : RecordBatch) (read : Place → ℕ) → AllByRecursion (λ x. MeansOwn order d rows x) cs → ((q : Place) → read q ≡ rows) → AreRead m order d read (λ x. rows) cs
all_read order d rows [] m read h e = tt
all_read order d rows (x ∷ cs) m read h e = ((h.0.means, λ q s. e q), all_read order d rows cs m read h.1 e)

across_is : (cs : List WrittenColumn) (row : ℕ) → map (λ x. get_or x.cells row cells.null) cs ≡ across (map (λ c. c.cells) cs) row
across_is [] row = refl
across_is (x ∷ cs) row = ap (λ l. get_or x.cells row cells.null ∷ l) (across_is cs row)

-- items of the only child are a part of its cells
items_read : (order : Order) (d : Dictionaries) (rows : ℕ) (fs : Fields) (x : WrittenColumn) (m : RecordBatch) (q : Place) (at count : ℕ) → AreOf fs (x ∷ []) → m.order ≡ order → m.version ≡ V5 → Means order d rows x → StandTogether m q (x ∷ []) → at + count ≤ rows
    → from_on (λ j. cell_in m d fs 0 q j) at count ≡ part at count x.cells
items_read order d rows none x m q at count kinds o v good h le = absurd kinds
items_read order d rows (field name nullable metadata k others) x m q at count kinds o v good h le =
    let here : from_on (cell m d k q) 0 rows ≡ x.cells = rw kinds.0 (good.cells_read m q o v (first_child m q x [] h)) in
    let z : 0 + at ≡ at = omega arith in
    ap (λ i. from_on (cell m d k q) i count) (sym z) ∙ part-from_on (cell m d k q) 0 rows at count le ∙ ap (part at count) here

-- ── a top with a validity ──

module _ (m : RecordBatch) (p : Place) (rows : ℕ) (v : Option (List Bool)) (pieces : List (List ℕ)) (cs : List WrittenColumn) (s : TopStands m p rows (null_rows v) (validity_bytes v ∷ pieces) cs) where
  top_head : has_rows v rows ≡ true → Headed m p rows v
  top_head bits = record { node = s.node; bytes = s.held.0; bits = bits }

-- ── structs ──

-- how a kind of structs is read, extensions looked through
record StructShape (d : Dictionaries) (k : Kind) (fs : Fields) : Type 0 where
  top : TopShape k fs 1
  faults : (m : RecordBatch) (p : Place) (rows : ℕ) → array_faults m d k p rows ≡ node_faults m p rows ++ validity_faults m p rows ++ child_faults m d fs (inside 1 p) (λ q. rows)
  row : (m : RecordBatch) (p : Place) (row : ℕ) → cell m d k p row ≡ if_valid m p row (cells.struct (row_of m d fs (inside 1 p) row))

struct_shape : (d : Dictionaries) (k : Kind) → is_struct k ≡ true → StructShape d k (child_fields k)
struct_shape d (kind.struct fs) e = record { top = record { node = refl; view = refl; buffer = λ m v five. refl }; faults = λ m p rows. refl; row = λ m p row. refl }
struct_shape d (kind.extension name metadata k) e =
    let s = struct_shape d k e in
    record { top = record { node = s.top.node; view = s.top.view; buffer = s.top.buffer }; faults = s.faults; row = s.row }
struct_shape d k e = cc

-- structs of columns that mean their cells mean theirs
pub struct_mean : (order : Order) (d : Dictionaries) (k : Kind) (rows : ℕ) (v : Option (List Bool)) (cs : List WrittenColumn) → is_struct k ≡ true → has_rows v rows ≡ true → AreOf (child_fields k) cs → AllByRecursion (λ x. MeansOwn order d rows x) cs
    → Means order d rows (top_column k rows (null_rows v) (validity_bytes v ∷ []) cs (masked v (from_on (λ row. cells.struct (cells_of (across (map (λ c. c.cells) cs) row))) 0 rows)))
struct_mean order d k rows v cs suits bits kinds good =
    let fs = child_fields k in
    let shape = struct_shape d k suits in
    let means = all_mean order d rows cs good in
    let own = validity_bytes v ∷ [] in
    top_means order d k fs rows (null_rows v) own cs (masked v (from_on (λ row. cells.struct (cells_of (across (map (λ c. c.cells) cs) row))) 0 rows)) (λ x. rows) shape.top kinds means
    (λ m p o five s.
    let h = top_head m p rows v [] cs s bits in
    shape.faults m p rows ∙ rw (node_right m p rows (null_rows v) h.node, validity_right m p rows v h, children_right order fs cs m d (λ q. rows) (λ x. rows) (inside 1 p) kinds o five (all_read order d rows cs m (λ q. rows) good (λ q. refl)) s.children) refl)
    (λ m p o five s.
    let h = top_head m p rows v [] cs s bits in
    cells_told m p rows v (cell m d k p) (λ row. cells.struct (row_of m d fs (inside 1 p) row)) (λ row. cells.struct (cells_of (across (map (λ c. c.cells) cs) row))) h (shape.row m p)
    (λ row lt valid. ap cells.struct (across_right order fs cs m d rows row (inside 1 p) lt kinds o five means s.children ∙ ap cells_of (across_is cs row))))

-- ── lists of one size ──

record SizedShape (d : Dictionaries) (k : Kind) (size : ℕ) (fs : Fields) : Type 0 where
  top : TopShape k fs 1
  faults : (m : RecordBatch) (p : Place) (rows : ℕ) → array_faults m d k p rows ≡ node_faults m p rows ++ validity_faults m p rows ++ child_faults m d fs (inside 1 p) (λ q. size * rows)
  row : (m : RecordBatch) (p : Place) (row : ℕ) → cell m d k p row ≡ if_valid m p row (cells.«list» (cells_of (from_on (λ j. cell_in m d fs 0 (inside 1 p) j) (size * row) size)))

sized_shape : (d : Dictionaries) (k : Kind) → is_sized k ≡ true → SizedShape d k (list_size k) (child_fields k)
sized_shape d (kind.fixed_size_list n fs) e = record { top = record { node = refl; view = refl; buffer = λ m v five. refl }; faults = λ m p rows. refl; row = λ m p row. refl }
sized_shape d (kind.extension name metadata k) e =
    let s = sized_shape d k e in
    record { top = record { node = s.top.node; view = s.top.view; buffer = s.top.buffer }; faults = s.faults; row = s.row }
sized_shape d k e = cc

within_all : (size row rows : ℕ) → row < rows → size * row + size ≤ size * rows
within_all size row rows lt =
    let most : size * suc row ≤ size * rows = mul-le-mul_left size lt in
    omega (arith, most)

pub sized_mean : (order : Order) (d : Dictionaries) (k : Kind) (rows : ℕ) (v : Option (List Bool)) (x : WrittenColumn) → is_sized k ≡ true → has_rows v rows ≡ true → AreOf (child_fields k) (x ∷ []) → MeansOwn order d (list_size k * rows) x
    → Means order d rows (top_column k rows (null_rows v) (validity_bytes v ∷ []) (x ∷ []) (masked v (from_on (λ row. cells.«list» (cells_of (part (list_size k * row) (list_size k) x.cells))) 0 rows)))
sized_mean order d k rows v x suits bits kinds good =
    let fs = child_fields k in
    let size = list_size k in
    let all = size * rows in
    let cs = x ∷ [] in
    let shape = sized_shape d k suits in
    top_means order d k fs rows (null_rows v) (validity_bytes v ∷ []) cs (masked v (from_on (λ row. cells.«list» (cells_of (part (size * row) size x.cells))) 0 rows)) (λ x. all) shape.top kinds (good.means, tt)
    (λ m p o five s.
    let h = top_head m p rows v [] cs s bits in
    shape.faults m p rows ∙ rw (node_right m p rows (null_rows v) h.node, validity_right m p rows v h, children_right order fs cs m d (λ q. all) (λ x. all) (inside 1 p) kinds o five (all_read order d all cs m (λ q. all) (good, tt) (λ q. refl)) s.children) refl)
    (λ m p o five s.
    let h = top_head m p rows v [] cs s bits in
    cells_told m p rows v (cell m d k p) (λ row. cells.«list» (cells_of (from_on (λ j. cell_in m d fs 0 (inside 1 p) j) (size * row) size))) (λ row. cells.«list» (cells_of (part (size * row) size x.cells))) h (shape.row m p)
    (λ row lt valid. ap (λ l. cells.«list» (cells_of l)) (items_read order d all fs x m (inside 1 p) (size * row) size kinds o five good.means s.children (within_all size row rows lt))))

-- ── lists and maps ──

record ListShape (d : Dictionaries) (k : Kind) (o : Offsets) (fs : Fields) : Type 0 where
  top : TopShape k fs 2
  empty : (m : RecordBatch) (p : Place) → array_faults m d k p 0 ≡ node_faults m p 0 ++ child_faults m d fs (inside 2 p) (λ q. 0)
  some : (m : RecordBatch) (p : Place) (n : ℕ) → array_faults m d k p (suc n) ≡ node_faults m p (suc n) ++ validity_faults m p (suc n)
      ++ if_sound (offsets_buffer_faults m o (p.buffer + 1) (suc n)) (offsets_faults m o (p.buffer + 1) (suc n) (end_of m (suc p.node))
      ++ child_faults m d fs (inside 2 p) (λ q. offset m o (p.buffer + 1) (suc n)))
  row : (m : RecordBatch) (p : Place) (row : ℕ) → cell m d k p row ≡ if_valid m p row (cells.«list» (cells_of
      (from_on (λ j. cell_in m d fs 0 (inside 2 p) j) (offset m o (p.buffer + 1) row) (offset m o (p.buffer + 1) (suc row) - offset m o (p.buffer + 1) row))))

list_extended : (d : Dictionaries) (name : List ℕ) (metadata : Option (List ℕ)) (k : Kind) (o : Offsets) (fs : Fields) → ListShape d k o fs → ListShape d (kind.extension name metadata k) o fs
list_extended d name metadata k o fs s = record { top = record { node = s.top.node; view = s.top.view; buffer = s.top.buffer }; empty = s.empty; some = s.some; row = s.row }

list_shape : (d : Dictionaries) (o : Offsets) (k : Kind) → is_list o k ≡ true → ListShape d k o (child_fields k)
list_shape d small (kind.«list» small fs) e = record { top = record { node = refl; view = refl; buffer = λ m v five. refl }; empty = λ m p. refl; some = λ m p n. refl; row = λ m p row. refl }
list_shape d large (kind.«list» large fs) e = record { top = record { node = refl; view = refl; buffer = λ m v five. refl }; empty = λ m p. refl; some = λ m p n. refl; row = λ m p row. refl }
list_shape d small (kind.«list» large fs) e = cc
list_shape d large (kind.«list» small fs) e = cc
list_shape d small (kind.extension name metadata k) e = list_extended d name metadata k small (child_fields k) (list_shape d small k e)
list_shape d large (kind.extension name metadata k) e = list_extended d name metadata k large (child_fields k) (list_shape d large k e)
list_shape d small k e = cc
list_shape d large k e = cc

map_shape : (d : Dictionaries) (o : Offsets) (k : Kind) → is_map o k ≡ true → ListShape d k o (child_fields k)
map_shape d small (kind.map sorted fs) e = record { top = record { node = refl; view = refl; buffer = λ m v five. refl }; empty = λ m p. refl; some = λ m p n. refl; row = λ m p row. refl }
map_shape d small (kind.extension name metadata k) e = list_extended d name metadata k small (child_fields k) (map_shape d small k e)
map_shape d large (kind.extension name metadata k) e = list_extended d name metadata k large (child_fields k) (map_shape d large k e)
map_shape d small k e = cc
map_shape d large k e = cc

-- offsets that begin at 0 and rise to a child's rows
pub record Climbing (offsets : List ℤ) (rows last : ℕ) : Type 0 where
  pub long : length offsets ≡ suc rows
  pub first : place_at offsets 0 ≡ 0
  pub climbs : (j : ℕ) → j < rows → place_at offsets j ≤ place_at offsets (suc j)
  pub below : (j : ℕ) → j < suc rows → place_at offsets j ≤ last
  pub end : place_at offsets rows ≡ last

-- what lists of a kind are written as
abbrev pub list_column : Order → Kind → Offsets → ℕ → Option (List Bool) → List ℤ → WrittenColumn → WrittenColumn
list_column order k o rows v offsets x = top_column k rows (null_rows v) (validity_bytes v ∷ offset_bytes order o offsets ∷ []) (x ∷ [])
    (masked v (from_on (λ row. cells.«list» (cells_of (row_items offsets x.cells row))) 0 rows))

module _ (order : Order) (d : Dictionaries) (k : Kind) (o : Offsets) (rows last : ℕ) (v : Option (List Bool)) (offsets : List ℤ) (x : WrittenColumn) (shape : ListShape d k o (child_fields k)) (bits : has_rows v rows ≡ true) (kinds : AreOf (child_fields k) (x ∷ [])) (good : MeansOwn order d last x) (climbing : Climbing offsets rows last) (fit : AllByRecursion (λ y. magnitude y < offset_limit o) offsets) where
  module _ (m : RecordBatch) (p : Place) (one : m.order ≡ order) (five : m.version ≡ V5) (s : TopStands m p rows (null_rows v) (validity_bytes v ∷ offset_bytes order o offsets ∷ []) (x ∷ [])) where
    in_places : OffsetsHeld order o offsets m (p.buffer + 1)
    in_places =
        let next : suc p.buffer ≡ p.buffer + 1 = omega arith in
        record { in_it = one; fit = fit; held = subst (λ i. BufferHeld m i (offset_bytes order o offsets)) next s.held.1.0 }

    place_read : (j : ℕ) → j < suc rows → offset m o (p.buffer + 1) j ≡ place_at offsets j
    place_read j lt =
        let z : place_at offsets 0 ≡ 0 = climbing.first in
        let l : length offsets ≡ suc rows = climbing.long in
        let e : offset m o (p.buffer + 1) j ≡ place_at offsets j - place_at offsets 0 = offset_read order o offsets m (p.buffer + 1) in_places j (omega arith) in
        omega arith

    child_node : end_of m (suc p.node) ≡ last
    child_node = ap child_end (node_there order d last good.nulls x good.others good.own m (inside 2 p) (first_child m (inside 2 p) x [] s.children))

    children : (read : Place → ℕ) → ((q : Place) → read q ≡ last) → child_faults m d (child_fields k) (inside 2 p) read ≡ []
    children read e = children_right order (child_fields k) (x ∷ []) m d read (λ y. last) (inside 2 p) kinds one five (all_read order d last (x ∷ []) m read (good, tt) e) s.children

    offsets_there : (n : ℕ) → rows ≡ suc n → offsets_buffer_faults m o (p.buffer + 1) (suc n) ≡ []
    offsets_there n e =
        let w = byte_len (offset_width o) in
        let count : length offsets ≡ suc (suc n) = climbing.long ∙ ap suc e in
        let l : length (offset_bytes order o offsets) ≡ w * suc (suc n) = length-offset_bytes order o offsets ∙ ap (λ c. w * c) count in
        numbers_right m (p.buffer + 1) w (suc (suc n)) (offset_bytes order o offsets) in_places.held (omega (arith, l))

    places_right : offsets_faults m o (p.buffer + 1) rows (end_of m (suc p.node)) ≡ []
    places_right =
        let z : place_at offsets 0 ≡ 0 = climbing.first in
        let e : place_at offsets rows ≡ last = climbing.end in
        offsets_right order o offsets m (p.buffer + 1) in_places rows (end_of m (suc p.node)) climbing.long climbing.climbs (omega (arith, child_node))

    list_right : (n : ℕ) → rows ≡ n → array_faults m d k p n ≡ []
    list_right zero e =
        let z : 0 ≡ last = sym climbing.first ∙ ap (place_at offsets) (sym e) ∙ climbing.end in
        shape.empty m p ∙ rw (node_right m p 0 (null_rows v) (rw e at s.node), children (λ q. 0) (λ q. z)) refl
    list_right (suc n) e =
        let h : Headed m p (suc n) v = rw e at (top_head m p rows v (offset_bytes order o offsets ∷ []) (x ∷ []) s bits) in
        let last_read : offset m o (p.buffer + 1) (suc n) ≡ last = ap (offset m o (p.buffer + 1)) (sym e) ∙ place_read rows (omega arith) ∙ climbing.end in
        let there : offsets_faults m o (p.buffer + 1) (suc n) (end_of m (suc p.node)) ≡ [] = rw e at places_right in
        shape.some m p n ∙ rw (node_right m p (suc n) (null_rows v) h.node, validity_right m p (suc n) v h, offsets_there n e, there, children (λ q. offset m o (p.buffer + 1) (suc n)) (λ q. last_read)) refl

    item_rows : (row : ℕ) → row < rows
        → from_on (λ j. cell_in m d (child_fields k) 0 (inside 2 p) j) (offset m o (p.buffer + 1) row) (offset m o (p.buffer + 1) (suc row) - offset m o (p.buffer + 1) row) ≡ row_items offsets x.cells row
    item_rows row lt =
        let a = place_read row (omega arith) in
        let b = place_read (suc row) (omega arith) in
        let up : place_at offsets row ≤ place_at offsets (suc row) = climbing.climbs row lt in
        let top : place_at offsets (suc row) ≤ last = climbing.below (suc row) (omega arith) in
        rw (a, b) (items_read order d last (child_fields k) x m (inside 2 p) (place_at offsets row) (place_at offsets (suc row) - place_at offsets row) kinds one five good.means s.children (omega arith))

    list_read : from_on (cell m d k p) 0 rows ≡ masked v (from_on (λ row. cells.«list» (cells_of (row_items offsets x.cells row))) 0 rows)
    list_read =
        cells_told m p rows v (cell m d k p) (λ row. cells.«list» (cells_of (from_on (λ j. cell_in m d (child_fields k) 0 (inside 2 p) j) (offset m o (p.buffer + 1) row) (offset m o (p.buffer + 1) (suc row) - offset m o (p.buffer + 1) row))))
        (λ row. cells.«list» (cells_of (row_items offsets x.cells row))) (top_head m p rows v (offset_bytes order o offsets ∷ []) (x ∷ []) s bits) (shape.row m p)
        (λ row lt valid. ap (λ l. cells.«list» (cells_of l)) (item_rows row lt))

  between_mean : Means order d rows (list_column order k o rows v offsets x)
  between_mean =
      top_means order d k (child_fields k) rows (null_rows v) (validity_bytes v ∷ offset_bytes order o offsets ∷ []) (x ∷ []) (masked v (from_on (λ row. cells.«list» (cells_of (row_items offsets x.cells row))) 0 rows)) (λ y. last) shape.top kinds (good.means, tt)
      (λ m p one five s. list_right m p one five s rows refl) list_read

pub list_mean : (order : Order) (d : Dictionaries) (k : Kind) (o : Offsets) (rows last : ℕ) (v : Option (List Bool)) (offsets : List ℤ) (x : WrittenColumn) → is_list o k ≡ true → has_rows v rows ≡ true → AreOf (child_fields k) (x ∷ []) → MeansOwn order d last x
    → Climbing offsets rows last → AllByRecursion (λ y. magnitude y < offset_limit o) offsets → Means order d rows (list_column order k o rows v offsets x)
list_mean order d k o rows last v offsets x suits = between_mean order d k o rows last v offsets x (list_shape d o k suits)

pub map_mean : (order : Order) (d : Dictionaries) (k : Kind) (o : Offsets) (rows last : ℕ) (v : Option (List Bool)) (offsets : List ℤ) (x : WrittenColumn) → is_map o k ≡ true → has_rows v rows ≡ true → AreOf (child_fields k) (x ∷ []) → MeansOwn order d last x
    → Climbing offsets rows last → AllByRecursion (λ y. magnitude y < offset_limit o) offsets → Means order d rows (list_column order k o rows v offsets x)
map_mean order d k o rows last v offsets x suits = between_mean order d k o rows last v offsets x (map_shape d o k suits)
