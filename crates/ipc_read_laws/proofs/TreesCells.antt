-- The cells of the parts that are read are those of the record batch.
use Rattle.std.proofs.Common.{◌≡◌, ℕ, zero, suc, ◌+◌, ◌-◌, ◌*◌, ◌≤◌, ◌<◌, List, [], Bool, true, refl, sym, ap, ◌∙◌, arith, subst}
use Rattle.std.proofs.Math.Nat.{mul-le-mul_left}
use Rattle.arrow_spec.specs.Kinds as kind
use Rattle.arrow_spec.specs.Kinds.{Kind, Fields, Metadata, Offsets, small, large, width, none, field}
use Rattle.arrow_spec.specs.Cells as cells
use Rattle.arrow_spec.specs.Cells.{Cell, cells_of}
use Rattle.arrow_spec.specs.Counts.{RecordBatch, Place, after, inside}
use Rattle.arrow_spec.specs.Arrays.{Dictionaries, offset, from_on, if_valid}
use Rattle.arrow_spec.specs.ArrayCells.{cell, cell_in, row_of}
use Rattle.arrow_spec.specs.Faults.{array_faults, child_faults, end_of, offsets_faults, view_count_faults}
use Rattle.arrow_spec.specs.Laws.{AreBytes}
use Rattle.arrow_spec.specs.Sent.{offset_read}
use Rattle.arrow_spec.proofs.Fewer.{none_first, none_second, sound_second, offset-fewer}
use Rattle.arrow_buffers.specs.Rows.{part, masked}
use Rattle.arrow_buffers.specs.Variable.{place_at, variable_rows}
use Rattle.arrow_buffers.proofs.Parts.{part-from_on}
use Rattle.arrow_arrays.specs.Heads.{sized, structured, list_size, first_of, row_items, across, head_cells}
use Rattle.arrow_arrays.specs.LeafKinds.{is_leaf_kind}
use Rattle.arrow_arrays.specs.Parts.{cells_in, cells_each}
use Rattle.arrow_arrays.specs.Carried.{is_carried}
use Rattle.ipc_read_laws.specs.Held.{Held, HoldsCells, HoldsKinds, HoldsFields}
use Rattle.ipc_read_laws.specs.PlainKinds.{plain_kind}
use Rattle.ipc_read_laws.specs.PartsRead.{parts_under, forest_read, listed_read, counted_read, validity_read, numbers_bytes, HaveBytes, AllHaveBytes}
use Rattle.ipc_read_laws.specs.Laws.{CellsAreRead}
use Rattle.ipc_read_laws.proofs.Buffers.{get-told}
use Rattle.ipc_read_laws.proofs.OffsetsRead.{offsets_told, rows-told, place-told}
use Rattle.ipc_read_laws.proofs.CellLaws.{masked_same, cells_under}
use Rattle.ipc_read_laws.proofs.Labels.{Label, label_plain, label_like, label_size}
use Rattle.ipc_read_laws.proofs.Trees.{by_tree, cells_told}
use Rattle.ipc_read_laws.proofs.Keys.{dictionary_cells}
use Rattle.ipc_read_laws.proofs.Unions.{child_rows, children_at, union_under, union_bytes, union_children, union_cells}
use Rattle.ipc_read_laws.proofs.TreesSound.{plain_under, list_children, map_is_list}

first_told : (m : RecordBatch) (d : Dictionaries) (fs : Fields) (q : Place) (n : ℕ) → width fs ≡ 1 → first_of (cells_told m d fs q (λ q. n)) ≡ from_on (λ j. cell_in m d fs 0 q j) 0 n
first_told m d none q n w = cc
first_told m d (field name nullable metadata k others) q n w = refl

-- items from a place on, of as many as there are
items_told : {A : Type 0} → (item : ℕ → A) (xs : List A) (a b n : ℕ) → xs ≡ from_on item 0 n → a + b ≤ n → part a b xs ≡ from_on item a b
items_told item xs a b n e h = let s : 0 + a ≡ a = omega arith in ap (part a b) e ∙ sym (part-from_on item 0 n a b h) ∙ ap (λ i. from_on item i b) s

-- ── lists and maps ──

abbrev listed_cell : RecordBatch → Dictionaries → Offsets → Fields → Place → ℕ → Cell
listed_cell m d o fs p row = cells.«list» (cells_of (from_on (λ j. cell_in m d fs 0 (inside 2 p) j) (offset m o (p.buffer + 1) row) (offset m o (p.buffer + 1) (suc row) - offset m o (p.buffer + 1) row)))

list_items : (m : RecordBatch) (d : Dictionaries) (o : Offsets) (fs : Fields) (p : Place) (n row most : ℕ) (css : List (List Cell)) → width fs ≡ 1 → css ≡ cells_told m d fs (inside 2 p) (λ q. offset m o (p.buffer + 1) (suc n)) → offsets_faults m o (p.buffer + 1) (suc n) most ≡ [] → row < suc n
    → row_items (offsets_told m o (p.buffer + 1) (suc n)) (first_of css) row ≡ from_on (λ j. cell_in m d fs 0 (inside 2 p) j) (offset m o (p.buffer + 1) row) (offset m o (p.buffer + 1) (suc row) - offset m o (p.buffer + 1) row)
list_items m d o fs p n row most css w e h lt =
    let i = p.buffer + 1 in
    let a : place_at (offsets_told m o i (suc n)) row ≡ offset m o i row = place-told m o i (suc n) row (omega (arith, lt)) in
    let b : place_at (offsets_told m o i (suc n)) (suc row) ≡ offset m o i (suc row) = place-told m o i (suc n) (suc row) (omega (arith, lt)) in
    let last : offset m o i (suc row) ≤ offset m o i (suc n) = offset-fewer m o i (suc n) (suc row) most (omega (arith, lt)) h in
    let up : offset m o i row ≤ offset m o i (suc n) = offset-fewer m o i (suc n) row most (omega (arith, lt)) h in
    ap (λ x. part x (place_at (offsets_told m o i (suc n)) (suc row) - x) (first_of css)) a
    ∙ ap (λ y. part (offset m o i row) (y - offset m o i row) (first_of css)) b
    ∙ items_told (λ j. cell_in m d fs 0 (inside 2 p) j) (first_of css) (offset m o i row) (offset m o i (suc row) - offset m o i row) (offset m o i (suc n)) (ap first_of e ∙ first_told m d fs (inside 2 p) (offset m o i (suc n)) w) (omega (arith, last, up))

abbrev cells_between : RecordBatch → Kind → Offsets → Place → ℕ → List (List Cell) → List Cell
cells_between m l o p rows css = masked (listed_read m l o p rows).validity (from_on (λ row. cells.«list» (cells_of (row_items (listed_read m l o p rows).offsets (first_of css) row))) 0 (variable_rows (listed_read m l o p rows).offsets))

list_cells : (m : RecordBatch) (d : Dictionaries) (l : Kind) (o : Offsets) (fs : Fields) (p : Place) (rows : ℕ) (css : List (List Cell)) → width fs ≡ 1 → css ≡ cells_told m d fs (inside 2 p) (λ q. offset_read m o p rows) → array_faults m d (kind.«list» o fs) p rows ≡ []
    → cells_between m l o p rows css ≡ from_on (λ row. if_valid m p row (listed_cell m d o fs p row)) 0 rows
list_cells m d l o fs p zero css w e h = refl
list_cells m d l o fs p (suc n) css w e h =
    let i = p.buffer + 1 in
    let read : ℕ → Cell = λ row. cells.«list» (cells_of (row_items (offsets_told m o i (suc n)) (first_of css) row)) in
    let well : offsets_faults m o i (suc n) (end_of m (suc p.node)) ≡ [] = none_first _ _ (sound_second _ _ (none_second _ _ h)) in
    ap (λ c. masked (validity_read m p (suc n)) (from_on read 0 c)) (rows-told m o i (suc n))
    ∙ masked_same m p (suc n) read (listed_cell m d o fs p) (λ row lt v. ap (λ xs. cells.«list» (cells_of xs)) (list_items m d o fs p n row (end_of m (suc p.node)) css w e well lt))

-- ── lists of one size, and structs ──

sized_cells : (m : RecordBatch) (d : Dictionaries) (l : Kind) (size : ℕ) (fs : Fields) (p : Place) (rows : ℕ) (css : List (List Cell)) → list_size l ≡ size → width fs ≡ 1 → css ≡ cells_told m d fs (inside 1 p) (λ q. size * rows)
    → head_cells (sized (counted_read m l p rows)) css ≡ from_on (cell m d (kind.fixed_size_list size fs) p) 0 rows
sized_cells m d l size fs p rows css z w e =
    let item : ℕ → Cell = λ j. cell_in m d fs 0 (inside 1 p) j in
    let told : ℕ → Cell = λ row. cells.«list» (cells_of (from_on item (size * row) size)) in
    ap (λ s. masked (validity_read m p rows) (from_on (λ row. cells.«list» (cells_of (part (s * row) s (first_of css)))) 0 rows)) z
    ∙ masked_same m p rows (λ row. cells.«list» (cells_of (part (size * row) size (first_of css)))) told
    (λ row lt v.
    let room : size * row + size ≤ size * rows = omega (arith, mul-le-mul_left size lt) in
    ap (λ xs. cells.«list» (cells_of xs)) (items_told item (first_of css) (size * row) size (size * rows) (ap first_of e ∙ first_told m d fs (inside 1 p) (size * rows) w) room))

across_told : (m : RecordBatch) (d : Dictionaries) (fs : Fields) (q : Place) (rows row : ℕ) → row < rows → cells_of (across (cells_told m d fs q (λ q. rows)) row) ≡ row_of m d fs q row
across_told m d none q rows row lt = refl
across_told m d (field name nullable metadata k others) q rows row lt =
    let s : 0 + row ≡ row = omega arith in
    ap (λ x. cells.also x (cells_of (across (cells_told m d others (after m k q) (λ q. rows)) row))) (get-told (cell m d k q) 0 rows row cells.null lt ∙ ap (cell m d k q) s)
    ∙ ap (cells.also (cell m d k q row)) (across_told m d others (after m k q) rows row lt)

struct_cells : (m : RecordBatch) (d : Dictionaries) (l : Kind) (fs : Fields) (p : Place) (rows : ℕ) (css : List (List Cell)) → css ≡ cells_told m d fs (inside 1 p) (λ q. rows) → head_cells (structured (counted_read m l p rows)) css ≡ from_on (cell m d (kind.struct fs) p) 0 rows
struct_cells m d l fs p rows css e =
    masked_same m p rows (λ row. cells.struct (cells_of (across css row))) (λ row. cells.struct (row_of m d fs (inside 1 p) row))
    (λ row lt v. ap cells.struct (ap (λ x. cells_of (across x row)) e ∙ across_told m d fs (inside 1 p) rows row lt))

-- ── every kind ──

abbrev pub KindCells : Kind → Type 0
KindCells k = (l : Kind) → Label l k → (m : RecordBatch) (d : Dictionaries) (h : Held) (p : Place) (rows : ℕ) → HoldsCells d h → HoldsKinds h k → HaveBytes m k p rows → array_faults m d k p rows ≡ [] → cells_in (parts_under l m h k p rows) ≡ from_on (cell m d k p) 0 rows

abbrev pub FieldsCells : Fields → Type 0
FieldsCells fs = (m : RecordBatch) (d : Dictionaries) (h : Held) (p : Place) (rows : Place → ℕ) → HoldsCells d h → HoldsFields h fs → AllHaveBytes m fs p rows → child_faults m d fs p rows ≡ [] → cells_each (forest_read m h fs p rows) ≡ cells_told m d fs p rows

-- a kind without children has no tree
pub plain_bytes : (m : RecordBatch) (k : Kind) (p : Place) (rows : ℕ) → is_leaf_kind k ≡ true → AreBytes (numbers_bytes m k p rows) ≡ HaveBytes m k p rows
plain_bytes m (kind.«list» small fs) p rows h = cc
plain_bytes m (kind.«list» large fs) p rows h = cc
plain_bytes m (kind.map sorted fs) p rows h = cc
plain_bytes m (kind.fixed_size_list size fs) p rows h = cc
plain_bytes m (kind.struct fs) p rows h = cc
plain_bytes m (kind.union mode stated ids fs) p rows h = cc
plain_bytes m (kind.dictionary t ordered id k) p rows h = cc
plain_bytes m (kind.extension name metadata k) p rows h = plain_bytes m k p rows h
plain_bytes m k p rows h = refl

leaf_cells : (k : Kind) → is_leaf_kind k ≡ true → KindCells k
leaf_cells k is l e m d h p rows c v b fine =
    ap cells_in (sym (plain_under l m h k p rows is))
    ∙ cells_under m d k l p rows is (label_like l k e) (subst (λ (x : Type 0). x) (sym (plain_bytes m k p rows is)) b) fine

field_cells : (name : List ℕ) (nullable : Bool) (metadata : Metadata) (k : Kind) (others : Fields) → is_carried k ≡ true → KindCells k → FieldsCells others → FieldsCells (field name nullable metadata k others)
field_cells name nullable metadata k others carried f g m d h p rows c v b fine =
    let x = f (plain_kind k) (label_plain k) m d h p (rows p) c v.0 b.0 (none_first _ _ fine) in
    let y = g m d h (after m k p) rows c v.1 b.1 (sound_second (view_count_faults m k p) _ (none_second (array_faults m d k p (rows p)) _ fine)) in
    rw (x, y) refl

pub tree_cells : (k : Kind) → is_carried k ≡ true → KindCells k
tree_cells = by_tree KindCells FieldsCells (record {
  on_leaf = leaf_cells;
  on_list = λ o fs w g l e m d h p rows c v b fine. list_cells m d l o fs p rows _ w (g m d h (inside 2 p) (λ q. offset_read m o p rows) c v b (list_children m d o fs p rows fine)) fine;
  on_map = λ sorted fs w two g l e m d h p rows c v b fine.
      let k : array_faults m d (kind.«list» small fs) p rows ≡ [] = sym (map_is_list m d sorted fs p rows) ∙ fine in
      list_cells m d l small fs p rows _ w (g m d h (inside 2 p) (λ q. offset_read m small p rows) c v b (list_children m d small fs p rows k)) k;
  on_sized = λ size fs w s g l e m d h p rows c v b fine. sized_cells m d l size fs p rows _ (label_size l (kind.fixed_size_list size fs) e) w (g m d h (inside 1 p) (λ q. size * rows) c v b (none_second _ _ fine));
  on_struct = λ fs g l e m d h p rows c v b fine. struct_cells m d l fs p rows _ (g m d h (inside 1 p) (λ q. rows) c v b (none_second _ _ fine));
  on_union = λ mode stated ids fs right g l e m d h p rows c v b fine.
      ap cells_in (sym (union_under l m h mode stated ids fs p rows))
      ∙ union_cells m d l mode stated ids fs p rows _ e right fine (g m d h (children_at m mode p) (λ q. child_rows m mode rows q) c v (union_bytes m mode stated ids fs p rows b) (union_children m d mode stated ids fs p rows fine));
  on_dictionary = λ t ordered id k carried f l e m d h p rows c v b fine. dictionary_cells m d h l t ordered id k p rows carried c;
  on_extension = λ name metadata k f l e m d h p rows c v b fine. f l (record { under = e.under }) m d h p rows c v b fine;
  on_none = λ m d h p rows c v b fine. refl;
  on_field = field_cells;
})

pub cells_read : CellsAreRead
cells_read m d h k p rows c v carried b fine = tree_cells k carried (plain_kind k) (label_plain k) m d h p rows c v b fine
