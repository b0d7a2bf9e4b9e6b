-- The cells of arrays with children, by those of the children.
use Rattle.std.proofs.Common.{◌≡◌, ℕ, zero, suc, ◌+◌, ◌-◌, ◌*◌, ◌^◌, ◌≤◌, ◌<◌, List, Bool, Option, Some, None, IfSome, refl, ap, subst, ◌∙◌, arith}
use Rattle.arrow_spec.specs.Kinds as kind
use Rattle.arrow_spec.specs.Kinds.{Fields, width}
use Rattle.arrow_spec.specs.Cells as cells
use Rattle.arrow_spec.specs.Cells.{Cell, cells_of}
use Rattle.arrow_spec.specs.Counts.{RecordBatch, Place, after, inside}
use Rattle.arrow_spec.specs.Arrays.{Dictionaries, from_on, offset, valid}
use Rattle.arrow_spec.specs.ArrayCells.{cell, cell_in}
use Rattle.arrow_spec.specs.ArrayCells.{row_of as fields_row}
use Rattle.arrow_spec.specs.Faults.{place_in}
use Rattle.arrow_spec.proofs.CellLists.{from_on-same}
use Rattle.ipc_read.specs.CountedArrays.{counted_kind, counted_rows}
use Rattle.view_types.specs.declared.layout.Range.{Range}
use Rattle.view_types.specs.declared.layout.Layout.TheVariants.{Lists}
use Rattle.view_types.specs.Sound.{HaveRows, IsSound}
use Rattle.view_types.specs.Views.{Top, Views, array, none, also, across, bits_in, cells_each, child_cell, held_in, if_set, is_set, is_valid_in, items_of, offset_in, offsets_by, rows_at, rows_each}
use Rattle.view_types.proofs.Fits.{one_more}
use Rattle.ipc_view.specs.Built.{HasBitsIn, IsViewOf}
use Rattle.ipc_view.specs.Lists.{IsListTop}
use Rattle.ipc_view.specs.Nested.{AreViewsOf, counted_layout, nested_top}
use Rattle.ipc_view.proofs.Strings.{whole_parts}

-- a row of the i-th child
pub child_shown : (m : RecordBatch) (d : Dictionaries) (fs : Fields) (p : Place) (need : Place → ℕ) (cs : Views) → AreViewsOf m d fs p need cs → (i row : ℕ) → row < need (place_in m fs i p)
    → child_cell (cells_each cs) i row ≡ cell_in m d fs i p row
child_shown m d kind.none p need none h i row l = refl
child_shown m d kind.none p need (also v vs) h i row l = absurd h
child_shown m d (kind.field name nullable metadata k others) p need none h i row l = absurd h
child_shown m d (kind.field name nullable metadata k others) p need (also v vs) h zero row l = h.0.cells row l
child_shown m d (kind.field name nullable metadata k others) p need (also v vs) h (suc i) row l = child_shown m d others (after m k p) need vs h.1 i row l

-- a row of all of them, each of which has the same rows
pub struct_shown : (m : RecordBatch) (d : Dictionaries) (fs : Fields) (p : Place) (rows : ℕ) (cs : Views) → AreViewsOf m d fs p (λ q. rows) cs → (row : ℕ) → row < rows → across (cells_each cs) row ≡ fields_row m d fs p row
struct_shown m d kind.none p rows none h row l = refl
struct_shown m d kind.none p rows (also v vs) h row l = absurd h
struct_shown m d (kind.field name nullable metadata k others) p rows none h row l = absurd h
struct_shown m d (kind.field name nullable metadata k others) p rows (also v vs) h row l =
    ap (λ x. cells.also x (across (cells_each vs) row)) (h.0.cells row l) ∙ ap (cells.also (cell m d k p row)) (struct_shown m d others (after m k p) rows vs h.1 row l)

-- some of the rows of the only child
pub items_shown : (m : RecordBatch) (d : Dictionaries) (fs : Fields) (p : Place) (need : Place → ℕ) (cs : Views) (from count : ℕ) → AreViewsOf m d fs p need cs → from + count ≤ need (place_in m fs 0 p)
    → items_of (cells_each cs) from count ≡ cells.«list» (cells_of (from_on (λ j. cell_in m d fs 0 p j) from count))
items_shown m d fs p need cs from count h within =
    ap (λ xs. cells.«list» (cells_of xs)) (from_on-same (λ j. child_cell (cells_each cs) 0 j) (λ j. cell_in m d fs 0 p j) from count (λ j below. child_shown m d fs p need cs h 0 j (omega (arith, within, below))))

-- ── rows ──

have_rows : (m : RecordBatch) (d : Dictionaries) (fs : Fields) (p : Place) (rows : ℕ) (cs : Views) → AreViewsOf m d fs p (λ q. rows) cs → HaveRows cs rows
have_rows m d kind.none p rows none h = tt
have_rows m d kind.none p rows (also v vs) h = absurd h
have_rows m d (kind.field name nullable metadata k others) p rows none h = absurd h
have_rows m d (kind.field name nullable metadata k others) p rows (also v vs) h = (h.0.all_rows, have_rows m d others (after m k p) rows vs h.1)

first_rows : (m : RecordBatch) (d : Dictionaries) (fs : Fields) (p : Place) (rows : ℕ) (cs : Views) → AreViewsOf m d fs p (λ q. rows) cs → width fs ≡ 1 → rows_at cs 0 ≡ rows
first_rows m d kind.none p rows cs h one = cc
first_rows m d (kind.field name nullable metadata k others) p rows none h one = absurd h
first_rows m d (kind.field name nullable metadata k others) p rows (also v vs) h one = h.0.all_rows

row_same : (b c : Bool) (x y : Cell) → b ≡ c → x ≡ y → if_set b x ≡ if_set c y
row_same b c x y h e = rw (h, e) refl

-- ── structs and lists of one size ──

abbrev pub counted_top : List ℕ → Bool → Option ℕ → ℕ → Option Range → Range → Top
counted_top input is_big size rows validity first = nested_top input is_big (counted_layout size) rows validity first

pub counted_shown : (m : RecordBatch) (d : Dictionaries) (size : Option ℕ) (fs : Fields) (p : Place) (rows : ℕ) (input : List ℕ) (is_big : Bool) (validity : Option Range) (first : Range) (cs : Views)
    → ((row : ℕ) → row < rows → is_set (bits_in input validity) row ≡ valid m p row) → AreViewsOf m d fs (inside 1 p) (λ q. counted_rows size rows) cs → IsViewOf m d (counted_kind size fs) p rows (array (counted_top input is_big size rows validity first) cs)
counted_shown m d None fs p rows input is_big validity first cs bits h = record {
  all_rows = refl;
  cells = λ row l. row_same _ _ _ _ (bits row l) (ap cells.struct (struct_shown m d fs (inside 1 p) rows cs h row l));
}
counted_shown m d (Some size) fs p rows input is_big validity first cs bits h = record {
  all_rows = refl;
  cells = λ row l. row_same _ _ _ _ (bits row l) (items_shown m d fs (inside 1 p) (λ q. size * rows) cs (size * row) size h (one_more size row rows (size * rows) l (omega arith)));
}

pub counted_sound : (m : RecordBatch) (d : Dictionaries) (size : Option ℕ) (fs : Fields) (p : Place) (rows under : ℕ) (input : List ℕ) (is_big : Bool) (validity : Option Range) (first : Range) (cs : Views)
    → under ≡ counted_rows size rows → under < 2 ^ 64 → IfSome size (λ n. width fs ≡ 1) → IfSome validity (HasBitsIn input rows) → AreViewsOf m d fs p (λ q. under) cs → IsSound (counted_top input is_big size rows validity first) cs
counted_sound m d None fs p rows under input is_big validity first cs u few one bits h =
    whole_parts _ _ cs refl bits (have_rows m d fs p rows cs (subst (λ n. AreViewsOf m d fs p (λ q. n) cs) u h))
counted_sound m d (Some size) fs p rows under input is_big validity first cs u few one bits h =
    whole_parts _ _ cs refl bits (record { rows = omega (arith, u, first_rows m d fs p under cs h one); few = omega (arith, u, few) })

-- ── lists ──

pub lists_sound : (m : RecordBatch) (d : Dictionaries) (is_large : Bool) (fs : Fields) (p q : Place) (rows last : ℕ) (t : Top) (cs : Views) → width fs ≡ 1 → IsListTop m is_large p rows t last → AreViewsOf m d fs q (λ r. last) cs → IsSound t cs
lists_sound m d is_large fs p q rows last t cs one s h =
    whole_parts t (Lists is_large) cs s.layout_is s.has_bits (record {
      offsets = s.offsets_lie;
      rows = λ row l. let r = s.rises row (omega (arith, l, s.all_rows)) in record { room = r.room; rise = r.rise; within = omega (arith, r.within, first_rows m d fs q last cs h one) };
    })

list_items : (m : RecordBatch) (d : Dictionaries) (is_large : Bool) (fs : Fields) (p : Place) (rows last : ℕ) (t : Top) (cs : Views) → IsListTop m is_large p rows t last → AreViewsOf m d fs (inside 2 p) (λ q. last) cs → (row : ℕ) → row < rows
    → items_of (cells_each cs) (offset_in t is_large row) (offset_in t is_large (suc row) - offset_in t is_large row)
    ≡ cells.«list» (cells_of (from_on (λ j. cell_in m d fs 0 (inside 2 p) j) (offset m (offsets_by is_large) (p.buffer + 1) row) (offset m (offsets_by is_large) (p.buffer + 1) (suc row) - offset m (offsets_by is_large) (p.buffer + 1) row)))
list_items m d is_large fs p rows last t cs s h row l =
    let r = s.rises row l in
    let from = s.places row (omega (arith, l)) (omega (arith, l)) in
    let to = s.places (suc row) (omega (arith, l)) (omega (arith, l)) in
    items_shown m d fs (inside 2 p) (λ q. last) cs (offset_in t is_large row) (offset_in t is_large (suc row) - offset_in t is_large row) h (omega (arith, r.rise, r.within))
    ∙ ap (λ n. cells.«list» (cells_of (from_on (λ j. cell_in m d fs 0 (inside 2 p) j) n (offset_in t is_large (suc row) - n)))) from
    ∙ ap (λ n. cells.«list» (cells_of (from_on (λ j. cell_in m d fs 0 (inside 2 p) j) (offset m (offsets_by is_large) (p.buffer + 1) row) (n - offset m (offsets_by is_large) (p.buffer + 1) row)))) to

pub lists_shown : (m : RecordBatch) (d : Dictionaries) (is_large : Bool) (fs : Fields) (p : Place) (rows last : ℕ) (t : Top) (cs : Views) → IsListTop m is_large p rows t last → AreViewsOf m d fs (inside 2 p) (λ q. last) cs → IsViewOf m d (kind.«list» (offsets_by is_large) fs) p rows (array t cs)
lists_shown m d is_large fs p rows last t cs s h = record {
  all_rows = s.all_rows;
  cells = λ row l. ap (λ x. if_set (is_valid_in x t row) (held_in x t (cells_each cs) (rows_each cs) row)) s.layout_is
      ∙ row_same _ _ _ _ (s.bits row l) (list_items m d is_large fs p rows last t cs s h row l);
}
