-- The cells of unions, by those of their children.
use Rattle.std.proofs.Common.{◌≡◌, ℕ, suc, ◌+◌, ◌≤◌, ◌<◌, List, [], length, Option, Some, None, IfSome, Bool, true, false, ℤ, refl, sym, ap, subst, ◌∙◌, arith}
use Rattle.std.specs.Prelude.{slice_index_or}
use Rattle.std.specs.Int.{w8}
use Rattle.std.proofs.lemmas.Bool.{or_parts, leb-false}
use Rattle.arrow_spec.specs.declared.types.UnionMode.{UnionMode}
use Rattle.arrow_spec.specs.declared.types.UnionMode.TheVariants.{Dense, Sparse}
use Rattle.arrow_spec.specs.Kinds as kind
use Rattle.arrow_spec.specs.Kinds.{Fields, width}
use Rattle.arrow_spec.specs.Cells as cells
use Rattle.arrow_spec.specs.Cells.{Cell}
use Rattle.arrow_spec.specs.Counts.{RecordBatch, Place, after, inside, is_negative, magnitude, union_buffers}
use Rattle.arrow_spec.specs.Arrays.{Dictionaries, id_place, or_0, signed_in, types_buffer}
use Rattle.arrow_spec.specs.Arrays as arrays
use Rattle.arrow_spec.specs.ArrayCells.{cell_in}
use Rattle.arrow_spec.specs.Faults.{array_faults, child_faults, is_no_id, node_faults, place_in, view_count_faults}
use Rattle.arrow_arrays.proofs.UnionPlaces.{id_below}
use Rattle.arrow_buffers.proofs.Rows.{none_below}
use Rattle.ipc_read.specs.Places.{behind}
use Rattle.ipc_read.proofs.Places.{same_place}
use Rattle.ipc_read.proofs.Refusals.{both_none}
use Rattle.view_types.specs.declared.layout.Layout.TheVariants.{Union}
use Rattle.view_types.specs.Sound.{IsSound}
use Rattle.view_types.specs.Views.{Top, View, Views, none, also, array, count_of, bits_in, cells_each, child_cell, child_row, held_in, if_set, is_set, is_valid_in, rows_at, rows_each, type_in, views}
use Rattle.view_types.proofs.Children.{count_is}
use Rattle.ipc_view.specs.Built.{HasBitsIn, IsViewOf}
use Rattle.ipc_view.specs.Nested.{AreSeen, AreViewsOf, CountsAre, IsSeen, rows_by, seen_faults}
use Rattle.ipc_view.specs.declared.batch.ChildRows.{ChildRows}
use Rattle.ipc_view.specs.Unions.{AreTyped, IsUnionTop, child_rows, is_bad_place, is_misplaced, is_untyped, place_number, union_causes, union_top_faults}
use Rattle.ipc_view.proofs.NestedCells.{child_shown}
use Rattle.ipc_view.proofs.Places.{counts_inside, counts_none}
use Rattle.ipc_view.proofs.Strings.{whole_parts}
use Rattle.ipc_view.proofs.UnionFaults.{UnionWell, rows_listed, rows_needed, union_fits}

-- a type that is an id is that of one of the children
child_by : (ids : List ℤ) (ty : ℤ) (n : ℕ) (r : Option ℕ) → id_place ids ty ≡ r → is_no_id r ≡ false → length ids ≡ n → or_0 r < n
child_by ids ty n None e h l = cc
child_by ids ty n (Some i) e h l = omega (arith, id_below ids ty i e, l)

-- a row of a union leads to a row of its child
row_fits : (mode : UnionMode) (t : Top) (cs : Views) (rows row : ℕ) → (mode ≡ Sparse → rows_at cs (or_0 (id_place t.ids (type_in t row))) ≡ rows) → row < rows → is_untyped t row ≡ false → is_misplaced t mode (rows_each cs) row ≡ false
    → child_row t mode row + 1 ≤ rows_at cs (or_0 (id_place t.ids (type_in t row)))
row_fits Sparse t cs rows row same l h g = omega (arith, same refl, l)
row_fits Dense t cs rows row same l h g = by_place (id_place t.ids (type_in t row)) h g
  where
    by_place : (r : Option ℕ) → is_no_id r ≡ false → is_bad_place (rows_each cs) r (place_number t row) ≡ false → child_row t Dense row + 1 ≤ rows_at cs (or_0 r)
    by_place None h g = cc
    by_place (Some i) h g =
        let more : magnitude (place_number t row) < slice_index_or (rows_each cs) i 0 = leb-false (slice_index_or (rows_each cs) i 0) (magnitude (place_number t row)) (or_parts (is_negative (place_number t row)) _ g).1 in
        omega (arith, more, rows_listed cs i)

-- the rows of the child of a row that is sparse
sparse_rows : (m : RecordBatch) (d : Dictionaries) (mode : UnionMode) (ids : List ℤ) (fs : Fields) (p : Place) (rows : ℕ) (t : Top) (cs : Views) (i : ℕ) → UnionWell m d mode ids fs p rows t cs → i < width fs → mode ≡ Sparse → rows_at cs i ≡ rows
sparse_rows m d mode ids fs p rows t cs i w l e =
    rows_needed m d fs (inside (union_buffers m.version mode) p) _ cs w.children i l ∙ ap (λ x. rows_by (child_rows x rows) m (place_in m fs i (inside (union_buffers m.version mode) p))) e

row_within : (m : RecordBatch) (d : Dictionaries) (mode : UnionMode) (ids : List ℤ) (fs : Fields) (p : Place) (rows : ℕ) (t : Top) (cs : Views) → UnionWell m d mode ids fs p rows t cs → AreTyped t mode (rows_each cs) → (row : ℕ) → row < rows
    → (or_0 (id_place t.ids (type_in t row)) < width fs) × (child_row t mode row + 1 ≤ rows_at cs (or_0 (id_place t.ids (type_in t row))))
row_within m d mode ids fs p rows t cs w h row l =
    let below : row < t.rows = omega (arith, l, w.shows.all_rows) in
    let typed = none_below (is_untyped t) t.rows h.typed row below in
    let c = child_by t.ids (type_in t row) (width fs) (id_place t.ids (type_in t row)) refl typed (ap length w.shows.ids_are ∙ w.many) in
    (c, row_fits mode t cs rows row (sparse_rows m d mode ids fs p rows t cs (or_0 (id_place t.ids (type_in t row))) w c) l typed (none_below (is_misplaced t mode (rows_each cs)) t.rows h.placed row below))

no_bits : (t : Top) → t.validity ≡ None → IfSome t.validity (HasBitsIn t.input t.rows)
no_bits t h = subst (λ v. IfSome v (HasBitsIn t.input t.rows)) (sym h) tt

pub union_sound : (m : RecordBatch) (d : Dictionaries) (mode : UnionMode) (ids : List ℤ) (fs : Fields) (p : Place) (rows : ℕ) (t : Top) (cs : Views) → UnionWell m d mode ids fs p rows t cs → AreTyped t mode (rows_each cs) → IsSound t cs
union_sound m d mode ids fs p rows t cs w h =
    whole_parts t (Union mode) cs w.shows.layout_is (no_bits t w.shows.no_validity)
    (record { types = w.shows.stand; places = w.shows.have_places; rows = λ row l. (row_within m d mode ids fs p rows t cs w h row (omega (arith, l, w.shows.all_rows))).1 })

-- ── the cells ──

-- the child of a row, and its row there
row_told : (m : RecordBatch) (mode : UnionMode) (ids : List ℤ) (p : Place) (rows : ℕ) (t : Top) (row : ℕ) → IsUnionTop m mode ids p rows t → row < rows → child_row t mode row ≡ arrays.child_row m mode p row
row_told m Sparse ids p rows t row s l = refl
row_told m Dense ids p rows t row s l = ap magnitude (s.places refl row l)

-- the cell of a row of the child
held : (m : RecordBatch) (d : Dictionaries) (mode : UnionMode) (ids : List ℤ) (fs : Fields) (p : Place) (rows : ℕ) (t : Top) (cs : Views) → UnionWell m d mode ids fs p rows t cs → AreTyped t mode (rows_each cs) → (row : ℕ) → row < rows
    → child_cell (cells_each cs) (or_0 (id_place t.ids (type_in t row))) (child_row t mode row)
    ≡ cell_in m d fs (or_0 (id_place ids (signed_in m w8 (types_buffer m p) row))) (inside (union_buffers m.version mode) p) (arrays.child_row m mode p row)
held m d mode ids fs p rows t cs w h row l =
    let q = inside (union_buffers m.version mode) p in
    let need = rows_by (child_rows mode rows) m in
    let i = or_0 (id_place t.ids (type_in t row)) in
    let f = row_within m d mode ids fs p rows t cs w h row l in
    child_shown m d fs q need cs w.children i (child_row t mode row) (omega (arith, f.1, rows_needed m d fs q need cs w.children i f.0))
    ∙ ap (λ n. cell_in m d fs i q n) (row_told m mode ids p rows t row w.shows l)
    ∙ ap (λ xs. cell_in m d fs (or_0 (id_place xs (type_in t row))) q (arrays.child_row m mode p row)) w.shows.ids_are
    ∙ ap (λ x. cell_in m d fs (or_0 (id_place ids x)) q (arrays.child_row m mode p row)) (w.shows.types row l)

tag_same : (a b : ℤ) (x y : Cell) → a ≡ b → x ≡ y → cells.tagged a x ≡ cells.tagged b y
tag_same a b x y h e = rw (h, e) refl

set_by : (v : Bool) (x : Cell) → v ≡ true → if_set v x ≡ x
set_by v x h = rw h refl

pub union_shown : (m : RecordBatch) (d : Dictionaries) (mode : UnionMode) (stated : Bool) (ids : List ℤ) (fs : Fields) (p : Place) (rows : ℕ) (t : Top) (cs : Views) → UnionWell m d mode ids fs p rows t cs → AreTyped t mode (rows_each cs) → IsViewOf m d (kind.union mode stated ids fs) p rows (array t cs)
union_shown m d mode stated ids fs p rows t cs w h = record {
  all_rows = w.shows.all_rows;
  cells = λ row l. ap (λ x. if_set (is_valid_in x t row) (held_in x t (cells_each cs) (rows_each cs) row)) w.shows.layout_is
      ∙ set_by (is_set (bits_in t.input t.validity) row) _ (ap (λ v. is_set (bits_in t.input v) row) w.shows.no_validity)
      ∙ tag_same _ _ _ _ (w.shows.types row l) (held m d mode ids fs p rows t cs w h row l);
}

-- ── what is seen, where nothing is wrong ──

union_behind : (m : RecordBatch) (mode : UnionMode) (stated : Bool) (ids : List ℤ) (fs : Fields) (p : Place) → behind m fs (inside (union_buffers m.version mode) p) ≡ after m (kind.union mode stated ids fs) p
union_behind m mode stated ids fs p = same_place (omega arith) (omega arith) (omega arith)

pub union_done : (m : RecordBatch) (d : Dictionaries) (mode : UnionMode) (stated : Bool) (ids : List ℤ) (fs : Fields) (p : Place) (rows : ℕ) (t : Top) (vs : List View) (q : Place)
    → node_faults m p rows ≡ [] → UnionWell m d mode ids fs p rows t (views vs) → AreTyped t mode (rows_each (views vs)) → union_causes t mode (rows_each (views vs)) ≡ [] → AreSeen m d fs (inside (union_buffers m.version mode) p) (child_rows mode rows) vs q
    → (seen_faults m d (kind.union mode stated ids fs) p rows ≡ []) × IsSeen m d (kind.union mode stated ids fs) p rows (array t (views vs)) q
union_done m d mode stated ids fs p rows t vs q node w h fine seen =
    let k = kind.union mode stated ids fs in
    let next = seen.next ∙ union_behind m mode stated ids fs p in
    let counts = counts_inside m (union_buffers m.version mode) p q seen.counts in (
      both_none (array_faults m d k p rows) (view_count_faults m k p) (union_fits m d mode stated ids fs p rows t (views vs) w node fine) (counts_none m k p (subst (CountsAre m p) next counts)),
      record { view = union_shown m d mode stated ids fs p rows t (views vs) w h; next = next; counts = counts },
    )

-- the parts that were told and the children that were read, by what they were asked for
pub union_well : (m : RecordBatch) (d : Dictionaries) (mode : UnionMode) (told ids : List ℤ) (fs : Fields) (p first : Place) (rows : ℕ) (under : ChildRows) (t : Top) (vs : List View) (q : Place)
    → told ≡ ids → first ≡ inside (union_buffers m.version mode) p → under ≡ child_rows mode rows → union_top_faults m mode p rows ≡ [] → IsUnionTop m mode told p rows t → length ids ≡ width fs
    → child_faults m d fs first (rows_by under m) ≡ [] → AreSeen m d fs first under vs q → UnionWell m d mode ids fs p rows t (views vs)
union_well m d mode told ids fs p first rows under t vs q i f u top shows many fine seen = record {
  shows = subst (λ xs. IsUnionTop m mode xs p rows t) i shows;
  top = top;
  many = many;
  children = subst (λ x. AreViewsOf m d fs x (rows_by (child_rows mode rows) m) (views vs)) f (subst (λ r. AreViewsOf m d fs first (rows_by r m) (views vs)) u seen.children);
  fine = subst (λ x. child_faults m d fs x (rows_by (child_rows mode rows) m) ≡ []) f (subst (λ r. child_faults m d fs first (rows_by r m) ≡ []) u fine);
}

-- there are as many views as fields
many_views : (m : RecordBatch) (d : Dictionaries) (fs : Fields) (p : Place) (need : Place → ℕ) (cs : Views) → AreViewsOf m d fs p need cs → count_of cs ≡ width fs
many_views m d kind.none p need none h = refl
many_views m d kind.none p need (also v vs) h = absurd h
many_views m d (kind.field name nullable metadata k others) p need none h = absurd h
many_views m d (kind.field name nullable metadata k others) p need (also v vs) h = ap suc (many_views m d others (after m k p) need vs h.1)

pub views_many : (m : RecordBatch) (d : Dictionaries) (fs : Fields) (p : Place) (need : Place → ℕ) (vs : List View) → AreViewsOf m d fs p need (views vs) → length vs ≡ width fs
views_many m d fs p need vs h = sym (count_is vs) ∙ many_views m d fs p need (views vs) h
