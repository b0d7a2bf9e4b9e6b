-- Columns of unions mean their cells, where their children do.
use Rattle.std.proofs.Common.{◌≡◌, ℕ, zero, suc, ◌+◌, ◌*◌, ◌<◌, List, [], ◌∷◌, ◌++◌, length, get_or, Bool, true, false, map, ℤ, pos, refl, sym, ap, subst, ◌∙◌, arith, Option, Some, None, inl, inr, true≢false}
use Rattle.std.specs.Prelude.{nat_lt, nat_le, not, FitsSigned, ◌||◌, slice_index_or}
use Rattle.std.specs.Int.{Width, w8, w32, byte_len}
use Rattle.std.specs.List.{flat_map, AllByRecursion}
use Rattle.std.proofs.lemmas.Bool.{le-ltb, le-leb, cases_lt}
use Rattle.std.proofs.lemmas.List.Elements.{All-from_recursion}
use Rattle.arrow_spec.specs.declared.message.MetadataVersion.TheVariants.{V5}
use Rattle.arrow_spec.specs.declared.types.UnionMode.TheVariants.{Dense, Sparse}
use Rattle.arrow_spec.specs.Flat.{Order}
use Rattle.arrow_spec.specs.Held.{Stands}
use Rattle.arrow_spec.specs.Kinds as kind
use Rattle.arrow_spec.specs.Kinds.{Kind, Fields, none, field, small}
use Rattle.arrow_spec.specs.Cells as cells
use Rattle.arrow_spec.specs.Cells.{Cell}
use Rattle.arrow_spec.specs.Counts.{RecordBatch, Place, nodes, buffers, views, inside, after, union_buffers, magnitude, is_negative}
use Rattle.arrow_spec.specs.Arrays.{Dictionaries, from_on, signed_in, types_buffer, id_place, or_0, offset, node_of, node_or_none}
use Rattle.arrow_spec.specs.ArrayCells.{cell, cell_in}
use Rattle.arrow_spec.specs.Faults.{node_faults, union_faults, child_faults, array_faults, some_row, is_no_id, child_end, end_of, is_bad_row, place_in}
use Rattle.arrow_spec.specs.Bodies.{BufferHeld}
use Rattle.arrow_spec.proofs.Bodies.{held_bytes}
use Rattle.arrow_spec.proofs.CellLists.{from_on-same}
use Rattle.arrow_types.specs.Numbers.{signed_to_bytes}
use Rattle.arrow_types.specs.NumberLaws.{signed_back, signed_width}
use Rattle.arrow_buffers.proofs.Rows.{none_below, none_from}
use Rattle.arrow_arrays.specs.Heads.{child_fields, child_under, ids_in, is_union, have_ids, number_at, fits_places, is_bad_place}
use Rattle.ipc_write_laws.specs.Columns.{WrittenColumn, Means}
use Rattle.ipc_write_laws.specs.Streams.{AreOf}
use Rattle.ipc_write_laws.proofs.Counted.{node_there}
use Rattle.ipc_write_laws.proofs.NoRows.{children_none}
use Rattle.ipc_write_laws.proofs.Children.{StandTogether, AreMeant, AreRead, first_child, other_children, children_right, cell_at}
use Rattle.ipc_write_laws.proofs.Tops.{TopShape, TopStands, top_column, top_means}
use Rattle.ipc_write_arrays.proofs.RoundTripHeads.{node_right}
use Rattle.ipc_write_arrays.proofs.RoundTripPlain.{numbers_right}
use Rattle.ipc_write_arrays.proofs.RoundTripTurned.{itself}
use Rattle.ipc_write_arrays.proofs.RoundTripNumbers.{item_stands, length-items}
use Rattle.ipc_write_arrays.proofs.RoundTripPlaces.{signed_by}
use Rattle.ipc_write_arrays.proofs.RoundTripNested.{MeansOwn, own_rows, all_mean, all_read}

-- ── how a kind of sparse unions is read, extensions looked through ──

record SparseShape (d : Dictionaries) (k : Kind) (ids : List ℤ) (fs : Fields) : Type 0 where
  top : TopShape k fs 1
  empty : (m : RecordBatch) (p : Place) → array_faults m d k p 0 ≡ node_faults m p 0 ++ child_faults m d fs (inside (union_buffers m.version Sparse) p) (λ q. 0)
  some : (m : RecordBatch) (p : Place) (n : ℕ) → array_faults m d k p (suc n) ≡ node_faults m p (suc n) ++ union_faults m Sparse ids fs p (suc n) ++ child_faults m d fs (inside (union_buffers m.version Sparse) p) (λ q. suc n)
  row : (m : RecordBatch) (p : Place) (row : ℕ) → cell m d k p row ≡ cells.tagged (signed_in m w8 (types_buffer m p) row)
      (cell_in m d fs (or_0 (id_place ids (signed_in m w8 (types_buffer m p) row))) (inside (union_buffers m.version Sparse) p) row)

sparse_shape : (d : Dictionaries) (k : Kind) → is_union false k ≡ true → SparseShape d k (ids_in k) (child_fields k)
sparse_shape d (kind.union Sparse stated ids fs) e = record { top = record { node = refl; view = refl; buffer = λ m v five. rw five refl }; empty = λ m p. refl; some = λ m p n. refl; row = λ m p row. refl }
sparse_shape d (kind.union Dense stated ids fs) e = cc
sparse_shape d (kind.extension name metadata k) e =
    let s = sparse_shape d k e in
    record { top = record { node = s.top.node; view = s.top.view; buffer = s.top.buffer }; empty = s.empty; some = s.some; row = s.row }
sparse_shape d k e = cc

types_there : (m : RecordBatch) (p : Place) → m.version ≡ V5 → types_buffer m p ≡ p.buffer
types_there m p five = rw five refl

own_there : (m : RecordBatch) → m.version ≡ V5 → union_buffers m.version Sparse ≡ 1
own_there m five = rw five refl

-- ── a child's row ──

-- the cell of the child under a number is that of its column
child_read : (order : Order) (d : Dictionaries) (rows row i : ℕ) (fs : Fields) (cs : List WrittenColumn) (m : RecordBatch) (q : Place) → row < rows → AreOf fs cs → m.order ≡ order → m.version ≡ V5 → AllByRecursion (λ x. MeansOwn order d rows x) cs → StandTogether m q cs
    → cell_in m d fs i q row ≡ get_or (get_or (map (λ c. c.cells) cs) i []) row cells.null
child_read order d rows row i none [] m q lt kinds o v good h = refl
child_read order d rows row i none (x ∷ cs) m q lt kinds o v good h = absurd kinds
child_read order d rows row i (field name nullable metadata k others) [] m q lt kinds o v good h = absurd kinds
child_read order d rows row zero (field name nullable metadata k others) (x ∷ cs) m q lt kinds o v good h =
    let here : from_on (cell m d k q) 0 rows ≡ x.cells = rw kinds.0 (good.0.means.cells_read m q o v (first_child m q x cs h)) in
    let z : 0 + row ≡ row = omega arith in
    ap (cell m d k q) (sym z) ∙ cell_at (cell m d k q) 0 rows row cells.null lt ∙ ap (λ xs. get_or xs row cells.null) here
child_read order d rows row (suc i) (field name nullable metadata k others) (x ∷ cs) m q lt kinds o v good h =
    let means = good.0.means in
    let n : nodes k ≡ length x.nodes = rw kinds.0 means.node_count in
    let b : buffers m.version m.variadic k q.view ≡ length x.pieces = rw kinds.0 (means.buffer_count m q v (first_child m q x cs h)) in
    let w : views k ≡ length x.views = rw kinds.0 means.view_count in
    child_read order d rows row i others cs m (after m k q) lt kinds.1 o v good.1 (other_children m q x cs h k n b w)

-- ── types ──

-- numbers of a width in a buffer
module _ (w : Width) (order : Order) (xs : List ℤ) (m : RecordBatch) (i : ℕ) (one : m.order ≡ order) (held : BufferHeld m i (flat_map (signed_to_bytes w order) xs)) (fit : AllByRecursion (λ x. FitsSigned w x) xs) where
  pub number_read : (row : ℕ) → row < length xs → signed_in m w i row ≡ number_at xs row
  number_read row lt =
      let all = flat_map (signed_to_bytes w order) xs in
      let t = get_or xs row (pos 0) in
      let at : 0 + byte_len w * row ≡ byte_len w * row = omega arith in
      let there : Stands all (byte_len w * row) (signed_to_bytes w order t) = subst (λ k. Stands all k (signed_to_bytes w order t)) at (item_stands (signed_to_bytes w order) (byte_len w) xs (pos 0) all 0 row (λ j below. signed_width w order (get_or xs j (pos 0))) lt (itself all)) in
      signed_by w order m i row all (signed_to_bytes w order t) one (held_bytes m i all held) (signed_width w order t) there
      ∙ signed_back w order t (All-from_recursion (λ x. FitsSigned w x) xs fit row (pos 0) lt)

  number_count : length (flat_map (signed_to_bytes w order) xs) ≡ byte_len w * length xs
  number_count = length-items (signed_to_bytes w order) (byte_len w) xs (pos 0) (λ j below. signed_width w order (get_or xs j (pos 0)))

not_true : (b : Bool) → not b ≡ true → b ≡ false
not_true true e = cc
not_true false e = refl

-- sparse unions of columns that mean their cells mean theirs
module _ (order : Order) (d : Dictionaries) (k : Kind) (types : List ℤ) (cs : List WrittenColumn) (suits : is_union false k ≡ true) (known : have_ids (ids_in k) types ≡ true) (fit : AllByRecursion (λ x. FitsSigned w8 x) types) (kinds : AreOf (child_fields k) cs) (good : AllByRecursion (λ x. MeansOwn order d (length types) x) cs) where
  module _ (m : RecordBatch) (p : Place) (one : m.order ≡ order) (five : m.version ≡ V5) (s : TopStands m p (length types) 0 (flat_map (signed_to_bytes w8 order) types ∷ []) cs) where
    children : (n : ℕ) → length types ≡ n → child_faults m d (child_fields k) (inside (union_buffers m.version Sparse) p) (λ q. n) ≡ []
    children n e = ap (λ own. child_faults m d (child_fields k) (inside own p) (λ q. n)) (own_there m five)
        ∙ children_right order (child_fields k) cs m d (λ q. n) (λ x. length types) (inside 1 p) kinds one five (all_read order d (length types) cs m (λ q. n) good (λ q. sym e)) s.children

    own_right : (n : ℕ) → length types ≡ n → union_faults m Sparse (ids_in k) (child_fields k) p n ≡ []
    unfolding union_faults
    own_right n e =
        let first : nat_lt p.buffer p.buffer ≡ false = le-ltb p.buffer p.buffer (omega arith) in
        let count = number_count w8 order types m p.buffer one s.held.0 fit in
        let none : some_row (λ row. is_no_id (id_place (ids_in k) (signed_in m w8 p.buffer row))) n ≡ false =
        none_from (λ row. is_no_id (id_place (ids_in k) (signed_in m w8 p.buffer row))) n (λ row lt.
        ap (λ t. is_no_id (id_place (ids_in k) t)) (number_read w8 order types m p.buffer one s.held.0 fit row (omega arith))
        ∙ none_below (λ row. is_no_id (id_place (ids_in k) (number_at types row))) (length types) (not_true _ known) row (omega arith)) in
        rw (types_there m p five, first, numbers_right m p.buffer 1 n (flat_map (signed_to_bytes w8 order) types) s.held.0 (omega (arith, count)), none) refl

    sparse_right : (shape : SparseShape d k (ids_in k) (child_fields k)) (n : ℕ) → length types ≡ n → array_faults m d k p n ≡ []
    sparse_right shape zero e = shape.empty m p ∙ rw (node_right m p 0 0 (rw e at s.node), children 0 e) refl
    sparse_right shape (suc n) e = shape.some m p n ∙ rw (node_right m p (suc n) 0 (rw e at s.node), own_right (suc n) e, children (suc n) e) refl

    row_read : (shape : SparseShape d k (ids_in k) (child_fields k)) (row : ℕ) → row < length types
        → cell m d k p row ≡ cells.tagged (number_at types row) (slice_index_or (child_under (ids_in k) (map (λ c. c.cells) cs) (number_at types row)) row cells.null)
    row_read shape row lt =
        let t : signed_in m w8 (types_buffer m p) row ≡ number_at types row = ap (λ i. signed_in m w8 i row) (types_there m p five) ∙ number_read w8 order types m p.buffer one s.held.0 fit row lt in
        shape.row m p row ∙ ap (λ x. cells.tagged x (cell_in m d (child_fields k) (or_0 (id_place (ids_in k) x)) (inside (union_buffers m.version Sparse) p) row)) t
        ∙ ap (λ own. cells.tagged (number_at types row) (cell_in m d (child_fields k) (or_0 (id_place (ids_in k) (number_at types row))) (inside own p) row)) (own_there m five)
        ∙ ap (cells.tagged (number_at types row)) (child_read order d (length types) row (or_0 (id_place (ids_in k) (number_at types row))) (child_fields k) cs m (inside 1 p) lt kinds one five good s.children)

  pub sparse_mean : Means order d (length types) (top_column k (length types) 0 (flat_map (signed_to_bytes w8 order) types ∷ []) cs
      (from_on (λ row. cells.tagged (number_at types row) (slice_index_or (child_under (ids_in k) (map (λ c. c.cells) cs) (number_at types row)) row cells.null)) 0 (length types)))
  sparse_mean =
      let shape = sparse_shape d k suits in
      let told : ℕ → Cell = λ row. cells.tagged (number_at types row) (slice_index_or (child_under (ids_in k) (map (λ c. c.cells) cs) (number_at types row)) row cells.null) in
      top_means order d k (child_fields k) (length types) 0 (flat_map (signed_to_bytes w8 order) types ∷ []) cs (from_on told 0 (length types)) (λ x. length types) shape.top kinds (all_mean order d (length types) cs good)
      (λ m p one five s. sparse_right m p one five s shape (length types) refl)
      (λ m p one five s. from_on-same (cell m d k p) told 0 (length types) (λ j lt. row_read m p one five s shape j (omega (arith, lt))))

-- ── dense unions ──

record DenseShape (d : Dictionaries) (k : Kind) (ids : List ℤ) (fs : Fields) : Type 0 where
  top : TopShape k fs 2
  empty : (m : RecordBatch) (p : Place) → array_faults m d k p 0 ≡ node_faults m p 0 ++ child_faults m d fs (inside (union_buffers m.version Dense) p) (λ q. 0)
  some : (m : RecordBatch) (p : Place) (n : ℕ) → array_faults m d k p (suc n) ≡ node_faults m p (suc n) ++ union_faults m Dense ids fs p (suc n)
      ++ child_faults m d fs (inside (union_buffers m.version Dense) p) (λ q. magnitude (node_of m q.node).length)
  row : (m : RecordBatch) (p : Place) (row : ℕ) → cell m d k p row ≡ cells.tagged (signed_in m w8 (types_buffer m p) row)
      (cell_in m d fs (or_0 (id_place ids (signed_in m w8 (types_buffer m p) row))) (inside (union_buffers m.version Dense) p) (offset m small (suc (types_buffer m p)) row))

dense_shape : (d : Dictionaries) (k : Kind) → is_union true k ≡ true → DenseShape d k (ids_in k) (child_fields k)
dense_shape d (kind.union Dense stated ids fs) e = record { top = record { node = refl; view = refl; buffer = λ m v five. rw five refl }; empty = λ m p. refl; some = λ m p n. refl; row = λ m p row. refl }
dense_shape d (kind.union Sparse stated ids fs) e = cc
dense_shape d (kind.extension name metadata k) e =
    let s = dense_shape d k e in
    record { top = record { node = s.top.node; view = s.top.view; buffer = s.top.buffer }; empty = s.empty; some = s.some; row = s.row }
dense_shape d k e = cc

both_there : (m : RecordBatch) → m.version ≡ V5 → union_buffers m.version Dense ≡ 2
both_there m five = rw five refl

-- the child under a number: its rows are told by its node, and each of them is read as its cell
record ChildAt (m : RecordBatch) (d : Dictionaries) (fs : Fields) (i row : ℕ) (q : Place) (cs : List WrittenColumn) : Type 0 where
  rows : end_of m (place_in m fs i q).node ≡ get_or (map own_rows cs) i 0
  read : cell_in m d fs i q row ≡ get_or (get_or (map (λ c. c.cells) cs) i []) row cells.null

child_at : (order : Order) (d : Dictionaries) (row i : ℕ) (fs : Fields) (cs : List WrittenColumn) (m : RecordBatch) (q : Place) → row < get_or (map own_rows cs) i 0 → AreOf fs cs → m.order ≡ order → m.version ≡ V5 → AllByRecursion (λ x. MeansOwn order d (own_rows x) x) cs → StandTogether m q cs
    → ChildAt m d fs i row q cs
child_at order d row i none [] m q lt kinds o v good h = absurd (omega arith)
child_at order d row i none (x ∷ cs) m q lt kinds o v good h = absurd kinds
child_at order d row i (field name nullable metadata k others) [] m q lt kinds o v good h = absurd kinds
child_at order d row zero (field name nullable metadata k others) (x ∷ cs) m q lt kinds o v good h =
    let stands = first_child m q x cs h in
    let here : from_on (cell m d k q) 0 (own_rows x) ≡ x.cells = rw kinds.0 (good.0.means.cells_read m q o v stands) in
    let z : 0 + row ≡ row = omega arith in
    record {
      rows = ap child_end (node_there order d (own_rows x) good.0.nulls x good.0.others good.0.own m q stands);
      read = ap (cell m d k q) (sym z) ∙ cell_at (cell m d k q) 0 (own_rows x) row cells.null lt ∙ ap (λ xs. get_or xs row cells.null) here;
    }
child_at order d row (suc i) (field name nullable metadata k others) (x ∷ cs) m q lt kinds o v good h =
    let means = good.0.means in
    let n : nodes k ≡ length x.nodes = rw kinds.0 means.node_count in
    let b : buffers m.version m.variadic k q.view ≡ length x.pieces = rw kinds.0 (means.buffer_count m q v (first_child m q x cs h)) in
    let w : views k ≡ length x.views = rw kinds.0 means.view_count in
    let r = child_at order d row i others cs m (after m k q) lt kinds.1 o v good.1 (other_children m q x cs h k n b w) in
    record { rows = r.rows; read = r.read }

each_meant : (order : Order) (d : Dictionaries) (cs : List WrittenColumn) → AllByRecursion (λ x. MeansOwn order d (own_rows x) x) cs → AreMeant order d own_rows cs
each_meant order d [] h = tt
each_meant order d (x ∷ cs) h = (h.0.means, each_meant order d cs h.1)

each_told : (order : Order) (d : Dictionaries) (cs : List WrittenColumn) (m : RecordBatch) → AllByRecursion (λ x. MeansOwn order d (own_rows x) x) cs → AreRead m order d (λ q. magnitude (node_of m q.node).length) own_rows cs
each_told order d [] m h = tt
each_told order d (x ∷ cs) m h = ((h.0.means, λ q s. ap (λ n. magnitude (node_or_none n).length) (node_there order d (own_rows x) h.0.nulls x h.0.others h.0.own m q s)), each_told order d cs m h.1)

below_it : (a b : ℕ) → nat_le a b ≡ false → b < a
below_it a b e =
    elim (cases_lt b a) [
      | inl lt ↦ lt
      | inr le ↦ let t = le-leb a b le in absurd (true≢false (sym t ∙ e))
    ]

no_second_of : (a b : Bool) → (a || b) ≡ false → b ≡ false
no_second_of true b e = cc
no_second_of false b e = e

known_place : (o : Option ℕ) → is_no_id o ≡ false → o ≡ Some (or_0 o)
known_place None e = cc
known_place (Some i) e = refl

module _ (order : Order) (d : Dictionaries) (k : Kind) (types offsets : List ℤ) (cs : List WrittenColumn) (suits : is_union true k ≡ true) (long : length offsets ≡ length types) (known : have_ids (ids_in k) types ≡ true) (there : fits_places (ids_in k) types (Some offsets) (map own_rows cs) ≡ true)
    (fit : AllByRecursion (λ x. FitsSigned w8 x) types) (places : AllByRecursion (λ x. FitsSigned w32 x) offsets) (kinds : AreOf (child_fields k) cs) (good : AllByRecursion (λ x. MeansOwn order d (own_rows x) x) cs) where
  module _ (m : RecordBatch) (p : Place) (one : m.order ≡ order) (five : m.version ≡ V5) (s : TopStands m p (length types) 0 (flat_map (signed_to_bytes w8 order) types ∷ flat_map (signed_to_bytes w32 order) offsets ∷ []) cs) where
    type_read : (row : ℕ) → row < length types → signed_in m w8 p.buffer row ≡ number_at types row
    type_read = number_read w8 order types m p.buffer one s.held.0 fit

    place_read : (row : ℕ) → row < length types → signed_in m w32 (suc p.buffer) row ≡ number_at offsets row
    place_read row lt = number_read w32 order offsets m (suc p.buffer) one s.held.1.0 places row (omega (arith, long))

    -- each row is one of its child
    child_of_row : (row : ℕ) → row < length types → ChildAt m d (child_fields k) (or_0 (id_place (ids_in k) (number_at types row))) (magnitude (number_at offsets row)) (inside 2 p) cs
    child_of_row row lt =
        let t = number_at types row in
        let o = id_place (ids_in k) t in
        let has : is_no_id o ≡ false = none_below (λ row. is_no_id (id_place (ids_in k) (number_at types row))) (length types) (not_true _ known) row lt in
        let bad : is_bad_place (map own_rows cs) o (number_at offsets row) ≡ false = none_below (λ row. is_bad_place (map own_rows cs) (id_place (ids_in k) (number_at types row)) (number_at offsets row)) (length types) (not_true _ there) row lt in
        let here : is_bad_place (map own_rows cs) (Some (or_0 o)) (number_at offsets row) ≡ false = ap (λ x. is_bad_place (map own_rows cs) x (number_at offsets row)) (sym (known_place o has)) ∙ bad in
        let in_it = below_it (get_or (map own_rows cs) (or_0 o) 0) (magnitude (number_at offsets row)) (no_second_of (is_negative (number_at offsets row)) _ here) in
        child_at order d (magnitude (number_at offsets row)) (or_0 o) (child_fields k) cs m (inside 2 p) in_it kinds one five good s.children

    row_right : (row : ℕ) → row < length types → is_bad_row m (child_fields k) (inside 2 p) (id_place (ids_in k) (number_at types row)) (number_at offsets row) ≡ false
    row_right row lt =
        let t = number_at types row in
        let o = id_place (ids_in k) t in
        let has : is_no_id o ≡ false = none_below (λ row. is_no_id (id_place (ids_in k) (number_at types row))) (length types) (not_true _ known) row lt in
        let bad : is_bad_place (map own_rows cs) o (number_at offsets row) ≡ false = none_below (λ row. is_bad_place (map own_rows cs) (id_place (ids_in k) (number_at types row)) (number_at offsets row)) (length types) (not_true _ there) row lt in
        let here : is_bad_place (map own_rows cs) (Some (or_0 o)) (number_at offsets row) ≡ false = ap (λ x. is_bad_place (map own_rows cs) x (number_at offsets row)) (sym (known_place o has)) ∙ bad in
        ap (λ x. is_bad_row m (child_fields k) (inside 2 p) x (number_at offsets row)) (known_place o has)
        ∙ ap (λ n. is_negative (number_at offsets row) || nat_le n (magnitude (number_at offsets row))) (child_of_row row lt).rows ∙ here

    dense_children : child_faults m d (child_fields k) (inside 2 p) (λ q. magnitude (node_of m q.node).length) ≡ []
    dense_children = children_right order (child_fields k) cs m d (λ q. magnitude (node_of m q.node).length) own_rows (inside 2 p) kinds one five (each_told order d cs m good) s.children

    rows_there : (n : ℕ) → length types ≡ n → union_faults m Dense (ids_in k) (child_fields k) p n ≡ []
    unfolding union_faults
    rows_there n e =
        let first : nat_lt p.buffer p.buffer ≡ false = le-ltb p.buffer p.buffer (omega arith) in
        let count = number_count w8 order types m p.buffer one s.held.0 fit in
        let more = number_count w32 order offsets m (suc p.buffer) one s.held.1.0 places in
        let none : some_row (λ row. is_no_id (id_place (ids_in k) (signed_in m w8 p.buffer row))) n ≡ false =
        none_from (λ row. is_no_id (id_place (ids_in k) (signed_in m w8 p.buffer row))) n (λ row lt.
        ap (λ t. is_no_id (id_place (ids_in k) t)) (type_read row (omega arith)) ∙ none_below (λ row. is_no_id (id_place (ids_in k) (number_at types row))) (length types) (not_true _ known) row (omega arith)) in
        let right : some_row (λ row. is_bad_row m (child_fields k) (inside 2 p) (id_place (ids_in k) (signed_in m w8 p.buffer row)) (signed_in m w32 (suc p.buffer) row)) n ≡ false =
        none_from (λ row. is_bad_row m (child_fields k) (inside 2 p) (id_place (ids_in k) (signed_in m w8 p.buffer row)) (signed_in m w32 (suc p.buffer) row)) n (λ row lt.
        ap (λ t. is_bad_row m (child_fields k) (inside 2 p) (id_place (ids_in k) t) (signed_in m w32 (suc p.buffer) row)) (type_read row (omega arith))
        ∙ ap (is_bad_row m (child_fields k) (inside 2 p) (id_place (ids_in k) (number_at types row))) (place_read row (omega arith)) ∙ row_right row (omega arith)) in
        rw (
          types_there m p five,
          both_there m five,
          first,
          numbers_right m p.buffer 1 n (flat_map (signed_to_bytes w8 order) types) s.held.0 (omega (arith, count)),
          numbers_right m (suc p.buffer) 4 n (flat_map (signed_to_bytes w32 order) offsets) s.held.1.0 (omega (arith, more, long)),
          none,
          right,
        ) refl

    dense_right : (shape : DenseShape d k (ids_in k) (child_fields k)) (n : ℕ) → length types ≡ n → array_faults m d k p n ≡ []
    dense_right shape zero e =
        let below = ap (λ own. child_faults m d (child_fields k) (inside own p) (λ q. 0)) (both_there m five) ∙ children_none m d (child_fields k) (inside 2 p) (λ q. magnitude (node_of m q.node).length) (λ q. 0) (λ q. refl) dense_children in
        shape.empty m p ∙ rw (node_right m p 0 0 (rw e at s.node), below) refl
    dense_right shape (suc n) e =
        let below = ap (λ own. child_faults m d (child_fields k) (inside own p) (λ q. magnitude (node_of m q.node).length)) (both_there m five) ∙ dense_children in
        shape.some m p n ∙ rw (node_right m p (suc n) 0 (rw e at s.node), rows_there (suc n) e, below) refl

    dense_row : (shape : DenseShape d k (ids_in k) (child_fields k)) (row : ℕ) → row < length types
        → cell m d k p row ≡ cells.tagged (number_at types row) (slice_index_or (child_under (ids_in k) (map (λ c. c.cells) cs) (number_at types row)) (magnitude (number_at offsets row)) cells.null)
    dense_row shape row lt =
        let t : signed_in m w8 (types_buffer m p) row ≡ number_at types row = ap (λ i. signed_in m w8 i row) (types_there m p five) ∙ type_read row lt in
        let at : offset m small (suc (types_buffer m p)) row ≡ magnitude (number_at offsets row) = ap (λ i. offset m small (suc i) row) (types_there m p five) ∙ ap magnitude (place_read row lt) in
        shape.row m p row ∙ ap (λ x. cells.tagged x (cell_in m d (child_fields k) (or_0 (id_place (ids_in k) x)) (inside (union_buffers m.version Dense) p) (offset m small (suc (types_buffer m p)) row))) t
        ∙ ap (λ j. cells.tagged (number_at types row) (cell_in m d (child_fields k) (or_0 (id_place (ids_in k) (number_at types row))) (inside (union_buffers m.version Dense) p) j)) at
        ∙ ap (λ own. cells.tagged (number_at types row) (cell_in m d (child_fields k) (or_0 (id_place (ids_in k) (number_at types row))) (inside own p) (magnitude (number_at offsets row)))) (both_there m five)
        ∙ ap (cells.tagged (number_at types row)) (child_of_row row lt).read

  pub dense_mean : Means order d (length types) (top_column k (length types) 0 (flat_map (signed_to_bytes w8 order) types ∷ flat_map (signed_to_bytes w32 order) offsets ∷ []) cs
      (from_on (λ row. cells.tagged (number_at types row) (slice_index_or (child_under (ids_in k) (map (λ c. c.cells) cs) (number_at types row)) (magnitude (number_at offsets row)) cells.null)) 0 (length types)))
  dense_mean =
      let shape = dense_shape d k suits in
      let told : ℕ → Cell = λ row. cells.tagged (number_at types row) (slice_index_or (child_under (ids_in k) (map (λ c. c.cells) cs) (number_at types row)) (magnitude (number_at offsets row)) cells.null) in
      top_means order d k (child_fields k) (length types) 0 (flat_map (signed_to_bytes w8 order) types ∷ flat_map (signed_to_bytes w32 order) offsets ∷ []) cs (from_on told 0 (length types)) own_rows shape.top kinds (each_meant order d cs good)
      (λ m p one five s. dense_right m p one five s shape (length types) refl)
      (λ m p one five s. from_on-same (cell m d k p) told 0 (length types) (λ j lt. dense_row m p one five s shape j (omega (arith, lt))))
