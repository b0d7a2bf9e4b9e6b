-- The children of an array, which stand one after another behind it: nothing is wrong with them, and a row across them is read as it was written.
use Rattle.std.proofs.Common.{◌≡◌, ℕ, zero, suc, ◌+◌, ◌≤◌, ◌<◌, List, [], ◌∷◌, ◌++◌, length, get_or, refl, sym, ap, subst, ◌∙◌, arith, append_assoc, length-append, pos, ℤ}
use Rattle.std.specs.Prelude.{map, slice_get}
use Rattle.std.specs.List.{flat_map, AllByRecursion}
use Rattle.std.proofs.lemmas.List.{length-map, map-append}
use Rattle.std.proofs.lemmas.List.Concat.{flat_map-cons}
use Rattle.arrow_spec.specs.declared.message.FieldNode.{FieldNode}
use Rattle.arrow_spec.specs.declared.message.MetadataVersion.TheVariants.{V5}
use Rattle.arrow_spec.specs.Flat.{Order}
use Rattle.arrow_spec.specs.Kinds.{Kind, Fields, none, field}
use Rattle.arrow_spec.specs.Cells as cells
use Rattle.arrow_spec.specs.Cells.{Cell, Cells, cells_of}
use Rattle.arrow_spec.specs.Counts.{RecordBatch, Place, after, nodes, nodes_of, buffers, buffers_of, views, views_of}
use Rattle.arrow_spec.specs.Arrays.{Dictionaries, from_on}
use Rattle.arrow_spec.specs.ArrayCells.{cell, row_of}
use Rattle.arrow_spec.specs.Faults.{column_faults, counts_faults, count_faults, top_node_faults, view_count_faults, array_faults, child_faults}
use Rattle.arrow_spec.specs.Bodies.{From, AreHeld}
use Rattle.ipc_write_laws.specs.Columns.{WrittenColumn, StandsAt, Means}
use Rattle.ipc_write_laws.specs.Streams.{AreOf, pieces_of}
use Rattle.ipc_write_laws.proofs.Batches.{from_skip, held_first, held_second}

-- columns stand one after another from a place on, with others behind
pub record StandTogether (m : RecordBatch) (p : Place) (cs : List WrittenColumn) : Type 0 where
  pub nodes_behind : List FieldNode
  pub nodes : From m.nodes p.node (flat_map (λ c. c.nodes) cs ++ nodes_behind)
  pub pieces : AreHeld m p.buffer (pieces_of cs)
  pub room : p.buffer + length (pieces_of cs) ≤ length m.buffers
  pub views_behind : List ℤ
  pub views : From m.variadic p.view (map pos (flat_map (λ c. c.views) cs) ++ views_behind)

module _ (m : RecordBatch) (p : Place) (c : WrittenColumn) (cs : List WrittenColumn) (h : StandTogether m p (c ∷ cs)) where
  all_nodes : From m.nodes p.node (c.nodes ++ (flat_map (λ c. c.nodes) cs ++ h.nodes_behind))
  all_nodes = subst (λ xs. From m.nodes p.node xs) (ap (λ xs. xs ++ h.nodes_behind) (flat_map-cons (λ (c : WrittenColumn). c.nodes) c cs) ∙ append_assoc c.nodes (flat_map (λ c. c.nodes) cs) h.nodes_behind) h.nodes

  all_pieces : AreHeld m p.buffer (c.pieces ++ pieces_of cs)
  all_pieces = subst (λ xs. AreHeld m p.buffer xs) (flat_map-cons (λ (c : WrittenColumn). c.pieces) c cs) h.pieces

  all_lengths : length (pieces_of (c ∷ cs)) ≡ length c.pieces + length (pieces_of cs)
  all_lengths = ap length (flat_map-cons (λ (c : WrittenColumn). c.pieces) c cs) ∙ length-append c.pieces (pieces_of cs)

  all_views : From m.variadic p.view (map pos c.views ++ (map pos (flat_map (λ c. c.views) cs) ++ h.views_behind))
  all_views = subst (λ xs. From m.variadic p.view xs) (ap (λ xs. xs ++ h.views_behind) (ap (λ vs. map pos vs) (flat_map-cons (λ (c : WrittenColumn). c.views) c cs) ∙ map-append pos c.views (flat_map (λ c. c.views) cs)) ∙ append_assoc (map pos c.views) (map pos (flat_map (λ c. c.views) cs)) h.views_behind) h.views

  pub first_child : StandsAt m p c
  first_child = record {
    nodes_behind = flat_map (λ c. c.nodes) cs ++ h.nodes_behind;
    nodes = all_nodes;
    pieces = held_first m p.buffer c.pieces (pieces_of cs) all_pieces;
    room = omega (arith, h.room, all_lengths);
    views_behind = map pos (flat_map (λ c. c.views) cs) ++ h.views_behind;
    views = all_views;
  }

  pub other_children : (k : Kind) → nodes k ≡ length c.nodes → buffers m.version m.variadic k p.view ≡ length c.pieces → views k ≡ length c.views → StandTogether m (after m k p) cs
  other_children k n b v = record {
    nodes_behind = h.nodes_behind;
    nodes = subst (λ j. From m.nodes j (flat_map (λ c. c.nodes) cs ++ h.nodes_behind)) (ap (λ j. p.node + j) (sym n)) (from_skip m.nodes p.node c.nodes (flat_map (λ c. c.nodes) cs ++ h.nodes_behind) all_nodes);
    pieces = subst (λ j. AreHeld m j (pieces_of cs)) (ap (λ j. p.buffer + j) (sym b)) (held_second m p.buffer c.pieces (pieces_of cs) all_pieces);
    room = omega (arith, h.room, all_lengths, b);
    views_behind = h.views_behind;
    views = subst (λ j. From m.variadic j (map pos (flat_map (λ c. c.views) cs) ++ h.views_behind)) (ap (λ j. p.view + j) (length-map c.views pos ∙ sym v)) (from_skip m.variadic p.view (map pos c.views) (map pos (flat_map (λ c. c.views) cs) ++ h.views_behind) all_views);
  }

pub no_first : {A : Type 0} (xs ys : List A) → xs ++ ys ≡ [] → xs ≡ []
no_first [] ys e = refl
no_first (x ∷ xs) ys e = cc

pub no_second : {A : Type 0} (xs ys : List A) → xs ++ ys ≡ [] → ys ≡ []
no_second [] ys e = e
no_second (x ∷ xs) ys e = cc

-- a column that is right has a right array
pub array_right : (m : RecordBatch) (d : Dictionaries) (k : Kind) (p : Place) (rows : ℕ) → column_faults m d k p rows rows ≡ [] → array_faults m d k p rows ≡ []
unfolding column_faults
array_right m d k p rows e = no_second (count_faults m k p ++ top_node_faults (slice_get m.nodes p.node) rows) (array_faults m d k p rows) e

pub counts_right : (m : RecordBatch) (d : Dictionaries) (k : Kind) (p : Place) (rows : ℕ) → column_faults m d k p rows rows ≡ [] → count_faults m k p ≡ []
unfolding column_faults
counts_right m d k p rows e = no_first (count_faults m k p) (top_node_faults (slice_get m.nodes p.node) rows) (no_first (count_faults m k p ++ top_node_faults (slice_get m.nodes p.node) rows) (array_faults m d k p rows) e)

pub views_right : (m : RecordBatch) (k : Kind) (p : Place) → count_faults m k p ≡ [] → view_count_faults m k p ≡ []
unfolding count_faults
views_right m k p e = no_second (counts_faults m (after m k p)) (view_count_faults m k p) e

-- what each of several children is read for is what it means its cells for
abbrev pub AreRead : RecordBatch → Order → Dictionaries → (Place → ℕ) → (WrittenColumn → ℕ) → List WrittenColumn → Type 0
AreRead m order d read rows cs = AllByRecursion (λ x. Means order d (rows x) x × ((q : Place) → StandsAt m q x → read q ≡ rows x)) cs

-- nothing is wrong with children that mean their cells
pub children_right : (order : Order) (fs : Fields) (cs : List WrittenColumn) (m : RecordBatch) (d : Dictionaries) (read : Place → ℕ) (rows : WrittenColumn → ℕ) (p : Place) → AreOf fs cs → m.order ≡ order → m.version ≡ V5 → AreRead m order d read rows cs → StandTogether m p cs
    → child_faults m d fs p read ≡ []
children_right order none [] m d read rows p kinds o v good h = refl
children_right order none (x ∷ cs) m d read rows p kinds o v good h = absurd kinds
children_right order (field name nullable metadata k others) [] m d read rows p kinds o v good h = absurd kinds
children_right order (field name nullable metadata k others) (x ∷ cs) m d read rows p kinds o v good h =
    let means = good.0.0 in
    let stands = first_child m p x cs h in
    let n : nodes k ≡ length x.nodes = rw kinds.0 means.node_count in
    let b : buffers m.version m.variadic k p.view ≡ length x.pieces = rw kinds.0 (means.buffer_count m p v stands) in
    let w : views k ≡ length x.views = rw kinds.0 means.view_count in
    let right : column_faults m d k p (rows x) (rows x) ≡ [] = rw kinds.0 (means.right m p o v stands) in
    rw (good.0.1 p stands, array_right m d k p (rows x) right, views_right m k p (counts_right m d k p (rows x) right), children_right order others cs m d read rows (after m k p) kinds.1 o v good.1 (other_children m p x cs h k n b w)) refl

pub cell_at : {A : Type 0} (f : ℕ → A) (at n row : ℕ) (d : A) → row < n → f (at + row) ≡ get_or (from_on f at n) row d
cell_at f at zero row d h = absurd (omega arith)
cell_at f at (suc n) zero d h = ap f (omega arith)
cell_at f at (suc n) (suc row) d h = ap f (omega arith) ∙ cell_at f (suc at) n row d (omega arith)

-- a row across children is read as their cells
pub across_right : (order : Order) (fs : Fields) (cs : List WrittenColumn) (m : RecordBatch) (d : Dictionaries) (rows row : ℕ) (p : Place) → row < rows → AreOf fs cs → m.order ≡ order → m.version ≡ V5 → AllByRecursion (λ x. Means order d rows x) cs → StandTogether m p cs
    → row_of m d fs p row ≡ cells_of (map (λ x. get_or x.cells row cells.null) cs)
across_right order none [] m d rows row p lt kinds o v good h = refl
across_right order none (x ∷ cs) m d rows row p lt kinds o v good h = absurd kinds
across_right order (field name nullable metadata k others) [] m d rows row p lt kinds o v good h = absurd kinds
across_right order (field name nullable metadata k others) (x ∷ cs) m d rows row p lt kinds o v good h =
    let stands = first_child m p x cs h in
    let n : nodes k ≡ length x.nodes = rw kinds.0 good.0.node_count in
    let b : buffers m.version m.variadic k p.view ≡ length x.pieces = rw kinds.0 (good.0.buffer_count m p v stands) in
    let w : views k ≡ length x.views = rw kinds.0 good.0.view_count in
    let here : from_on (cell m d k p) 0 rows ≡ x.cells = rw kinds.0 (good.0.cells_read m p o v stands) in
    let z : 0 + row ≡ row = omega arith in
    let one : cell m d k p row ≡ get_or x.cells row cells.null = ap (cell m d k p) (sym z) ∙ cell_at (cell m d k p) 0 rows row cells.null lt ∙ ap (λ xs. get_or xs row cells.null) here in
    rw (one, across_right order others cs m d rows row (after m k p) lt kinds.1 o v good.1 (other_children m p x cs h k n b w)) refl

-- ── what several children take ──

-- each means its cells, for some number of rows
abbrev pub AreMeant : Order → Dictionaries → (WrittenColumn → ℕ) → List WrittenColumn → Type 0
AreMeant order d rows cs = AllByRecursion (λ x. Means order d (rows x) x) cs

module _ (order : Order) (d : Dictionaries) (rows : WrittenColumn → ℕ) where
  pub nodes_taken : (fs : Fields) (cs : List WrittenColumn) → AreOf fs cs → AreMeant order d rows cs → nodes_of fs ≡ length (flat_map (λ c. c.nodes) cs)
  nodes_taken none [] kinds good = refl
  nodes_taken none (x ∷ cs) kinds good = absurd kinds
  nodes_taken (field name nullable metadata k others) [] kinds good = absurd kinds
  nodes_taken (field name nullable metadata k others) (x ∷ cs) kinds good =
      let n : nodes k ≡ length x.nodes = rw kinds.0 good.0.node_count in
      let r = nodes_taken others cs kinds.1 good.1 in
      let a : length (flat_map (λ c. c.nodes) (x ∷ cs)) ≡ length x.nodes + length (flat_map (λ (c : WrittenColumn). c.nodes) cs) = ap length (flat_map-cons (λ (c : WrittenColumn). c.nodes) x cs) ∙ length-append x.nodes (flat_map (λ (c : WrittenColumn). c.nodes) cs) in
      omega arith

  pub views_taken : (fs : Fields) (cs : List WrittenColumn) → AreOf fs cs → AreMeant order d rows cs → views_of fs ≡ length (flat_map (λ c. c.views) cs)
  views_taken none [] kinds good = refl
  views_taken none (x ∷ cs) kinds good = absurd kinds
  views_taken (field name nullable metadata k others) [] kinds good = absurd kinds
  views_taken (field name nullable metadata k others) (x ∷ cs) kinds good =
      let n : views k ≡ length x.views = rw kinds.0 good.0.view_count in
      let r = views_taken others cs kinds.1 good.1 in
      let a : length (flat_map (λ c. c.views) (x ∷ cs)) ≡ length x.views + length (flat_map (λ (c : WrittenColumn). c.views) cs) = ap length (flat_map-cons (λ (c : WrittenColumn). c.views) x cs) ∙ length-append x.views (flat_map (λ (c : WrittenColumn). c.views) cs) in
      omega arith

  pub buffers_taken : (fs : Fields) (cs : List WrittenColumn) (m : RecordBatch) (p : Place) → AreOf fs cs → AreMeant order d rows cs → m.version ≡ V5 → StandTogether m p cs → buffers_of m.version m.variadic fs p.view ≡ length (pieces_of cs)
  buffers_taken none [] m p kinds good v h = refl
  buffers_taken none (x ∷ cs) m p kinds good v h = absurd kinds
  buffers_taken (field name nullable metadata k others) [] m p kinds good v h = absurd kinds
  buffers_taken (field name nullable metadata k others) (x ∷ cs) m p kinds good v h =
      let n : nodes k ≡ length x.nodes = rw kinds.0 good.0.node_count in
      let w : views k ≡ length x.views = rw kinds.0 good.0.view_count in
      let b : buffers m.version m.variadic k p.view ≡ length x.pieces = rw kinds.0 (good.0.buffer_count m p v (first_child m p x cs h)) in
      let r : buffers_of m.version m.variadic others (p.view + views k) ≡ length (pieces_of cs) = buffers_taken others cs m (after m k p) kinds.1 good.1 v (other_children m p x cs h k n b w) in
      let a : length (pieces_of (x ∷ cs)) ≡ length x.pieces + length (pieces_of cs) = ap length (flat_map-cons (λ (c : WrittenColumn). c.pieces) x cs) ∙ length-append x.pieces (pieces_of cs) in
      omega arith
