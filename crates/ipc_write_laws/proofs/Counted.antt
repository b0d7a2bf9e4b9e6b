-- A column that stands somewhere has its counts there: what is left to show of one that means its cells are its array and its cells.
use Rattle.std.proofs.Common.{◌≡◌, ℕ, ◌+◌, List, [], ◌∷◌, ◌++◌, length, take, drop, refl, sym, ap, ◌∙◌, arith, length-append, false, Some, pos}
use Rattle.std.specs.Prelude.{map, nat_lt, slice_get}
use Rattle.std.proofs.lemmas.Bool.{le-ltb, eq-eqb}
use Rattle.std.proofs.lemmas.List.{length-map}
use Rattle.std.proofs.Math.Seq.{drop-append_seam, take-append_seam}
use Rattle.arrow_spec.specs.declared.message.FieldNode.{FieldNode}
use Rattle.arrow_spec.specs.declared.message.MetadataVersion.TheVariants.{V5}
use Rattle.arrow_spec.specs.Flat.{Order}
use Rattle.arrow_spec.specs.Kinds.{Kind}
use Rattle.arrow_spec.specs.Counts.{RecordBatch, Place, count_at, nodes, buffers, views}
use Rattle.arrow_spec.specs.Arrays.{Dictionaries, from_on}
use Rattle.arrow_spec.specs.ArrayCells.{cell}
use Rattle.arrow_spec.specs.Faults.{array_faults, column_faults, count_faults, view_count_faults, some_negative}
use Rattle.arrow_spec.proofs.Bodies.{from_head, from_length}
use Rattle.arrow_spec.specs.Bodies.{From}
use Rattle.ipc_write_laws.specs.Columns.{WrittenColumn, StandsAt, Means}

none_below : (vs : List ℕ) → some_negative (map pos vs) ≡ false
none_below [] = refl
none_below (v ∷ vs) = none_below vs

-- the elements of a list that stand from a place on
pub from_taken : {A : Type 0} (l : List A) (i : ℕ) (xs ys : List A) → From l i (xs ++ ys) → take (length xs) (drop i l) ≡ xs
from_taken l i xs ys h = rw (h.whole, sym h.place, drop-append_seam h.front (xs ++ ys), take-append_seam xs ys) refl

-- the view counts of a column are there
pub counts_there : (m : RecordBatch) (p : Place) (k : Kind) (c : WrittenColumn) → views k ≡ length c.views → StandsAt m p c → view_count_faults m k p ≡ []
counts_there m p k c e s =
    let l : length (map pos c.views) ≡ length c.views = length-map c.views pos in
    let all : length m.variadic ≡ p.view + length (map pos c.views ++ s.views_behind) = from_length m.variadic p.view (map pos c.views ++ s.views_behind) s.views in
    let a : nat_lt (length m.variadic) (p.view + views k) ≡ false = le-ltb _ _ (omega (arith, e, length-append (map pos c.views) s.views_behind)) in
    let t : take (views k) (drop p.view m.variadic) ≡ map pos c.views = ap (λ n. take n (drop p.view m.variadic)) (e ∙ sym l) ∙ from_taken m.variadic p.view (map pos c.views) s.views_behind s.views in
    rw (a, t, none_below c.views) refl

module _ (order : Order) (d : Dictionaries) (rows nulls : ℕ) (c : WrittenColumn) (others : List FieldNode) (e : c.nodes ≡ record { length = pos rows; null_count = pos nulls } ∷ others) where
  pub node_there : (m : RecordBatch) (p : Place) → StandsAt m p c → slice_get m.nodes p.node ≡ Some (record { length = pos rows; null_count = pos nulls })
  node_there m p s = from_head m.nodes p.node (record { length = pos rows; null_count = pos nulls }) (others ++ s.nodes_behind) (rw e at s.nodes)

  column_there : (m : RecordBatch) (p : Place) → nodes c.kind ≡ length c.nodes → views c.kind ≡ length c.views → buffers m.version m.variadic c.kind p.view ≡ length c.pieces → array_faults m d c.kind p rows ≡ [] → StandsAt m p c
      → column_faults m d c.kind p rows rows ≡ []
  unfolding column_faults count_faults
  column_there m p n v b array s =
      let all : length m.nodes ≡ p.node + length (c.nodes ++ s.nodes_behind) = from_length m.nodes p.node (c.nodes ++ s.nodes_behind) s.nodes in
      let enough_nodes : nat_lt (length m.nodes) (p.node + nodes c.kind) ≡ false = le-ltb _ _ (omega (arith, n, length-append c.nodes s.nodes_behind)) in
      let enough_buffers : nat_lt (length m.buffers) (p.buffer + buffers m.version m.variadic c.kind p.view) ≡ false = le-ltb _ _ (omega (arith, s.room, b)) in
      rw (enough_nodes, enough_buffers, counts_there m p c.kind c v s, node_there m p s, eq-eqb rows rows refl, array) refl

  -- a column whose array is right, and is read as its cells, means them
  pub means_by_array : nodes c.kind ≡ length c.nodes → views c.kind ≡ length c.views
      → ((m : RecordBatch) (p : Place) → m.version ≡ V5 → StandsAt m p c → buffers m.version m.variadic c.kind p.view ≡ length c.pieces)
      → ((m : RecordBatch) (p : Place) → m.order ≡ order → m.version ≡ V5 → StandsAt m p c → array_faults m d c.kind p rows ≡ [])
      → ((m : RecordBatch) (p : Place) → m.order ≡ order → m.version ≡ V5 → StandsAt m p c → from_on (cell m d c.kind p) 0 rows ≡ c.cells)
      → Means order d rows c
  means_by_array n v b array read = record {
    node_count = n;
    view_count = v;
    buffer_count = b;
    right = λ m p o version s. column_there m p n v (b m p version s) (array m p o version s) s;
    cells_read = read;
  }

-- the first view count
pub first_view : (m : RecordBatch) (p : Place) (c : WrittenColumn) (v : ℕ) (others : List ℕ) → StandsAt m p c → c.views ≡ v ∷ others → count_at m p.view ≡ v
first_view m p c v others h e = rw (from_head m.variadic p.view (pos v) (map pos others ++ h.views_behind) (rw e at h.views)) refl
