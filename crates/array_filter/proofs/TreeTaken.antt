-- Rows of any array at some numbers: the one induction over its tree.
use Rattle.std.proofs.Common.{◌≡◌, ◌∙◌, sym, refl, ap, subst, ℕ, List, ◌∷◌, length, map, true, None}
use Rattle.arrow_arrays.specs.Heads.{head_cells, head_fault, fits_rows, fits_offsets}
use Rattle.arrow_arrays.specs.Parts.{Parts, Forest, leaf, nested, none, also, kind_in, rows_in, cells_in, kinds_each, rows_each, cells_each, fault_in, fault_each}
use Rattle.arrow_arrays.proofs.Sliced.{neither, both, top_sound, length-cells}
use Rattle.array_filter.specs.Rows.{AreBelow, taken}
use Rattle.array_filter.specs.Taken.{Left, all_rows, these_rows, head_taken, left_of, rows_taken, each_taken}
use Rattle.array_filter.specs.Laws.{IsTaken, RowsAreTaken}
use Rattle.array_filter.proofs.LeafTaken as leaves
use Rattle.array_filter.proofs.HeadTaken as heads
use Rattle.array_filter.proofs.HeadTaken.{LeftBelow, left_counts, left_cells}

-- what holds of the rows that children have left
pub record AreTaken (l : Left) (cs : Forest) : Type 0 where
  pub same_kinds : kinds_each (each_taken l cs) ≡ kinds_each cs
  pub counts : rows_each (each_taken l cs) ≡ left_counts l (rows_each cs)
  pub no_fault : fault_each (each_taken l cs) ≡ None
  pub same_cells : cells_each (each_taken l cs) ≡ left_cells l (cells_each cs)

lengths_each : (cs : Forest) → fault_each cs ≡ None → rows_each cs ≡ map length (cells_each cs)
lengths_each none e = refl
lengths_each (also p cs) e =
    let f = neither (fault_in p) (fault_each cs) e in
    ap (λ n. n ∷ rows_each cs) (sym (length-cells p f.0)) ∙ ap (λ ns. length (cells_in p) ∷ ns) (lengths_each cs f.1)

mutual
  pub tree_taken : (rows : List ℕ) (p : Parts) → fault_in p ≡ None → AreBelow (rows_in p) rows → IsTaken rows p
  tree_taken rows (leaf l) e a = record {
    same_kind = leaves.kind-taken rows l;
    all_rows = leaves.rows-taken rows l e a;
    no_fault = leaves.fault-taken rows l e a;
    same_cells = leaves.cells-taken rows l e a;
  }
  tree_taken rows (nested h cs) e a =
      let t = top_sound h cs e in
      let l = left_of rows h in
      let each = forest_taken l cs t.1 (heads.left_below rows h (rows_each cs) t.0.rows t.0.offsets a) in
      let top : head_fault (head_taken rows h) (kinds_each (each_taken l cs)) (rows_each (each_taken l cs)) ≡ None =
      ap (λ ks. head_fault (head_taken rows h) ks (rows_each (each_taken l cs))) each.same_kinds ∙ ap (head_fault (head_taken rows h) (kinds_each cs)) each.counts ∙ heads.fault-taken rows h (kinds_each cs) (rows_each cs) t.0 a in
      let m = lengths_each cs t.1 in
      record {
        same_kind = heads.kind-taken rows h;
        all_rows = heads.rows-taken rows h a;
        no_fault = both (head_fault (head_taken rows h) (kinds_each (each_taken l cs)) (rows_each (each_taken l cs))) (fault_each (each_taken l cs)) top each.no_fault;
        same_cells = ap (head_cells (head_taken rows h)) each.same_cells
            ∙ heads.cells-taken rows h (cells_each cs) t.0.valid (subst (λ ns. fits_rows h ns ≡ true) m t.0.rows) (subst (λ ns. fits_offsets h ns ≡ true) m t.0.offsets) a;
      }

  pub forest_taken : (l : Left) (cs : Forest) → fault_each cs ≡ None → LeftBelow l (rows_each cs) → AreTaken l cs
  forest_taken all_rows cs e b = record { same_kinds = refl; counts = refl; no_fault = e; same_cells = refl }
  forest_taken (these_rows rows) none e b = record { same_kinds = refl; counts = refl; no_fault = refl; same_cells = refl }
  forest_taken (these_rows rows) (also p cs) e b =
      let f = neither (fault_in p) (fault_each cs) e in
      let first = tree_taken rows p f.0 b.0 in
      let rest = forest_taken (these_rows rows) cs f.1 b.1 in
      let left = each_taken (these_rows rows) cs in
      record {
        same_kinds = ap (λ k. k ∷ kinds_each left) first.same_kind ∙ ap (λ ks. kind_in p ∷ ks) rest.same_kinds;
        counts = ap (λ n. n ∷ rows_each left) first.all_rows ∙ ap (λ ns. length rows ∷ ns) rest.counts;
        no_fault = both (fault_in (rows_taken rows p)) (fault_each left) first.no_fault rest.no_fault;
        same_cells = ap (λ xs. xs ∷ cells_each left) first.same_cells ∙ ap (λ css. taken rows (cells_in p) ∷ css) rest.same_cells;
      }

pub rows_are_taken : RowsAreTaken
rows_are_taken rows p e a = tree_taken rows p e a
