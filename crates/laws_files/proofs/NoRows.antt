-- Columns that are read for no rows are the same over any body: none of their buffers is looked at.
use Rattle.std.proofs.Common.{◌≡◌, ℕ, suc, ◌*◌, List, ◌∷◌, ◌++◌, Option, Bool, true, false, Ok, refl, sym, ◌∙◌, ap, arith}
use Rattle.std.specs.Prelude.{slice_get}
use Rattle.arrow_spec.specs.declared.types.UnionMode.TheVariants.{Dense, Sparse}
use Rattle.arrow_spec.specs.Readings.{◌>>=◌, free_of}
use Rattle.arrow_spec.specs.Kinds.{Kind, Fields, none, field, «list», fixed_size_list, struct, map, union, extension}
use Rattle.arrow_spec.specs.Counts.{RecordBatch, Place, after, inside, union_buffers}
use Rattle.arrow_spec.specs.Arrays.{Dictionaries}
use Rattle.arrow_spec.specs.Faults.{array_faults, child_faults, column_faults, count_faults, if_sound, node_faults, top_node_faults, validity_faults, view_count_faults}
use Rattle.arrow_spec.specs.Columns.{chosen_cells, chosen_faults, columns_at, is_chosen}
use Rattle.laws_files.proofs.SameBuffers.{with_body}

mutual
  unfolding node_faults validity_faults

  array_faults-no_rows : (m : RecordBatch) (b : List ℕ) (d d' : Dictionaries) (k : Kind) (p : Place) → array_faults (with_body m b) d' k p 0 ≡ array_faults m d k p 0
  array_faults-no_rows m b d d' («list» o fs) p = ap (λ es. node_faults m p 0 ++ es) (child_faults-no_rows m b d d' fs (inside 2 p) (λ q. 0) (λ q. refl))
  array_faults-no_rows m b d d' (map sorted fs) p = ap (λ es. node_faults m p 0 ++ es) (child_faults-no_rows m b d d' fs (inside 2 p) (λ q. 0) (λ q. refl))
  array_faults-no_rows m b d d' (fixed_size_list size fs) p = ap (λ es. node_faults m p 0 ++ validity_faults m p 0 ++ es) (child_faults-no_rows m b d d' fs (inside 1 p) (λ q. size * 0) (λ q. omega arith))
  array_faults-no_rows m b d d' (struct fs) p = ap (λ es. node_faults m p 0 ++ validity_faults m p 0 ++ es) (child_faults-no_rows m b d d' fs (inside 1 p) (λ q. 0) (λ q. refl))
  array_faults-no_rows m b d d' (union Sparse stated ids fs) p = ap (λ es. node_faults m p 0 ++ es) (child_faults-no_rows m b d d' fs (inside (union_buffers m.version Sparse) p) (λ q. 0) (λ q. refl))
  array_faults-no_rows m b d d' (union Dense stated ids fs) p = ap (λ es. node_faults m p 0 ++ es) (child_faults-no_rows m b d d' fs (inside (union_buffers m.version Dense) p) (λ q. 0) (λ q. refl))
  array_faults-no_rows m b d d' (extension name metadata k) p = array_faults-no_rows m b d d' k p
  array_faults-no_rows m b d d' k p = refl

  child_faults-no_rows : (m : RecordBatch) (b : List ℕ) (d d' : Dictionaries) (fs : Fields) (p : Place) (rows : Place → ℕ) → ((q : Place) → rows q ≡ 0) → child_faults (with_body m b) d' fs p rows ≡ child_faults m d fs p rows
  child_faults-no_rows m b d d' none p rows h = refl
  child_faults-no_rows m b d d' (field name nullable metadata k others) p rows h =
      let first : array_faults (with_body m b) d' k p (rows p) ≡ array_faults m d k p (rows p)
      = ap (λ n. array_faults (with_body m b) d' k p n) (h p) ∙ array_faults-no_rows m b d d' k p ∙ ap (λ n. array_faults m d k p n) (sym (h p)) in
      ap (λ es. es ++ if_sound (view_count_faults m k p) (child_faults (with_body m b) d' others (after m k p) rows)) first
      ∙ ap (λ es. array_faults m d k p (rows p) ++ if_sound (view_count_faults m k p) es) (child_faults-no_rows m b d d' others (after m k p) rows h)

chosen_faults-no_rows : (chosen : Bool) (m : RecordBatch) (b : List ℕ) (d d' : Dictionaries) (k : Kind) (p : Place) (rows : ℕ) → chosen_faults chosen (with_body m b) d' k p rows 0 ≡ chosen_faults chosen m d k p rows 0
unfolding column_faults count_faults
chosen_faults-no_rows true m b d d' k p rows = ap (λ es. count_faults m k p ++ top_node_faults (slice_get m.nodes p.node) rows ++ es) (array_faults-no_rows m b d d' k p)
chosen_faults-no_rows false m b d d' k p rows = refl

chosen_cells-no_rows : (chosen : Bool) (m : RecordBatch) (b : List ℕ) (d d' : Dictionaries) (k : Kind) (p : Place) → chosen_cells chosen (with_body m b) d' k p 0 ≡ chosen_cells chosen m d k p 0
chosen_cells-no_rows true m b d d' k p = refl
chosen_cells-no_rows false m b d d' k p = refl

pub columns_at-no_rows : (m : RecordBatch) (b : List ℕ) (d d' : Dictionaries) (asked : Option (List ℕ)) (fs : Fields) (c : ℕ) (p : Place) (rows : ℕ) → columns_at (with_body m b) d' asked fs c p rows 0 ≡ columns_at m d asked fs c p rows 0
unfolding columns_at
columns_at-no_rows m b d d' asked none c p rows = refl
columns_at-no_rows m b d d' asked (field name nullable metadata k others) c p rows =
    ap (λ es. free_of es >>= λ fits. columns_at (with_body m b) d' asked others (suc c) (after m k p) rows 0 >>= λ rest. Ok (chosen_cells (is_chosen asked c) (with_body m b) d' k p 0 ∷ rest)) (chosen_faults-no_rows (is_chosen asked c) m b d d' k p rows)
    ∙ ap (λ r. free_of (chosen_faults (is_chosen asked c) m d k p rows 0) >>= λ fits. r >>= λ rest. Ok (chosen_cells (is_chosen asked c) (with_body m b) d' k p 0 ∷ rest)) (columns_at-no_rows m b d d' asked others (suc c) (after m k p) rows)
    ∙ ap (λ x. free_of (chosen_faults (is_chosen asked c) m d k p rows 0) >>= λ fits. columns_at m d asked others (suc c) (after m k p) rows 0 >>= λ rest. Ok (x ∷ rest)) (chosen_cells-no_rows (is_chosen asked c) m b d d' k p)
