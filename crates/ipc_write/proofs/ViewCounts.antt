-- The view counts of arrays are no more than their buffers.
use Rattle.std.proofs.Common.{◌≡◌, ℕ, ◌+◌, ◌^◌, ◌<◌, ◌≤◌, List, [], ◌∷◌, ◌++◌, length, map, sym, ap, ◌∙◌, arith, subst, length-append, append-nil}
use Rattle.std.specs.List.{flat_map, AllByRecursion}
use Rattle.std.proofs.lemmas.List.Concat.{flat_map-cons}
use Rattle.arrow_spec.specs.Bodies.{NodeFits}
use Rattle.arrow_spec.specs.Flat.{Order, little}
use Rattle.arrow_arrays.specs.LeafParts.{LeafParts, binary_views, text_views}
use Rattle.arrow_arrays.specs.Nodes.{counts_in, counts_each, leaf_counts_in}
use Rattle.arrow_arrays.specs.Parts.{Parts, Forest, leaf, nested, none, also}
use Rattle.ipc_write_arrays.specs.Below.{WrittenColumn, written_of}
use Rattle.ipc_write_arrays.specs.Outputs.{Outputs, written_behind}
use Rattle.ipc_write_arrays.specs.Pieces.{column_in, head_pieces, leaf_pieces, nodes_in, pieces_in, tree_pieces, trees_pieces}
use Rattle.ipc_write_arrays.specs.Trims.{sent}
use Rattle.ipc_write.specs.Batches.{columns_pieces, columns_written, top_column}
use Rattle.ipc_write.specs.Compaction.{top}
use Rattle.ipc_write.specs.Encoding.{all_outputs, no_outputs}
use Rattle.ipc_write.specs.Planned.{NodesFit, OutputsFit}

-- each of some counts is at most so much
abbrev AllWithin : ℕ → List ℕ → Type 0
AllWithin most ns = AllByRecursion (λ n. n ≤ most) ns

more : (few most : ℕ) (ns : List ℕ) → few ≤ most → AllWithin few ns → AllWithin most ns
more few most [] le h = tt
more few most (n ∷ ns) le h = (omega (arith, h.0), more few most ns le h.1)

both : (few least most : ℕ) (ns ms : List ℕ) → few ≤ most → least ≤ most → AllWithin few ns → AllWithin least ms → AllWithin most (ns ++ ms)
both few least most [] ms le lt h k = more least most ms lt k
both few least most (n ∷ ns) ms le lt h k = (omega (arith, h.0), both few least most ns ms le lt h.1 k)

leaf_within : (order : Order) (l : LeafParts) → AllWithin (length (leaf_pieces order l)) (leaf_counts_in l)
leaf_within order (binary_views p) = (omega arith, tt)
leaf_within order (text_views p) = (omega arith, tt)
leaf_within order l = tt

mutual
  tree_within : (order : Order) (q : Parts) → AllWithin (length (tree_pieces order q)) (counts_in q)
  tree_within order (leaf l) = leaf_within order l
  tree_within order (nested h cs) = more (length (trees_pieces order cs)) (length (head_pieces order h ++ trees_pieces order cs)) (counts_each cs) (omega (arith, length-append (head_pieces order h) (trees_pieces order cs))) (trees_within order cs)

  trees_within : (order : Order) (cs : Forest) → AllWithin (length (trees_pieces order cs)) (counts_each cs)
  trees_within order none = tt
  trees_within order (also q cs) =
      let all = length-append (tree_pieces order q) (trees_pieces order cs) in
      both (length (tree_pieces order q)) (length (trees_pieces order cs)) (length (tree_pieces order q ++ trees_pieces order cs)) (counts_in q) (counts_each cs) (omega (arith, all)) (omega (arith, all)) (tree_within order q) (trees_within order cs)

columns_within : (ps : List Parts) → AllWithin (length (columns_pieces ps)) (flat_map (λ (c : WrittenColumn). c.views) (map top_column ps))
columns_within [] = tt
columns_within (p ∷ ps) =
    let views = flat_map-cons (λ (c : WrittenColumn). c.views) (top_column p) (map top_column ps) in
    let pieces = flat_map-cons (λ x. pieces_in little (top x)) p ps in
    let all : length (columns_pieces (p ∷ ps)) ≡ length (pieces_in little (top p)) + length (columns_pieces ps) = ap length pieces ∙ length-append (pieces_in little (top p)) (columns_pieces ps) in
    subst (AllWithin (length (columns_pieces (p ∷ ps)))) (sym views)
    (both (length (pieces_in little (top p))) (length (columns_pieces ps)) (length (columns_pieces (p ∷ ps))) (counts_in (sent (top p))) (flat_map (λ (c : WrittenColumn). c.views) (map top_column ps)) (omega (arith, all)) (omega (arith, all)) (tree_within little (sent (top p))) (columns_within ps))

small : (most : ℕ) (ns : List ℕ) → most < 2 ^ 27 → AllWithin most ns → AllByRecursion (λ n. n < 2 ^ 63) ns
small most [] few h = tt
small most (n ∷ ns) few h = (omega (arith, h.0), small most ns few h.1)

-- ── what is planned ──

-- values whose message can say them
pub values_fit : (p : Parts) (o : Outputs) → o ≡ written_behind little p no_outputs → OutputsFit o → NodesFit (written_of (column_in little p ∷ []))
values_fit p o e h =
    let fit : OutputsFit (written_behind little p no_outputs) = subst OutputsFit e h in
    record {
      nodes = subst (AllByRecursion NodeFits) (sym (append-nil (nodes_in p))) fit.nodes;
      views = subst (AllByRecursion (λ n. n < 2 ^ 63)) (sym (append-nil (counts_in (sent p)))) (small (length (pieces_in little p)) (counts_in (sent p)) fit.few (tree_within little (sent p)));
    }

-- columns whose message can say them
pub columns_fit : (ps qs : List Parts) (o : Outputs) → ps ≡ qs → o ≡ all_outputs ps → OutputsFit o → NodesFit (columns_written qs)
columns_fit ps qs o same e h =
    let fit : OutputsFit (all_outputs qs) = subst OutputsFit (e ∙ ap all_outputs same) h in
    record { nodes = fit.nodes; views = small (length (columns_pieces qs)) (columns_written qs).views fit.few (columns_within qs) }
