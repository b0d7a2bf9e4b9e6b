-- What is added to a record batch's nodes, buffers and view counts. (Arrow Columnar Format, "RecordBatch message".)
use Rattle.std.specs.Prelude.{◌≡◌, ℕ, List, [], ◌∷◌, ◌++◌, map, ⊤, Bool, true, ℤ, pos}
use Rattle.arrow_spec.specs.declared.message.FieldNode.{FieldNode}
use Rattle.arrow_spec.specs.Flat.{Order}
use Rattle.arrow_arrays.specs.LeafParts.{LeafParts, binary_views, text_views}
use Rattle.arrow_arrays.specs.Parts.{Parts, Forest, leaf, nested, none, also}
use Rattle.arrow_arrays.specs.Heads.{Head}
use Rattle.arrow_arrays.specs.Nodes.{node_in, counts_in, counts_each}
use Rattle.ipc_bodies.specs.Adding.{Kept}
use Rattle.ipc_write_arrays.specs.Trims.{sent}
use Rattle.ipc_write_arrays.specs.Pieces.{nodes_in, pieces_in, head_pieces, tree_nodes, trees_nodes, tree_pieces, trees_pieces}

-- views are written in little-endian order alone
abbrev pub LeafMayHaveOrder : LeafParts → Bool → Type 0
LeafMayHaveOrder (binary_views p) is_little_endian = is_little_endian ≡ true
LeafMayHaveOrder (text_views p) is_little_endian = is_little_endian ≡ true
LeafMayHaveOrder p is_little_endian = ⊤

-- the same of each array in a tree
abbrev mutual
  pub MayHaveOrder : Parts → Bool → Type 0
  MayHaveOrder (leaf l) is_little_endian = LeafMayHaveOrder l is_little_endian
  MayHaveOrder (nested h cs) is_little_endian = MayHaveOrderEach cs is_little_endian

  pub MayHaveOrderEach : Forest → Bool → Type 0
  MayHaveOrderEach none is_little_endian = ⊤
  MayHaveOrderEach (also p cs) is_little_endian = MayHaveOrder p is_little_endian × MayHaveOrderEach cs is_little_endian

-- nodes, the bytes of the buffers, and view counts, as they stand
pub record Outputs : Type 0 where
  pub nodes : List FieldNode
  pub pieces : List (List ℕ)
  pub views : List ℤ

-- these three
abbrev pub outputs : List FieldNode → List (List ℕ) → List ℤ → Outputs
outputs nodes pieces views = record { nodes = nodes; pieces = pieces; views = views }

-- all that is added to has been kept
pub record KeptAll (before after : Outputs) : Type 0 where
  pub nodes : Kept before.nodes after.nodes
  pub pieces : Kept before.pieces after.pieces
  pub views : Kept before.views after.views

-- nodes, buffers and view counts have been put behind them
abbrev pub put_behind : List FieldNode → List (List ℕ) → List ℕ → Outputs → Outputs
put_behind nodes pieces counts before = record {
  nodes = before.nodes ++ nodes;
  pieces = before.pieces ++ pieces;
  views = before.views ++ map pos counts;
}

-- the node and the own buffers of an array with children have
abbrev pub top_behind : Order → Head → Outputs → Outputs
top_behind order h before = put_behind (node_in (nested h none) ∷ []) (head_pieces order h) [] before

-- an array that is laid anew has been added to them
abbrev pub laid_behind : Order → Parts → Outputs → Outputs
laid_behind order q before = put_behind (tree_nodes q) (tree_pieces order q) (counts_in q) before

-- several such arrays have
abbrev pub each_behind : Order → Forest → Outputs → Outputs
each_behind order cs before = put_behind (trees_nodes cs) (trees_pieces order cs) (counts_each cs) before

-- an array has been added to them, as it is sent
abbrev pub written_behind : Order → Parts → Outputs → Outputs
written_behind order p before = put_behind (nodes_in p) (pieces_in order p) (counts_in (sent p)) before
