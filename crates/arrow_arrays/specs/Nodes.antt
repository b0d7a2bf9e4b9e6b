-- What the messages say of an array beside its buffers. (Arrow Columnar Format, "RecordBatch message", "Variadic buffers".)
use Rattle.std.specs.Prelude.{ℕ, List, [], ◌∷◌, ◌++◌, length, pos}
use Rattle.arrow_spec.specs.declared.message.FieldNode.{FieldNode}
use Rattle.arrow_arrays.specs.LeafParts.{LeafParts, binary_views, text_views}
use Rattle.arrow_arrays.specs.Parts.{Parts, Forest, leaf, nested, none, also, rows_in, null_rows_in}

-- its node counts the rows, and those that are null
abbrev pub node_in : Parts → FieldNode
node_in p = record { length = pos (rows_in p); null_count = pos (null_rows_in p) }

-- a view array's number of data buffers
abbrev pub leaf_counts_in : LeafParts → List ℕ
leaf_counts_in (binary_views p) = length p.buffers ∷ []
leaf_counts_in (text_views p) = length p.buffers ∷ []
leaf_counts_in p = []

-- those of the view arrays in it, in preorder
abbrev mutual
  pub counts_in : Parts → List ℕ
  counts_in (leaf l) = leaf_counts_in l
  counts_in (nested h cs) = counts_each cs

  pub counts_each : Forest → List ℕ
  counts_each none = []
  counts_each (also p cs) = counts_in p ++ counts_each cs
