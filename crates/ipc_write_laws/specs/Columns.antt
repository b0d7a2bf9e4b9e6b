-- A column of any kind as it is written, and what it means to mean its cells. (Arrow Columnar Format, "RecordBatch message".)
use Rattle.std.specs.Prelude.{◌≡◌, ℕ, ◌+◌, ◌≤◌, List, [], ◌++◌, length, map, ℤ, pos}
use Rattle.arrow_spec.specs.declared.message.FieldNode.{FieldNode}
use Rattle.arrow_spec.specs.declared.message.MetadataVersion.TheVariants.{V5}
use Rattle.arrow_spec.specs.Flat.{Order}
use Rattle.arrow_spec.specs.Kinds.{Kind}
use Rattle.arrow_spec.specs.Cells.{Cell}
use Rattle.arrow_spec.specs.Counts.{RecordBatch, Place, nodes, buffers, views}
use Rattle.arrow_spec.specs.Arrays.{Dictionaries, from_on}
use Rattle.arrow_spec.specs.ArrayCells.{cell}
use Rattle.arrow_spec.specs.Faults.{column_faults}
use Rattle.arrow_spec.specs.Bodies.{From, AreHeld}

-- a column: its kind, its nodes, the bytes of its buffers and its view counts, and what stands in its rows
pub record WrittenColumn : Type 0 where
  pub kind : Kind
  pub nodes : List FieldNode
  pub pieces : List (List ℕ)
  pub views : List ℕ
  pub cells : List Cell

-- its nodes, buffers and view counts are those of a record batch from a place on
pub record StandsAt (m : RecordBatch) (p : Place) (c : WrittenColumn) : Type 0 where
  pub nodes_behind : List FieldNode
  pub nodes : From m.nodes p.node (c.nodes ++ nodes_behind)
  pub pieces : AreHeld m p.buffer c.pieces
  pub room : p.buffer + length c.pieces ≤ length m.buffers
  pub views_behind : List ℤ
  pub views : From m.variadic p.view (map pos c.views ++ views_behind)

-- wherever it stands in a record batch of an order, it takes what its kind takes, nothing is wrong with it, and its cells are these
pub record Means (order : Order) (d : Dictionaries) (rows : ℕ) (c : WrittenColumn) : Type 0 where
  pub node_count : nodes c.kind ≡ length c.nodes
  pub view_count : views c.kind ≡ length c.views
  pub buffer_count : (m : RecordBatch) (p : Place) → m.version ≡ V5 → StandsAt m p c → buffers m.version m.variadic c.kind p.view ≡ length c.pieces
  pub right : (m : RecordBatch) (p : Place) → m.order ≡ order → m.version ≡ V5 → StandsAt m p c → column_faults m d c.kind p rows rows ≡ []
  pub cells_read : (m : RecordBatch) (p : Place) → m.order ≡ order → m.version ≡ V5 → StandsAt m p c → from_on (cell m d c.kind p) 0 rows ≡ c.cells
