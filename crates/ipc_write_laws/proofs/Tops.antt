-- A column with children: where it stands its own node and buffers stand, and its children behind them.
use Rattle.std.proofs.Common.{◌≡◌, ℕ, suc, ◌+◌, List, [], ◌∷◌, ◌++◌, length, Some, pos, refl, sym, ap, ◌∙◌, arith, length-append}
use Rattle.std.specs.Prelude.{slice_get}
use Rattle.std.specs.List.{flat_map}
use Rattle.arrow_spec.specs.declared.message.FieldNode.{FieldNode}
use Rattle.arrow_spec.specs.declared.message.MetadataVersion.TheVariants.{V5}
use Rattle.arrow_spec.specs.Flat.{Order}
use Rattle.arrow_spec.specs.Kinds.{Kind, Fields}
use Rattle.arrow_spec.specs.Cells.{Cell}
use Rattle.arrow_spec.specs.Counts.{RecordBatch, Place, inside, nodes, nodes_of, buffers, buffers_of, views, views_of}
use Rattle.arrow_spec.specs.Arrays.{Dictionaries, from_on}
use Rattle.arrow_spec.specs.ArrayCells.{cell}
use Rattle.arrow_spec.specs.Faults.{array_faults}
use Rattle.arrow_spec.specs.Bodies.{AreHeld}
use Rattle.arrow_spec.proofs.Bodies.{from_head, from_tail}
use Rattle.ipc_write_laws.specs.Columns.{WrittenColumn, StandsAt, Means}
use Rattle.ipc_write_laws.specs.Streams.{AreOf, pieces_of}
use Rattle.ipc_write_laws.proofs.Batches.{held_first, held_second}
use Rattle.ipc_write_laws.proofs.Children.{StandTogether, AreMeant, nodes_taken, views_taken, buffers_taken}
use Rattle.ipc_write_laws.proofs.Counted.{means_by_array}

-- how many of each a kind with children takes
pub record TopShape (k : Kind) (fs : Fields) (own : ℕ) : Type 0 where
  pub node : nodes k ≡ suc (nodes_of fs)
  pub view : views k ≡ views_of fs
  pub buffer : (m : RecordBatch) (v : ℕ) → m.version ≡ V5 → buffers m.version m.variadic k v ≡ own + buffers_of m.version m.variadic fs v

-- a column of so many rows, with buffers of its own before those of its children
abbrev pub top_column : Kind → ℕ → ℕ → List (List ℕ) → List WrittenColumn → List Cell → WrittenColumn
top_column k rows nulls own cs xs = record {
  kind = k;
  nodes = record { length = pos rows; null_count = pos nulls } ∷ flat_map (λ c. c.nodes) cs;
  pieces = own ++ pieces_of cs;
  views = flat_map (λ c. c.views) cs;
  cells = xs;
}

-- its node and its own buffers in a record batch, and its children behind
pub record TopStands (m : RecordBatch) (p : Place) (rows nulls : ℕ) (own : List (List ℕ)) (cs : List WrittenColumn) : Type 0 where
  pub node : slice_get m.nodes p.node ≡ Some (record { length = pos rows; null_count = pos nulls })
  pub held : AreHeld m p.buffer own
  pub children : StandTogether m (inside (length own) p) cs

pub top_stands : (m : RecordBatch) (p : Place) (k : Kind) (rows nulls : ℕ) (own : List (List ℕ)) (cs : List WrittenColumn) (xs : List Cell) → StandsAt m p (top_column k rows nulls own cs xs) → TopStands m p rows nulls own cs
top_stands m p k rows nulls own cs xs s =
    let n : FieldNode = record { length = pos rows; null_count = pos nulls } in
    record {
      node = from_head m.nodes p.node n (flat_map (λ c. c.nodes) cs ++ s.nodes_behind) s.nodes;
      held = held_first m p.buffer own (pieces_of cs) s.pieces;
      children = record {
        nodes_behind = s.nodes_behind;
        nodes = from_tail m.nodes p.node n (flat_map (λ c. c.nodes) cs ++ s.nodes_behind) s.nodes;
        pieces = held_second m p.buffer own (pieces_of cs) s.pieces;
        room = omega (arith, s.room, length-append own (pieces_of cs));
        views_behind = s.views_behind;
        views = s.views;
      };
    }

-- such a column means its cells where its children mean theirs, its array is right, and is read as its cells
pub top_means : (order : Order) (d : Dictionaries) (k : Kind) (fs : Fields) (rows nulls : ℕ) (own : List (List ℕ)) (cs : List WrittenColumn) (xs : List Cell) (each : WrittenColumn → ℕ) → TopShape k fs (length own) → AreOf fs cs → AreMeant order d each cs
    → ((m : RecordBatch) (p : Place) → m.order ≡ order → m.version ≡ V5 → TopStands m p rows nulls own cs → array_faults m d k p rows ≡ [])
    → ((m : RecordBatch) (p : Place) → m.order ≡ order → m.version ≡ V5 → TopStands m p rows nulls own cs → from_on (cell m d k p) 0 rows ≡ xs)
    → Means order d rows (top_column k rows nulls own cs xs)
top_means order d k fs rows nulls own cs xs each shape kinds good right read =
    let c : WrittenColumn = top_column k rows nulls own cs xs in
    means_by_array order d rows nulls c (flat_map (λ c. c.nodes) cs) refl (shape.node ∙ ap suc (nodes_taken order d each fs cs kinds good)) (shape.view ∙ views_taken order d each fs cs kinds good)
    (λ m p five s.
    let all = buffers_taken order d each fs cs m (inside (length own) p) kinds good five (top_stands m p k rows nulls own cs xs s).children in
    shape.buffer m p.view five ∙ ap (λ n. length own + n) all ∙ sym (length-append own (pieces_of cs)))
    (λ m p o five s. right m p o five (top_stands m p k rows nulls own cs xs s))
    (λ m p o five s. read m p o five (top_stands m p k rows nulls own cs xs s))
