-- Columns that mean their cells are read back where they stand one after another, and so is a batch of them.
use Rattle.std.proofs.Common.{◌≡◌, ℕ, ◌+◌, List, [], ◌∷◌, ◌++◌, length, None, Ok, refl, sym, ap, subst, ◌∙◌, arith, append_assoc, append-nil, length-append, true, pos}
use Rattle.std.specs.Prelude.{nat_le, map}
use Rattle.std.specs.List.{flat_map, AllByRecursion}
use Rattle.std.proofs.lemmas.Bool.{le-leb}
use Rattle.std.proofs.lemmas.List.{length-map, map-append}
use Rattle.std.proofs.lemmas.List.Concat.{flat_map-cons}
use Rattle.arrow_spec.specs.declared.message.MetadataVersion.TheVariants.{V5}
use Rattle.arrow_spec.specs.Readings.{bind}
use Rattle.arrow_spec.specs.Flat.{little}
use Rattle.arrow_spec.specs.Kinds.{Metadata, Kind, Fields, none, field}
use Rattle.arrow_spec.specs.Held.{Stands}
use Rattle.arrow_spec.specs.Counts.{RecordBatch, Place, first_place, after, nodes, buffers, views}
use Rattle.arrow_spec.specs.Arrays.{Dictionaries, from_on}
use Rattle.arrow_spec.specs.ArrayCells.{cell}
use Rattle.arrow_spec.specs.Faults.{column_faults}
use Rattle.arrow_spec.specs.Columns.{columns_at}
use Rattle.arrow_spec.specs.Sent.{placed}
use Rattle.arrow_spec.specs.Framing.{body_bytes}
use Rattle.arrow_spec.specs.Laws.{header_of}
use Rattle.arrow_spec.specs.Files.{batch_of_tables, to_read, lengths_sum, none_negative}
use Rattle.arrow_spec.proofs.MessagesFit.{length-placed}
use Rattle.arrow_spec.proofs.Bodies.{buffers_held, length-body, placed_natural, placed_inside}
use Rattle.arrow_spec.specs.Bodies.{From, AreHeld}
use Rattle.ipc_write_laws.specs.Columns.{WrittenColumn, StandsAt, Means}
use Rattle.ipc_write_laws.specs.Streams.{AreOf, ColumnsStandAt, body_for, pieces_of, written_of}

-- ── one column of several ──

-- behind the first of two lists stands the second
pub from_skip : {A : Type 0} (l : List A) (i : ℕ) (xs ys : List A) → From l i (xs ++ ys) → From l (i + length xs) ys
from_skip l i xs ys h = record { front = h.front ++ xs; whole = h.whole ∙ sym (append_assoc h.front xs ys); place = length-append h.front xs ∙ ap (λ n. n + length xs) h.place }

-- the buffers of two columns
pub held_first : (m : RecordBatch) (i : ℕ) (xs ys : List (List ℕ)) → AreHeld m i (xs ++ ys) → AreHeld m i xs
held_first m i [] ys h = tt
held_first m i (x ∷ xs) ys h = (h.0, held_first m _ xs ys h.1)

pub held_second : (m : RecordBatch) (i : ℕ) (xs ys : List (List ℕ)) → AreHeld m i (xs ++ ys) → AreHeld m (i + length xs) ys
held_second m i [] ys h = subst (λ j. AreHeld m j ys) (omega arith) h
held_second m i (x ∷ xs) ys h = subst (λ j. AreHeld m j ys) (omega arith) (held_second m _ xs ys h.1)

module _ (m : RecordBatch) (p : Place) (c : WrittenColumn) (cs : List WrittenColumn) (h : ColumnsStandAt m p (c ∷ cs)) where
  both_nodes : From m.nodes p.node (c.nodes ++ flat_map (λ c. c.nodes) cs)
  both_nodes = subst (λ xs. From m.nodes p.node xs) (flat_map-cons (λ (c : WrittenColumn). c.nodes) c cs) h.nodes

  both_pieces : AreHeld m p.buffer (c.pieces ++ pieces_of cs)
  both_pieces = subst (λ xs. AreHeld m p.buffer xs) (flat_map-cons (λ (c : WrittenColumn). c.pieces) c cs) h.pieces

  both_lengths : length (pieces_of (c ∷ cs)) ≡ length c.pieces + length (pieces_of cs)
  both_lengths = ap length (flat_map-cons (λ (c : WrittenColumn). c.pieces) c cs) ∙ length-append c.pieces (pieces_of cs)

  both_views : From m.variadic p.view (map pos c.views ++ map pos (flat_map (λ c. c.views) cs))
  both_views = subst (λ xs. From m.variadic p.view xs) (ap (λ vs. map pos vs) (flat_map-cons (λ (c : WrittenColumn). c.views) c cs) ∙ map-append pos c.views (flat_map (λ c. c.views) cs)) h.views

  pub first_stands : StandsAt m p c
  first_stands = record {
    nodes_behind = flat_map (λ c. c.nodes) cs;
    nodes = both_nodes;
    pieces = held_first m p.buffer c.pieces (pieces_of cs) both_pieces;
    room = omega (arith, h.room, both_lengths);
    views_behind = map pos (flat_map (λ c. c.views) cs);
    views = both_views;
  }

  pub others_stand : (k : Kind) → nodes k ≡ length c.nodes → buffers m.version m.variadic k p.view ≡ length c.pieces → views k ≡ length c.views → ColumnsStandAt m (after m k p) cs
  others_stand k n b v = record {
    nodes = subst (λ j. From m.nodes j (flat_map (λ c. c.nodes) cs)) (ap (λ j. p.node + j) (sym n)) (from_skip m.nodes p.node c.nodes (flat_map (λ c. c.nodes) cs) both_nodes);
    pieces = subst (λ j. AreHeld m j (pieces_of cs)) (ap (λ j. p.buffer + j) (sym b)) (held_second m p.buffer c.pieces (pieces_of cs) both_pieces);
    room = omega (arith, h.room, both_lengths, b);
    views = subst (λ j. From m.variadic j (map pos (flat_map (λ c. c.views) cs))) (ap (λ j. p.view + j) (length-map c.views pos ∙ sym v)) (from_skip m.variadic p.view (map pos c.views) (map pos (flat_map (λ c. c.views) cs)) both_views);
  }

-- ── columns ──

pub columns_read : (fs : Fields) (cs : List WrittenColumn) (m : RecordBatch) (d : Dictionaries) (c rows : ℕ) (p : Place) → AreOf fs cs → m.order ≡ little → m.version ≡ V5 → AllByRecursion (λ x. Means little d rows x) cs → ColumnsStandAt m p cs
    → columns_at m d None fs c p rows rows ≡ Ok (map (λ x. x.cells) cs)
unfolding columns_at bind
columns_read none [] m d c rows p kinds order version good h = refl
columns_read none (x ∷ cs) m d c rows p kinds order version good h = absurd kinds
columns_read (field name nullable metadata k others) [] m d c rows p kinds order version good h = absurd kinds
columns_read (field name nullable metadata k others) (x ∷ cs) m d c rows p kinds order version good h =
    let stands = first_stands m p x cs h in
    let n : nodes k ≡ length x.nodes = rw kinds.0 good.0.node_count in
    let b : buffers m.version m.variadic k p.view ≡ length x.pieces = rw kinds.0 (good.0.buffer_count m p version stands) in
    let v : views k ≡ length x.views = rw kinds.0 good.0.view_count in
    let right : column_faults m d k p rows rows ≡ [] = rw kinds.0 (good.0.right m p order version stands) in
    let here : from_on (cell m d k p) 0 rows ≡ x.cells = rw kinds.0 (good.0.cells_read m p order version stands) in
    let rest = columns_read others cs m d (ℕ.suc c) rows (after m k p) kinds.1 order version good.1 (others_stand m p x cs h k n b v) in
    rw (right, rest, here) refl

-- ── a batch ──

pub batch_read : (fs : Fields) (cs : List WrittenColumn) (d : Dictionaries) (rows : ℕ) (custom : Metadata) → AreOf fs cs → AllByRecursion (λ x. Means little d rows x) cs
    → batch_of_tables to_read (record { order = little; fields = fs; columns = None; dictionaries = d; most = length (body_for cs) }) V5 custom (header_of rows (written_of cs)) (body_for cs) None ≡ Ok (record { rows = rows; columns = map (λ x. x.cells) cs; custom = custom })
unfolding batch_of_tables bind
batch_read fs cs d rows custom kinds good =
    let lens = map length (pieces_of cs) in
    let m : RecordBatch = record { order = little; version = V5; nodes = flat_map (λ c. c.nodes) cs; buffers = placed 0 lens; variadic = map pos (flat_map (λ c. c.views) cs); body = body_for cs } in
    let natural : none_negative (placed 0 lens) ≡ true = placed_natural lens 0 in
    let sum : nat_le (lengths_sum (placed 0 lens)) (length (body_for cs)) ≡ true = le-leb _ _ (omega (arith, placed_inside lens 0, length-body (pieces_of cs) 0)) in
    let whole : Stands m.body 0 (body_bytes 0 (pieces_of cs)) = record { front = []; back = []; whole = sym (append-nil (body_for cs)); place = refl } in
    let stand : ColumnsStandAt m first_place cs = record {
      nodes = record { front = []; whole = refl; place = refl };
      pieces = buffers_held (pieces_of cs) m 0 0 (record { front = []; whole = refl; place = refl }) whole;
      room = omega (arith, length-placed lens 0, length-map (pieces_of cs) length);
      views = record { front = []; whole = refl; place = refl };
    } in
    let columns = columns_read fs cs m d 0 rows first_place kinds refl refl good stand in
    rw (natural, sum, columns) refl
