-- Columns that were read from a record batch and are written: what is framed is the message of which the size is asked.
use Rattle.std.proofs.Common.{◌≡◌, ℕ, suc, List, [], ◌∷◌, ◌++◌, length, None, refl, sym, ap, ◌∙◌, arith, append-nil}
use Rattle.std.specs.Prelude.{map}
use Rattle.std.specs.List.{flat_map}
use Rattle.std.proofs.lemmas.List.{map-append}
use Rattle.std.proofs.lemmas.List.Concat.{flat_map-cons}
use Rattle.arrow_spec.specs.Kinds.{Fields, none, field}
use Rattle.arrow_spec.specs.Counts.{RecordBatch, Place, first_place, after, Written}
use Rattle.arrow_spec.specs.Sent.{all_written, also_written, batch_message, batch_node, body_of, columns_written, message}
use Rattle.arrow_spec.proofs.Bodies.{length-body}
use Rattle.ipc_write_laws.specs.Columns.{WrittenColumn}
use Rattle.ipc_write_laws.specs.Streams.{AreSent, WrittenBatch, body_for, pieces_of, written_batch, written_of}

-- what one column is written with
pub written_of_one : (c : WrittenColumn) → written_of (c ∷ []) ≡ record { nodes = c.nodes; lengths = map length c.pieces; views = c.views }
written_of_one c =
    let n : flat_map (λ (c : WrittenColumn). c.nodes) (c ∷ []) ≡ c.nodes = flat_map-cons (λ (c : WrittenColumn). c.nodes) c [] ∙ append-nil c.nodes in
    let p : pieces_of (c ∷ []) ≡ c.pieces = flat_map-cons (λ (c : WrittenColumn). c.pieces) c [] ∙ append-nil c.pieces in
    let v : flat_map (λ (c : WrittenColumn). c.views) (c ∷ []) ≡ c.views = flat_map-cons (λ (c : WrittenColumn). c.views) c [] ∙ append-nil c.views in
    rw (n, p, v) refl

-- one column behind which others stand
pub written_of_cons : (c : WrittenColumn) (cs : List WrittenColumn) → written_of (c ∷ cs) ≡ also_written (written_of (c ∷ [])) (written_of cs)
written_of_cons c cs =
    let n : flat_map (λ (c : WrittenColumn). c.nodes) (c ∷ cs) ≡ c.nodes ++ flat_map (λ (c : WrittenColumn). c.nodes) cs = flat_map-cons (λ (c : WrittenColumn). c.nodes) c cs in
    let p : map length (pieces_of (c ∷ cs)) ≡ map length c.pieces ++ map length (pieces_of cs) = ap (λ xs. map length xs) (flat_map-cons (λ (c : WrittenColumn). c.pieces) c cs) ∙ map-append length c.pieces (pieces_of cs) in
    let v : flat_map (λ (c : WrittenColumn). c.views) (c ∷ cs) ≡ c.views ++ flat_map (λ (c : WrittenColumn). c.views) cs = flat_map-cons (λ (c : WrittenColumn). c.views) c cs in
    let one : Written = record { nodes = c.nodes; lengths = map length c.pieces; views = c.views } in
    let split : written_of (c ∷ cs) ≡ also_written one (written_of cs) = rw (n, p, v) refl in
    split ∙ ap (λ w. also_written w (written_of cs)) (sym (written_of_one c))

pub columns_sent : (fs : Fields) (cs : List WrittenColumn) (m : RecordBatch) (c rows : ℕ) (p : Place) → AreSent m rows fs cs p → all_written (columns_written m None fs c p rows) ≡ written_of cs
columns_sent none [] m c rows p h = refl
columns_sent none (x ∷ cs) m c rows p h = absurd h
columns_sent (field name nullable metadata kind others) [] m c rows p h = absurd h
columns_sent (field name nullable metadata kind others) (x ∷ cs) m c rows p h = rw (h.0, columns_sent others cs m (suc c) rows (after m kind p) h.1) (sym (written_of_cons x cs))

-- a message of written columns says how long its body is
pub batch_same : (x : WrittenBatch) → message 3 (batch_node x.rows (written_of x.columns)) (body_of 0 (map length (pieces_of x.columns))) x.custom ≡ written_batch x
batch_same x =
    let same : body_of 0 (map length (pieces_of x.columns)) ≡ length (body_for x.columns) = omega (arith, length-body (pieces_of x.columns) 0) in
    ap (λ n. message 3 (batch_node x.rows (written_of x.columns)) n x.custom) same

-- what is framed is the message of which the size is asked
pub batch_sent : (fs : Fields) (m : RecordBatch) (x : WrittenBatch) → all_written (columns_written m None fs 0 first_place x.rows) ≡ written_of x.columns → batch_message m None fs x.rows x.custom ≡ written_batch x
unfolding batch_message
batch_sent fs m x h = rw h (batch_same x)
