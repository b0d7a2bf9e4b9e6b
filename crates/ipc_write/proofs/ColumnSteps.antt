-- Columns one behind another come to the columns as a whole.
use Rattle.std.proofs.Common.{◌≡◌, ℕ, zero, suc, ◌+◌, ◌<◌, ◌≤◌, List, [], ◌∷◌, ◌++◌, Bool, true, false, length, drop, get_or, map, refl, sym, ap, ◌∙◌, arith, append_assoc, append-nil, pos, true≢false}
use Rattle.std.specs.Prelude.{◌&&◌}
use Rattle.std.proofs.lemmas.List.{drop_more, drop_all, map-append}
use Rattle.std.proofs.lemmas.List.Folds.{flat_map-map}
use Rattle.std.proofs.lemmas.Bool.{eqb-true}
use Rattle.arrow_spec.specs.Flat.{little}
use Rattle.arrow_arrays.specs.Batches.{have_rows}
use Rattle.arrow_arrays.specs.Nodes.{counts_in}
use Rattle.arrow_arrays.specs.Parts.{Parts, rows_in}
use Rattle.arrow_arrays.specs.PartsOf.{parts_of, all_parts_of}
use Rattle.arrow_arrays.specs.declared.array.Array.{Array}
use Rattle.ipc_write_arrays.specs.Below.{pieces_of}
use Rattle.ipc_write_arrays.specs.Trims.{sent}
use Rattle.ipc_write_arrays.specs.Outputs.{Outputs, outputs, written_behind}
use Rattle.ipc_write_arrays.specs.Pieces.{nodes_in, pieces_in}
use Rattle.ipc_write_arrays.proofs.Behind.{three}
use Rattle.ipc_write.specs.Batches.{columns_written, columns_pieces, top_column}
use Rattle.ipc_write.specs.Compaction.{top}
use Rattle.ipc_write.specs.Encoding.{no_outputs, added, all_outputs}

-- the buffers of columns are those of the columns as they are written
pub same_pieces : (ps : List Parts) → columns_pieces ps ≡ pieces_of (map top_column ps)
same_pieces ps = sym (flat_map-map (λ c. c.pieces) top_column ps)

-- ── columns behind others ──

-- columns behind what stands
abbrev behind : List Parts → Outputs → Outputs
behind ps o = outputs (o.nodes ++ (columns_written ps).nodes) (o.pieces ++ columns_pieces ps) (o.views ++ map pos (columns_written ps).views)

all_added : (ps : List Parts) (o : Outputs) → added ps o ≡ behind ps o
all_added [] o = rw (append-nil o.nodes, append-nil o.pieces, append-nil o.views) refl
all_added (p ∷ ps) o =
    let t = top p in
    let counts = counts_in (sent t) in
    let views = (columns_written ps).views in
    all_added ps (written_behind little t o)
    ∙ three (append_assoc o.nodes (nodes_in t) (columns_written ps).nodes) (append_assoc o.pieces (pieces_in little t) (columns_pieces ps)) (append_assoc o.views (map pos counts) (map pos views) ∙ ap (λ l. o.views ++ l) (sym (map-append pos counts views)))

added_all : (ps : List Parts) → added ps no_outputs ≡ all_outputs ps
added_all ps = all_added ps no_outputs

-- ── the loop ──

pub next_parts : (xs : List Array) (i : ℕ) (x : Array) → x ≡ get_or xs i x → i < length xs → all_parts_of (drop i xs) ≡ parts_of x ∷ all_parts_of (drop (i + 1) xs)
next_parts xs i x e h = ap all_parts_of (drop_more xs i x h ∙ ap (λ y. y ∷ drop (i + 1) xs) (sym e))

pub next_added : (ps qs : List Parts) (p : Parts) (o new all : Outputs) → ps ≡ p ∷ qs → new ≡ written_behind little (top p) o → added ps o ≡ all → added qs new ≡ all
next_added ps qs p o new all hp hn h = ap (added qs) hn ∙ sym (ap (λ l. added l o) hp) ∙ h

pub height_of : (xs : List Array) (i : ℕ) (x : Array) (height : ℕ) → x ≡ get_or xs i x → i < length xs → have_rows height (all_parts_of xs) ≡ true → rows_in (parts_of x) ≡ height
height_of (y ∷ xs) zero x height e h k = ap (λ a. rows_in (parts_of a)) e ∙ eqb-true _ _ (first _ _ k)
  where
    first : (a b : Bool) → (a && b) ≡ true → a ≡ true
    first true b e = refl
    first false b e = e
height_of (y ∷ xs) (suc i) x height e h k = height_of xs i x height e (omega arith) (second _ _ k)
  where
    second : (a b : Bool) → (a && b) ≡ true → b ≡ true
    second true b e = e
    second false b e = absurd (true≢false (sym e))
height_of [] i x height e h k = absurd (omega arith)

pub columns_done : (xs : List Array) (i : ℕ) (o : Outputs) → length xs ≤ i → added (all_parts_of (drop i xs)) o ≡ added (all_parts_of xs) no_outputs → o ≡ all_outputs (all_parts_of xs)
columns_done xs i o h k = ap (λ l. added (all_parts_of l) o) (sym (drop_all i xs h)) ∙ k ∙ added_all (all_parts_of xs)
