-- A block of which the marked rows are kept: the batch that it gives, and the message that is sent of it.
use Rattle.std.proofs.Common.{◌≡◌, ◌∙◌, refl, sym, ap, ℕ, List, [], ◌∷◌, ◌++◌, map, Bool, true, Option, Some, None, Ok}
use Rattle.std.specs.List.{flat_map}
use Rattle.arrow_spec.specs.declared.message.MetadataVersion.{MetadataVersion}
use Rattle.arrow_spec.specs.Counts.{first_place}
use Rattle.arrow_spec.specs.Files.{Asked, FileBlock, Purpose, TableBatch, batch_of, batch_of_tables, block_body, if_sent, record_batch_of, to_read, to_send}
use Rattle.arrow_spec.specs.Kinds.{Metadata}
use Rattle.arrow_spec.specs.Messages.{BatchHeader}
use Rattle.arrow_spec.specs.Readings.{◌>>=◌, Reading, bind, natural, only_if, unless}
use Rattle.arrow_spec.specs.Sent.{may_be_sent}
use Rattle.arrow_spec.proofs.Projection.{no_size, on, went}
use Rattle.arrow_arrays.specs.Batches.{Batch}
use Rattle.arrow_arrays.specs.Parts.{Parts, cells_in}
use Rattle.ipc_read_laws.specs.Batches.{columns_read}
use Rattle.ipc_read_laws.specs.Held.{none_held}
use Rattle.ipc_reader.specs.Below.{block_record, table_of, written_batch_of}
use Rattle.ipc_write_arrays.specs.Pieces.{tree_nodes, tree_pieces}
use Rattle.ipc_write_arrays.specs.Trims.{sent}
use Rattle.arrow_arrays.specs.Nodes.{counts_in}
use Rattle.arrow_spec.specs.Flat.{little}
use Rattle.ipc_write.specs.Batches.{top_column}
use Rattle.ipc_write.specs.Compaction.{top}
use Rattle.ipc_write_laws.specs.Columns.{WrittenColumn}
use Rattle.ipc_write_laws.specs.Streams.{WrittenBatch, written_batch}
use Rattle.laws_sent.specs.Below.{Held}
use Rattle.laws_transcode.specs.Files.{AreAsked, ArePicked}
use Rattle.laws_walk.proofs.SentBlocks.{block_means}
use Rattle.laws_walk.proofs.Walks.{bind_twice}
use Rattle.array_filter.specs.Rows.{if_any, marked, marked_from, taken}
use Rattle.array_filter.specs.Taken.{rows_taken}
use Rattle.filter_types.specs.declared.filter.Filter.{Filter}
use Rattle.laws_scan.specs.Filtered.{any_marked, marked_batch, marked_count}
use Rattle.laws_scan.specs.Reads.{KeepsRows, ReadsNone, ReadsRows}
use Rattle.laws_scan.specs.Scan.{block_marks, in_order, marked_columns, marked_fits, marked_message, marked_rows, only_where, scan_block}
use Rattle.laws_scan.proofs.HeldAside.{same_columns, taken-map}

-- ── the batch that is kept ──

map-twice : {A B C : Type 0} (g : B → C) (k : A → B) (xs : List A) → map g (map k xs) ≡ map (λ x. g (k x)) xs
map-twice g k [] = refl
map-twice g k (x ∷ xs) = ap (λ ys. g (k x) ∷ ys) (map-twice g k xs)

kept_table : (marks : List Bool) (whole y : Batch) → KeepsRows marks whole y → marked_batch marks (table_of whole) ≡ table_of y
kept_table marks whole y k =
    ap (λ columns. record { rows = marked_count marks; columns = columns; custom = whole.custom }) (map-twice (λ column. marked marks column) cells_in whole.arrays ∙ sym k.cells)
    ∙ rw (k.height, k.custom) refl

-- ── what is written of it ──

flat_by : {A : Type 0} (g : WrittenColumn → List A) (k : Parts → List A) → ((p : Parts) → g (top_column p) ≡ k (sent (top p))) → (ps : List Parts) → flat_map g (map top_column ps) ≡ flat_map k (map (λ p. sent (top p)) ps)
flat_by g k h [] = refl
flat_by g k h (p ∷ ps) = ap (λ xs. xs ++ flat_map g (map top_column ps)) (h p) ∙ ap (λ xs. k (sent (top p)) ++ xs) (flat_by g k h ps)

flat_same : {A : Type 0} (g : WrittenColumn → List A) (k : Parts → List A) → ((p : Parts) → g (top_column p) ≡ k (sent (top p))) → (ps qs : List Parts) → map (λ p. sent (top p)) ps ≡ map (λ p. sent (top p)) qs → flat_map g (map top_column ps) ≡ flat_map g (map top_column qs)
flat_same g k h ps qs same = flat_by g k h ps ∙ ap (flat_map k) same ∙ sym (flat_by g k h qs)

abbrev batch_written : ℕ → Metadata → List Parts → WrittenBatch
batch_written n custom ps = record { rows = n; columns = map top_column ps; custom = custom }

written_same : (n : ℕ) (custom : Metadata) (ps qs : List Parts) → map (λ p. sent (top p)) ps ≡ map (λ p. sent (top p)) qs → written_batch (batch_written n custom ps) ≡ written_batch (batch_written n custom qs)
written_same n custom ps qs same =
    let nodes = flat_same (λ c. c.nodes) tree_nodes (λ p. refl) ps qs same in
    let pieces = flat_same (λ c. c.pieces) (tree_pieces little) (λ p. refl) ps qs same in
    let views = flat_same (λ c. c.views) counts_in (λ p. refl) ps qs same in
    rw (nodes, pieces, views) refl

-- ── columns in the order asked ──

picked : {A : Type 0} (all : List A) (cs : List ℕ) (xs : List A) → ArePicked all cs xs → xs ≡ taken cs all
picked all [] [] h = refl
picked all [] (x ∷ xs) h = absurd h
picked all (c ∷ cs) [] h = absurd h
picked all (c ∷ cs) (x ∷ xs) h = ap (λ ys. x ∷ ys) (picked all cs xs h.1) ∙ ap (λ o. if_any o ++ taken cs all) (sym h.0)

ordered : (all : List Parts) (columns : Option (List ℕ)) (xs : List Parts) → AreAsked all columns xs → xs ≡ in_order columns all
ordered all None xs h = h
ordered all (Some cs) xs h = picked all cs xs h

order-map : (g : Parts → Parts) (columns : Option (List ℕ)) (ps : List Parts) → map g (in_order columns ps) ≡ in_order columns (map g ps)
order-map g None ps = refl
order-map g (Some cs) ps = taken-map g cs ps

-- ── rows ──

rows_are : (a : Asked) (v : MetadataVersion) (custom : Metadata) (tables : BatchHeader) (body : List ℕ) (x : TableBatch) → batch_of_tables to_read a v custom tables body None ≡ Ok x → natural tables.length ≡ Ok x.rows
unfolding batch_of_tables
rows_are a v custom tables body x h =
    let plain = went (unless _ _) _ x h in
    let rows = went (natural tables.length) _ x plain.rest in
    let negative = went (only_if _ _) _ x rows.rest in
    let sum = went (only_if _ _) _ x negative.rest in
    let columns = went _ _ x sum.rest in
    rows.first ∙ ap (λ (y : TableBatch). Ok y.rows) (no_size _ x columns.rest)

module _ (f : Filter) (b : List ℕ) (h : Held) (a : Asked) (block : FileBlock) where
  -- the batch of some marked rows, where there is to be one
  abbrev rows_of : Purpose → List Bool → Reading TableBatch
  rows_of purpose marks = batch_of to_read b a block None >>= λ whole. marked_fits purpose b a block marks whole >>= λ size. Ok (marked_batch marks whole)

  -- none is marked
  pub none_given : (purpose : Purpose) → ReadsNone f b a block → scan_block f purpose b a block ≡ Ok None
  unfolding scan_block marked_rows
  none_given purpose r = on _ _ r.marks r.tested ∙ ap (λ any. only_where any (rows_of purpose r.marks)) r.none

  -- some are
  where_marked : (purpose : Purpose) (marks : List Bool) → block_marks f b a block ≡ Ok marks → any_marked marks ≡ true → scan_block f purpose b a block ≡ (rows_of purpose marks >>= λ x. Ok (Some x))
  unfolding scan_block marked_rows
  where_marked purpose marks tested some = on _ _ marks tested ∙ ap (λ any. only_where any (rows_of purpose marks)) some

  module _ (y : Batch) (r : ReadsRows f b h a block y) where
    kept : marked_batch r.marks (table_of r.whole) ≡ table_of y
    kept = kept_table r.marks r.whole y r.keeps

    -- it is read
    pub rows_given : scan_block f to_read b a block ≡ Ok (Some (table_of y))
    unfolding kept
    rows_given =
        let rows : rows_of to_read r.marks ≡ Ok (table_of y) = on _ _ (table_of r.whole) (block_means b a h block None r.whole r.read) ∙ on _ _ tt refl ∙ ap Ok kept in
        where_marked to_read r.marks r.tested r.some ∙ on _ _ (table_of y) rows

    -- the columns of which the rows are kept
    columns_are : marked_columns b a block r.marks ≡ Ok (map (λ p. rows_taken (marked_from 0 r.marks) p) (in_order a.columns (columns_read (record_batch_of a.order r.read.message.version r.read.message.tables (block_body b block)) none_held a.fields first_place r.whole.height)))
    unfolding marked_columns
    columns_are = on (block_record b block) _ r.read.message r.read.is ∙ on _ _ r.whole.height (rows_are a r.read.message.version r.read.message.custom r.read.message.tables (block_body b block) (table_of r.whole) r.read.read)

    same_rows : (ns : List ℕ) → map (λ p. sent (top p)) (map (λ p. rows_taken ns p) (in_order a.columns (columns_read (record_batch_of a.order r.read.message.version r.read.message.tables (block_body b block)) none_held a.fields first_place r.whole.height)))
        ≡ map (λ p. sent (top p)) (map (λ p. rows_taken ns p) r.whole.arrays)
    same_rows ns =
        let m = record_batch_of a.order r.read.message.version r.read.message.tables (block_body b block) in
        let g : Parts → Parts = λ p. sent (top (rows_taken ns p)) in
        let all : Held → List Parts = λ held. columns_read m held a.fields first_place r.whole.height in
        map-twice (λ p. sent (top p)) (λ p. rows_taken ns p) (in_order a.columns (all none_held))
        ∙ order-map g a.columns (all none_held)
        ∙ ap (in_order a.columns) (same_columns m none_held h ns a.fields first_place r.whole.height)
        ∙ sym (order-map g a.columns (all h))
        ∙ ap (map g) (sym (ordered (all h) a.columns r.whole.arrays r.read.columns))
        ∙ sym (map-twice (λ p. sent (top p)) (λ p. rows_taken ns p) r.whole.arrays)

    message_is : marked_message b a block r.marks (table_of r.whole) ≡ Ok (written_batch (written_batch_of y))
    unfolding marked_message columns_are same_rows
    message_is =
        let ns = marked_from 0 r.marks in
        on _ _ _ columns_are
        ∙ ap Ok (written_same (marked_count r.marks) r.whole.custom _ _ (same_rows ns))
        ∙ ap (λ ps. Ok (written_batch (batch_written (marked_count r.marks) r.whole.custom ps))) (sym r.keeps.arrays)
        ∙ ap (λ n. Ok (written_batch (batch_written n r.whole.custom y.arrays))) (sym r.keeps.height)
        ∙ ap (λ custom. Ok (written_batch (batch_written y.height custom y.arrays))) (sym r.keeps.custom)

    -- it is sent where its message may be
    pub rows_sent : scan_block f to_send b a block ≡ (if_sent to_send (may_be_sent (written_batch (written_batch_of y))) >>= λ size. Ok (Some (table_of y)))
    unfolding kept message_is bind
    rows_sent =
        let rows : rows_of to_send r.marks ≡ (if_sent to_send (may_be_sent (written_batch (written_batch_of y))) >>= λ size. Ok (table_of y))
        = on _ _ (table_of r.whole) (block_means b a h block None r.whole r.read)
        ∙ ap (λ fits. fits >>= λ size. Ok (marked_batch r.marks (table_of r.whole))) (on _ _ _ message_is)
        ∙ ap (λ t. if_sent to_send (may_be_sent (written_batch (written_batch_of y))) >>= λ size. Ok t) kept in
        where_marked to_send r.marks r.tested r.some ∙ ap (λ x. x >>= λ t. Ok (Some t)) rows ∙ bind_twice (if_sent to_send (may_be_sent (written_batch (written_batch_of y)))) (λ size. Ok (table_of y)) (λ t. Ok (Some t))
