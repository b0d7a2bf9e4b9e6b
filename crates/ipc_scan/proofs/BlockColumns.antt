-- The columns of a block that are read under its message, as the calls have them.
use Rattle.std.proofs.Common.{◌≡◌, ◌∙◌, refl, sym, ap, subst, arith, ℕ, List, [], ◌∷◌, map, length, get_or, Vec, Global, Bool, true, Option, Some, None, Result, Ok, Err, IfOk, IfErr, IfSome, nat_eq}
use Rattle.std.specs.Rc.{rc_value}
use Rattle.std.proofs.lemmas.Bool.{and_parts, eqb-true}
use Rattle.std.proofs.lemmas.List.{length-map}
use Rattle.std.specs.BTreeMap.{BTreeMap}
use Rattle.arrow_spec.specs.declared.error.IpcError.{IpcError}
use Rattle.arrow_spec.specs.declared.error.IpcError.TheVariants.{Memory}
use Rattle.arrow_spec.specs.declared.message.Block.{Block}
use Rattle.arrow_spec.specs.Arrays.{Dictionaries}
use Rattle.arrow_spec.specs.Cells.{Cell}
use Rattle.arrow_spec.specs.Files.{Asked, Meta, batch_of, first_column, to_read}
use Rattle.arrow_spec.specs.Kinds.{Kind, Metadata}
use Rattle.arrow_spec.specs.Readings.{Refuses, refusals}
use Rattle.arrow_spec.specs.WrittenSchemas.{CustomMayBeWritten}
use Rattle.arrow_spec.proofs.Projection.{on}
use Rattle.arrow_arrays.specs.Batches.{Batch, have_rows}
use Rattle.arrow_arrays.specs.Parts.{Parts, cells_in, fault_each, fault_in, forest, kind_in, rows_in}
use Rattle.arrow_arrays.specs.PartsOf.{all_parts_of, parts_of}
use Rattle.arrow_arrays.specs.declared.array.Array.{Array}
use Rattle.arrow_arrays.proofs.Sliced.{length-cells, neither}
use Rattle.ipc_files.specs.Blocks.{BlockRead, ReadsBlock, asked_under}
use Rattle.ipc_files.specs.FileBlocks.{PairedMessage, block_by, block_record, file_block}
use Rattle.ipc_files.specs.FileViews.{meta_view}
use Rattle.ipc_files.specs.Requests.{asked}
use Rattle.ipc_files.specs.Selections.{numbers_read}
use Rattle.ipc_files.specs.declared.metadata.FileMetadata.{FileMetadata}
use Rattle.ipc_files.proofs.BlockMessages.{refused_first}
use Rattle.ipc_files.proofs.InOrder.{right_of_projection}
use Rattle.ipc_files.proofs.ReadBlocks.{ReadsPlain, batch_is_given, paired_read, paired_refused, refused_ordered}
use Rattle.ipc_files.proofs.ReadFiles.{told}
use Rattle.ipc_files.proofs.Selected.{right_of_file, selected_answer}
use Rattle.ipc_projection.specs.Below.{Held, HoldsCells}
use Rattle.ipc_projection.specs.Projections.{IsReordered, MayProject}
use Rattle.ipc_projection.specs.declared.projection.ProjectionInfo.{ProjectionInfo}
use Rattle.ipc_read.specs.Batches.{table_of}
use Rattle.laws_transcode.specs.Files.{HeaderFits}
use Rattle.laws_walk.proofs.SentBlocks.{block_means}
use Rattle.filter_types.specs.declared.filter.Filter.{Filter}
use Rattle.row_filters.specs.Filters.{marks_of, meets}
use Rattle.laws_scan.specs.Scan.{block_marks, filter_alone}
use Rattle.ipc_scan.specs.Columns.{ReadsChosen, ReadsColumns, ReadsTested}
use Rattle.ipc_scan.specs.Messages.{IsMessage}

-- ── the message ──

pub record_in : (content : Option (List ℕ)) (block : Block) (m : PairedMessage) → IsMessage content block m → IfSome content (λ b. block_record b (file_block block) ≡ Ok m)
record_in content block m message = told content _ _ (λ b s is. is.1) message

-- a batch with other pairs
abbrev pub with_custom : Batch → Metadata → Batch
with_custom x custom = record { height = x.height; schema = x.schema; arrays = x.arrays; custom = custom }

pub with_same : (x y : Batch) (custom pairs : Metadata) → y ≡ with_custom x custom → custom ≡ pairs → y ≡ with_custom x pairs
with_same x y custom pairs is same = is ∙ ap (with_custom x) same

-- ── columns by rising numbers ──

-- what is said of them, where bytes are told
abbrev pub ReadsIn : Option (List ℕ) → Held → Meta → Option (List ℕ) → Block → PairedMessage → Result Batch IpcError → Type 0
ReadsIn content h meta columns block m result = IfSome content (λ b. (d : Dictionaries) → HoldsCells d h → ReadsColumns b h (asked_under b meta d (asked columns None)) (file_block block) m result)

pub columns_given : (content : Option (List ℕ)) (h : Held) (meta : Meta) (columns : Option (List ℕ)) (block : Block) (m : PairedMessage) (result : Result Batch IpcError)
    → IfSome content (λ b. (d : Dictionaries) → HoldsCells d h → ReadsPlain b h (asked_under b meta d (asked columns None)) (file_block block) None m result) → ReadsIn content h meta columns block m result
columns_given content h meta columns block m result read = told content _ _ (λ b s r d holds. record { gives = (r d holds).gives; columns = (r d holds).columns }) read

-- a batch of one column
pub only_column : (xs : List Array) (a : Array) (ps : List Parts) → all_parts_of xs ≡ ps → length xs ≡ 1 → a ≡ get_or xs 0 a → ps ≡ parts_of a ∷ []
only_column [] a ps are one at = cc
only_column (x ∷ []) a ps are one at = sym are ∙ ap (λ y. parts_of y ∷ []) (sym at)
only_column (x ∷ y ∷ xs) a ps are one at = absurd (omega (arith, one))

pub one_array : (xs : List Array) (ps : List Parts) (ks : List Kind) → all_parts_of xs ≡ ps → map kind_in ps ≡ ks → length ks ≡ 1 → length xs ≡ 1
one_array xs ps ks are kinds one = sym (length-map xs parts_of) ∙ ap length are ∙ sym (length-map ps kind_in) ∙ ap length kinds ∙ one

-- as many marks as rows
pub marks_count : (f : Filter) (n : ℕ) (ps : List Parts) (p : Parts) (marks : List Bool) → ps ≡ p ∷ [] → have_rows n ps ≡ true → fault_each (forest ps) ≡ None → marks ≡ marks_of f (cells_in p) → length marks ≡ n
marks_count f n ps p marks only rows sound are =
    let here : have_rows n (p ∷ []) ≡ true = subst (λ qs. have_rows n qs ≡ true) only rows in
    let fine : fault_each (forest (p ∷ [])) ≡ None = subst (λ qs. fault_each (forest qs) ≡ None) only sound in
    ap length are ∙ length-map (cells_in p) (meets f) ∙ length-cells p (neither (fault_in p) None fine).0 ∙ eqb-true (rows_in p) n (and_parts (nat_eq (rows_in p) n) true here).0

module _ (b : List ℕ) (h : Held) (file : FileMetadata) (d : Dictionaries) (block : Block) where
  abbrev under : Option (List ℕ) → Asked
  under columns = asked_under b (meta_view file) d (asked columns None)

  abbrev Reads : Option (List ℕ) → Result Batch IpcError → Type 0
  Reads columns result = ReadsBlock b h (under columns) block None result

  plain : (columns : Option (List ℕ)) (m : PairedMessage) (result : Result Batch IpcError) → block_record b (file_block block) ≡ Ok m → HeaderFits m.tables → ReadsColumns b h (under columns) (file_block block) m result → ReadsPlain b h (under columns) (file_block block) None m result
  plain columns m result is fits r = record { is = is; fits = fits; gives = r.gives; columns = r.columns }

  -- columns with the pairs of the message, or a refusal
  with_pairs : (columns : Option (List ℕ)) (m : PairedMessage) (x y : Batch) → block_by block ≡ Ok (file_block block) → block_record b (file_block block) ≡ Ok m → HeaderFits m.tables → CustomMayBeWritten m.custom
      → y ≡ with_custom x m.custom → ReadsColumns b h (under columns) (file_block block) m (Ok x) → Reads columns (Ok y)
  with_pairs columns m x y natural is fits ordered same r = paired_read b h (under columns) None block m x y natural ordered same (plain columns m (Ok x) is fits r)

  refused : (columns : Option (List ℕ)) (m : PairedMessage) (e : IpcError) → block_by block ≡ Ok (file_block block) → block_record b (file_block block) ≡ Ok m → HeaderFits m.tables → ReadsColumns b h (under columns) (file_block block) m (Err e) → Reads columns (Err e)
  refused columns m e natural is fits r = paired_refused b h (under columns) None block m e natural (plain columns m (Err e) is fits r)

  batch_refused : (columns : Option (List ℕ)) (e : IpcError) → block_by block ≡ Ok (file_block block) → Reads columns (Err e) → Refuses e (refusals (batch_of to_read b (under columns) (file_block block) None))
  batch_refused columns e natural r = subst (λ q. Refuses e (refusals q)) (batch_is_given b (under columns) block None natural) r.refused

  -- ── the filter's column ──

  tested : (f : Filter) (columns : Option (List ℕ)) (m : PairedMessage) (x : Batch) (cells : List Cell) → block_by block ≡ Ok (file_block block) → block_record b (file_block block) ≡ Ok m → HeaderFits m.tables → CustomMayBeWritten m.custom
      → first_column (map cells_in x.arrays) ≡ cells → ReadsColumns b h (under (filter_alone f)) (file_block block) m (Ok x) → block_marks f b (under columns) (file_block block) ≡ Ok (marks_of f cells)
  unfolding block_marks
  tested f columns m x cells natural is fits ordered first r =
      let y : Batch = with_custom x m.custom in
      let whole : Reads (filter_alone f) (Ok y) = with_pairs (filter_alone f) m x y natural is fits ordered refl r in
      let read : BlockRead b h (under (filter_alone f)) (file_block block) None y = whole.read in
      on (batch_of to_read b (under (filter_alone f)) (file_block block) None) _ (table_of y) (block_means b (under (filter_alone f)) h (file_block block) None y read) ∙ ap (λ xs. Ok (marks_of f xs)) first

  tested_refused : (f : Filter) (columns : Option (List ℕ)) (m : PairedMessage) (e : IpcError) → block_by block ≡ Ok (file_block block) → block_record b (file_block block) ≡ Ok m → HeaderFits m.tables
      → ReadsColumns b h (under (filter_alone f)) (file_block block) m (Err e) → Refuses e (refusals (block_marks f b (under columns) (file_block block)))
  unfolding block_marks
  tested_refused f columns m e natural is fits r =
      refused_first e (batch_of to_read b (under (filter_alone f)) (file_block block) None) _ (batch_refused (filter_alone f) e natural (refused (filter_alone f) m e natural is fits r))

  -- ── in the order asked ──

  abbrev Asks : Option (List ℕ) → Option ProjectionInfo → Type 0
  Asks columns p = MayProject (rc_value file.schema) columns p

  all_asked : (columns : Option (List ℕ)) (p : Option ProjectionInfo) (result : Result Batch IpcError) → p ≡ None → Asks columns p → Reads (numbers_read p) result → Reads columns result
  all_asked None None result is may r = r
  all_asked (Some cs) None result is may r = absurd may
  all_asked columns (Some p) result is may r = cc

  refused_asked : (columns : Option (List ℕ)) (p : Option ProjectionInfo) (e : IpcError) → Asks columns p → Reads (numbers_read p) (Err e) → Reads columns (Err e)
  refused_asked None None e may r = r
  refused_asked None (Some p) e may r = absurd may
  refused_asked (Some cs) None e may r = absurd may
  refused_asked (Some cs) (Some p) e may r = record { is = tt; read = tt; refused = refused_ordered e b (under (Some cs)) p.columns.items cs block None may.same r.refused }

  ordered_asked : (columns : Option (List ℕ)) (p : ProjectionInfo) (x : Batch) (result : Result Batch IpcError) → Asks columns (Some p) → IfOk result (IsReordered p.map x) → IfErr result (λ e. e ≡ Memory) → Reads (Some p.columns.items) (Ok x) → Reads columns result
  ordered_asked None p x result may order memory r = absurd may
  ordered_asked (Some cs) p x result may order memory r =
      selected_answer (Some b) h file d (Some cs) p p.columns.items None block x result refl (record { numbers = cs; are = refl; is = may }) (right_of_file file (Some cs) (rc_value file.schema) refl (right_of_projection (rc_value file.schema) (Some cs) p may)) order memory r

  chooses : (columns : Option (List ℕ)) (result : Result Batch IpcError) → block_by block ≡ Ok (file_block block) → Reads columns result → ReadsChosen b h (under columns) (file_block block) result
  chooses columns (Ok y) natural r = r.read
  chooses columns (Err e) natural r = batch_refused columns e natural r

-- ── where bytes are told ──

-- the marks of a block's rows, or a refusal
abbrev pub TestsIn : Option (List ℕ) → Held → FileMetadata → Filter → Block → Result (Vec Bool Global) IpcError → Type 0
TestsIn content h file f block result = IfSome content (λ b. (d : Dictionaries) (columns : Option (List ℕ)) → HoldsCells d h → ReadsTested f b (asked_under b (meta_view file) d (asked columns None)) (file_block block) result)

pub marks_read : (content : Option (List ℕ)) (h : Held) (file : FileMetadata) (f : Filter) (block : Block) (m : PairedMessage) (x : Batch) (p : Parts) (v : Vec Bool Global) → IsMessage content block m → HeaderFits m.tables → CustomMayBeWritten m.custom → x.arrays ≡ p ∷ [] → v.items ≡ marks_of f (cells_in p)
    → ReadsIn content h (meta_view file) (filter_alone f) block m (Ok x) → TestsIn content h file f block (Ok v)
marks_read None h file f block m x p v message fits ordered only are read = tt
marks_read (Some b) h file f block m x p v message fits ordered only are read = λ d columns holds.
    tested b h file d block f columns m x (cells_in p) message.0 message.1 fits ordered (ap (λ ps. first_column (map cells_in ps)) only) (read d holds) ∙ ap Ok (sym are)

pub marks_refused : (content : Option (List ℕ)) (h : Held) (file : FileMetadata) (f : Filter) (block : Block) (m : PairedMessage) (result : Result (Vec Bool Global) IpcError) (e : IpcError) → result ≡ Err e → IsMessage content block m → HeaderFits m.tables
    → ReadsIn content h (meta_view file) (filter_alone f) block m (Err e) → TestsIn content h file f block result
marks_refused None h file f block m result e is message fits read = tt
marks_refused (Some b) h file f block m result e is message fits read = λ d columns holds.
    subst (ReadsTested f b (asked_under b (meta_view file) d (asked columns None)) (file_block block)) (sym is) (tested_refused b h file d block f columns m e message.0 message.1 fits (read d holds))

-- want of memory refuses any block
pub marks_memory : (content : Option (List ℕ)) (h : Held) (file : FileMetadata) (f : Filter) (block : Block) (result : Result (Vec Bool Global) IpcError) → result ≡ Err Memory → TestsIn content h file f block result
marks_memory None h file f block result is = tt
marks_memory (Some b) h file f block result is = λ d columns holds. subst (ReadsTested f b (asked_under b (meta_view file) d (asked columns None)) (file_block block)) (sym is) tt

-- columns in the order asked, or a refusal
abbrev pub ChoosesIn : Option (List ℕ) → Held → FileMetadata → Option ProjectionInfo → Block → Result Batch IpcError → Type 0
ChoosesIn content h file p block result = IfSome content (λ b. (d : Dictionaries) (columns : Option (List ℕ)) → HoldsCells d h → MayProject (rc_value file.schema) columns p → ReadsChosen b h (asked_under b (meta_view file) d (asked columns None)) (file_block block) result)

pub chosen_refused : (content : Option (List ℕ)) (h : Held) (file : FileMetadata) (p : Option ProjectionInfo) (numbers : Option (List ℕ)) (block : Block) (m : PairedMessage) (result : Result Batch IpcError) (e : IpcError) → result ≡ Err e → numbers ≡ numbers_read p → IsMessage content block m → HeaderFits m.tables
    → ReadsIn content h (meta_view file) numbers block m (Err e) → ChoosesIn content h file p block result
chosen_refused None h file p numbers block m result e is same message fits read = tt
chosen_refused (Some b) h file p numbers block m result e is same message fits read = λ d columns holds may.
    let rising : Reads b h file d block (numbers_read p) (Err e) = subst (λ ns. Reads b h file d block ns (Err e)) same (refused b h file d block numbers m e message.0 message.1 fits (read d holds)) in
    subst (ReadsChosen b h (asked_under b (meta_view file) d (asked columns None)) (file_block block)) (sym is) (chooses b h file d block columns (Err e) message.0 (refused_asked b h file d block columns p e may rising))

pub chosen_memory : (content : Option (List ℕ)) (h : Held) (file : FileMetadata) (p : Option ProjectionInfo) (block : Block) (result : Result Batch IpcError) → result ≡ Err Memory → ChoosesIn content h file p block result
chosen_memory None h file p block result is = tt
chosen_memory (Some b) h file p block result is = λ d columns holds may. subst (ReadsChosen b h (asked_under b (meta_view file) d (asked columns None)) (file_block block)) (sym is) tt

pub chosen_all : (content : Option (List ℕ)) (h : Held) (file : FileMetadata) (p : Option ProjectionInfo) (numbers : Option (List ℕ)) (block : Block) (m : PairedMessage) (x y : Batch) → p ≡ None → numbers ≡ numbers_read p → IsMessage content block m → HeaderFits m.tables → CustomMayBeWritten m.custom
    → y ≡ with_custom x m.custom → ReadsIn content h (meta_view file) numbers block m (Ok x) → ChoosesIn content h file p block (Ok y)
chosen_all None h file p numbers block m x y none same message fits ordered paired read = tt
chosen_all (Some b) h file p numbers block m x y none same message fits ordered paired read = λ d columns holds may.
    let rising : Reads b h file d block (numbers_read p) (Ok y) = subst (λ ns. Reads b h file d block ns (Ok y)) same (with_pairs b h file d block numbers m x y message.0 message.1 fits ordered paired (read d holds)) in
    chooses b h file d block columns (Ok y) message.0 (all_asked b h file d block columns p (Ok y) none may rising)

pub chosen_ordered : (content : Option (List ℕ)) (h : Held) (file : FileMetadata) (p : Option ProjectionInfo) (q : ProjectionInfo) (numbers : Option (List ℕ)) (block : Block) (m : PairedMessage) (x y : Batch) (result : Result Batch IpcError) → p ≡ Some q → numbers ≡ numbers_read p → IsMessage content block m → HeaderFits m.tables → CustomMayBeWritten m.custom
    → y ≡ with_custom x m.custom → IfOk result (IsReordered q.map y) → IfErr result (λ e. e ≡ Memory) → ReadsIn content h (meta_view file) numbers block m (Ok x) → ChoosesIn content h file p block result
chosen_ordered None h file p q numbers block m x y result some same message fits ordered paired order memory read = tt
chosen_ordered (Some b) h file p q numbers block m x y result some same message fits ordered paired order memory read = λ d columns holds may.
    let rising : Reads b h file d block (Some q.columns.items) (Ok y) = subst (λ ns. Reads b h file d block ns (Ok y)) (same ∙ ap numbers_read some) (with_pairs b h file d block numbers m x y message.0 message.1 fits ordered paired (read d holds)) in
    chooses b h file d block columns result message.0 (ordered_asked b h file d block columns q y result (subst (MayProject (rc_value file.schema) columns) some may) order memory rising)

-- as many rows in the order asked
pub reordered_height : (m : BTreeMap ℕ ℕ) (x : Batch) (n : ℕ) (result : Result Batch IpcError) → x.height ≡ n → IfOk result (IsReordered m x) → IfOk result (λ y. y.height ≡ n)
reordered_height m x n (Ok y) is order = order.height ∙ is
reordered_height m x n (Err e) is order = tt
