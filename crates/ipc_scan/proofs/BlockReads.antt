-- A block of a file that is read for the rows that meet a filter.
use Rattle.std.proofs.Common.{◌≡◌, ◌∙◌, refl, sym, ap, subst, ℕ, ◌+◌, ◌<◌, ◌≤◌, List, length, get_or, Vec, Global, Bool, true, false, Option, Some, None, Result, Ok, Err, map}
use Rattle.std.specs.Prelude.{All}
use Rattle.std.specs.Rc.{rc_value}
use Rattle.arrow_spec.specs.declared.error.IpcError.{IpcError}
use Rattle.arrow_spec.specs.declared.message.Block.{Block}
use Rattle.arrow_spec.specs.Files.{Asked, FileBlock, TableBatch, batch_of, to_read}
use Rattle.arrow_spec.specs.Readings.{◌>>=◌, Reading, Refuses, refusals}
use Rattle.arrow_spec.proofs.Projection.{on}
use Rattle.arrow_arrays.specs.Batches.{Batch}
use Rattle.arrow_arrays.specs.Parts.{kind_in}
use Rattle.arrow_types.specs.Schemas.{Keyed}
use Rattle.ipc_files.specs.Below.{IsNatural}
use Rattle.ipc_files.specs.Blocks.{asked_under}
use Rattle.ipc_files.specs.Fetching.{MessageFetched}
use Rattle.ipc_files.specs.FileBlocks.{BlockIn, PairedMessage, block_by, block_record, file_block, given, paired_of}
use Rattle.ipc_files.specs.FileViews.{meta_view}
use Rattle.ipc_files.specs.Requests.{asked}
use Rattle.ipc_files.specs.Selections.{HasFields, schema_shown}
use Rattle.ipc_files.specs.declared.metadata.FileMetadata.{FileMetadata}
use Rattle.ipc_files.proofs.BlockMessages.{refused_first}
use Rattle.ipc_files.proofs.GivenBlocks.{given_reads, natural_at}
use Rattle.ipc_files.proofs.ReadBatches.{indexed, indexed_given}
use Rattle.ipc_files.proofs.ReadBlocks.{message_refused}
use Rattle.ipc_projection.specs.Below.{Held}
use Rattle.ipc_projection.specs.Projections.{MayProject}
use Rattle.ipc_projection.specs.declared.projection.ProjectionInfo.{ProjectionInfo}
use Rattle.ipc_projection.proofs.Projected.{stand_once}
use Rattle.ipc_read.specs.Batches.{kinds_of}
use Rattle.laws_transcode.specs.Files.{with_columns}
use Rattle.filter_types.specs.declared.filter.Filter.{Filter}
use Rattle.laws_scan.specs.Filtered.{any_marked, marked_batch}
use Rattle.laws_scan.specs.Reads.{KeepsRows, ReadsBlock}
use Rattle.laws_scan.specs.Scan.{block_marks, filter_alone, marked_fits, marked_rows, only_where, scan_block, scan_cost}
use Rattle.ipc_scan.specs.Columns.{BuffersFetched}
use Rattle.ipc_scan.specs.Messages.{IsMessage}
use Rattle.ipc_scan.specs.Sends.{BlockFetchedBy, BlockScanned}
use Rattle.ipc_files.specs.declared.block.BlockMessage.{BlockMessage}
use Rattle.ipc_scan.specs.declared.scanner.Scanner.{Scanner}
use Rattle.ipc_scan.proofs.BlockColumns.{ChoosesIn, TestsIn}
use Rattle.ipc_scan.proofs.FetchedBlocks.{front_within, tests_within, whole_within}

-- ── what refuses a block ──

module _ (f : Filter) (b : List ℕ) (a : Asked) (block : FileBlock) (e : IpcError) where
  tests_refuse : Refuses e (refusals (block_marks f b a block)) → Refuses e (refusals (scan_block f to_read b a block))
  unfolding scan_block
  tests_refuse r = refused_first e (block_marks f b a block) _ r

  message_refuses : Refuses e (refusals (block_record b block)) → Refuses e (refusals (scan_block f to_read b a block))
  unfolding block_marks
  message_refuses r = tests_refuse (refused_first e (batch_of to_read b (with_columns (filter_alone f) a) block None) _ (message_refused to_read e b (with_columns (filter_alone f) a) block None r))

  columns_refuse : (marks : List Bool) → block_marks f b a block ≡ Ok marks → any_marked marks ≡ true → Refuses e (refusals (batch_of to_read b a block None)) → Refuses e (refusals (scan_block f to_read b a block))
  unfolding scan_block marked_rows
  columns_refuse marks tested some r =
      let rows : Reading TableBatch = batch_of to_read b a block None >>= λ whole. marked_fits to_read b a block marks whole >>= λ size. Ok (marked_batch marks whole) in
      let is : scan_block f to_read b a block ≡ only_where true rows = on (block_marks f b a block) _ marks tested ∙ ap (λ any. only_where any rows) some in
      subst (λ q. Refuses e (refusals q)) (sym is) (refused_first e rows (λ x. Ok (Some x)) (refused_first e (batch_of to_read b a block None) _ r))

-- ── the message ──

-- where it was read no number of the block is negative
pub is_message : (content : Option (List ℕ)) (block : Block) (m : BlockMessage) → BlockIn content block (Ok m) → IsMessage content block (paired_of m)
is_message None block m h = tt
is_message (Some b) block m h = let r = given_reads block (block_record b) (paired_of m) h in (r.is, r.read)

-- ── a call that reads a block ──

-- the block of a number of the file
module _ (content : Option (List ℕ)) (s : Scanner) (h : Held) (n : ℕ) (block : Block) (less : n < length s.reader.metadata.blocks.items) (at : block ≡ get_or s.reader.metadata.blocks.items n block) where
  pub message_fails : (result : Result (Option Batch) IpcError) (e : IpcError) → result ≡ Err e → All IsNatural s.reader.metadata.blocks.items → BlockIn content block (Err e) → BlockScanned content s h n result
  message_fails result e is natural refused = by content refused
    where
      by : (w : Option (List ℕ)) → BlockIn w block (Err e) → BlockScanned w s h n result
      by None r = tt
      by (Some b) r = λ d found columns holds there may.
          let a : Asked = asked_under b (meta_view s.reader.metadata) d (asked columns None) in
          let g = natural_at s.reader.metadata.blocks.items n found natural there in
          let same : block ≡ g.given = indexed_given s.reader.metadata.blocks.items n block g.given less at g.at in
          let here : Refuses e (refusals (given g.given (block_record b))) = subst (λ x. Refuses e (refusals (given x (block_record b)))) same r in
          let record_refused : Refuses e (refusals (block_record b found)) = subst (λ q. Refuses e (refusals q)) (on (block_by g.given) (block_record b) found g.is) here in
          subst (ReadsBlock s.filter b h a found) (sym is) (message_refuses s.filter b a found e record_refused)

  pub tests_fail : (result : Result (Option Batch) IpcError) (e : IpcError) → result ≡ Err e → TestsIn content h s.reader.metadata s.filter block (Err e) → BlockScanned content s h n result
  tests_fail result e is refused = by content refused
    where
      by : (w : Option (List ℕ)) → TestsIn w h s.reader.metadata s.filter block (Err e) → BlockScanned w s h n result
      by None r = tt
      by (Some b) r = λ d found columns holds there may.
          let a : Asked = asked_under b (meta_view s.reader.metadata) d (asked columns None) in
          let same : file_block block ≡ found = indexed s.reader.metadata.blocks.items n block found less at there in
          subst (λ x. ReadsBlock s.filter b h a x result) same (subst (ReadsBlock s.filter b h a (file_block block)) (sym is) (tests_refuse s.filter b a (file_block block) e (r d columns holds)))

  pub none_kept : (v : Vec Bool Global) → TestsIn content h s.reader.metadata s.filter block (Ok v) → any_marked v.items ≡ false → BlockScanned content s h n (Ok None)
  none_kept v tests none = by content tests
    where
      by : (w : Option (List ℕ)) → TestsIn w h s.reader.metadata s.filter block (Ok v) → BlockScanned w s h n (Ok None)
      by None r = tt
      by (Some b) r = λ d found columns holds there may.
          let a : Asked = asked_under b (meta_view s.reader.metadata) d (asked columns None) in
          let same : file_block block ≡ found = indexed s.reader.metadata.blocks.items n block found less at there in
          subst (λ x. ReadsBlock s.filter b h a x (Ok None)) same (record { marks = v.items; tested = r d columns holds; none = none })

  pub columns_fail : (v : Vec Bool Global) (result : Result (Option Batch) IpcError) (e : IpcError) → result ≡ Err e → TestsIn content h s.reader.metadata s.filter block (Ok v) → any_marked v.items ≡ true → ChoosesIn content h s.reader.metadata s.chosen block (Err e) → BlockScanned content s h n result
  columns_fail v result e is tests some refused = by content tests refused
    where
      by : (w : Option (List ℕ)) → TestsIn w h s.reader.metadata s.filter block (Ok v) → ChoosesIn w h s.reader.metadata s.chosen block (Err e) → BlockScanned w s h n result
      by None t r = tt
      by (Some b) t r = λ d found columns holds there may.
          let a : Asked = asked_under b (meta_view s.reader.metadata) d (asked columns None) in
          let same : file_block block ≡ found = indexed s.reader.metadata.blocks.items n block found less at there in
          subst (λ x. ReadsBlock s.filter b h a x result) same (subst (ReadsBlock s.filter b h a (file_block block)) (sym is) (columns_refuse s.filter b a (file_block block) e v.items (t d columns holds) some (r d columns holds may)))

  pub rows_kept : (v : Vec Bool Global) (whole y : Batch) → TestsIn content h s.reader.metadata s.filter block (Ok v) → any_marked v.items ≡ true → ChoosesIn content h s.reader.metadata s.chosen block (Ok whole) → KeepsRows v.items whole y → BlockScanned content s h n (Ok (Some y))
  rows_kept v whole y tests some chosen keeps = by content tests chosen
    where
      by : (w : Option (List ℕ)) → TestsIn w h s.reader.metadata s.filter block (Ok v) → ChoosesIn w h s.reader.metadata s.chosen block (Ok whole) → BlockScanned w s h n (Ok (Some y))
      by None t r = tt
      by (Some b) t r = λ d found columns holds there may.
          let a : Asked = asked_under b (meta_view s.reader.metadata) d (asked columns None) in
          let same : file_block block ≡ found = indexed s.reader.metadata.blocks.items n block found less at there in
          subst (λ x. ReadsBlock s.filter b h a x (Ok (Some y))) same (record { marks = v.items; tested = t d columns holds; some = some; whole = whole; read = r d columns holds may; keeps = keeps })

  -- ── what is fetched ──

  pub front_fetched : (f f1 : ℕ) → MessageFetched content (file_block block) f f1 → BlockFetchedBy content s h n f f1
  front_fetched f f1 front = by content front
    where
      by : (w : Option (List ℕ)) → MessageFetched w (file_block block) f f1 → BlockFetchedBy w s h n f f1
      by None r = tt
      by (Some b) r = λ d found columns here holds there may is.
          let a : Asked = asked_under b (meta_view s.reader.metadata) d (asked columns None) in
          let same : file_block block ≡ found = indexed s.reader.metadata.blocks.items n block found less at there in
          front_within s.filter b a found here is f f1 (subst (λ x. MessageFetched (Some b) x f f1) same r)

  pub tests_fetched : (m : PairedMessage) (f f1 f2 : ℕ) → IsMessage content block m → MessageFetched content (file_block block) f f1 → BuffersFetched content (meta_view s.reader.metadata) m (filter_alone s.filter) (file_block block) f1 f2 → BlockFetchedBy content s h n f f2
  tests_fetched m f f1 f2 message front tests = by content message front tests
    where
      by : (w : Option (List ℕ)) → IsMessage w block m → MessageFetched w (file_block block) f f1 → BuffersFetched w (meta_view s.reader.metadata) m (filter_alone s.filter) (file_block block) f1 f2 → BlockFetchedBy w s h n f f2
      by None read r t = tt
      by (Some b) read r t = λ d found columns here holds there may.
          let a : Asked = asked_under b (meta_view s.reader.metadata) d (asked columns None) in
          let same : file_block block ≡ found = indexed s.reader.metadata.blocks.items n block found less at there in
          subst (λ x. scan_block s.filter to_read b a x ≡ Ok here → f2 ≤ f + scan_cost s.filter b a x) same (λ is. tests_within s.filter b a (file_block block) here is m f f1 f2 read.1 r t)

  pub whole_fetched : (m : PairedMessage) (v : Vec Bool Global) (f f1 f2 f3 : ℕ) → IsMessage content block m → TestsIn content h s.reader.metadata s.filter block (Ok v) → any_marked v.items ≡ true → MessageFetched content (file_block block) f f1
      → BuffersFetched content (meta_view s.reader.metadata) m (filter_alone s.filter) (file_block block) f1 f2
      → ((columns : Option (List ℕ)) → MayProject (rc_value s.reader.metadata.schema) columns s.chosen → BuffersFetched content (meta_view s.reader.metadata) m columns (file_block block) f2 f3) → BlockFetchedBy content s h n f f3
  whole_fetched m v f f1 f2 f3 message marks some front tests rest = by content message marks front tests rest
    where
      by : (w : Option (List ℕ)) → IsMessage w block m → TestsIn w h s.reader.metadata s.filter block (Ok v) → MessageFetched w (file_block block) f f1 → BuffersFetched w (meta_view s.reader.metadata) m (filter_alone s.filter) (file_block block) f1 f2
          → ((columns : Option (List ℕ)) → MayProject (rc_value s.reader.metadata.schema) columns s.chosen → BuffersFetched w (meta_view s.reader.metadata) m columns (file_block block) f2 f3) → BlockFetchedBy w s h n f f3
      by None read tested r t c = tt
      by (Some b) read tested r t c = λ d found columns here holds there may.
          let a : Asked = asked_under b (meta_view s.reader.metadata) d (asked columns None) in
          let same : file_block block ≡ found = indexed s.reader.metadata.blocks.items n block found less at there in
          subst (λ x. scan_block s.filter to_read b a x ≡ Ok here → f3 ≤ f + scan_cost s.filter b a x) same
          (λ is. whole_within s.filter b a (file_block block) here is m v.items f f1 f2 f3 read.1 (tested d columns holds) some r t (c columns may))

-- ── the same bytes and the same file ──

pub message_as : (content content' : Option (List ℕ)) (block : Block) (m : PairedMessage) → content' ≡ content → IsMessage content block m → IsMessage content' block m
message_as content content' block m same message = subst (λ w. IsMessage w block m) (sym same) message

pub tests_as : (content content' : Option (List ℕ)) (h : Held) (file file' : FileMetadata) (f : Filter) (block : Block) (r : Result (Vec Bool Global) IpcError) → content' ≡ content → file' ≡ file → TestsIn content' h file' f block r → TestsIn content h file f block r
tests_as content content' h file file' f block r same is tests = subst (λ w. TestsIn w h file f block r) same (subst (λ (x : FileMetadata). TestsIn content' h x f block r) is tests)

pub chooses_as : (content content' : Option (List ℕ)) (h : Held) (file file' : FileMetadata) (p p' : Option ProjectionInfo) (block : Block) (r : Result Batch IpcError) → content' ≡ content → file' ≡ file → p' ≡ p → ChoosesIn content' h file' p' block r → ChoosesIn content h file p block r
chooses_as content content' h file file' p p' block r same is one chosen =
    subst (λ w. ChoosesIn w h file p block r) same (subst (λ (x : FileMetadata). ChoosesIn content' h x p block r) is (subst (λ (q : Option ProjectionInfo). ChoosesIn content' h file' q block r) one chosen))

pub buffers_as : (content content' : Option (List ℕ)) (file file' : FileMetadata) (m : PairedMessage) (columns : Option (List ℕ)) (block : FileBlock) (f f' : ℕ) → content' ≡ content → file' ≡ file → BuffersFetched content' (meta_view file') m columns block f f' → BuffersFetched content (meta_view file) m columns block f f'
buffers_as content content' file file' m columns block f f' same is fetched =
    subst (λ w. BuffersFetched w (meta_view file) m columns block f f') same (subst (λ (x : FileMetadata). BuffersFetched content' (meta_view x) m columns block f f') is fetched)

pub rest_as : (content content' : Option (List ℕ)) (file file' : FileMetadata) (p p' : Option ProjectionInfo) (m : PairedMessage) (block : FileBlock) (f f' : ℕ) → content' ≡ content → file' ≡ file → p' ≡ p
    → ((columns : Option (List ℕ)) → MayProject (rc_value file'.schema) columns p' → BuffersFetched content' (meta_view file') m columns block f f') → (columns : Option (List ℕ)) → MayProject (rc_value file.schema) columns p → BuffersFetched content (meta_view file) m columns block f f'
rest_as content content' file file' p p' m block f f' same is one rest columns may =
    buffers_as content content' file file' m columns block f f' same is (rest columns (subst (λ (x : FileMetadata). MayProject (rc_value x.schema) columns p') (sym is) (subst (MayProject (rc_value file.schema) columns) (sym one) may)))

-- ── the schema ──

-- two projections of the same columns show the same fields
same_shown : (s : List Keyed) (columns : Option (List ℕ)) (p q : Option ProjectionInfo) → MayProject s columns p → MayProject s columns q → schema_shown s p ≡ schema_shown s q
same_shown s None None None mp mq = refl
same_shown s None (Some p) q mp mq = absurd mp
same_shown s None None (Some q) mp mq = absurd mq
same_shown s (Some cs) None q mp mq = absurd mp
same_shown s (Some cs) (Some p) None mp mq = absurd mq
same_shown s (Some cs) (Some p) (Some q) mp mq = stand_once s cs (rc_value p.schema) (rc_value q.schema) mp.fields mq.fields

pub fields_kept : (s : List Keyed) (columns : Option (List ℕ)) (p q : Option ProjectionInfo) (whole y : Batch) → MayProject s columns p → MayProject s columns q → HasFields whole (schema_shown s p) → y.schema ≡ whole.schema → map kind_in y.arrays ≡ map kind_in whole.arrays → HasFields y (schema_shown s q)
fields_kept s columns p q whole y mp mq has schema kinds =
    let shown = same_shown s columns p q mp mq in
    record { schema = schema ∙ has.schema ∙ shown; kinds = kinds ∙ has.kinds ∙ ap kinds_of shown }
