-- What is fetched of a block that is read for the rows that meet a filter.
use Rattle.std.proofs.Common.{◌≡◌, ◌∙◌, refl, sym, ap, subst, arith, ℕ, zero, suc, ◌+◌, ◌≤◌, List, [], ◌∷◌, ◌++◌, take, drop, Bool, true, false, Option, Some, None, Ok, if◌then◌else◌}
use Rattle.std.proofs.lemmas.List.Sums.{sum_by-append, sum_by-cons}
use Rattle.arrow_spec.specs.Columns.{is_chosen}
use Rattle.arrow_spec.specs.Counts.{Place, RecordBatch, after, first_place}
use Rattle.arrow_spec.specs.Files.{Asked, FileBlock, Meta, TableBatch, batch_of, block_body, block_message, record_batch_of, to_read}
use Rattle.arrow_spec.specs.Flat.{Order, order_by}
use Rattle.arrow_spec.specs.Kinds.{Fields, field, none}
use Rattle.arrow_spec.specs.Messages.{RecordMessage, batch_at, message_of, message_pairs, prefix_of, record_message, version_of}
use Rattle.arrow_spec.specs.Needed.{Range, columns_looked_at, lengths, message_range, or_nothing, ranges}
use Rattle.arrow_spec.specs.Readings.{meaning, natural, only_if}
use Rattle.arrow_spec.proofs.Projection.{on, went}
use Rattle.arrow_types.specs.Schemas.{Keyed}
use Rattle.ipc_files.specs.Fetching.{MessageFetched, both_of, message_cost}
use Rattle.ipc_files.specs.FileBlocks.{PairedMessage, block_metadata, block_record, message_metadata, paired_message}
use Rattle.ipc_files.specs.Selections.{numbers_read}
use Rattle.ipc_files.proofs.FetchedFiles.{batch_parts, counted}
use Rattle.ipc_files.proofs.Fetching.{answer_or, stated_rows}
use Rattle.ipc_projection.specs.Below.{stated_of}
use Rattle.ipc_projection.specs.Projections.{MayProject}
use Rattle.ipc_projection.specs.declared.projection.ProjectionInfo.{ProjectionInfo}
use Rattle.ipc_read.specs.Batches.{batch_fetched}
use Rattle.laws_files.specs.Fetched.{for_rows}
use Rattle.laws_transcode.specs.Files.{with_columns}
use Rattle.filter_types.specs.declared.filter.Filter.{Filter}
use Rattle.laws_scan.specs.Filtered.{any_marked}
use Rattle.laws_scan.specs.Scan.{block_marks, block_scanned, filter_alone, scan_block, scan_cost}
use Rattle.ipc_scan.specs.Columns.{BuffersFetched, message_rows}

-- ── buffers ──

-- of columns that were read
pub buffers_whole : (content : Option (List ℕ)) (meta : Meta) (order : Bool) (m : PairedMessage) (columns : Option (List ℕ)) (block : FileBlock) (f f' : ℕ) → order_by order ≡ meta.schema.order
    → ((bytes : List ℕ) → f' ≤ f + batch_fetched (record_batch_of (order_by order) m.version m.tables bytes) columns meta.schema.fields (message_rows m)) → BuffersFetched content meta m columns block f f'
buffers_whole None meta order m columns block f f' is more = tt
buffers_whole (Some b) meta order m columns block f f' is more =
    subst (λ (o : Order). f' ≤ f + batch_fetched (record_batch_of o m.version m.tables (block_body b block)) columns meta.schema.fields (message_rows m)) is (more (block_body b block))

same_members : (m : RecordBatch) (asked other : Option (List ℕ)) (fs : Fields) (c : ℕ) (p : Place) → ((c : ℕ) → is_chosen asked c ≡ is_chosen other c) → columns_looked_at m asked fs c p ≡ columns_looked_at m other fs c p
same_members m asked other none c p h = refl
same_members m asked other (field name nullable metadata k others) c p h = rw (h c, same_members m asked other others (suc c) (after m k p) h) refl

members_fetched : (m : RecordBatch) (asked other : Option (List ℕ)) (fs : Fields) (rows : ℕ) → ((c : ℕ) → is_chosen asked c ≡ is_chosen other c) → batch_fetched m asked fs rows ≡ batch_fetched m other fs rows
members_fetched m asked other fs zero h = refl
members_fetched m asked other fs (suc n) h = ap (stated_of m) (same_members m asked other fs 0 first_place h)

-- those that are read for a projection are those of the columns asked for
asked_buffers : (b : List ℕ) (meta : Meta) (m : PairedMessage) (s : List Keyed) (columns : Option (List ℕ)) (p : Option ProjectionInfo) (block : FileBlock) (f f' : ℕ) → MayProject s columns p → BuffersFetched (Some b) meta m (numbers_read p) block f f' → BuffersFetched (Some b) meta m columns block f f'
asked_buffers b meta m s None None block f f' may h = h
asked_buffers b meta m s None (Some p) block f f' may h = absurd may
asked_buffers b meta m s (Some cs) None block f f' may h = absurd may
asked_buffers b meta m s (Some cs) (Some p) block f f' may h =
    let same = members_fetched (record_batch_of meta.schema.order m.version m.tables (block_body b block)) (Some p.columns.items) (Some cs) meta.schema.fields (message_rows m) may.same in
    omega (arith, h, same)

pub buffers_asked : (content : Option (List ℕ)) (meta : Meta) (m : PairedMessage) (s : List Keyed) (columns numbers : Option (List ℕ)) (p : Option ProjectionInfo) (block : FileBlock) (f f' : ℕ) → numbers ≡ numbers_read p → MayProject s columns p → BuffersFetched content meta m numbers block f f' → BuffersFetched content meta m columns block f f'
buffers_asked None meta m s columns numbers p block f f' is may h = tt
buffers_asked (Some b) meta m s columns numbers p block f f' is may h = asked_buffers b meta m s columns p block f f' may (subst (λ ns. BuffersFetched (Some b) meta m ns block f f') is h)

-- ── what a block costs ──

-- the buffers of some columns, where a row is marked
abbrev pub chosen_fetched : RecordBatch → Asked → List Bool → ℕ
chosen_fetched m a marks = if any_marked marks then batch_fetched m a.columns a.fields 1 else 0

-- it is its message once, the filter's column, and where a row is marked the columns asked for
pub cost_is : (f : Filter) (b : List ℕ) (a : Asked) (block : FileBlock) (m : PairedMessage) (rows : ℕ) (marks : List Bool) → block_record b block ≡ Ok m → natural m.tables.length ≡ Ok rows → block_marks f b a block ≡ Ok marks
    → scan_cost f b a block ≡ message_cost b block + (batch_fetched (record_batch_of a.order m.version m.tables (block_body b block)) (filter_alone f) a.fields rows + chosen_fetched (record_batch_of a.order m.version m.tables (block_body b block)) a marks)
unfolding block_record message_metadata paired_message record_message block_scanned block_message
cost_is f b a block m rows marks is count tested =
    let metadata = went (message_metadata b block) _ m is in
    let range = went (only_if _ _) _ metadata.got metadata.first in
    let prefix = went (prefix_of (block_metadata b block)) _ metadata.got range.rest in
    let bytes = take prefix.got.1 (drop (block.offset + prefix.got.0) b) in
    let bytes_are : bytes ≡ metadata.got = ap (answer_or bytes) prefix.rest in
    let whole = went (record_message bytes) _ m (subst (λ x. paired_message x ≡ Ok m) (sym bytes_are) metadata.rest) in
    let message = went (message_of bytes _) _ whole.got whole.first in
    let tables = went (batch_at bytes message.got.header) _ whole.got message.rest in
    let version = went (version_of bytes message.got) _ whole.got tables.rest in
    let pairs = went (message_pairs bytes) _ m whole.rest in
    let inner : RecordMessage = record { tables = tables.got; version = version.got } in
    let with_them : RecordMessage → PairedMessage = λ x. record { tables = x.tables; version = x.version; custom = pairs.got } in
    let same : with_them inner ≡ m = ap with_them (ap (answer_or inner) version.rest) ∙ ap (answer_or (with_them inner)) pairs.rest in
    let source = record_batch_of a.order version.got tables.got (block_body b block) in
    let place = block.offset + block.metadata in
    let front : Range = record { place = block.offset; length = prefix.got.0 + prefix.got.1 } in
    let tests : List Range = for_rows rows (ranges source place (columns_looked_at source (filter_alone f) a.fields 0 first_place)) in
    let others : List Range = if any_marked marks then ranges source place (columns_looked_at source a.columns a.fields 0 first_place) else [] in
    let e : block_scanned f b a block ≡ Ok (front ∷ tests ++ others)
    = on (block_message b block 3) _ (bytes, message.got) (on _ _ _ range.first ∙ on _ _ _ prefix.first ∙ on _ _ _ message.first)
    ∙ on _ _ _ tables.first ∙ on _ _ _ version.first ∙ on (message_range b block) _ front (on _ _ _ prefix.first) ∙ on (natural tables.got.length) _ rows (ap (λ (x : PairedMessage). natural x.tables.length) same ∙ count) ∙ on _ _ marks tested in
    let cost : scan_cost f b a block ≡ lengths (front ∷ tests ++ others) = ap (λ r. lengths (or_nothing (meaning r))) e in
    let message_is : message_cost b block ≡ prefix.got.0 + prefix.got.1 = ap both_of prefix.first in
    let first = stated_rows source place (filter_alone f) a.fields rows in
    let second : lengths others ≡ chosen_fetched source a marks = by source place (any_marked marks) in
    let sum = sum_by-cons (λ (y : Range). y.length) front (tests ++ others) in
    let both = sum_by-append (λ (y : Range). y.length) tests others in
    let source_is : batch_fetched source (filter_alone f) a.fields rows + chosen_fetched source a marks ≡ batch_fetched (record_batch_of a.order m.version m.tables (block_body b block)) (filter_alone f) a.fields rows + chosen_fetched (record_batch_of a.order m.version m.tables (block_body b block)) a marks
    = ap (λ (x : PairedMessage). batch_fetched (record_batch_of a.order x.version x.tables (block_body b block)) (filter_alone f) a.fields rows + chosen_fetched (record_batch_of a.order x.version x.tables (block_body b block)) a marks) same in
    omega (arith, cost, message_is, first, second, sum, both, source_is)
  where
    by : (source : RecordBatch) (place : ℕ) (any : Bool) → lengths (if any then ranges source place (columns_looked_at source a.columns a.fields 0 first_place) else []) ≡ (if any then batch_fetched source a.columns a.fields 1 else 0)
    by source place true = stated_rows source place a.columns a.fields 1
    by source place false = refl

-- what a block is read for that is scanned
record ScanParts (f : Filter) (b : List ℕ) (a : Asked) (block : FileBlock) : Type 0 where
  message : PairedMessage
  is : block_record b block ≡ Ok message
  rows : ℕ
  count : natural message.tables.length ≡ Ok rows
  marks : List Bool
  tested : block_marks f b a block ≡ Ok marks

scan_parts : (f : Filter) (b : List ℕ) (a : Asked) (block : FileBlock) (here : Option TableBatch) → scan_block f to_read b a block ≡ Ok here → ScanParts f b a block
unfolding scan_block block_marks
scan_parts f b a block here is =
    let marks = went (block_marks f b a block) _ here is in
    let tested = went (batch_of to_read b (with_columns (filter_alone f) a) block None) _ marks.got marks.first in
    let p = batch_parts b (with_columns (filter_alone f) a) block None tested.got tested.first in
    record { message = p.message; is = p.is; rows = p.rows; count = p.count; marks = marks.got; tested = marks.first }

no_more : (m : RecordBatch) (asked : Option (List ℕ)) (fs : Fields) (rows : ℕ) → batch_fetched m asked fs rows ≤ batch_fetched m asked fs 1
no_more m asked fs zero = omega arith
no_more m asked fs (suc n) = omega arith

-- a block that is scanned, of which its message was fetched, or the filter's column too, or all that it costs
module _ (f : Filter) (b : List ℕ) (a : Asked) (block : FileBlock) (here : Option TableBatch) (is : scan_block f to_read b a block ≡ Ok here) where
  abbrev source : PairedMessage → RecordBatch
  source m = record_batch_of a.order m.version m.tables (block_body b block)

  pub front_within : (n n1 : ℕ) → MessageFetched (Some b) block n n1 → n1 ≤ n + scan_cost f b a block
  front_within n n1 front =
      let p = scan_parts f b a block here is in
      omega (arith, front p.message p.is, cost_is f b a block p.message p.rows p.marks p.is p.count p.tested)

  pub tests_within : (m : PairedMessage) (n n1 n2 : ℕ) → block_record b block ≡ Ok m → MessageFetched (Some b) block n n1 → n2 ≤ n1 + batch_fetched (source m) (filter_alone f) a.fields (message_rows m) → n2 ≤ n + scan_cost f b a block
  tests_within m n n1 n2 read front more =
      let p = scan_parts f b a block here is in
      let same : m ≡ p.message = let found = p.is in cc in
      let rows : message_rows m ≡ p.rows = ap message_rows same ∙ counted p.message.tables.length p.rows p.count in
      let moved : batch_fetched (source m) (filter_alone f) a.fields (message_rows m) ≡ batch_fetched (source p.message) (filter_alone f) a.fields p.rows
      = ap (λ (y : PairedMessage). batch_fetched (source y) (filter_alone f) a.fields (message_rows m)) same ∙ ap (λ (k : ℕ). batch_fetched (source p.message) (filter_alone f) a.fields k) rows in
      omega (arith, front p.message p.is, more, moved, cost_is f b a block p.message p.rows p.marks p.is p.count p.tested)

  pub whole_within : (m : PairedMessage) (marks : List Bool) (n n1 n2 n3 : ℕ) → block_record b block ≡ Ok m → block_marks f b a block ≡ Ok marks → any_marked marks ≡ true → MessageFetched (Some b) block n n1 → n2 ≤ n1 + batch_fetched (source m) (filter_alone f) a.fields (message_rows m)
      → n3 ≤ n2 + batch_fetched (source m) a.columns a.fields (message_rows m) → n3 ≤ n + scan_cost f b a block
  whole_within m marks n n1 n2 n3 read tested some front more rest =
      let p = scan_parts f b a block here is in
      let same : m ≡ p.message = let found = p.is in cc in
      let marked : marks ≡ p.marks = let found = p.tested in cc in
      let rows : message_rows m ≡ p.rows = ap message_rows same ∙ counted p.message.tables.length p.rows p.count in
      let moved : batch_fetched (source m) (filter_alone f) a.fields (message_rows m) ≡ batch_fetched (source p.message) (filter_alone f) a.fields p.rows
      = ap (λ (y : PairedMessage). batch_fetched (source y) (filter_alone f) a.fields (message_rows m)) same ∙ ap (λ (k : ℕ). batch_fetched (source p.message) (filter_alone f) a.fields k) rows in
      let columns : batch_fetched (source m) a.columns a.fields 1 ≡ chosen_fetched (source p.message) a p.marks
      = ap (λ (y : PairedMessage). batch_fetched (source y) a.columns a.fields 1) same ∙ sym (ap (λ (any : Bool). if any then batch_fetched (source p.message) a.columns a.fields 1 else 0) (sym (ap any_marked marked) ∙ some)) in
      let few = no_more (source m) a.columns a.fields (message_rows m) in
      omega (arith, front p.message p.is, more, moved, rest, few, columns, cost_is f b a block p.message p.rows p.marks p.is p.count p.tested)
