-- How many bytes are fetched of a file that means a table.
use Rattle.std.proofs.Common.{◌≡◌, ℕ, zero, suc, ◌+◌, ◌≤◌, List, [], ◌∷◌, take, drop, Option, Some, None, Ok, Err, refl, sym, ◌∙◌, ap, arith, subst, true, false, Bool, if◌then◌else◌}
use Rattle.std.specs.Prelude.{option_map}
use Rattle.std.specs.Int.{w32}
use Rattle.std.proofs.lemmas.List.Sums.{sum_by-cons}
use Rattle.arrow_spec.specs.Readings.{Reading, meaning, natural, only_if, as_kind}
use Rattle.arrow_spec.specs.Flat.{signed_at, unsigned_at}
use Rattle.arrow_spec.specs.Kinds.{Fields}
use Rattle.arrow_spec.specs.Counts.{RecordBatch, first_place, magnitude}
use Rattle.arrow_spec.specs.Messages.{RecordMessage, batch_at, is_mark, message_of, message_pairs, prefix_of, record_message, version_of}
use Rattle.arrow_spec.specs.Files.{FileBlock, Meta, Request, block_body, block_message, record_batch_of, share}
use Rattle.arrow_spec.specs.Needed.{Range, columns_looked_at, lengths, message_range, or_nothing, ranges}
use Rattle.arrow_spec.proofs.Projection.{on, went}
use Rattle.laws_files.specs.Fetched.{batch_fetched, for_rows}
use Rattle.ipc_projection.specs.Below.{stated_of}
use Rattle.ipc_read.specs.Batches.{batch_fetched as buffers_fetched}
use Rattle.ipc_files.specs.FileBlocks.{Fetched, Lies, PairedMessage, block_metadata, block_record, message_metadata, paired_message}
use Rattle.ipc_files.specs.Fetching.{FrontFetched, block_cost, both_of, message_cost}
use Rattle.ipc_files.proofs.BlockPrefixes.{region-front}

-- the ranges of buffers are as long as is stated
stated_ranges : (m : RecordBatch) (body : ℕ) (is : List ℕ) → lengths (ranges m body is) ≡ stated_of m is
stated_ranges m body [] = refl
stated_ranges m body (i ∷ is) =
    let rest = stated_ranges m body is in
    omega (arith, rest, sum_by-cons (λ (y : Range). y.length) (record { place = body + magnitude (Rattle.arrow_spec.specs.Arrays.range_of m i).offset; length = magnitude (Rattle.arrow_spec.specs.Arrays.range_of m i).length }) (ranges m body is))

-- so are those of a batch of so many rows
pub stated_rows : (m : RecordBatch) (body : ℕ) (asked : Option (List ℕ)) (fs : Fields) (rows : ℕ) → lengths (for_rows rows (ranges m body (columns_looked_at m asked fs 0 first_place))) ≡ buffers_fetched m asked fs rows
stated_rows m body asked fs zero = refl
stated_rows m body asked fs (suc n) = stated_ranges m body (columns_looked_at m asked fs 0 first_place)

abbrev pub answer_or : {A : Type 0} → A → Reading A → A
answer_or d (Ok x) = x
answer_or d (Err es) = d

-- what is fetched of a block under a request: its message, and the buffers of the rows that are left
pub record IsFetched (b : List ℕ) (meta : Meta) (r : Request) (block : FileBlock) (left : Option ℕ) (m : PairedMessage) (rows : ℕ) : Type 0 where
  pub parts : List Range
  pub is : batch_fetched b meta r block left ≡ Ok (parts, share left rows)
  pub cost : block_cost b meta r block left ≡ message_cost b block + buffers_fetched (record_batch_of meta.schema.order m.version m.tables (block_body b block)) r.columns meta.schema.fields (share left rows)

-- of a block whose message was read
pub block_fetched : (b : List ℕ) (meta : Meta) (r : Request) (block : FileBlock) (left : Option ℕ) (m : PairedMessage) (rows : ℕ) → block_record b block ≡ Ok m → natural m.tables.length ≡ Ok rows → IsFetched b meta r block left m rows
unfolding block_record message_metadata paired_message record_message batch_fetched block_message
block_fetched b meta r block left m rows is count =
    let metadata = went (message_metadata b block) _ m is in
    let range = went (only_if _ _) _ metadata.got metadata.first in
    let prefix = went (prefix_of (block_metadata b block)) _ metadata.got range.rest in
    let bytes = take prefix.got.1 (drop (block.offset + prefix.got.0) b) in
    let bytes_are : bytes ≡ metadata.got = ap (answer_or bytes) prefix.rest in
    let whole = went (record_message bytes) _ m (subst (λ x. paired_message x ≡ Ok m) (sym bytes_are) metadata.rest) in
    let message = went (message_of bytes _) _ whole.got whole.first in
    let tables = went (batch_at bytes message.got.header) _ whole.got message.rest in
    let version = went (version_of bytes message.got) _ whole.got tables.rest in
    let pairs = went (message_pairs bytes) _ m whole.rest in
    let inner : RecordMessage = record { tables = tables.got; version = version.got } in
    let with_them : RecordMessage → PairedMessage = λ x. record { tables = x.tables; version = x.version; custom = pairs.got } in
    let same : with_them inner ≡ m = ap with_them (ap (answer_or inner) version.rest) ∙ ap (answer_or (with_them inner)) pairs.rest in
    let source = record_batch_of meta.schema.order version.got tables.got (block_body b block) in
    let front : Range = record { place = block.offset; length = prefix.got.0 + prefix.got.1 } in
    let buffers = for_rows (share left rows) (ranges source (block.offset + block.metadata) (columns_looked_at source r.columns meta.schema.fields 0 first_place)) in
    let e : batch_fetched b meta r block left ≡ Ok (front ∷ buffers, share left rows)
    = on (block_message b block 3) _ (bytes, message.got) (on _ _ _ range.first ∙ on _ _ _ prefix.first ∙ on _ _ _ message.first)
    ∙ on _ _ _ tables.first ∙ on _ _ _ version.first ∙ on (message_range b block) _ front (on _ _ _ prefix.first) ∙ on (natural tables.got.length) _ rows (ap (λ (x : PairedMessage). natural x.tables.length) same ∙ count) in
    let cost : block_cost b meta r block left ≡ lengths (front ∷ buffers) = ap (λ r. lengths (or_nothing (option_map (λ x. x.0) (meaning r)))) e in
    let message_is : message_cost b block ≡ prefix.got.0 + prefix.got.1 = ap both_of prefix.first in
    let rest : lengths buffers ≡ buffers_fetched source r.columns meta.schema.fields (share left rows) = stated_rows source (block.offset + block.metadata) r.columns meta.schema.fields (share left rows) in
    let sum = sum_by-cons (λ (y : Range). y.length) front buffers in
    let source_is : buffers_fetched source r.columns meta.schema.fields (share left rows) ≡ buffers_fetched (record_batch_of meta.schema.order m.version m.tables (block_body b block)) r.columns meta.schema.fields (share left rows)
    = ap (λ (x : PairedMessage). buffers_fetched (record_batch_of meta.schema.order x.version x.tables (block_body b block)) r.columns meta.schema.fields (share left rows)) same in
    record { parts = front ∷ buffers; is = e; cost = omega (arith, cost, message_is, rest, sum, source_is) }

-- ── a prefix ──

prefix_start : (xs : List ℕ) (p : ℕ × ℕ) → prefix_of xs ≡ Ok p → p.0 ≡ (if is_mark (take 4 xs) then 8 else 4)
unfolding prefix_of
prefix_start xs p h =
    let first = went (as_kind _ (unsigned_at w32 xs 0)) _ p h in
    let number = went (as_kind _ (signed_at w32 xs _)) _ p first.rest in
    let count = went (natural number.got) _ p number.rest in
    let inside = went (only_if _ _) _ p count.rest in
    ap (λ r. start_of r) (sym inside.rest)
  where
    start_of : Reading (ℕ × ℕ) → ℕ
    start_of (Ok q) = q.0
    start_of (Err es) = 0

four_or_eight : (x : Bool) → 4 ≤ (if x then 8 else 4)
four_or_eight true = omega arith
four_or_eight false = omega arith

-- four bytes are never more than a prefix
pub front_four : (content : Option (List ℕ)) (at size f f' : ℕ) → f' ≤ f + 4 → FrontFetched content at size f f'
front_four None at size f f' h = tt
front_four (Some b) at size f f' h = λ p is.
    let start = prefix_start (take size (drop at b)) p is in
    let least = four_or_eight (is_mark (take 4 (take size (drop at b)))) in
    omega (arith, start, least, h)

-- nor are eight of one that begins with the mark
pub front_eight : (content : Option (List ℕ)) (at size : ℕ) (front : List ℕ) (f f' : ℕ) → Lies content at size → 4 ≤ size → Fetched content at 4 front → is_mark front ≡ true → f' ≤ f + 8 → FrontFetched content at size f f'
front_eight None at size front f f' lies long fetched marked h = tt
front_eight (Some b) at size front f f' lies long fetched marked h = λ p is.
    let mark : is_mark (take 4 (take size (drop at b))) ≡ true = ap is_mark (sym (region-front b at size long)) ∙ ap is_mark (sym fetched) ∙ marked in
    let start : p.0 ≡ 8 = prefix_start (take size (drop at b)) p is ∙ ap (λ (x : Bool). if x then 8 else 4) mark in
    omega (arith, start, h)
