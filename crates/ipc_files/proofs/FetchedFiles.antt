-- How many bytes are fetched of blocks that mean batches, and of a footer.
use Rattle.std.proofs.Common.{◌≡◌, ℕ, zero, suc, ◌+◌, ◌-◌, ◌≤◌, List, length, take, drop, Option, Some, None, Ok, IfSome, refl, sym, ◌∙◌, ap, arith, Bool, length-take, length-drop}
use Rattle.std.specs.Prelude.{ℤ, pos, negsuc}
use Rattle.arrow_spec.specs.Readings.{bind, natural, only_if, unless}
use Rattle.arrow_spec.specs.Cells.{Cell}
use Rattle.arrow_spec.specs.Columns.{columns_at, is_chosen, stands_in}
use Rattle.arrow_spec.specs.Flat.{Order, order_by}
use Rattle.arrow_spec.specs.Kinds.{Fields, none, field}
use Rattle.arrow_spec.specs.Counts.{Place, RecordBatch, after, first_place, magnitude}
use Rattle.arrow_spec.specs.Messages.{prefix_of}
use Rattle.arrow_spec.specs.Files.{Asked, FileBlock, Meta, Request, TableBatch, as_asked, batch_of, batch_of_tables, block_body, footer_of, record_batch_of, share, to_read}
use Rattle.arrow_spec.specs.Needed.{columns_looked_at}
use Rattle.arrow_spec.proofs.Projection.{nothing, went}
use Rattle.ipc_io.specs.Outside.{IsSize}
use Rattle.ipc_projection.specs.Below.{stated_of}
use Rattle.ipc_read.specs.Batches.{batch_fetched as buffers_fetched}
use Rattle.ipc_files.specs.Blocks.{asked_under}
use Rattle.ipc_files.specs.FileBlocks.{Fetched, PairedMessage, PrefixIn, block_metadata, block_record, message_metadata}
use Rattle.ipc_files.specs.Fetching.{BlockFetched, FooterFetched, FrontFetched, MessageFetched, MetadataFetched, both_of, message_cost}
use Rattle.ipc_files.specs.Requests.{asked}
use Rattle.ipc_files.proofs.BlockMessages.{batch_by_record}
use Rattle.ipc_files.proofs.Fetching.{answer_or, block_fetched}
use Rattle.ipc_files.proofs.FileFooters.{SaysFooter, end_of}
use Rattle.ipc_files.proofs.ReadBlocks.{rising_read}

-- ── the message of a block ──

record HasPrefix (b : List ℕ) (block : FileBlock) : Type 0 where
  prefix : ℕ × ℕ
  is : prefix_of (block_metadata b block) ≡ Ok prefix

has_prefix : (b : List ℕ) (block : FileBlock) (bytes : List ℕ) → message_metadata b block ≡ Ok bytes → HasPrefix b block
unfolding message_metadata
has_prefix b block bytes is =
    let range = went (only_if _ _) _ bytes is in
    let prefix = went (prefix_of (block_metadata b block)) _ bytes range.rest in
    record { prefix = prefix.got; is = prefix.first }

pub metadata_front : (content : Option (List ℕ)) (block : FileBlock) (at size f f' : ℕ) → at ≡ block.offset → size ≡ block.metadata → FrontFetched content at size f f' → MetadataFetched content block f f'
metadata_front None block at size f f' e n h = tt
metadata_front (Some b) block at size f f' e n h = λ m is.
    let p = has_prefix b block m is in
    let here : prefix_of (take size (drop at b)) ≡ Ok p.prefix = rw (e, n) p.is in
    let cost : message_cost b block ≡ p.prefix.0 + p.prefix.1 = ap both_of p.is in
    omega (arith, h p.prefix here, cost)

pub metadata_whole : (content : Option (List ℕ)) (block : FileBlock) (at size f mid f' : ℕ) (q : ℕ × ℕ) → at ≡ block.offset → size ≡ block.metadata → FrontFetched content at size f mid → PrefixIn content at size (Ok q) → f' ≤ mid + q.1 → MetadataFetched content block f f'
metadata_whole None block at size f mid f' q e n h is more = tt
metadata_whole (Some b) block at size f mid f' q e n h is more = λ m read.
    let p = has_prefix b block m read in
    let here : prefix_of (take size (drop at b)) ≡ Ok p.prefix = rw (e, n) p.is in
    let same : p.prefix ≡ q = cc in
    let cost : message_cost b block ≡ p.prefix.0 + p.prefix.1 = ap both_of p.is in
    let rest : p.prefix.1 ≡ q.1 = ap (λ (x : ℕ × ℕ). x.1) same in
    omega (arith, h p.prefix here, cost, rest, more)

-- of a block whose message stands the metadata does
pub message_fetched : (content : Option (List ℕ)) (block : FileBlock) (f f' : ℕ) → MetadataFetched content block f f' → MessageFetched content block f f'
unfolding block_record
message_fetched None block f f' h = tt
message_fetched (Some b) block f f' h = λ m is. let bytes = went (message_metadata b block) _ m is in h bytes.got bytes.first

-- ── a block ──

pub record BatchParts (b : List ℕ) (block : FileBlock) (left : Option ℕ) (x : TableBatch) : Type 0 where
  pub message : PairedMessage
  pub is : block_record b block ≡ Ok message
  pub rows : ℕ
  pub count : natural message.tables.length ≡ Ok rows
  pub height : x.rows ≡ share left rows

pub batch_parts : (b : List ℕ) (a : Asked) (block : FileBlock) (left : Option ℕ) (x : TableBatch) → batch_of to_read b a block left ≡ Ok x → BatchParts b block left x
unfolding batch_of_tables
batch_parts b a block left x h =
    let e : bind (block_record b block) (λ m. batch_of_tables to_read a m.version m.custom m.tables (block_body b block) left) ≡ Ok x = sym (batch_by_record to_read b a block left) ∙ h in
    let message = went (block_record b block) _ x e in
    let plain = went (unless _ _) _ x message.rest in
    let rows = went (natural message.got.tables.length) _ x plain.rest in
    let negative = went (only_if _ _) _ x rows.rest in
    let sum = went (only_if _ _) _ x negative.rest in
    let columns = went (columns_at _ _ _ _ _ _ _ _) _ x sum.rest in
    let size = went nothing _ x columns.rest in
    let table : List (List Cell) → TableBatch = λ cs. record { rows = share left rows.got; columns = cs; custom = message.got.custom } in
    let whole : table (as_asked a.columns columns.got) ≡ x = ap (answer_or x) size.rest in
    record { message = message.got; is = message.first; rows = rows.got; count = rows.first; height = ap (λ (y : TableBatch). y.rows) (sym whole) }

pub block_front : (content : Option (List ℕ)) (meta : Meta) (r : Request) (block : FileBlock) (left : Option ℕ) (f f' : ℕ) → MessageFetched content block f f' → BlockFetched content meta r block left f f'
block_front None meta r block left f f' h = tt
block_front (Some b) meta r block left f f' h = λ d x is.
    let p = batch_parts b (asked_under b meta d r) block left x is in
    let whole = block_fetched b meta r block left p.message p.rows p.is p.count in
    omega (arith, h p.message p.is, whole.cost)

pub counted : (z : ℤ) (n : ℕ) → natural z ≡ Ok n → magnitude z ≡ n
counted (pos m) n h = cc
counted (negsuc m) n h = cc

pub block_whole : (content : Option (List ℕ)) (meta : Meta) (columns : Option (List ℕ)) (order : Bool) (block : FileBlock) (left : Option ℕ) (m : PairedMessage) (f mid f' : ℕ) → order_by order ≡ meta.schema.order
    → MessageFetched content block f mid → IfSome content (λ b. block_record b block ≡ Ok m) → ((bytes : List ℕ) → f' ≤ mid + buffers_fetched (record_batch_of (order_by order) m.version m.tables bytes) columns meta.schema.fields (share left (magnitude m.tables.length))) → BlockFetched content meta (asked columns left) block left f f'
block_whole None meta columns order block left m f mid f' o h is more = tt
block_whole (Some b) meta columns order block left m f mid f' o h is more = λ d x read.
    let p = batch_parts b (asked_under b meta d (asked columns left)) block left x read in
    let same : m ≡ p.message = cc in
    let rows : magnitude m.tables.length ≡ p.rows = ap (λ (y : PairedMessage). magnitude y.tables.length) same ∙ counted p.message.tables.length p.rows p.count in
    let body = block_body b block in
    let moved : buffers_fetched (record_batch_of (order_by order) m.version m.tables body) columns meta.schema.fields (share left (magnitude m.tables.length)) ≡ buffers_fetched (record_batch_of meta.schema.order p.message.version p.message.tables body) columns meta.schema.fields (share left p.rows)
    = ap (λ (w : Order). buffers_fetched (record_batch_of w m.version m.tables body) columns meta.schema.fields (share left (magnitude m.tables.length))) o
    ∙ ap (λ (n : ℕ). buffers_fetched (record_batch_of meta.schema.order m.version m.tables body) columns meta.schema.fields (share left n)) rows
    ∙ ap (λ (y : PairedMessage). buffers_fetched (record_batch_of meta.schema.order y.version y.tables body) columns meta.schema.fields (share left p.rows)) same in
    let whole = block_fetched b meta (asked columns left) block left p.message p.rows p.is p.count in
    omega (arith, h p.message p.is, more body, moved, whole.cost)

-- ── columns in the order asked ──

same_members : (m : RecordBatch) (asked other : Option (List ℕ)) (fs : Fields) (c : ℕ) (p : Place) → ((c : ℕ) → is_chosen asked c ≡ is_chosen other c) → columns_looked_at m asked fs c p ≡ columns_looked_at m other fs c p
same_members m asked other none c p h = refl
same_members m asked other (field name nullable metadata k others) c p h = rw (h c, same_members m asked other others (suc c) (after m k p) h) refl

members_fetched : (m : RecordBatch) (asked other : Option (List ℕ)) (fs : Fields) (rows : ℕ) → ((c : ℕ) → is_chosen asked c ≡ is_chosen other c) → buffers_fetched m asked fs rows ≡ buffers_fetched m other fs rows
members_fetched m asked other fs zero h = refl
members_fetched m asked other fs (suc n) h = ap (stated_of m) (same_members m asked other fs 0 first_place h)

pub fetched_ordered : (content : Option (List ℕ)) (meta : Meta) (rising cs : List ℕ) (block : FileBlock) (left : Option ℕ) (f f' : ℕ) → ((c : ℕ) → stands_in rising c ≡ stands_in cs c) → BlockFetched content meta (asked (Some rising) left) block left f f' → BlockFetched content meta (asked (Some cs) left) block left f f'
fetched_ordered None meta rising cs block left f f' same h = tt
fetched_ordered (Some b) meta rising cs block left f f' same h = λ d x is.
    let y = rising_read b (asked_under b meta d (asked (Some cs) left)) rising cs block left x same is in
    let p = batch_parts b (asked_under b meta d (asked (Some cs) left)) block left x is in
    let by_rising = block_fetched b meta (asked (Some rising) left) block left p.message p.rows p.is p.count in
    let by_asked = block_fetched b meta (asked (Some cs) left) block left p.message p.rows p.is p.count in
    let moved = members_fetched (record_batch_of meta.schema.order p.message.version p.message.tables (block_body b block)) (Some rising) (Some cs) meta.schema.fields (share left p.rows) same in
    omega (arith, h d y.0 y.1, by_rising.cost, by_asked.cost, moved)

-- ── the footer ──

pub footer_whole : (content : Option (List ℕ)) (size : ℕ) (end text : List ℕ) (n f f' : ℕ) → IsSize content size → 10 ≤ size → Fetched content (size - 10) 10 end → text ≡ end → SaysFooter size text (Ok n) → n + 10 ≤ size → f' ≤ f + 10 + n → FooterFetched content f f'
footer_whole None size end text n f f' s long g t says within h = tt
footer_whole (Some b) size end text n f f' s long g t says within h = λ x is.
    let said : footer_of b ≡ Ok (take n (drop (size - 10 - n) b)) = says b (sym s) (end_of b size end text s long g t) in
    let same : x ≡ take n (drop (size - 10 - n) b) = cc in
    let count : length x ≡ length (take n (drop (size - 10 - n) b)) = ap length same in
    omega (arith, count, length-take n (drop (size - 10 - n) b), length-drop (size - 10 - n) b, s, within, h)
