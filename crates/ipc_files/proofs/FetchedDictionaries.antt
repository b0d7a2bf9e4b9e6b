-- How many bytes are fetched of dictionary blocks.
use Rattle.std.proofs.Common.{◌≡◌, ℕ, ◌+◌, ◌≤◌, List, [], ◌∷◌, take, drop, Bool, Option, Some, None, Ok, ℤ, arith, append-nil, sym, ◌∙◌, ap, subst}
use Rattle.std.proofs.lemmas.List.Sums.{sum_by-cons}
use Rattle.arrow_spec.specs.declared.error.IpcError.{IpcError}
use Rattle.arrow_spec.specs.declared.error.IpcError.TheVariants.{OutOfSpec}
use Rattle.arrow_spec.specs.declared.error.OutOfSpecKind.TheVariants.{InvalidId}
use Rattle.arrow_spec.specs.Readings.{free_of, meaning, natural, only_if, required, unless}
use Rattle.arrow_spec.specs.Arrays.{Dictionaries, HeldDictionary}
use Rattle.arrow_spec.specs.Counts.{RecordBatch, first_place, magnitude}
use Rattle.arrow_spec.specs.declared.message.Block.{Block}
use Rattle.arrow_spec.specs.declared.message.MetadataVersion.{MetadataVersion}
use Rattle.arrow_spec.specs.Files.{Asked, FileBlock, Meta, Request, TableBatch, batch_of_tables, block_body, block_message, dictionaries_of, dictionary_of, record_batch_of, to_read}
use Rattle.arrow_spec.specs.Flat.{Order, order_by}
use Rattle.arrow_spec.specs.Kinds.{Kind, uses_in, values_under}
use Rattle.arrow_spec.specs.Messages.{BatchHeader, dictionary_at, message_of, prefix_of, version_of}
use Rattle.arrow_spec.specs.Needed.{Range, columns_looked_at, lengths, looked_at, message_range, or_nothing, ranges}
use Rattle.arrow_spec.proofs.Projection.{on, went}
use Rattle.laws_files.specs.Fetched.{dictionary_fetched, for_rows}
use Rattle.ipc_schema.specs.Headers.{DictionaryTables, dictionary_message, dictionary_message_of}
use Rattle.ipc_schema.specs.Views.{header_of}
use Rattle.ipc_schema.specs.declared.message.DictionaryMessage.{DictionaryMessage}
use Rattle.ipc_projection.specs.Below.{Held, values_of_id}
use Rattle.ipc_read.specs.Batches.{batch_fetched as buffers_fetched}
use Rattle.ipc_read.specs.DictionaryBatches.{dictionary_fetched as values_fetched, one_column}
use Rattle.ipc_files.specs.FileBlocks.{block_metadata, file_block, message_metadata}
use Rattle.ipc_files.proofs.GivenBlocks.{given_reads}
use Rattle.ipc_files.specs.FileDictionaries.{DictionariesFetched, DictionaryFetched, DictionaryIn, FirstFetched, block_dictionary, block_values, dictionaries_cost, dictionary_cost}
use Rattle.ipc_files.specs.Fetching.{BlockFetched, MetadataFetched, both_of, message_cost}
use Rattle.ipc_files.proofs.FetchedFiles.{counted}
use Rattle.ipc_files.proofs.Fetching.{answer_or, stated_rows}
use Rattle.ipc_files.proofs.FileDictionaries.{ReadSoFar, values_first}

-- ── a block ──

-- the buffers of a column alone are those of its kind
alone : (m : RecordBatch) (k : Kind) → columns_looked_at m None (one_column k) 0 first_place ≡ looked_at m k first_place
alone m k = append-nil (looked_at m k first_place)

-- what a block costs whose message was read
block_costs : (b : List ℕ) (meta : Meta) (block : FileBlock) (m : DictionaryTables) (k : Kind) (rows : ℕ) → block_dictionary b block ≡ Ok m → values_under m.dictionary.id (uses_in meta.schema.fields) ≡ Some k → natural m.dictionary.values.length ≡ Ok rows
    → dictionary_cost b meta block ≡ message_cost b block + buffers_fetched (record_batch_of meta.schema.order m.version m.dictionary.values (block_body b block)) None (one_column k) rows
unfolding block_dictionary message_metadata dictionary_message dictionary_fetched block_message
block_costs b meta block m k rows is has count =
    let metadata = went (message_metadata b block) _ m is in
    let range = went (only_if _ _) _ metadata.got metadata.first in
    let prefix = went (prefix_of (block_metadata b block)) _ metadata.got range.rest in
    let bytes = take prefix.got.1 (drop (block.offset + prefix.got.0) b) in
    let bytes_are : bytes ≡ metadata.got = ap (answer_or bytes) prefix.rest in
    let whole : dictionary_message bytes ≡ Ok m = subst (λ x. dictionary_message x ≡ Ok m) (sym bytes_are) metadata.rest in
    let message = went (message_of bytes _) _ m whole in
    let tables = went (dictionary_at bytes message.got.header) _ m message.rest in
    let version = went (version_of bytes message.got) _ m tables.rest in
    let read : DictionaryTables = record { dictionary = tables.got; version = version.got } in
    let same : read ≡ m = ap (answer_or read) version.rest in
    let source = record_batch_of meta.schema.order version.got tables.got.values (block_body b block) in
    let front : Range = record { place = block.offset; length = prefix.got.0 + prefix.got.1 } in
    let buffers = for_rows rows (ranges source (block.offset + block.metadata) (looked_at source k first_place)) in
    let used : required (OutOfSpec (InvalidId tables.got.id)) (values_under tables.got.id (uses_in meta.schema.fields)) ≡ Ok k
    = ap (λ (x : DictionaryTables). required (OutOfSpec (InvalidId x.dictionary.id)) (values_under x.dictionary.id (uses_in meta.schema.fields))) same ∙ ap (required (OutOfSpec (InvalidId m.dictionary.id))) has in
    let e : dictionary_fetched b meta block ≡ Ok (front ∷ buffers)
    = on (block_message b block 2) _ (bytes, message.got) (on _ _ _ range.first ∙ on _ _ _ prefix.first ∙ on _ _ _ message.first)
    ∙ on _ _ _ tables.first ∙ on _ _ _ version.first ∙ on (message_range b block) _ front (on _ _ _ prefix.first) ∙ on _ _ k used ∙ on (natural tables.got.values.length) _ rows (ap (λ (x : DictionaryTables). natural x.dictionary.values.length) same ∙ count) in
    let cost : dictionary_cost b meta block ≡ lengths (front ∷ buffers) = ap (λ r. lengths (or_nothing (meaning r))) e in
    let message_is : message_cost b block ≡ prefix.got.0 + prefix.got.1 = ap both_of prefix.first in
    let rest : lengths buffers ≡ buffers_fetched source None (one_column k) rows
    = ap (λ is. lengths (for_rows rows (ranges source (block.offset + block.metadata) is))) (sym (alone source k)) ∙ stated_rows source (block.offset + block.metadata) None (one_column k) rows in
    let sum = sum_by-cons (λ (y : Range). y.length) front buffers in
    let source_is : buffers_fetched source None (one_column k) rows ≡ buffers_fetched (record_batch_of meta.schema.order m.version m.dictionary.values (block_body b block)) None (one_column k) rows
    = ap (λ (x : DictionaryTables). buffers_fetched (record_batch_of meta.schema.order x.version x.dictionary.values (block_body b block)) None (one_column k) rows) same in
    omega (arith, cost, message_is, rest, sum, source_is)

-- a block whose values can be read
record ValuesParts (b : List ℕ) (meta : Meta) (block : FileBlock) : Type 0 where
  message : DictionaryTables
  is : block_dictionary b block ≡ Ok message
  metadata : List ℕ
  stands : message_metadata b block ≡ Ok metadata
  kind : Kind
  has : values_under message.dictionary.id (uses_in meta.schema.fields) ≡ Some kind
  rows : ℕ
  count : natural message.dictionary.values.length ≡ Ok rows

required_some : (e : IpcError) (o : Option Kind) (k : Kind) → required e o ≡ Ok k → o ≡ Some k
required_some e None k h = cc
required_some e (Some l) k h = cc

-- the rows of values that can be read
record HasRows (tables : BatchHeader) : Type 0 where
  rows : ℕ
  count : natural tables.length ≡ Ok rows

has_rows : (a : Asked) (v : MetadataVersion) (tables : BatchHeader) (body : List ℕ) (x : TableBatch) → batch_of_tables to_read a v [] tables body None ≡ Ok x → HasRows tables
unfolding batch_of_tables
has_rows a v tables body x h =
    let plain = went (unless _ _) _ x h in
    let rows = went (natural tables.length) _ x plain.rest in
    record { rows = rows.got; count = rows.first }

values_parts : (b : List ℕ) (meta : Meta) (d : Dictionaries) (block : FileBlock) (x : HeldDictionary) → block_values b meta d block ≡ Ok x → ValuesParts b meta block
unfolding block_values block_dictionary dictionary_of
values_parts b meta d block x h =
    let message = went (block_dictionary b block) _ x h in
    let m = message.got in
    let metadata = went (message_metadata b block) _ m message.first in
    let kind = went (required (OutOfSpec (InvalidId m.dictionary.id)) (values_under m.dictionary.id (uses_in meta.schema.fields))) _ x message.rest in
    let new = went (only_if _ _) _ x kind.rest in
    let floats = went (free_of _) _ x new.rest in
    let values = went (batch_of_tables to_read _ _ _ _ _ _) _ x floats.rest in
    let rows = has_rows _ _ m.dictionary.values _ values.got values.first in
    record { message = m; is = message.first; metadata = metadata.got; stands = metadata.first; kind = kind.got; has = required_some (OutOfSpec (InvalidId m.dictionary.id)) (values_under m.dictionary.id (uses_in meta.schema.fields)) kind.got kind.first; rows = rows.rows; count = rows.count }

-- where its message alone was fetched
pub dictionary_front : (content : Option (List ℕ)) (meta : Meta) (block : FileBlock) (f f' : ℕ) → MetadataFetched content block f f' → DictionaryFetched content meta block f f'
dictionary_front None meta block f f' h = tt
dictionary_front (Some b) meta block f f' h = λ d x is.
    let p = values_parts b meta d block x is in
    let whole = block_costs b meta block p.message p.kind p.rows p.is p.has p.count in
    omega (arith, h p.metadata p.stands, whole)

pub dictionary_whole : (content : Option (List ℕ)) (meta : Meta) (order : Bool) (x : Block) (m : DictionaryMessage) (id : ℤ) (f mid f' : ℕ) → id ≡ m.id → order_by order ≡ meta.schema.order → MetadataFetched content (file_block x) f mid → DictionaryIn content x (Ok m)
    → ((bytes : List ℕ) → f' ≤ mid + values_fetched (record_batch_of (order_by order) m.version (header_of m.header) bytes) (values_of_id meta.schema.fields id) (magnitude m.header.length)) → DictionaryFetched content meta (file_block x) f f'
dictionary_whole None meta order given m id f mid f' one o h is more = tt
dictionary_whole (Some b) meta order given m id f mid f' one o h is more = λ d x read.
    let block = file_block given in
    let p = values_parts b meta d block x read in
    let whole = block_costs b meta block p.message p.kind p.rows p.is p.has p.count in
    let here : block_dictionary b block ≡ Ok (dictionary_message_of m) = (given_reads given (block_dictionary b) (dictionary_message_of m) is).read in
    let same : dictionary_message_of m ≡ p.message = let there = p.is in cc in
    let body = block_body b block in
    let kind : values_of_id meta.schema.fields id ≡ Some p.kind = ap (values_of_id meta.schema.fields) one ∙ ap (λ (y : DictionaryTables). values_under y.dictionary.id (uses_in meta.schema.fields)) same ∙ p.has in
    let rows : magnitude m.header.length ≡ p.rows = ap (λ (y : DictionaryTables). magnitude y.dictionary.values.length) same ∙ counted p.message.dictionary.values.length p.rows p.count in
    let moved : values_fetched (record_batch_of (order_by order) m.version (header_of m.header) body) (values_of_id meta.schema.fields id) (magnitude m.header.length)
    ≡ buffers_fetched (record_batch_of meta.schema.order p.message.version p.message.dictionary.values body) None (one_column p.kind) p.rows
    = ap (λ o. values_fetched (record_batch_of (order_by order) m.version (header_of m.header) body) o (magnitude m.header.length)) kind
    ∙ ap (λ n. buffers_fetched (record_batch_of (order_by order) m.version (header_of m.header) body) None (one_column p.kind) n) rows
    ∙ ap (λ (w : Order). buffers_fetched (record_batch_of w m.version (header_of m.header) body) None (one_column p.kind) p.rows) o
    ∙ ap (λ (y : DictionaryTables). buffers_fetched (record_batch_of meta.schema.order y.version y.dictionary.values body) None (one_column p.kind) p.rows) same in
    omega (arith, h p.metadata p.stands, more body, moved, whole)

-- ── blocks, one after another ──

-- the first blocks were fetched, where all can be read
abbrev pub CostSoFar : Option (List ℕ) → Meta → List FileBlock → ℕ → ℕ → Type 0
CostSoFar None meta rest f f' = Unit {0}
CostSoFar (Some b) meta rest f f' = (d : Dictionaries) → dictionaries_of b meta [] meta.dictionaries ≡ Ok d → f' + dictionaries_cost b meta rest ≤ f + dictionaries_cost b meta meta.dictionaries

pub none_fetched : (content : Option (List ℕ)) (meta : Meta) (f : ℕ) → CostSoFar content meta meta.dictionaries f f
none_fetched None meta f = tt
none_fetched (Some b) meta f = λ d is. omega arith

-- one block more
pub one_fetched : (content after : Option (List ℕ)) (meta : Meta) (block : FileBlock) (rest : List FileBlock) (h : Held) (f mid f' : ℕ) → after ≡ content → ReadSoFar content meta (block ∷ rest) h → CostSoFar content meta (block ∷ rest) f mid → DictionaryFetched after meta block mid f' → CostSoFar content meta rest f f'
one_fetched None after meta block rest h f mid f' same read cost one = tt
one_fetched (Some b) after meta block rest h f mid f' same read cost one = λ d is.
    let here : DictionaryFetched (Some b) meta block mid f' = subst (λ o. DictionaryFetched o meta block mid f') same one in
    let values = went (block_values b meta read.0 block) (λ x. dictionaries_of b meta (x ∷ read.0) rest) d (sym (read.1 ∙ values_first b meta read.0 block rest) ∙ is) in
    let grown = here read.0 values.got values.first in
    omega (arith, cost d is, grown, sum_by-cons (dictionary_cost b meta) block rest)

-- no more than all cost
pub at_most_all : (content : Option (List ℕ)) (meta : Meta) (rest : List FileBlock) (f f' : ℕ) → CostSoFar content meta rest f f' → DictionariesFetched content meta f f'
at_most_all None meta rest f f' cost = tt
at_most_all (Some b) meta rest f f' cost = λ d is. omega (arith, cost d is)

-- ── the dictionaries and a block ──

pub first_fetched : (content after : Option (List ℕ)) (meta : Meta) (r : Request) (block : FileBlock) (left : Option ℕ) (f mid f' : ℕ) → after ≡ content → DictionariesFetched content meta f mid → BlockFetched after meta r block left mid f' → FirstFetched content meta r block left f f'
first_fetched None after meta r block left f mid f' same held one = tt
first_fetched (Some b) after meta r block left f mid f' same held one = λ d x read is.
    let here : BlockFetched (Some b) meta r block left mid f' = subst (λ o. BlockFetched o meta r block left mid f') same one in
    omega (arith, held d read, here d x is)

-- where the block was not read
pub first_stopped : (content : Option (List ℕ)) (meta : Meta) (r : Request) (block : FileBlock) (left : Option ℕ) (f f' : ℕ) → DictionariesFetched content meta f f' → FirstFetched content meta r block left f f'
first_stopped None meta r block left f f' held = tt
first_stopped (Some b) meta r block left f f' held = λ d x read is. omega (arith, held d read)

-- or the dictionaries were not
pub nothing_read : (content : Option (List ℕ)) (meta : Meta) (f f' : ℕ) → f' ≡ f → DictionariesFetched content meta f f'
nothing_read None meta f f' same = tt
nothing_read (Some b) meta f f' same = λ d read. omega (arith, same)
