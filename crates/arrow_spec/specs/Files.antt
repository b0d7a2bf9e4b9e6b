-- What a file means: its table, or the refusals at the first place where one holds. (Arrow Columnar Format, "IPC File Format".)
use Rattle.std.specs.Prelude.{ℕ, zero, suc, ◌+◌, ◌-◌, ◌*◌, List, [], ◌∷◌, ◌++◌, length, take, drop, min, Bool, true, false, Option, Some, None, Result, Ok, nat_le, nat_lt, nat_eq, not, ◌&&◌, ◌||◌, ℤ, pos, negsuc, sum_by, map, slice_get}
use Rattle.std.specs.Int.{w32, w64}
use Rattle.std.specs.Str.{bytes_eq}
use Rattle.arrow_spec.specs.declared.error.FlatError.{FlatError}
use Rattle.arrow_spec.specs.declared.error.IpcError.{IpcError}
use Rattle.arrow_spec.specs.declared.error.IpcError.TheVariants.{OutOfSpec, Unsupported, Projection, TooLarge}
use Rattle.arrow_spec.specs.declared.error.Feature.TheVariants as features
use Rattle.arrow_spec.specs.declared.error.OutOfSpecKind.TheVariants as kinds
use Rattle.arrow_spec.specs.declared.message.IpcBuffer.{IpcBuffer}
use Rattle.arrow_spec.specs.declared.message.MetadataVersion.{MetadataVersion}
use Rattle.arrow_spec.specs.Readings.{bind, ◌>>=◌, Reading, refuse, damaged, unless, only_if, each, free_of, required, natural, as_kind, is_absent}
use Rattle.arrow_spec.specs.Flat.{Vector, Order, root, signed_at, slot_table, slot_vector}
use Rattle.arrow_spec.specs.Kinds.{Fields, none, field, Metadata, bare, width, uses_in, values_under}
use Rattle.arrow_spec.specs.Cells.{Cell}
use Rattle.arrow_spec.specs.Schema.{Schema, schema_of, empty_vector}
use Rattle.arrow_spec.specs.Messages.{Message, prefix_of, message_of, version_of, message_pairs, footer_pairs, batch_at, BatchHeader, DictionaryBatch, dictionary_at}
use Rattle.arrow_spec.specs.Counts.{RecordBatch, first_place, magnitude, is_negative}
use Rattle.arrow_spec.specs.Arrays.{Dictionaries, HeldDictionary, found}
use Rattle.arrow_spec.specs.Columns.{columns_at, stands_in}
use Rattle.arrow_spec.specs.Features.{float_faults, chosen_floats}
use Rattle.arrow_spec.specs.Sent.{SentMessage, stream_schema, batch_message, written, dictionary_messages, may_be_sent, all_may_be_sent}

-- the columns that are asked for, and how many rows at most
pub record Request : Type 0 where
  pub columns : Option (List ℕ)
  pub limit : Option ℕ

-- all columns and all rows
abbrev pub «all» : Request
«all» = record { columns = None; limit = None }

-- where a message stands in a file: its place, the length of its prefix and metadata, the length of its body (File.fbs, Block)
pub record FileBlock : Type 0 where
  pub offset : ℕ
  pub metadata : ℕ
  pub body : ℕ

-- what a footer says (File.fbs, Footer)
pub record Meta : Type 0 where
  pub schema : Schema
  pub blocks : List FileBlock
  pub dictionaries : List FileBlock

-- a batch of a table: its rows, of each column a list of cells, and the pairs of its message
pub record TableBatch : Type 0 where
  pub rows : ℕ
  pub columns : List (List Cell)
  pub custom : Metadata

-- a table: the pairs of its schema, those of its footer (in a stream those of the schema's message), its fields without dictionary ids, and its batches
pub record ArrowTable : Type 0 where
  pub metadata : Metadata
  pub custom : Metadata
  pub fields : Fields
  pub batches : List TableBatch

-- n bytes at the end
abbrev pub last : ℕ → List ℕ → List ℕ
last n b = drop (length b - n) b

-- the four bytes FEA1
abbrev pub feather_v1 : List ℕ
feather_v1 = 70 ∷ 69 ∷ 65 ∷ 49 ∷ []

-- the six bytes ARROW1
abbrev pub arrow_1 : List ℕ
arrow_1 = 65 ∷ 82 ∷ 82 ∷ 79 ∷ 87 ∷ 49 ∷ []

-- a footer length that is not negative
abbrev pub footer_length : ℤ → Reading ℕ
footer_length (pos n) = Ok n
footer_length (negsuc n) = damaged kinds.NegativeFooterLength

-- the footer of a file
unfoldable pub footer_of : List ℕ → Reading (List ℕ)
footer_of b = do
  size ← only_if (nat_le 10 (length b)) kinds.Truncated
  feather ← unless (not (bytes_eq (last 4 b) feather_v1)) (Unsupported features.FeatherV1)
  trailer ← only_if (bytes_eq (last 6 b) arrow_1) kinds.InvalidFooter
  n ← as_kind (λ f. kinds.Truncated) (signed_at w32 b (length b - 10)) >>= footer_length
  whole ← only_if (nat_le (n + 10) (length b)) kinds.Truncated
  Ok (take n (drop (length b - 10 - n) b))

-- a block without negative numbers
abbrev pub block_of : ℤ → ℤ → ℤ → Reading FileBlock
block_of offset metadata body = do
  o ← natural offset
  m ← natural metadata
  n ← natural body
  Ok (record { offset = o; metadata = m; body = n })

-- the block at a place of a footer
abbrev pub block_at : (FlatError → IpcError) → List ℕ → ℕ → Reading FileBlock
block_at fault b p = do
  offset ← part_of (signed_at w64 b p)
  metadata ← part_of (signed_at w32 b (p + 8))
  body ← part_of (signed_at w64 b (p + 16))
  block_of offset metadata body
  where
    part_of : {A : Type 0} → Result A FlatError → Reading A
    part_of r = Rattle.arrow_spec.specs.Readings.in_terms_of (λ f. fault f ∷ []) r

-- the blocks of a vector
abbrev pub blocks_at : (FlatError → IpcError) → List ℕ → Vector → Reading (List FileBlock)
blocks_at fault b v = each (λ i. block_at fault b (v.first + 24 * i)) 0 v.count

-- what a footer's bytes say
unfoldable pub meta_in : List ℕ → Reading Meta
meta_in f = do
  t ← as_kind kinds.InvalidFlatbufferFooter (root f)
  record_vector ← as_kind kinds.InvalidFlatbufferRecordBatches (slot_vector 24 f t 3) >>= required (OutOfSpec kinds.MissingRecordBatches)
  blocks ← blocks_at (λ e. OutOfSpec (kinds.InvalidFlatbufferRecordBatches e)) f record_vector
  dictionary_vector ← as_kind kinds.InvalidFlatbufferDictionaries (slot_vector 24 f t 2)
  dictionaries ← blocks_at (λ e. OutOfSpec (kinds.InvalidFlatbufferDictionaries e)) f (empty_vector dictionary_vector)
  schema_table ← as_kind kinds.InvalidFlatbufferSchema (slot_table f t 1) >>= required (OutOfSpec kinds.MissingSchema)
  schema ← schema_of f schema_table
  Ok (record { schema = schema; blocks = blocks; dictionaries = dictionaries })

-- what the footer of a file says
unfoldable pub meta_of : List ℕ → Reading Meta
meta_of b = footer_of b >>= λ f. meta_in f

-- the pairs of a file's footer
unfoldable pub custom_of : List ℕ → Reading Metadata
custom_of b = footer_of b >>= λ f. footer_pairs f

-- the lesser of a batch's length and what is left of the limit
abbrev pub share : Option ℕ → ℕ → ℕ
share None n = n
share (Some left) n = min n left

-- what a batch leaves of the limit
abbrev pub what_is_left : Option ℕ → ℕ → Option ℕ
what_is_left None n = None
what_is_left (Some left) n = Some (left - n)

-- the stated lengths of buffers together
abbrev pub lengths_sum : List IpcBuffer → ℕ
lengths_sum xs = sum_by (λ x. magnitude x.length) xs

-- no length is negative
abbrev pub none_negative : List IpcBuffer → Bool
none_negative [] = true
none_negative (x ∷ xs) = not (is_negative x.length) && none_negative xs

-- A file is read for what it means, or to be sent on as a stream: then a message may also be too large.
pub data Purpose : Type 0 where
  to_read : Purpose
  to_send : Purpose

-- a place that counts where a file is read to be sent
abbrev pub if_sent : Purpose → Bool → Reading (Unit {0})
if_sent to_read ok = Ok tt
if_sent to_send ok = unless ok TooLarge

-- the cells of a column, or none
abbrev pub column_or_none : Option (List Cell) → List Cell
column_or_none None = []
column_or_none (Some x) = x

-- the columns in the order asked, of columns in the file's order
abbrev pub as_asked : Option (List ℕ) → List (List Cell) → List (List Cell)
as_asked None columns = columns
as_asked (Some cs) columns = map (λ c. column_or_none (slice_get columns c)) cs

-- each column asked for is one, and stands there once
abbrev pub wrong_columns : ℕ → List ℕ → List ℕ → Reading (Unit {0})
wrong_columns count earlier [] = Ok tt
wrong_columns count earlier (c ∷ cs) =
    unless (nat_lt c count && not (stands_in earlier c)) (Projection c)
    >>= λ right. wrong_columns count (c ∷ earlier) cs

-- the columns asked for, if any are
abbrev pub columns_right : Option (List ℕ) → ℕ → Reading (Unit {0})
columns_right None count = Ok tt
columns_right (Some cs) count = wrong_columns count [] cs

-- the c-th field before others
abbrev pub with_field_at : Fields → ℕ → Fields → Fields
with_field_at none c others = others
with_field_at (field name nullable metadata k fs) zero others = field name nullable metadata k others
with_field_at (field name nullable metadata k fs) (suc c) others = with_field_at fs c others

-- the fields in the order asked
abbrev pub fields_asked : Fields → List ℕ → Fields
fields_asked fs [] = none
fields_asked fs (c ∷ cs) = with_field_at fs c (fields_asked fs cs)

-- the same where all may be asked for
abbrev pub fields_as_asked : Option (List ℕ) → Fields → Fields
fields_as_asked None fs = fs
fields_as_asked (Some cs) fs = fields_asked fs cs

-- what is to be read of a batch: the fields, the columns asked for, the dictionaries, and how long its buffers may be together
pub record Asked : Type 0 where
  pub order : Order
  pub fields : Fields
  pub columns : Option (List ℕ)
  pub dictionaries : Dictionaries
  pub most : ℕ

-- all columns of some fields, where no dictionary is held
abbrev pub all_asked : Order → Fields → ℕ → Asked
all_asked order fs most = record { order = order; fields = fs; columns = None; dictionaries = []; most = most }

-- a record batch by its byte order, its version, its tables and its body
abbrev pub record_batch_of : Order → MetadataVersion → BatchHeader → List ℕ → RecordBatch
record_batch_of order version tables body =
    record { order = order; version = version; nodes = tables.nodes; buffers = tables.buffers; variadic = tables.variadic; body = body }

-- a batch by its message's version and pairs, its tables and its body, where rows are left to be read
unfoldable pub batch_of_tables : Purpose → Asked → MetadataVersion → Metadata → BatchHeader → List ℕ → Option ℕ → Reading TableBatch
batch_of_tables purpose a version custom tables body left = do
  compression ← unless (not tables.compressed) (Unsupported features.Compression)
  rows ← natural tables.length
  negative ← only_if (none_negative tables.buffers) kinds.UnexpectedNegativeInteger
  sum ← only_if (nat_le (lengths_sum tables.buffers) a.most) (kinds.InvalidBuffersLength (lengths_sum tables.buffers) a.most)
  columns ← columns_at (record_batch_of a.order version tables body) a.dictionaries a.columns a.fields 0 first_place rows (share left rows)
  size ← if_sent purpose (may_be_sent (batch_message (record_batch_of a.order version tables body) a.columns a.fields (share left rows) custom))
  Ok (record { rows = share left rows; columns = as_asked a.columns columns; custom = custom })

-- a block's metadata and its header's table; the header has to have this tag
unfoldable pub block_message : List ℕ → FileBlock → ℕ → Reading (List ℕ × Message)
block_message b block tag = do
  range ← only_if (nat_le (block.offset + block.metadata + block.body) (length b)) kinds.BlockRange
  prefix ← prefix_of (take block.metadata (drop block.offset b))
  m ← message_of (take prefix.1 (drop (block.offset + prefix.0) b)) (λ n. nat_eq n tag)
  Ok (take prefix.1 (drop (block.offset + prefix.0) b), m)

-- a block's body
abbrev pub block_body : List ℕ → FileBlock → List ℕ
block_body b block = take block.body (drop (block.offset + block.metadata) b)

-- a record block
unfoldable pub batch_of : Purpose → List ℕ → Asked → FileBlock → Option ℕ → Reading TableBatch
batch_of purpose b a block left = do
  m ← block_message b block 3
  tables ← batch_at m.0 m.1.header
  version ← version_of m.0 m.1
  custom ← message_pairs m.0
  batch_of_tables purpose a version custom tables (block_body b block) left

-- the dictionaries are written with the first batch, and each message may be too large
abbrev pub dictionaries_sent : Bool → Purpose → Asked → Reading (Unit {0})
dictionaries_sent true purpose a = if_sent purpose (all_may_be_sent (dictionary_messages a.dictionaries (fields_as_asked a.columns a.fields)))
dictionaries_sent false purpose a = Ok tt

-- record blocks in order, each cut to what the ones before leave of the limit
unfoldable pub batches_of : Purpose → List ℕ → Asked → Bool → List FileBlock → Option ℕ → Reading (List TableBatch)
batches_of purpose b a is_first [] left = Ok []
batches_of purpose b a is_first (block ∷ blocks) left = do
  first ← batch_of purpose b a block left
  dictionaries ← dictionaries_sent is_first purpose a
  others ← batches_of purpose b a false blocks (what_is_left left first.rows)
  Ok (first ∷ others)

-- a dictionary's values are the one column of their batch
abbrev pub first_column : List (List Cell) → List Cell
first_column [] = []
first_column (x ∷ xs) = x

-- The values of a dictionary message, read under the dictionaries before it. Its buffers may be so long together. Where none may be replaced, a dictionary that is no delta stands before all others of its id.
unfoldable pub dictionary_of : Schema → Dictionaries → ℕ → DictionaryBatch → MetadataVersion → List ℕ → Bool → Reading HeldDictionary
dictionary_of s d most x version body may_replace = do
  kind ← required (OutOfSpec (kinds.InvalidId x.id)) (values_under x.id (uses_in s.fields))
  new ← only_if (x.is_delta || may_replace || is_absent (found d x.id)) kinds.DuplicateDictionary
  floats ← free_of (float_faults kind)
  values ← batch_of_tables to_read (record {
    order = s.order;
    fields = field [] true [] kind none;
    columns = None;
    dictionaries = d;
    most = most;
  }) version [] x.values body None
  Ok (record {
    id = x.id;
    is_delta = x.is_delta;
    cells = first_column values.columns;
    written = written (record_batch_of s.order version x.values body) kind first_place values.rows 0 values.rows;
  })

-- a file's dictionaries in order: of each id at most one that is no delta, and it is the first
unfoldable pub dictionaries_of : List ℕ → Meta → Dictionaries → List FileBlock → Reading Dictionaries
dictionaries_of b meta d [] = Ok d
dictionaries_of b meta d (block ∷ blocks) = do
  m ← block_message b block 2
  x ← dictionary_at m.0 m.1.header
  version ← version_of m.0 m.1
  values ← dictionary_of meta.schema d (length b) x version (block_body b block) false
  dictionaries_of b meta (values ∷ d) blocks

-- the dictionaries count only where there is a block
abbrev pub dictionaries_read : List FileBlock → List FileBlock → List FileBlock
dictionaries_read [] dictionaries = []
dictionaries_read (block ∷ blocks) dictionaries = dictionaries

-- all blocks, or the first j
abbrev pub taken : Option ℕ → List FileBlock → List FileBlock
taken None blocks = blocks
taken (Some j) blocks = take j blocks

-- what a file means under a request, in all its blocks or the first j
unfoldable pub file_reading : Purpose → List ℕ → Request → Option ℕ → Reading ArrowTable
file_reading purpose b r j = do
  meta ← meta_of b
  custom ← custom_of b
  columns ← columns_right r.columns (width meta.schema.fields)
  floats ← free_of (chosen_floats r.columns meta.schema.fields 0)
  size ← if_sent purpose (may_be_sent (stream_schema (fields_as_asked r.columns meta.schema.fields) meta.schema.metadata custom))
  dictionaries ← dictionaries_of b meta [] (dictionaries_read (taken j meta.blocks) meta.dictionaries)
  let asked : Asked = record { order = meta.schema.order; fields = meta.schema.fields; columns = r.columns; dictionaries = dictionaries; most = length b }
  batches ← batches_of purpose b asked true (taken j meta.blocks) r.limit
  Ok (record { metadata = meta.schema.metadata; custom = custom; fields = bare (fields_as_asked r.columns meta.schema.fields); batches = batches })

-- ── the messages of a stream that means what a file means ──

-- a batch's message, and its rows
unfoldable pub batch_sent : List ℕ → Asked → FileBlock → Option ℕ → Reading (SentMessage × ℕ)
batch_sent b a block left = do
  m ← block_message b block 3
  tables ← batch_at m.0 m.1.header
  version ← version_of m.0 m.1
  custom ← message_pairs m.0
  rows ← natural tables.length
  Ok (batch_message (record_batch_of a.order version tables (block_body b block)) a.columns a.fields (share left rows) custom, share left rows)

-- the messages of record blocks
unfoldable pub batches_sent : List ℕ → Asked → List FileBlock → Option ℕ → Reading (List SentMessage)
batches_sent b a [] left = Ok []
batches_sent b a (block ∷ blocks) left = do
  first ← batch_sent b a block left
  others ← batches_sent b a blocks (what_is_left left first.1)
  Ok (first.0 ∷ others)

-- the dictionaries are sent before the first batch
abbrev pub dictionaries_before : List SentMessage → List FileBlock → List SentMessage
dictionaries_before messages [] = []
dictionaries_before messages (block ∷ blocks) = messages

-- the schema, the dictionaries, and the batches
unfoldable pub sent : List ℕ → Request → Option ℕ → Reading (List SentMessage)
sent b r j = do
  meta ← meta_of b
  custom ← custom_of b
  let fields = fields_as_asked r.columns meta.schema.fields
  dictionaries ← dictionaries_of b meta [] (dictionaries_read (taken j meta.blocks) meta.dictionaries)
  let asked : Asked = record { order = meta.schema.order; fields = meta.schema.fields; columns = r.columns; dictionaries = dictionaries; most = length b }
  batches ← batches_sent b asked (taken j meta.blocks) r.limit
  Ok (stream_schema fields meta.schema.metadata custom ∷ dictionaries_before (dictionary_messages dictionaries fields) (taken j meta.blocks) ++ batches)

-- ── tables of columns and of rows ──

-- the columns asked for, rows and pairs kept
abbrev pub project : ArrowTable → Option (List ℕ) → ArrowTable
project t columns = record {
  metadata = t.metadata;
  custom = t.custom;
  fields = fields_as_asked columns t.fields;
  batches = map (λ x. record { rows = x.rows; columns = as_asked columns x.columns; custom = x.custom }) t.batches;
}

-- each batch cut to its share of the limit
abbrev pub cut_batches : List TableBatch → Option ℕ → List TableBatch
cut_batches [] left = []
cut_batches (x ∷ xs) left = record { rows = share left x.rows; columns = map (λ cells. take (share left x.rows) cells) x.columns; custom = x.custom }
    ∷ cut_batches xs (what_is_left left (share left x.rows))

-- each batch cut, the rest kept
abbrev pub cut : ArrowTable → Option ℕ → ArrowTable
cut t limit = record { metadata = t.metadata; custom = t.custom; fields = t.fields; batches = cut_batches t.batches limit }
