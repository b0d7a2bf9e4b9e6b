-- Files whose fields are of any kinds, as they are read under a request to be sent as a stream.
use Rattle.std.specs.Prelude.{◌≡◌, ℕ, suc, List, [], ◌∷◌, ◌++◌, length, map, slice_get, Option, Some, None, Ok, true, FitsSigned}
use Rattle.std.specs.Int.{w64}
use Rattle.std.specs.List.{AllByRecursion}
use Rattle.arrow_spec.specs.declared.error.IpcError.{IpcError}
use Rattle.arrow_spec.specs.Readings.{Refuses, meaning, refusals}
use Rattle.arrow_spec.specs.Flat.{little}
use Rattle.arrow_spec.specs.Kinds.{Fields, Metadata, bare, numbered, width}
use Rattle.arrow_spec.specs.Schema.{Schema}
use Rattle.arrow_spec.specs.Counts.{RecordBatch, first_place}
use Rattle.arrow_spec.specs.Arrays.{Dictionaries}
use Rattle.arrow_spec.specs.Features.{chosen_floats}
use Rattle.arrow_spec.specs.Messages.{BatchHeader}
use Rattle.arrow_spec.specs.Sent.{columns_written, may_be_sent, stream_schema, written_as_asked}
use Rattle.arrow_spec.specs.Files.{ArrowTable, Asked, FileBlock, Meta, Request, TableBatch, batch_of, batches_of, columns_right, custom_of, dictionaries_of, dictionaries_read, fields_as_asked, file_reading, meta_of, to_read, to_send, what_is_left}
use Rattle.arrow_spec.specs.Streams.{closed, stream_table, unended}
use Rattle.arrow_spec.specs.WrittenSchemas.{SchemaMayBeWritten}
use Rattle.arrow_spec.specs.Bodies.{BufferFits, NodeFits}
use Rattle.ipc_write_laws.specs.Columns.{Means}
use Rattle.ipc_write_laws.specs.Streams.{AreOf, WrittenBatch, table_batch, written_of}
use Rattle.ipc_write_laws.specs.Messages.{BatchMayBeWritten, IsKnown, Known, WrittenMessage, batch, none_known, values, with_messages}
use Rattle.laws_transcode.specs.Sending.{AllAreKnown, Columns, dictionary_values}

-- ── what is asked for ──

-- items are those at some numbers of a list, in their order
abbrev pub ArePicked : {A : Type 0} → List A → List ℕ → List A → Type 0
ArePicked all [] [] = Unit {0}
ArePicked all [] (x ∷ xs) = ⊥
ArePicked all (c ∷ cs) [] = ⊥
ArePicked all (c ∷ cs) (x ∷ xs) = (slice_get all c ≡ Some x) × ArePicked all cs xs

-- the same where all may be asked for
abbrev pub AreAsked : {A : Type 0} → List A → Option (List ℕ) → List A → Type 0
AreAsked all None xs = xs ≡ all
AreAsked all (Some cs) xs = ArePicked all cs xs

-- the fields that are asked for, in their order
abbrev pub asked_fields : Asked → Fields
asked_fields a = fields_as_asked a.columns a.fields

-- the schema of the columns that are asked for
abbrev pub asked_schema : Schema → Option (List ℕ) → Schema
asked_schema s columns = record { order = s.order; fields = fields_as_asked columns s.fields; metadata = s.metadata }

-- the same with other columns
abbrev pub with_columns : Option (List ℕ) → Asked → Asked
with_columns columns a = record { order = a.order; fields = a.fields; columns = columns; dictionaries = a.dictionaries; most = a.most }

-- what a request asks of a file, with the dictionaries that were read of it
abbrev pub asked_of : List ℕ → Meta → Request → Dictionaries → Asked
asked_of b meta r d = record { order = meta.schema.order; fields = meta.schema.fields; columns = r.columns; dictionaries = d; most = length b }

-- the fields of the stream: the ids of their dictionaries count from 0 in preorder
abbrev pub stream_fields : Asked → Fields
stream_fields a = numbered (asked_fields a) 0

-- ── the schema ──

-- a schema that a stream takes, in whatever byte order: of kinds that can be read, which may be written
pub record IsSendable (s : Schema) : Type 0 where
  pub readable : chosen_floats None s.fields 0 ≡ []
  pub may : SchemaMayBeWritten s.fields s.metadata

-- a table of some fields
abbrev pub table_of : Fields → Metadata → Metadata → List TableBatch → ArrowTable
table_of fs pairs custom batches = record { metadata = pairs; custom = custom; fields = fs; batches = batches }

-- a file whose schema under a request may be sent with these pairs of its footer
pub record IsSentFile (b : List ℕ) (r : Request) (meta : Meta) (custom : Metadata) : Type 0 where
  pub read : meta_of b ≡ Ok meta
  pub pairs : custom_of b ≡ Ok custom
  pub columns : columns_right r.columns (width meta.schema.fields) ≡ Ok tt
  pub readable : chosen_floats r.columns meta.schema.fields 0 ≡ []
  pub schema : IsSendable (asked_schema meta.schema r.columns)
  pub small : may_be_sent (stream_schema (fields_as_asked r.columns meta.schema.fields) meta.schema.metadata custom) ≡ true

-- the dictionaries that are read of it before its first block
pub record HasRead (b : List ℕ) (meta : Meta) (d : Dictionaries) : Type 0 where
  pub read : dictionaries_of b meta [] (dictionaries_read meta.blocks meta.dictionaries) ≡ Ok d

-- ── batches ──

-- the numbers of a batch's tables are signed and have 64 bits (Message.fbs, RecordBatch)
pub record HeaderFits (tables : BatchHeader) : Type 0 where
  pub rows : FitsSigned w64 tables.length
  pub nodes : AllByRecursion NodeFits tables.nodes
  pub buffers : AllByRecursion BufferFits tables.buffers
  pub views : AllByRecursion (λ x. FitsSigned w64 x) tables.variadic

-- columns that were read of a record batch: they are of the kinds of the stream's fields, mean their cells where the dictionaries are known as they were read,
-- and are written as is to be written of the record batch
pub record IsReadBatch (a : Asked) (m : RecordBatch) (x : WrittenBatch) : Type 0 where
  pub kinds : AreOf (stream_fields a) x.columns
  pub good : (c : Known) (e : Dictionaries) → AllAreKnown a.dictionaries (asked_fields a) 0 c → IsKnown c e → AllByRecursion (λ k. Means little e x.rows k) x.columns
  pub written : written_as_asked a.columns (columns_written m a.columns a.fields 0 first_place x.rows) ≡ written_of x.columns

-- ── batches, as a table has them ──

-- what they leave of a limit
abbrev pub left_of : Option ℕ → List TableBatch → Option ℕ
left_of left [] = left
left_of left (x ∷ xs) = left_of (what_is_left left x.rows) xs

-- a block that is read, where rows are left to be read, and sent
pub record BatchSent (b : List ℕ) (a : Asked) (block : FileBlock) (left : Option ℕ) (x : TableBatch) : Type 0 where
  pub read : batch_of to_read b a block left ≡ Ok x
  pub sent : batch_of to_send b a block left ≡ Ok x

-- some blocks were read and sent
pub record BatchesSent (b : List ℕ) (a : Asked) (blocks : List FileBlock) (left : Option ℕ) (xs : List TableBatch) : Type 0 where
  pub read : batches_of to_read b a true blocks left ≡ Ok xs
  pub sent : batches_of to_send b a true blocks left ≡ Ok xs

-- the table of some batches under a request
abbrev pub table_asked : Metadata → Meta → Request → List TableBatch → ArrowTable
table_asked custom meta r xs = table_of (bare (fields_as_asked r.columns meta.schema.fields)) meta.schema.metadata custom xs

-- ── streams ──

-- one whole stream, closed, that means what the file means
pub record IsStreamOf (b : List ℕ) (r : Request) (x : List ℕ) (table : ArrowTable) : Type 0 where
  pub is_closed : closed x
  pub stream : stream_table x None ≡ Some table
  pub file : meaning (file_reading to_read b r None) ≡ Some table

-- an unended stream, with nothing behind its messages, that means the file's schema and first batches
pub record IsFrontOf (b : List ℕ) (r : Request) (x : List ℕ) (table : ArrowTable) : Type 0 where
  pub not_ended : unended x
  pub stream : stream_table x None ≡ Some table
  pub file : meaning (file_reading to_read b r (Some (length table.batches))) ≡ Some table

-- the file's first n blocks and the one behind them are refused so where they are to be sent; a device's fault and want of memory come anywhere
abbrev pub StopsBehind : List ℕ → Request → ℕ → IpcError → Type 0
StopsBehind b r n e = Refuses e (refusals (file_reading to_send b r (Some (suc n))))
