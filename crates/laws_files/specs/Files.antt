-- Files of dictionaries' values and of batches, one message after another, between a front and a footer. (Arrow Columnar Format, "IPC File Format"; File.fbs, Block.)
use Rattle.std.specs.Prelude.{◌≡◌, ℕ, ◌+◌, ◌^◌, ◌<◌, ◌≤◌, take, List, [], ◌∷◌, ◌++◌, length, Some, None, Ok, Bool, false, ℤ}
use Rattle.std.specs.List.{flat_map, AllByRecursion}
use Rattle.arrow_spec.specs.Flat.{little}
use Rattle.arrow_spec.specs.Kinds.{Fields, Metadata, bare}
use Rattle.arrow_spec.specs.Cells.{Cell}
use Rattle.arrow_spec.specs.Schema.{Schema}
use Rattle.arrow_spec.specs.Arrays.{Dictionaries, found}
use Rattle.arrow_spec.specs.Features.{chosen_floats}
use Rattle.arrow_spec.specs.Layout as layout
use Rattle.arrow_spec.specs.Messages.{BatchHeader, DictionaryBatch, Message, batch_at, dictionary_at}
use Rattle.arrow_spec.specs.Layout.{Node, u32}
use Rattle.arrow_spec.specs.Framing.{message_bytes, padded_size}
use Rattle.arrow_spec.specs.Sent.{SentMessage, schema_message}
use Rattle.arrow_spec.specs.Files.{ArrowTable, Asked, FileBlock, Meta, TableBatch, arrow_1, batches_of, block_message, custom_of, dictionaries_of, lengths_sum, meta_of, to_read}
use Rattle.arrow_spec.specs.Footers.{footer_node}
use Rattle.arrow_spec.specs.Streams.{end_mark}
use Rattle.arrow_spec.specs.WrittenSchemas.{CustomMayBeWritten, IdsMayBeWritten, SchemaMayBeWritten}
use Rattle.laws_files.specs.FileLaws.{BlockFits}
use Rattle.ipc_write_laws.specs.Streams.{written_batch}
use Rattle.ipc_write_laws.specs.Messages.{BatchMayBeWritten, IsKnown, Known, ValuesMayBeWritten, WrittenMessage, WrittenValues, batch, bytes_of, values, values_message, with_messages, with_values}

-- ── bytes ──

-- ARROW1 and two zeros
abbrev pub file_front : List ℕ
file_front = arrow_1 ++ 0 ∷ 0 ∷ []

-- the front, and the message of a schema, which nothing is read of
abbrev pub file_start : Fields → List ℕ
file_start fs = file_front ++ message_bytes (schema_message little fs [] []).node []

-- the end mark, the flatbuffer of a footer, how many bytes this has, and ARROW1
abbrev pub file_end : List ℕ → List ℕ
file_end footer = end_mark ++ footer ++ u32 (length footer) ++ arrow_1

-- ── where messages stand ──

-- how many bytes a message has before its body: the mark, the length and the padded metadata
abbrev pub front_size : SentMessage → ℕ
front_size m = 8 + padded_size m.node

-- the block of a message at a place
abbrev pub block_of : ℕ → SentMessage → FileBlock
block_of at m = record { offset = at; metadata = front_size m; body = m.body }

-- the place behind it
abbrev pub behind : ℕ → SentMessage → ℕ
behind at m = at + (front_size m + m.body)

-- of messages that stand one behind another from a place on, the blocks of dictionaries' values
abbrev pub values_blocks : ℕ → List WrittenMessage → List FileBlock
values_blocks at [] = []
values_blocks at (values x ∷ xs) = block_of at (values_message x) ∷ values_blocks (behind at (values_message x)) xs
values_blocks at (batch x ∷ xs) = values_blocks (behind at (written_batch x)) xs

-- and those of batches
abbrev pub batch_blocks : ℕ → List WrittenMessage → List FileBlock
batch_blocks at [] = []
batch_blocks at (values x ∷ xs) = batch_blocks (behind at (values_message x)) xs
batch_blocks at (batch x ∷ xs) = block_of at (written_batch x) ∷ batch_blocks (behind at (written_batch x)) xs

-- ── what stands before them ──

-- the front of a file up to a place, and what is told of it: the blocks of dictionaries and of batches in it
pub record Begun : Type 0 where
  pub bytes : List ℕ
  pub dictionaries : List FileBlock
  pub records : List FileBlock

-- a file of a schema in which nothing but the schema's message stands yet
abbrev pub only_begun : Fields → Begun
only_begun fs = record { bytes = file_start fs; dictionaries = []; records = [] }

-- with messages behind it
abbrev pub with_more : Begun → List WrittenMessage → Begun
with_more x ms = record {
  bytes = x.bytes ++ flat_map bytes_of ms;
  dictionaries = x.dictionaries ++ values_blocks (length x.bytes) ms;
  records = x.records ++ batch_blocks (length x.bytes) ms;
}

-- the footer of a file that ends here: its schema with its pairs, its own pairs, and its blocks
abbrev pub footer_of : Fields → Metadata → Metadata → Begun → Node
footer_of fs pairs custom x = footer_node fs pairs custom x.dictionaries x.records

-- the file
abbrev pub ended : Fields → Metadata → Metadata → Begun → List ℕ
ended fs pairs custom x = x.bytes ++ file_end (layout.layout (footer_of fs pairs custom x))

-- ── which may be written ──

-- what is known goes on from what was: under each id that was known stand the cells that did, first
abbrev pub GoesOn : Known → Known → Type 0
GoesOn c c' = (id : ℤ) (cells : List Cell) → c id ≡ Some cells → (more : List Cell) × (c' id ≡ Some (cells ++ more))

-- values may stand in a file behind what is known: they are a delta, or nothing is known under their id
abbrev pub IsDeltaOrFirst : Known → WrittenValues → Type 0
IsDeltaOrFirst c x = x.is_delta ≡ false → c x.id ≡ None

-- so of the values among some messages, each behind those before it
abbrev pub AreDeltasOrFirst : Known → List WrittenMessage → Type 0
AreDeltasOrFirst c [] = Unit {0}
AreDeltasOrFirst c (values x ∷ xs) = IsDeltaOrFirst c x × AreDeltasOrFirst (with_values x c) xs
AreDeltasOrFirst c (batch x ∷ xs) = AreDeltasOrFirst c xs

-- the values among some messages may be written, and stand there, each behind those before it
abbrev pub AllValuesMayBeWritten : Fields → Known → List WrittenMessage → Type 0
AllValuesMayBeWritten fs c [] = Unit {0}
AllValuesMayBeWritten fs c (values x ∷ xs) = ValuesMayBeWritten fs c x × IsDeltaOrFirst c x × AllValuesMayBeWritten fs (with_values x c) xs
AllValuesMayBeWritten fs c (batch x ∷ xs) = AllValuesMayBeWritten fs c xs

-- the batches among some messages may be written, each where so much is known
abbrev pub AllBatchesMayBeWritten : Fields → Known → List WrittenMessage → Type 0
AllBatchesMayBeWritten fs c [] = Unit {0}
AllBatchesMayBeWritten fs c (values x ∷ xs) = AllBatchesMayBeWritten fs c xs
AllBatchesMayBeWritten fs c (batch x ∷ xs) = BatchMayBeWritten fs c x × AllBatchesMayBeWritten fs c xs

-- messages that may be put into a file where so much is known: all their values are read before their batches
pub record MayBeAdded (fs : Fields) (c : Known) (ms : List WrittenMessage) : Type 0 where
  pub values : AllValuesMayBeWritten fs c ms
  pub batches : AllBatchesMayBeWritten fs (with_messages ms c) ms

-- a schema that may be written with its own ids into the footer of a file that ends here, whose numbers fit their fields
pub record MayBeEnded (fs : Fields) (pairs custom : Metadata) (x : Begun) : Type 0 where
  pub schema : SchemaMayBeWritten fs pairs
  pub ids : IdsMayBeWritten fs
  pub own : CustomMayBeWritten custom
  pub readable : chosen_floats None fs 0 ≡ []
  pub dictionaries : AllByRecursion BlockFits x.dictionaries
  pub records : AllByRecursion BlockFits x.records
  pub size : layout.size (footer_of fs pairs custom x) < 2 ^ 31

-- ── what it means ──

-- a schema as it is read
abbrev pub read_schema : Fields → Metadata → Schema
read_schema fs pairs = record { order = little; fields = fs; metadata = pairs }

-- a footer as it is read
abbrev pub read_meta : Fields → Metadata → List FileBlock → List FileBlock → Meta
read_meta fs pairs records dictionaries = record { schema = read_schema fs pairs; blocks = records; dictionaries = dictionaries }

-- what is asked of a batch of such a schema: all its columns
abbrev pub all_of : Fields → Dictionaries → ℕ → Asked
all_of fs d most = record { order = little; fields = fs; columns = None; dictionaries = d; most = most }

-- The front of a file of some fields whose dictionaries are known so and whose batches are these, whatever stands behind it, and whatever pairs its schema has. Where more of its dictionaries is known they are the same.
pub record FrontMeans (fs : Fields) (x : Begun) (c : Known) (batches : List TableBatch) : Type 0 where
  pub held : List ℕ → Dictionaries
  pub dictionaries_read : (rest : List ℕ) (pairs : Metadata) (records dictionaries : List FileBlock)
      → dictionaries_of (x.bytes ++ rest) (read_meta fs pairs records dictionaries) [] x.dictionaries ≡ Ok (held rest)
  pub known : (rest : List ℕ) → IsKnown c (held rest)
  pub batches_read : (rest : List ℕ) (d : Dictionaries) (is_first : Bool) → GoesOn c (λ id. found d id)
      → batches_of to_read (x.bytes ++ rest) (all_of fs d (length (x.bytes ++ rest))) is_first x.records None ≡ Ok batches

-- the table of a file
abbrev pub table_of : Fields → Metadata → Metadata → List TableBatch → ArrowTable
table_of fs pairs custom batches = record { metadata = pairs; custom = custom; fields = bare fs; batches = batches }

-- ── files that go on ──

-- the place behind a block
abbrev pub block_end : FileBlock → ℕ
block_end k = k.offset + k.metadata + k.body

-- a dictionary's block stands before a place, and its buffers are together no longer than all bytes there
pub record DictionaryBefore (b : List ℕ) (place : ℕ) (k : FileBlock) : Type 0 where
  pub inside : block_end k ≤ place
  pub lengths : (m : List ℕ × Message) (x : DictionaryBatch) → block_message b k 2 ≡ Ok m → dictionary_at m.0 m.1.header ≡ Ok x
      → lengths_sum x.values.buffers ≤ place

-- and so a batch's
pub record BatchBefore (b : List ℕ) (place : ℕ) (k : FileBlock) : Type 0 where
  pub inside : block_end k ≤ place
  pub lengths : (m : List ℕ × Message) (tables : BatchHeader) → block_message b k 3 ≡ Ok m → batch_at m.0 m.1.header ≡ Ok tables
      → lengths_sum tables.buffers ≤ place

-- a little-endian file of a schema, with at least one batch, that may be cut at a place: all its blocks stand before it
pub record MayBeCut (b : List ℕ) (fs : Fields) (pairs : Metadata) (dictionaries records : List FileBlock) (place : ℕ) : Type 0 where
  pub footer : meta_of b ≡ Ok (read_meta fs pairs records dictionaries)
  pub some : 0 < length records
  pub inside : place ≤ length b
  pub dictionaries_before : AllByRecursion (DictionaryBefore b place) dictionaries
  pub records_before : AllByRecursion (BatchBefore b place) records

-- such a file up to the place, and some bytes behind it
abbrev pub cut_at : List ℕ → ℕ → List ℕ → List FileBlock → List FileBlock → Begun
cut_at b place gap dictionaries records = record { bytes = take place b ++ gap; dictionaries = dictionaries; records = records }

-- a table followed by some batches
abbrev pub followed_by : ArrowTable → List TableBatch → ArrowTable
followed_by t batches = record { metadata = t.metadata; custom = t.custom; fields = t.fields; batches = t.batches ++ batches }

-- what such a file's front means, cut there, by the dictionaries that are read of the file
pub record CutMeans (b : List ℕ) (t : ArrowTable) (fs : Fields) (pairs : Metadata) (dictionaries records : List FileBlock) (x : Begun) : Type 0 where
  pub held : Dictionaries
  pub read : dictionaries_of b (read_meta fs pairs records dictionaries) [] dictionaries ≡ Ok held
  pub means : FrontMeans fs x (λ id. found held id) t.batches
  pub metadata : t.metadata ≡ pairs
  pub own : custom_of b ≡ Ok t.custom
  pub fields : t.fields ≡ bare fs
