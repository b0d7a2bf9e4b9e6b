-- Tables of columns of any kinds as they are written to a stream.
use Rattle.std.specs.Prelude.{◌≡◌, ℕ, ◌+◌, ◌^◌, ◌<◌, ◌≤◌, List, [], ◌∷◌, ◌++◌, length, map, None, true, pos}
use Rattle.std.specs.List.{flat_map, AllByRecursion}
use Rattle.arrow_spec.specs.Flat.{little}
use Rattle.arrow_spec.specs.Kinds.{Fields, none, field, Metadata, bare, numbered}
use Rattle.arrow_spec.specs.Counts.{RecordBatch, Place, after, Written}
use Rattle.arrow_spec.specs.Features.{chosen_floats}
use Rattle.arrow_spec.specs.Sent.{SentMessage, message, stream_schema, batch_node, may_be_sent, top_written}
use Rattle.arrow_spec.specs.Framing.{message_bytes, body_bytes}
use Rattle.arrow_spec.specs.Files.{ArrowTable, TableBatch}
use Rattle.arrow_spec.specs.Streams.{end_mark}
use Rattle.arrow_spec.specs.WrittenSchemas.{CustomMayBeWritten, SchemaMayBeWritten}
use Rattle.arrow_spec.specs.Bodies.{From, AreHeld, NodeFits}
use Rattle.ipc_write_laws.specs.Columns.{WrittenColumn, Means}

-- ── batches ──

-- a batch: how many rows it has, its columns, and the pairs of its message
pub record WrittenBatch : Type 0 where
  pub rows : ℕ
  pub columns : List WrittenColumn
  pub custom : Metadata

-- the buffers of columns, one column after another
abbrev pub pieces_of : List WrittenColumn → List (List ℕ)
pieces_of cs = flat_map (λ c. c.pieces) cs

-- the nodes, buffers and view counts of columns, one column after another, are those of a record batch from a place on
pub record ColumnsStandAt (m : RecordBatch) (p : Place) (cs : List WrittenColumn) : Type 0 where
  pub nodes : From m.nodes p.node (flat_map (λ c. c.nodes) cs)
  pub pieces : AreHeld m p.buffer (pieces_of cs)
  pub room : p.buffer + length (pieces_of cs) ≤ length m.buffers
  pub views : From m.variadic p.view (map pos (flat_map (λ c. c.views) cs))

-- what columns are written with
abbrev pub written_of : List WrittenColumn → Written
written_of cs = record { nodes = flat_map (λ c. c.nodes) cs; lengths = map length (pieces_of cs); views = flat_map (λ c. c.views) cs }

-- the body of columns
abbrev pub body_for : List WrittenColumn → List ℕ
body_for cs = body_bytes 0 (pieces_of cs)

-- the message of a batch
abbrev pub written_batch : WrittenBatch → SentMessage
written_batch x = message 3 (batch_node x.rows (written_of x.columns)) (length (body_for x.columns)) x.custom

-- the batch as a table has it
abbrev pub table_batch : WrittenBatch → TableBatch
table_batch x = record { rows = x.rows; columns = map (λ c. c.cells) x.columns; custom = x.custom }

-- each column is of its field's kind
abbrev pub AreOf : Fields → List WrittenColumn → Type 0
AreOf none [] = Unit {0}
AreOf none (c ∷ cs) = ⊥
AreOf (field name nullable metadata kind others) [] = ⊥
AreOf (field name nullable metadata kind others) (c ∷ cs) = (kind ≡ c.kind) × AreOf others cs

-- what is to be written of each column that was read at its place is what the column is written with
abbrev pub AreSent : RecordBatch → ℕ → Fields → List WrittenColumn → Place → Type 0
AreSent m rows none [] p = Unit {0}
AreSent m rows none (c ∷ cs) p = ⊥
AreSent m rows (field name nullable metadata kind others) [] p = ⊥
AreSent m rows (field name nullable metadata kind others) (c ∷ cs) p =
    (top_written m kind p rows ≡ written_of (c ∷ [])) × AreSent m rows others cs (after m kind p)

-- a batch that may be written: columns of the fields' kinds that mean their cells, and a message of which no part is too large
pub record MayBeWritten (fs : Fields) (x : WrittenBatch) : Type 0 where
  pub kinds : AreOf fs x.columns
  pub good : AllByRecursion (λ c. Means little [] x.rows c) x.columns
  pub few : x.rows < 2 ^ 63
  pub nodes : AllByRecursion NodeFits (flat_map (λ c. c.nodes) x.columns)
  pub views : AllByRecursion (λ n. n < 2 ^ 63) (flat_map (λ c. c.views) x.columns)
  pub custom : CustomMayBeWritten x.custom
  pub size : may_be_sent (written_batch x) ≡ true

-- ── the stream ──

-- a table without dictionaries that may be written
pub record TableMayBeWritten (fs : Fields) (pairs custom : Metadata) (xs : List WrittenBatch) : Type 0 where
  pub schema : SchemaMayBeWritten fs pairs
  pub message : CustomMayBeWritten custom
  pub plain : numbered fs 0 ≡ fs
  pub no_ids : bare fs ≡ fs
  pub readable : chosen_floats None fs 0 ≡ []
  pub size : may_be_sent (stream_schema fs pairs custom) ≡ true
  pub batches : AllByRecursion (λ x. MayBeWritten fs x) xs

-- the same whether or not its unions state their ids
pub record StreamMayBeWritten (fs : Fields) (pairs custom : Metadata) (xs : List WrittenBatch) : Type 0 where
  pub schema : SchemaMayBeWritten fs pairs
  pub message : CustomMayBeWritten custom
  pub plain : numbered fs 0 ≡ fs
  pub readable : chosen_floats None fs 0 ≡ []
  pub size : may_be_sent (stream_schema fs pairs custom) ≡ true
  pub batches : AllByRecursion (λ x. MayBeWritten fs x) xs

-- the bytes of a batch: its message with its body
abbrev pub batch_bytes : WrittenBatch → List ℕ
batch_bytes x = message_bytes (written_batch x).node (body_for x.columns)

-- what a writer has put after some batches, with these pairs of the schema and of its message
abbrev pub written_so_far : Fields → Metadata → Metadata → List WrittenBatch → List ℕ
written_so_far fs pairs custom xs = message_bytes (stream_schema fs pairs custom).node [] ++ flat_map batch_bytes xs

-- what it has put once the stream is ended
abbrev pub written_stream : Fields → Metadata → Metadata → List WrittenBatch → List ℕ
written_stream fs pairs custom xs = written_so_far fs pairs custom xs ++ end_mark

-- the table
abbrev pub written_table : Fields → Metadata → Metadata → List WrittenBatch → ArrowTable
written_table fs pairs custom xs = record { metadata = pairs; custom = custom; fields = fs; batches = map table_batch xs }

-- the table whose unions all state their ids
abbrev pub bare_table : Fields → Metadata → Metadata → List WrittenBatch → ArrowTable
bare_table fs pairs custom xs = written_table (bare fs) pairs custom xs
