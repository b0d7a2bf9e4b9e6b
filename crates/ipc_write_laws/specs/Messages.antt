-- Streams of dictionaries' values and of batches, one message after another. (Arrow Columnar Format, "IPC Streaming Format", "Dictionary Messages".)
use Rattle.std.specs.Prelude.{FitsSigned, ◌≡◌, ℕ, ◌^◌, ◌<◌, List, [], ◌∷◌, ◌++◌, Bool, Option, Some, None, true, if◌then◌else◌, ℤ}
use Rattle.std.specs.Int.{w64}
use Rattle.std.specs.List.{flat_map, AllByRecursion}
use Rattle.arrow_spec.specs.Flat.{little}
use Rattle.arrow_spec.specs.Kinds.{Fields, Metadata, bare, same, uses_in, values_under}
use Rattle.arrow_spec.specs.Cells.{Cell}
use Rattle.arrow_spec.specs.Arrays.{Dictionaries, cells_before, found}
use Rattle.arrow_spec.specs.Features.{chosen_floats, float_faults}
use Rattle.arrow_spec.specs.Layout.{Slots, table, child, no_more}
use Rattle.arrow_spec.specs.Counts.{Written}
use Rattle.arrow_spec.specs.Sent.{SentMessage, batch_node, body_of, flag, may_be_sent, message, node_rows, schema_message, unless_zero}
use Rattle.arrow_spec.specs.Framing.{message_bytes}
use Rattle.arrow_spec.specs.Files.{ArrowTable, TableBatch}
use Rattle.arrow_spec.specs.Streams.{end_mark}
use Rattle.arrow_spec.specs.WrittenSchemas.{CustomMayBeWritten, IdsMayBeWritten, SchemaMayBeWritten}
use Rattle.arrow_spec.specs.Bodies.{NodeFits}
use Rattle.ipc_write_laws.specs.Columns.{WrittenColumn, Means}
use Rattle.ipc_write_laws.specs.Streams.{AreOf, WrittenBatch, batch_bytes, body_for, table_batch, written_batch, written_of}

-- ── messages ──

-- some values of a dictionary under an id, which stand behind those before them, or in their place: a column of so many rows
pub record WrittenValues : Type 0 where
  pub id : ℤ
  pub is_delta : Bool
  pub rows : ℕ
  pub column : WrittenColumn

pub data WrittenMessage : Type 0 where
  values : WrittenValues → WrittenMessage
  batch : WrittenBatch → WrittenMessage

-- the slots of a dictionary batch under any id; under a natural number they are the `dictionary_slots` of what is sent (Message.fbs, DictionaryBatch)
abbrev pub values_slots : ℤ → Bool → Written → Slots
values_slots id is_delta w = unless_zero w64 id (child (batch_node (node_rows w.nodes) w) (flag is_delta no_more))

-- the message of what is written
abbrev pub message_of_values : ℤ → Bool → Written → SentMessage
message_of_values id is_delta w = message 2 (table (values_slots id is_delta w)) (body_of 0 w.lengths) []

-- the message of values
abbrev pub values_message : WrittenValues → SentMessage
values_message x = message_of_values x.id x.is_delta (written_of (x.column ∷ []))

-- its bytes: the message with its body
abbrev pub values_bytes : WrittenValues → List ℕ
values_bytes x = message_bytes (values_message x).node (body_for (x.column ∷ []))

abbrev pub bytes_of : WrittenMessage → List ℕ
bytes_of (values x) = values_bytes x
bytes_of (batch x) = batch_bytes x

-- the batch of a message, if it is one
abbrev pub batch_in : WrittenMessage → List TableBatch
batch_in (values x) = []
batch_in (batch x) = table_batch x ∷ []

-- ── what is known behind messages ──

-- the cells under each id
abbrev pub Known : Type 0
Known = ℤ → Option (List Cell)

abbrev pub none_known : Known
none_known id = None

-- with some values more
abbrev pub with_values : WrittenValues → Known → Known
with_values x c id = if same x.id id then Some (cells_before x.is_delta (c id) ++ x.column.cells) else c id

abbrev pub with_message : WrittenMessage → Known → Known
with_message (values x) c = with_values x c
with_message (batch x) c = c

abbrev pub with_messages : List WrittenMessage → Known → Known
with_messages [] c = c
with_messages (x ∷ xs) c = with_messages xs (with_message x c)

-- dictionaries that were read, whose cells are these
abbrev pub IsKnown : Known → Dictionaries → Type 0
IsKnown c d = (id : ℤ) → found d id ≡ c id

-- ── which may be written ──

-- values of the kind that some fields have under the id, which mean their cells where so much is known, in a message of which no part is too large
pub record ValuesMayBeWritten (fs : Fields) (c : Known) (x : WrittenValues) : Type 0 where
  pub kind : values_under x.id (uses_in fs) ≡ Some x.column.kind
  pub readable : float_faults x.column.kind ≡ []
  pub good : (d : Dictionaries) → IsKnown c d → Means little d x.rows x.column
  pub rows : node_rows x.column.nodes ≡ x.rows
  pub small : FitsSigned w64 x.id
  pub few : x.rows < 2 ^ 63
  pub nodes : AllByRecursion NodeFits x.column.nodes
  pub views : AllByRecursion (λ n. n < 2 ^ 63) x.column.views
  pub size : may_be_sent (values_message x) ≡ true

-- a batch of columns of the fields' kinds, which mean their cells where so much is known, in a message of which no part is too large
pub record BatchMayBeWritten (fs : Fields) (c : Known) (x : WrittenBatch) : Type 0 where
  pub kinds : AreOf fs x.columns
  pub good : (d : Dictionaries) → IsKnown c d → AllByRecursion (λ k. Means little d x.rows k) x.columns
  pub few : x.rows < 2 ^ 63
  pub nodes : AllByRecursion NodeFits (flat_map (λ k. k.nodes) x.columns)
  pub views : AllByRecursion (λ n. n < 2 ^ 63) (flat_map (λ k. k.views) x.columns)
  pub custom : CustomMayBeWritten x.custom
  pub size : may_be_sent (written_batch x) ≡ true

abbrev pub MessageMayBeWritten : Fields → Known → WrittenMessage → Type 0
MessageMayBeWritten fs c (values x) = ValuesMayBeWritten fs c x
MessageMayBeWritten fs c (batch x) = BatchMayBeWritten fs c x

-- each of some messages, behind those before it
abbrev pub AllMayBeWritten : Fields → Known → List WrittenMessage → Type 0
AllMayBeWritten fs c [] = Unit {0}
AllMayBeWritten fs c (x ∷ xs) = MessageMayBeWritten fs c x × AllMayBeWritten fs (with_message x c) xs

-- ── the stream ──

-- a schema that may be written with its own ids, and messages that may be written behind it
pub record MessagesMayBeWritten (fs : Fields) (pairs custom : Metadata) (xs : List WrittenMessage) : Type 0 where
  pub schema : SchemaMayBeWritten fs pairs
  pub message : CustomMayBeWritten custom
  pub ids : IdsMayBeWritten fs
  pub readable : chosen_floats None fs 0 ≡ []
  pub size : may_be_sent (schema_message little fs pairs custom) ≡ true
  pub messages : AllMayBeWritten fs none_known xs

-- what a writer has put after some messages
abbrev pub stream_so_far : Fields → Metadata → Metadata → List WrittenMessage → List ℕ
stream_so_far fs pairs custom xs = message_bytes (schema_message little fs pairs custom).node [] ++ flat_map bytes_of xs

-- what it has put once the stream is ended
abbrev pub ended_stream : Fields → Metadata → Metadata → List WrittenMessage → List ℕ
ended_stream fs pairs custom xs = stream_so_far fs pairs custom xs ++ end_mark

-- the table
abbrev pub table_of_messages : Fields → Metadata → Metadata → List WrittenMessage → ArrowTable
table_of_messages fs pairs custom xs = record { metadata = pairs; custom = custom; fields = bare fs; batches = flat_map batch_in xs }
