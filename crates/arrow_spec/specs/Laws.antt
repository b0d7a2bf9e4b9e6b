-- What follows from the definitions. Each statement is the contract of a public function without a body (src/laws.rt).
use Rattle.std.specs.Prelude.{◌≡◌, pos, false, FitsSigned, ℕ, ◌<◌, List, Some, nat_eq, ◌^◌, ◌≤◌, [], ◌++◌, length, drop, get_or, Bool, true, Ok}
use Rattle.std.specs.Prelude.{map as each_of}
use Rattle.std.specs.List.{AllByRecursion}
use Rattle.std.specs.Int.{w64}
use Rattle.arrow_spec.specs.declared.message.MetadataVersion.TheVariants.{V5}
use Rattle.arrow_spec.specs.Kinds.{Fields, Metadata, numbered, uses_in}
use Rattle.arrow_spec.specs.Regular.{regular, representable}
use Rattle.arrow_spec.specs.Layout as layout
use Rattle.arrow_spec.specs.Layout.{Slots, size, table}
use Rattle.arrow_spec.specs.Held.{Fits, HoldsSlots, Rooted}
use Rattle.arrow_spec.specs.Flat.{Order, Table, little}
use Rattle.arrow_spec.specs.Schema.{Schema, schema_of, uses_agree}
use Rattle.arrow_spec.specs.Counts.{Written}
use Rattle.arrow_spec.specs.Arrays.{Dictionaries}
use Rattle.arrow_spec.specs.Messages.{BatchHeader, Message, batch_at, dictionary_at, message_of, message_pairs, version_of}
use Rattle.arrow_spec.specs.Sent.{batch_node, batch_slots, body_of, dictionary_slots, message, message_slots, node_rows, placed, schema_message, schema_slots, stream_schema}
use Rattle.arrow_spec.specs.Streams.{Framed, Reader, body_in, next_message, schema_message_of, stream_batches}
use Rattle.arrow_spec.specs.Framing.{message_bytes, padded_size}
use Rattle.arrow_spec.specs.WrittenSchemas.{AreIds, Ascend, CustomMayBeWritten, HaveNoReserved, HaveTexts, IdsMayBeWritten, SchemaMayBeWritten, own_fields}

-- ── flatbuffers and messages ──

-- A table of at most 16 slots a table, whose numbers fit, is read back slot by slot.
abbrev pub LayoutReadsBack : Type 0
LayoutReadsBack = (s : Slots) (rest : List ℕ) → Fits (table s) → size (table s) < 2 ^ 31 → Rooted s (layout.layout (table s) ++ rest)

-- the next message of bytes: of a tag, with such slots in its header, such a body and pairs, and such bytes behind it
pub record IsNextMessage (taken : ℕ → Bool) (tag : ℕ) (s : Slots) (body : List ℕ) (custom : Metadata) (rest b : List ℕ) : Type 0 where
  pub framed : Framed
  pub found : Message
  pub next : next_message b ≡ Ok (Some framed)
  pub read : message_of framed.metadata taken ≡ Ok found
  pub version : version_of framed.metadata found ≡ Ok V5
  pub tag_is : found.tag ≡ tag
  pub body_is : body_in framed found ≡ Ok body
  pub rest_is : drop found.body framed.behind ≡ rest
  pub header : HoldsSlots s framed.metadata found.header 0
  pub custom_is : message_pairs framed.metadata ≡ Ok custom

-- A message that is framed with its body is the next one, whatever stands behind it.
abbrev pub FramedMessageIsNext : Type 0
FramedMessageIsNext = (taken : ℕ → Bool) (tag : ℕ) (s : Slots) (body : List ℕ) (custom : Metadata) (rest : List ℕ) → 0 < tag → tag ≤ 5 → taken tag ≡ true
    → length body < 2 ^ 63 → CustomMayBeWritten custom → Fits (table (message_slots tag (table s) (length body) custom))
    → padded_size (table (message_slots tag (table s) (length body) custom)) < 2 ^ 31
    → IsNextMessage taken tag s body custom rest (message_bytes (table (message_slots tag (table s) (length body) custom)) body ++ rest)

-- A schema's message is the next one, and is read as the schema, in either byte order.
abbrev pub SchemaMessageReadsBack : Type 0
SchemaMessageReadsBack = (order : Order) (fs : Fields) (pairs custom : Metadata) (rest : List ℕ) → SchemaMayBeWritten fs pairs → IdsMayBeWritten fs
    → CustomMayBeWritten custom → padded_size (schema_message order fs pairs custom).node < 2 ^ 31
    → (next : IsNextMessage (λ tag. nat_eq tag 1) 1 (schema_slots order fs pairs) [] custom rest
    (message_bytes (schema_message order fs pairs custom).node [] ++ rest))
    × (schema_of next.framed.metadata next.found.header ≡ Ok (record { order = order; fields = fs; metadata = pairs }))

-- A schema message's own bytes are read as the schema, whatever stands behind them and whatever pairs the message has.
abbrev pub SchemaBytesReadBack : Type 0
SchemaBytesReadBack = (order : Order) (fs : Fields) (pairs custom : Metadata) (rest : List ℕ) → SchemaMayBeWritten fs pairs → IdsMayBeWritten fs
    → size (schema_message order fs pairs custom).node < 2 ^ 31
    → (m : Message) × (schema_message_of (layout.layout (schema_message order fs pairs custom).node ++ rest)
    ≡ Ok (m, record { order = order; fields = fs; metadata = pairs }))

-- A schema that may be written, its ids aside, may be written with its dictionaries numbered.
abbrev pub NumberedMayBeWritten : Type 0
NumberedMayBeWritten = (fs : Fields) (pairs : Metadata) → SchemaMayBeWritten fs pairs → SchemaMayBeWritten (numbered fs 0) pairs
    × IdsMayBeWritten (numbered fs 0)

-- A regular schema that can be represented may be written where its fields have no reserved keys, and its ids fit.
abbrev pub RegularMayBeWritten : Type 0
RegularMayBeWritten = (fs : Fields) (pairs : Metadata) → regular fs pairs ≡ true → representable fs ≡ true → HaveTexts fs → HaveNoReserved fs → Ascend [] pairs
    → SchemaMayBeWritten fs pairs × AreIds (uses_in fs)

-- A regular schema that can be represented, and whose uses of one id have one kind of values, is read back from its message's bytes: all but the reserved keys among its fields' pairs.
abbrev pub RegularReadsBack : Type 0
RegularReadsBack = (order : Order) (fs : Fields) (pairs custom : Metadata) (rest : List ℕ) → regular fs pairs ≡ true → representable fs ≡ true → HaveTexts fs
    → Ascend [] pairs → uses_agree [] (uses_in fs) ≡ Ok tt → size (schema_message order fs pairs custom).node < 2 ^ 31
    → (m : Message) × (schema_message_of (layout.layout (schema_message order fs pairs custom).node ++ rest)
    ≡ Ok (m, record { order = order; fields = own_fields fs; metadata = pairs }))

-- The schema message of a stream that is written of such a schema is read as the schema, with its dictionaries numbered.
abbrev pub StreamSchemaReadsBack : Type 0
StreamSchemaReadsBack = (fs : Fields) (pairs custom : Metadata) (rest : List ℕ) → regular fs pairs ≡ true → representable fs ≡ true → HaveTexts fs
    → Ascend [] pairs → size (stream_schema fs pairs custom).node < 2 ^ 31
    → (m : Message) × (schema_message_of (layout.layout (stream_schema fs pairs custom).node ++ rest)
    ≡ Ok (m, record { order = little; fields = own_fields (numbered fs 0); metadata = pairs }))

-- bytes
abbrev pub AreBytes : List ℕ → Type 0
AreBytes b = (i : ℕ) → get_or b i 0 < 2 ^ 8

-- A schema that is read of bytes may be written, with its ids.
abbrev pub ReadSchemaMayBeWritten : Type 0
ReadSchemaMayBeWritten =
    (b : List ℕ) (t : Table) (s : Schema) → AreBytes b → schema_of b t ≡ Ok s → SchemaMayBeWritten s.fields s.metadata × IdsMayBeWritten s.fields

-- what a batch's tables say fits them
pub record TablesFit (rows : ℕ) (w : Written) : Type 0 where
  pub few : rows < 2 ^ 63
  pub nodes : AllByRecursion (λ x. FitsSigned w64 x.length × FitsSigned w64 x.null_count) w.nodes
  pub node_count : length w.nodes < 2 ^ 32
  pub buffers : body_of 0 w.lengths < 2 ^ 63
  pub buffer_count : length w.lengths < 2 ^ 32
  pub views : AllByRecursion (λ n. n < 2 ^ 63) w.views

-- the tables of a batch that is written so
abbrev pub header_of : ℕ → Written → BatchHeader
header_of rows w = record { length = pos rows; nodes = w.nodes; buffers = placed 0 w.lengths; compressed = false; variadic = each_of pos w.views }

-- A batch's message is the next one, and its tables and pairs are read as they are written.
abbrev pub BatchMessageReadsBack : Type 0
BatchMessageReadsBack = (taken : ℕ → Bool) (rows : ℕ) (w : Written) (body : List ℕ) (custom : Metadata) (rest : List ℕ) → taken 3 ≡ true → TablesFit rows w
    → length body < 2 ^ 63 → CustomMayBeWritten custom → padded_size (message 3 (batch_node rows w) (length body) custom).node < 2 ^ 31
    → (next : IsNextMessage taken 3 (batch_slots rows w) body custom rest
    (message_bytes (message 3 (batch_node rows w) (length body) custom).node body ++ rest))
    × (batch_at next.framed.metadata next.found.header ≡ Ok (header_of rows w))

-- The same of a dictionary's message, a delta or not.
abbrev pub DictionaryMessageReadsBack : Type 0
DictionaryMessageReadsBack = (taken : ℕ → Bool) (id : ℕ) (is_delta : Bool) (w : Written) (body rest : List ℕ) → taken 2 ≡ true → id < 2 ^ 63
    → TablesFit (node_rows w.nodes) w → length body < 2 ^ 63 → padded_size (message 2 (table (dictionary_slots id is_delta w)) (length body) []).node < 2 ^ 31
    → (next : IsNextMessage taken 2 (dictionary_slots id is_delta w) body [] rest
    (message_bytes (message 2 (table (dictionary_slots id is_delta w)) (length body) []).node body ++ rest))
    × (dictionary_at next.framed.metadata next.found.header ≡ Ok (record { id = pos id; is_delta = is_delta; values = header_of (node_rows w.nodes) w }))

-- ── streams ──

-- No stream has more messages than bytes: to allow for more changes nothing.
abbrev pub StreamFuelIsEnough : Type 0
StreamFuelIsEnough = (s : Reader) (d : Dictionaries) (b : List ℕ) (most : ℕ) → length b ≤ most → stream_batches most s d b ≡ stream_batches (length b) s d b
