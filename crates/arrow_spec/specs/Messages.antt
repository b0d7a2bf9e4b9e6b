-- Encapsulated messages: prefix, metadata, header. (Arrow Columnar Format, "Encapsulated message format", Message.fbs.)
use Rattle.std.specs.Prelude.{◌≡◌, ℕ, zero, suc, ◌+◌, ◌-◌, ◌*◌, ◌^◌, List, [], ◌∷◌, length, take, drop, Bool, true, false, Option, Some, None, Result, Ok, Err, nat_le, nat_lt, nat_eq, not, ◌&&◌, ◌||◌, if◌then◌else◌, ℤ, pos, negsuc}
use Rattle.std.specs.Int.{w8, w16, w32, w64}
use Rattle.std.specs.Str.{bytes_eq}
use Rattle.arrow_spec.specs.declared.error.FlatError.{FlatError}
use Rattle.arrow_spec.specs.declared.error.FlatError.TheVariants.{Number}
use Rattle.arrow_spec.specs.declared.error.IpcError.TheVariants.{OutOfSpec, Unsupported}
use Rattle.arrow_spec.specs.declared.error.Feature.TheVariants as features
use Rattle.arrow_spec.specs.declared.error.OutOfSpecKind.{OutOfSpecKind}
use Rattle.arrow_spec.specs.declared.error.OutOfSpecKind.TheVariants as kinds
use Rattle.arrow_spec.specs.declared.message.FieldNode.{FieldNode}
use Rattle.arrow_spec.specs.declared.message.IpcBuffer.{IpcBuffer}
use Rattle.arrow_spec.specs.declared.message.MetadataVersion.{MetadataVersion}
use Rattle.arrow_spec.specs.declared.message.MetadataVersion.TheVariants.{V4, V5}
use Rattle.arrow_spec.specs.Readings.{◌>>=◌, Reading, refuse, damaged, unless, only_if, each, required, is_absent, as_kind, natural}
use Rattle.arrow_spec.specs.Flat.{Table, Vector, root, unsigned_at, signed_at, slot, slot_unsigned, slot_signed, slot_bool, slot_table, slot_vector}
use Rattle.arrow_spec.specs.declared.error.IpcError.TheVariants.{TooMany}
use Rattle.arrow_spec.specs.declared.error.Counted.TheVariants as counted
use Rattle.arrow_spec.specs.Kinds.{Metadata}
use Rattle.arrow_spec.specs.Schema.{empty_vector, pairs_from}

-- the tables of a record batch
pub record BatchHeader : Type 0 where
  pub length : ℤ
  pub nodes : List FieldNode
  pub buffers : List IpcBuffer
  pub compressed : Bool
  pub variadic : List ℤ

-- a node (Message.fbs, FieldNode)
abbrev pub node_at : List ℕ → ℕ → Result FieldNode FlatError
node_at b p = signed_at w64 b p >>= λ x. signed_at w64 b (p + 8) >>= λ y. Ok (record { length = x; null_count = y })

-- the nodes of a vector
abbrev pub nodes_at : List ℕ → Vector → Result (List FieldNode) FlatError
nodes_at b v = each (λ i. node_at b (v.first + 16 * i)) 0 v.count

-- a buffer (Message.fbs, Buffer)
abbrev pub buffer_at : List ℕ → ℕ → Result IpcBuffer FlatError
buffer_at b p = signed_at w64 b p >>= λ x. signed_at w64 b (p + 8) >>= λ y. Ok (record { offset = x; length = y })

-- the buffers of a vector
abbrev pub buffers_at : List ℕ → Vector → Result (List IpcBuffer) FlatError
buffers_at b v = each (λ i. buffer_at b (v.first + 16 * i)) 0 v.count

-- the numbers of a vector, none where it is absent
abbrev pub numbers_at : List ℕ → Option Vector → Result (List ℤ) FlatError
numbers_at b None = Ok []
numbers_at b (Some v) = each (λ i. signed_at w64 b (v.first + 8 * i)) 0 v.count

-- the tables of a record batch (Message.fbs, RecordBatch)
unfoldable pub batch_at : List ℕ → Table → Reading BatchHeader
batch_at b t = do
  length ← as_kind kinds.InvalidFlatbufferRecordBatches (slot_signed w64 (pos 0) b t 0)
  node_vector ← as_kind kinds.InvalidFlatbufferNodes (slot_vector 16 b t 1) >>= required (OutOfSpec kinds.MissingMessageNodes)
  nodes ← as_kind kinds.InvalidFlatbufferNodes (nodes_at b node_vector)
  buffer_vector ← as_kind kinds.InvalidFlatbufferBuffers (slot_vector 16 b t 2) >>= required (OutOfSpec kinds.MissingMessageBuffers)
  buffers ← as_kind kinds.InvalidFlatbufferBuffers (buffers_at b buffer_vector)
  compression ← as_kind kinds.InvalidFlatbufferCompression (slot_table b t 3)
  variadic ← as_kind kinds.InvalidFlatbufferRecordBatches (slot_vector 8 b t 4 >>= numbers_at b)
  Ok (record { length = length; nodes = nodes; buffers = buffers; compressed = not (is_absent compression); variadic = variadic })

-- the mark that stands before the length of a message's metadata
abbrev pub is_mark : List ℕ → Bool
is_mark bytes = bytes_eq bytes (255 ∷ 255 ∷ 255 ∷ 255 ∷ [])

-- the prefix of a message in bytes that hold prefix and metadata: where the metadata begins, and how long it is
unfoldable pub prefix_of : List ℕ → Reading (ℕ × ℕ)
prefix_of b = do
  first ← as_kind (λ f. kinds.MessageRange) (unsigned_at w32 b 0)
  let start = if is_mark (take 4 b) then 8 else 4
  n ← as_kind (λ f. kinds.MessageRange) (signed_at w32 b (start - 4))
  length ← natural n
  inside ← only_if (nat_le (start + length) (Rattle.std.specs.Prelude.length b)) kinds.MessageRange
  Ok (start, length)

-- a message's metadata: its root table, the tag and table of its header, and its body's length
pub record Message : Type 0 where
  pub table : Table
  pub tag : ℕ
  pub header : Table
  pub body : ℕ

-- of the headers that are taken here
unfoldable pub message_of : List ℕ → (ℕ → Bool) → Reading Message
message_of b taken = do
  t ← as_kind kinds.InvalidFlatbufferMessage (root b)
  tag ← as_kind kinds.InvalidFlatbufferHeader (slot_unsigned w8 0 b t 1)
  place ← as_kind kinds.InvalidFlatbufferHeader (slot b t 2)
  present ← only_if (not (nat_eq tag 0) && not (is_absent place)) kinds.MissingMessageHeader
  listed ← only_if (nat_le tag 5) (kinds.InvalidFlatbufferHeader Number)
  expected ← only_if (taken tag) kinds.UnexpectedMessageType
  header ← as_kind kinds.InvalidFlatbufferHeader (slot_table b t 2) >>= required (OutOfSpec kinds.MissingMessageHeader)
  body ← as_kind kinds.InvalidFlatbufferBodyLength (slot_signed w64 (pos 0) b t 3) >>= natural
  Ok (record { table = t; tag = tag; header = header; body = body })

-- a version by its number (Schema.fbs, MetadataVersion)
abbrev pub version_of_number : ℕ → Reading MetadataVersion
version_of_number n = elim (nat_le n 2) [
  | true ↦ refuse (Unsupported features.Version)
  | false ↦ elim
      (nat_eq n 3) [ true ↦ Ok V4 | false ↦ elim (nat_eq n 4) [ true ↦ Ok V5 | false ↦ damaged (kinds.InvalidFlatbufferVersion Number) ] ]
]

-- a message's version
unfoldable pub version_of : List ℕ → Message → Reading MetadataVersion
version_of b m = as_kind kinds.InvalidFlatbufferVersion (slot_unsigned w16 0 b m.table 0) >>= version_of_number

-- a dictionary's id, whether it is a delta, and the tables of its values
pub record DictionaryBatch : Type 0 where
  pub id : ℤ
  pub is_delta : Bool
  pub values : BatchHeader

-- a dictionary batch (Message.fbs, DictionaryBatch)
unfoldable pub dictionary_at : List ℕ → Table → Reading DictionaryBatch
dictionary_at b t = do
  id ← as_kind kinds.InvalidFlatbufferId (slot_signed w64 (pos 0) b t 0)
  is_delta ← as_kind kinds.InvalidFlatbufferIsDelta (slot_bool b t 2)
  data_table ← as_kind kinds.InvalidFlatbufferData (slot_table b t 1) >>= required (OutOfSpec kinds.MissingData)
  values ← batch_at b data_table
  Ok (record { id = id; is_delta = is_delta; values = values })

-- The pairs of a footer or of a message by its bytes: both have them in slot 4. (File.fbs, Footer; Message.fbs, Message.)
unfoldable pub custom_pairs : (FlatError → OutOfSpecKind) → List ℕ → Reading Metadata
custom_pairs kind b = do
  t ← as_kind kind (root b)
  v ← as_kind kind (slot_vector 4 b t 4)
  room ← unless (nat_le (empty_vector v).count 1048576) (TooMany counted.Pairs)
  pairs_from kind b (empty_vector v).first (empty_vector v).count []

-- the pairs of a message by its metadata
abbrev pub message_pairs : List ℕ → Reading Metadata
message_pairs b = custom_pairs kinds.InvalidFlatbufferMessage b

-- the pairs of a footer
abbrev pub footer_pairs : List ℕ → Reading Metadata
footer_pairs f = custom_pairs kinds.InvalidFlatbufferFooter f

-- the tables and the version of a record batch's message
pub record RecordMessage : Type 0 where
  pub tables : BatchHeader
  pub version : MetadataVersion

-- the message of a record batch, by its metadata
unfoldable pub record_message : List ℕ → Reading RecordMessage
record_message b = do
  m ← message_of b (λ tag. nat_eq tag 3)
  tables ← batch_at b m.header
  version ← version_of b m
  Ok (record { tables = tables; version = version })
