-- What the values of this crate stand for.
use Rattle.std.specs.Prelude.{ℕ, ℤ, ◌+◌, ◌*◌, nat_eq, List, not, pos, Some, Ok}
use Rattle.std.specs.Int.{w16, w64}
use Rattle.arrow_spec.specs.declared.error.IpcError.TheVariants.{OutOfSpec}
use Rattle.arrow_spec.specs.declared.error.OutOfSpecKind.TheVariants as kinds
use Rattle.arrow_spec.specs.declared.message.FieldNode.{FieldNode}
use Rattle.arrow_spec.specs.declared.message.IpcBuffer.{IpcBuffer}
use Rattle.arrow_spec.specs.declared.message.MetadataVersion.{MetadataVersion}
use Rattle.arrow_spec.specs.Readings.{Reading, ◌>>=◌, required, is_absent, as_kind}
use Rattle.arrow_spec.specs.Flat.{Table, signed_at, slot_unsigned, slot_signed, slot_table, slot_vector}
use Rattle.arrow_spec.specs.Messages.{node_at, nodes_at, buffer_at, buffers_at, numbers_at, version_of_number}
use Rattle.arrow_flat.specs.Read.{VectorIn}
use Rattle.arrow_spec.specs.Messages.{BatchHeader as HeaderTables, RecordMessage as MessageTables, Message as MessageParts}
use Rattle.ipc_schema.specs.declared.message.BatchHeader.{BatchHeader}
use Rattle.ipc_schema.specs.declared.message.RecordMessage.{RecordMessage}
use Rattle.schema_reader.specs.Messages.{version_at}

abbrev pub header_of : BatchHeader → HeaderTables
header_of h = record { length = h.length; nodes = h.nodes.items; buffers = h.buffers.items; compressed = h.compressed; variadic = h.variadic.items }

abbrev pub message_of : RecordMessage → MessageTables
message_of m = record { tables = header_of m.header; version = m.version }

-- ── parts of a message ──

-- an item of a vector
abbrev pub node_of : VectorIn → ℕ → Reading FieldNode
node_of v i = as_kind kinds.InvalidFlatbufferNodes (node_at v.bytes (v.vector.first + 16 * i))

abbrev pub buffer_of : VectorIn → ℕ → Reading IpcBuffer
buffer_of v i = as_kind kinds.InvalidFlatbufferBuffers (buffer_at v.bytes (v.vector.first + 16 * i))

abbrev pub number_of : VectorIn → ℕ → Reading ℤ
number_of v i = as_kind kinds.InvalidFlatbufferRecordBatches (signed_at w64 v.bytes (v.vector.first + 8 * i))

-- the items of vectors
abbrev pub nodes_in : VectorIn → Reading (List FieldNode)
nodes_in v = as_kind kinds.InvalidFlatbufferNodes (nodes_at v.bytes v.vector)

abbrev pub buffers_in : VectorIn → Reading (List IpcBuffer)
buffers_in v = as_kind kinds.InvalidFlatbufferBuffers (buffers_at v.bytes v.vector)

abbrev pub numbers_in : VectorIn → Reading (List ℤ)
numbers_in v = as_kind kinds.InvalidFlatbufferRecordBatches (numbers_at v.bytes (Some v.vector))

-- the nodes of a record batch
unfoldable pub nodes_part : List ℕ → Table → Reading (List FieldNode)
nodes_part b t = as_kind kinds.InvalidFlatbufferNodes (slot_vector 16 b t 1) >>= required (OutOfSpec kinds.MissingMessageNodes)
    >>= λ v. as_kind kinds.InvalidFlatbufferNodes (nodes_at b v)

-- the buffers of a record batch
unfoldable pub buffers_part : List ℕ → Table → Reading (List IpcBuffer)
buffers_part b t = as_kind kinds.InvalidFlatbufferBuffers (slot_vector 16 b t 2) >>= required (OutOfSpec kinds.MissingMessageBuffers)
    >>= λ v. as_kind kinds.InvalidFlatbufferBuffers (buffers_at b v)

-- the numbers of data buffers of a record batch's view arrays
unfoldable pub variadic_part : List ℕ → Table → Reading (List ℤ)
variadic_part b t = as_kind kinds.InvalidFlatbufferRecordBatches (slot_vector 8 b t 4 >>= numbers_at b)

-- a record batch by its parts
unfoldable pub batch_parts : List ℕ → Table → Reading HeaderTables
batch_parts b t = do
  length ← as_kind kinds.InvalidFlatbufferRecordBatches (slot_signed w64 (pos 0) b t 0)
  nodes ← nodes_part b t
  buffers ← buffers_part b t
  compression ← as_kind kinds.InvalidFlatbufferCompression (slot_table b t 3)
  variadic ← variadic_part b t
  Ok (record { length = length; nodes = nodes; buffers = buffers; compressed = not (is_absent compression); variadic = variadic })

-- a message of a record batch
abbrev pub message_of_record : List ℕ → Reading MessageParts
message_of_record b = Rattle.arrow_spec.specs.Messages.message_of b (λ tag. nat_eq tag 3)

-- a record batch's message by its parts
unfoldable pub record_parts : List ℕ → Reading MessageTables
record_parts b = do
  m ← message_of_record b
  tables ← batch_parts b m.header
  version ← version_at b m.table
  Ok (record { tables = tables; version = version })
