-- The metadata of the messages of record batches and of dictionaries' values, by their nodes, buffers and view counts.
use Rattle.std.specs.Prelude.{◌≡◌, ℕ, ◌^◌, ◌≤◌, List, [], ◌∷◌, length, ⊤, Result, Ok, Err, ℤ, pos}
use Rattle.std.specs.Int.{w64}
use Rattle.std.specs.declared.alloc.Global.{Global}
use Rattle.std.specs.declared.vec.Vec.{Vec}
use Rattle.arrow_spec.specs.declared.error.IpcError.{IpcError}
use Rattle.arrow_spec.specs.declared.error.IpcError.TheVariants as errors
use Rattle.arrow_spec.specs.declared.message.FieldNode.{FieldNode}
use Rattle.arrow_spec.specs.declared.message.IpcBuffer.{IpcBuffer}
use Rattle.arrow_flat.specs.declared.build.BuildError.{BuildError}
use Rattle.arrow_flat.specs.declared.build.BuildError.TheVariants as build
use Rattle.arrow_spec.specs.Kinds.{Metadata}
use Rattle.ipc_fields.specs.IpcFields.{metadata_in}
use Rattle.arrow_spec.specs.Layout.{Node, Slots, table, child, absent, no_more, numbers64, layout, size}
use Rattle.arrow_spec.specs.Sent.{unless_zero, flag, nodes_node, buffers_node, message_slots}
use Rattle.ipc_write.specs.declared.metadata.Content.{Content}
use Rattle.ipc_write.specs.declared.metadata.Content.TheVariants.{RecordBatch, DictionaryBatch}

-- view counts are left out where there are none
abbrev pub counts_slot : List ℤ → Slots
counts_slot [] = absent no_more
counts_slot (z ∷ zs) = child (numbers64 (z ∷ zs)) no_more

-- the table of a record batch
abbrev pub header_node : ℕ → List FieldNode → List IpcBuffer → List ℤ → Node
header_node rows nodes buffers counts =
    table (unless_zero w64 (pos rows) (child (nodes_node nodes) (child (buffers_node buffers) (absent (counts_slot counts)))))

-- the header of a message: that table, or the table of a dictionary batch with it (Message.fbs, DictionaryBatch); and its tag
abbrev pub content_node : Content → Node → Node
content_node (RecordBatch custom) batch = batch
content_node (DictionaryBatch id is_delta) batch = table (unless_zero w64 id (child batch (flag is_delta no_more)))

abbrev pub content_tag : Content → ℕ
content_tag (RecordBatch custom) = 3
content_tag (DictionaryBatch id is_delta) = 2

-- its pairs
abbrev pub content_custom : Content → Metadata
content_custom (RecordBatch custom) = metadata_in custom
content_custom (DictionaryBatch id is_delta) = []

-- its message
abbrev pub metadata_node : Content → ℕ → List FieldNode → List IpcBuffer → List ℤ → ℕ → Node
metadata_node content rows nodes buffers counts body =
    table (message_slots (content_tag content) (content_node content (header_node rows nodes buffers counts)) body (content_custom content))

-- the flatbuffer of a node, or it passes 2^31 - 1 bytes
abbrev pub Builds : Result (Vec ℕ Global) BuildError → Node → Type 0
Builds (Ok v) n = (v.items ≡ layout n) × (length v.items ≡ size n)
Builds (Err build.TooLarge) n = 2 ^ 31 ≤ size n
Builds (Err build.Memory) n = ⊤

-- the same
abbrev pub BuildsMetadata : Result (Vec ℕ Global) IpcError → Node → Type 0
BuildsMetadata (Ok v) n = (v.items ≡ layout n) × (length v.items ≡ size n)
BuildsMetadata (Err errors.TooLarge) n = 2 ^ 31 ≤ size n
BuildsMetadata (Err errors.Memory) n = ⊤
BuildsMetadata (Err e) n = ⊥
