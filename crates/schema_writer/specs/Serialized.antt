-- The schemas that are written: their tables and their bytes, or why they are not.
use Rattle.std.specs.Prelude.{ℕ, List, [], Bool, true, false, Ok, Err, nat_le, ◌&&◌, if◌then◌else◌, ⊤}
use Rattle.arrow_spec.specs.declared.error.IpcError.{IpcError}
use Rattle.arrow_spec.specs.declared.error.IpcError.TheVariants as errors
use Rattle.arrow_spec.specs.declared.error.IpcError.TheVariants.{SchemaMismatch, NotRepresentable, TooLarge}
use Rattle.arrow_spec.specs.Flat.{Order, little, big}
use Rattle.arrow_spec.specs.Kinds.{Fields, Metadata, uses_in}
use Rattle.arrow_spec.specs.Layout.{Node, table, layout, size}
use Rattle.arrow_spec.specs.Readings.{Reading, ◌>>=◌, unless}
use Rattle.arrow_spec.specs.Regular.{representable}
use Rattle.arrow_spec.specs.Schema.{uses_agree}
use Rattle.arrow_spec.specs.Sent.{schema_node, schema_message, message_slots}
use Rattle.ipc_fields.specs.IpcFields.{Ids, fields_with, have_shapes}

-- nothing is refused
abbrev pub has_meaning : {A : Type 0} → Reading A → Bool
has_meaning (Ok x) = true
has_meaning (Err es) = false

-- The IPC fields are those of the schema: one for each field, an id exactly at each dictionary, and values of one kind under each id.
abbrev pub belong_to : Ids → Fields → Bool
belong_to below fs = have_shapes fs below && has_meaning (uses_agree [] (uses_in (fields_with fs below)))

-- the table of a schema with the ids of its IPC fields (Schema.fbs, Schema)
unfoldable pub serialized : Order → Fields → Ids → Metadata → Reading Node
serialized order fs below pairs = do
  own ← unless (belong_to below fs) SchemaMismatch
  sayable ← unless (representable (fields_with fs below)) NotRepresentable
  Ok (schema_node order (fields_with fs below) pairs)

-- the flatbuffer of the schema's message with its own pairs, of at most 2^31 - 1 bytes (Message.fbs, Message)
unfoldable pub written : Order → Fields → Ids → Metadata → Metadata → Reading (List ℕ)
written order fs below pairs custom = do
  header ← serialized order fs below pairs
  small ← unless (nat_le (size (schema_message order (fields_with fs below) pairs custom).node) 2147483647) TooLarge
  Ok (layout (schema_message order (fields_with fs below) pairs custom).node)

-- the table of a schema's message around the schema's own
abbrev pub message_node : Node → Metadata → Node
message_node header custom = table (message_slots 1 header 0 custom)

-- what a schema's table is refused as, memory aside
abbrev pub IsOfTable : IpcError → Type 0
IsOfTable errors.SchemaMismatch = ⊤
IsOfTable errors.NotRepresentable = ⊤
IsOfTable errors.Memory = ⊤
IsOfTable e = ⊥

-- and what its bytes are
abbrev pub IsOfMessage : IpcError → Type 0
IsOfMessage errors.SchemaMismatch = ⊤
IsOfMessage errors.NotRepresentable = ⊤
IsOfMessage errors.TooLarge = ⊤
IsOfMessage errors.Memory = ⊤
IsOfMessage e = ⊥
