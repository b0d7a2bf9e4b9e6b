-- What follows from the definitions. Each statement is the contract of a public function without a body (src/laws.rt).
use Rattle.std.specs.Prelude.{◌≡◌, ℕ, List, [], ◌++◌, true, Ok}
use Rattle.arrow_spec.specs.Flat.{Order}
use Rattle.arrow_spec.specs.Kinds.{Fields, Metadata}
use Rattle.arrow_spec.specs.Messages.{Message}
use Rattle.arrow_spec.specs.Regular.{regular}
use Rattle.arrow_spec.specs.Streams.{schema_message_of}
use Rattle.arrow_spec.specs.WrittenSchemas.{Ascend, HaveTexts, own_fields}
use Rattle.ipc_fields.specs.IpcFields.{Ids, fields_with}
use Rattle.schema_writer.specs.Serialized.{written}

-- What is written of a regular schema, whose texts are texts, is read back as its fields with the ids of their IPC fields, whatever stands behind it: all but the reserved keys among a field's own pairs.
abbrev pub WrittenSchemaReadsBack : Type 0
WrittenSchemaReadsBack = (order : Order) (fs : Fields) (own : Ids) (pairs custom : Metadata) (b rest : List ℕ) → written order fs own pairs custom ≡ Ok b
    → regular (fields_with fs own) pairs ≡ true → HaveTexts (fields_with fs own) → Ascend [] pairs
    → (m : Message) × (schema_message_of (b ++ rest) ≡ Ok (m, record { order = order; fields = own_fields (fields_with fs own); metadata = pairs }))
