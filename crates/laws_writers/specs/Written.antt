-- What a writer has put behind its schema's message. (Arrow Columnar Format, "IPC Streaming Format".)
use Rattle.std.specs.Prelude.{◌≡◌, ℤ, List, Option, map}
use Rattle.std.specs.List.{flat_map}
use Rattle.arrow_spec.specs.Files.{TableBatch}
use Rattle.arrow_spec.specs.Kinds.{Fields, Metadata}
use Rattle.arrow_spec.specs.WrittenSchemas.{own_fields}
use Rattle.ipc_messages.specs.Below.{Batch, Forest, cells_in, Ids, fields_with}
use Rattle.laws_files.specs.Below.{MessagesMayBeWritten, WrittenMessage, batch_in, none_known, with_messages}
use Rattle.laws_writers.specs.Heard.{cells_held}

-- a batch as a table has it: its rows, its columns' cells and its pairs
abbrev pub cells_of : Batch → TableBatch
cells_of b = record { rows = b.height; columns = map cells_in b.arrays; custom = b.custom }

-- the fields that a schema's message says: under the ids of its IPC fields, and with their own pairs alone, since pairs whose keys are reserved are said by a field's type
abbrev pub said_fields : Fields → Ids → Fields
said_fields fs below = own_fields (fields_with fs below)

-- messages that may be written behind a schema's, by which the dictionaries that are held are known; the batches among them are these
pub record ArePut (fs : Fields) (pairs custom : Metadata) (held : ℤ → Option Forest) (bs : List TableBatch) (ms : List WrittenMessage) : Type 0 where
  pub may : MessagesMayBeWritten fs pairs custom ms
  pub known : (id : ℤ) → with_messages ms none_known id ≡ cells_held (held id)
  pub batches : flat_map batch_in ms ≡ bs
