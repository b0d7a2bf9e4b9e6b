-- What the tables of a message stand for, and the schema of a schema message. (Message.fbs, Message.)
use Rattle.std.specs.Prelude.{ℕ, List, Bool, Ok, nat_eq, nat_le}
use Rattle.std.specs.Int.{w16}
use Rattle.arrow_spec.specs.declared.error.OutOfSpecKind.TheVariants as kinds
use Rattle.arrow_spec.specs.declared.message.MetadataVersion.{MetadataVersion}
use Rattle.arrow_spec.specs.Readings.{◌>>=◌, Reading, as_kind}
use Rattle.arrow_spec.specs.Flat.{Table, slot_unsigned}
use Rattle.arrow_spec.specs.Schema.{Schema}
use Rattle.arrow_spec.specs.Messages.{Message as Tables, version_of_number}
use Rattle.arrow_spec.specs.Streams.{schema_message_of}
use Rattle.schema_reader.specs.declared.message.Expected.{Expected}
use Rattle.schema_reader.specs.declared.message.Expected.TheVariants as expected
use Rattle.schema_reader.specs.declared.message.Message.{Message}

-- the tags of the headers that are expected
abbrev pub taken_by : Expected → ℕ → Bool
taken_by expected.Schema tag = nat_eq tag 1
taken_by expected.Dictionary tag = nat_eq tag 2
taken_by expected.Batch tag = nat_eq tag 3
taken_by expected.Any tag = nat_le tag 3

abbrev pub message_in : Message → Tables
message_in m = record { table = m.table.table; tag = m.tag; header = m.header.table; body = m.body }

-- the version of a message by its root table
abbrev pub version_at : List ℕ → Table → Reading MetadataVersion
version_at b t = as_kind kinds.InvalidFlatbufferVersion (slot_unsigned w16 0 b t 0) >>= version_of_number

-- the schema of a schema message
unfoldable pub schema_in : List ℕ → Reading Schema
schema_in b = schema_message_of b >>= λ found. Ok found.1
