-- What the header of a message that was read stands for, and the parts by which it is read. (Message.fbs, MessageHeader.)
use Rattle.std.specs.Prelude.{ℕ, zero, suc, List, Ok, pos, nat_eq, nat_le}
use Rattle.std.specs.Int.{w64}
use Rattle.arrow_spec.specs.declared.error.IpcError.TheVariants.{OutOfSpec}
use Rattle.arrow_spec.specs.declared.error.OutOfSpecKind.TheVariants as kinds
use Rattle.arrow_spec.specs.Readings.{Reading, ◌>>=◌, required, as_kind}
use Rattle.arrow_spec.specs.Flat.{Table, slot_bool, slot_signed, slot_table}
use Rattle.arrow_spec.specs.Headers.{Header, schema, dictionary, batch, Whole}
use Rattle.arrow_spec.specs.declared.message.MetadataVersion.{MetadataVersion}
use Rattle.arrow_spec.specs.Messages.{DictionaryBatch, dictionary_at, message_of, version_of}
use Rattle.schema_reader.specs.Messages.{version_at}
use Rattle.ipc_schema.specs.Views.{batch_parts, header_of}
use Rattle.ipc_schema.specs.declared.header.DictionaryHeader.{DictionaryHeader}
use Rattle.ipc_schema.specs.declared.message.DictionaryMessage.{DictionaryMessage}
use Rattle.ipc_schema.specs.declared.message.Message.{Message}
use Rattle.ipc_schema.specs.declared.message.MessageHeader.{MessageHeader}
use Rattle.ipc_schema.specs.declared.message.MessageHeader.TheVariants as headers

abbrev pub header_in : MessageHeader → Header
header_in headers.Schema = schema
header_in (headers.Dictionary id is_delta x) = dictionary (record { id = id; is_delta = is_delta; values = header_of x })
header_in (headers.Batch x) = batch (header_of x)

abbrev pub dictionary_in : DictionaryHeader → DictionaryBatch
dictionary_in x = record { id = x.id; is_delta = x.is_delta; values = header_of x.batch }

abbrev pub whole_in : Message → Whole
whole_in m = record { version = m.version; body_length = m.body_length; header = header_in m.header }

-- a record batch by its parts
abbrev pub batch_part : List ℕ → Table → Reading Header
batch_part b t = batch_parts b t >>= λ x. Ok (batch x)

-- a dictionary batch by its parts
unfoldable pub dictionary_parts : List ℕ → Table → Reading DictionaryBatch
dictionary_parts b t = do
  id ← as_kind kinds.InvalidFlatbufferId (slot_signed w64 (pos 0) b t 0)
  is_delta ← as_kind kinds.InvalidFlatbufferIsDelta (slot_bool b t 2)
  data_table ← as_kind kinds.InvalidFlatbufferData (slot_table b t 1) >>= required (OutOfSpec kinds.MissingData)
  values ← batch_parts b data_table
  Ok (record { id = id; is_delta = is_delta; values = values })

abbrev pub dictionary_part : List ℕ → Table → Reading Header
dictionary_part b t = dictionary_parts b t >>= λ x. Ok (dictionary x)

abbrev pub header_part : ℕ → List ℕ → Table → Reading Header
header_part (suc (suc zero)) b t = dictionary_part b t
header_part (suc (suc (suc zero))) b t = batch_part b t
header_part tag b t = Ok schema

unfoldable pub header_parts : List ℕ → Reading Whole
header_parts b = do
  m ← message_of b (λ tag. nat_le tag 3)
  header ← header_part m.tag b m.header
  version ← version_at b m.table
  Ok (record { version = version; body_length = m.body; header = header })

-- ── the message of a dictionary ──

-- a dictionary, and its message's version
pub record DictionaryTables : Type 0 where
  pub dictionary : DictionaryBatch
  pub version : MetadataVersion

-- the message of a dictionary by its metadata, and the same by its parts
unfoldable pub dictionary_message : List ℕ → Reading DictionaryTables
dictionary_message b = do
  m ← message_of b (λ tag. nat_eq tag 2)
  x ← dictionary_at b m.header
  version ← version_of b m
  Ok (record { dictionary = x; version = version })

unfoldable pub dictionary_message_parts : List ℕ → Reading DictionaryTables
dictionary_message_parts b = do
  m ← message_of b (λ tag. nat_eq tag 2)
  x ← dictionary_parts b m.header
  version ← version_at b m.table
  Ok (record { dictionary = x; version = version })

abbrev pub dictionary_message_of : DictionaryMessage → DictionaryTables
dictionary_message_of m = record { dictionary = record { id = m.id; is_delta = m.is_delta; values = header_of m.header }; version = m.version }
