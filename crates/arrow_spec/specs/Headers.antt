-- The header of a message: a schema, a dictionary or a record batch. (Message.fbs, MessageHeader.)
use Rattle.std.specs.Prelude.{ℕ, zero, suc, List, Ok, nat_le}
use Rattle.arrow_spec.specs.declared.message.MetadataVersion.{MetadataVersion}
use Rattle.arrow_spec.specs.Readings.{Reading, ◌>>=◌}
use Rattle.arrow_spec.specs.Flat.{Table}
use Rattle.arrow_spec.specs.Messages.{BatchHeader, DictionaryBatch, batch_at, dictionary_at, message_of, version_of}

-- what a header says
pub data Header : Type 0 where
  schema : Header
  dictionary : DictionaryBatch → Header
  batch : BatchHeader → Header

-- a message's version, the length of its body, and its header
pub record Whole : Type 0 where
  pub version : MetadataVersion
  pub body_length : ℕ
  pub header : Header

-- the header of a tag
abbrev pub header_at : ℕ → List ℕ → Table → Reading Header
header_at (suc (suc zero)) b t = dictionary_at b t >>= λ x. Ok (dictionary x)
header_at (suc (suc (suc zero))) b t = batch_at b t >>= λ x. Ok (batch x)
header_at tag b t = Ok schema

-- a message by its metadata: the tables of a schema, a dictionary or a record batch, its header, and its version
unfoldable pub message_header : List ℕ → Reading Whole
message_header b = do
  m ← message_of b (λ tag. nat_le tag 3)
  header ← header_at m.tag b m.header
  version ← version_of b m
  Ok (record { version = version; body_length = m.body; header = header })
