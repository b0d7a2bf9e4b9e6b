-- What is read of a file's footer and of its blocks.
use Rattle.std.specs.Prelude.{◌≡◌, ◌⊎◌, ℕ, ◌+◌, ◌≤◌, List, length, take, drop, ⊤, Option, Some, None, Ok, Result, nat_le}
use Rattle.arrow_spec.specs.declared.error.IpcError.{IpcError}
use Rattle.arrow_spec.specs.declared.error.IpcError.TheVariants as errors
use Rattle.arrow_spec.specs.declared.error.OutOfSpecKind.TheVariants as kinds
use Rattle.arrow_spec.specs.Readings.{Reading, Gives, ◌>>=◌, only_if}
use Rattle.arrow_spec.specs.declared.message.Block.{Block}
use Rattle.arrow_spec.specs.declared.message.MetadataVersion.{MetadataVersion}
use Rattle.arrow_spec.specs.Messages.{BatchHeader, RecordMessage, message_pairs, prefix_of, record_message}
use Rattle.ipc_fields.specs.IpcFields.{metadata_of}
use Rattle.arrow_spec.specs.Kinds.{Metadata}
use Rattle.arrow_spec.specs.Files.{FileBlock}
pub use Rattle.ipc_schema.specs.Footers.{block_by, file_block}
use Rattle.ipc_schema.specs.Views.{message_of}
use Rattle.ipc_files.specs.declared.block.BlockMessage.{BlockMessage}

-- what is read of a block by the numbers that a caller gives: none of them may be negative, which is looked at first
abbrev pub given : {A : Type 0} → Block → (FileBlock → Reading A) → Reading A
given x reading = block_by x >>= reading

-- the metadata of a block
abbrev pub block_metadata : List ℕ → FileBlock → List ℕ
block_metadata b block = take block.metadata (drop block.offset b)

-- the tables, the version and the pairs of a record batch's message
pub record PairedMessage : Type 0 where
  pub tables : BatchHeader
  pub version : MetadataVersion
  pub custom : Metadata

-- the message of a record batch by its metadata
unfoldable pub paired_message : List ℕ → Reading PairedMessage
paired_message bytes = do
  m ← record_message bytes
  custom ← message_pairs bytes
  Ok (record { tables = m.tables; version = m.version; custom = custom })

-- what was read of one
abbrev pub paired_of : BlockMessage → PairedMessage
paired_of m = record { tables = (message_of m.message).tables; version = (message_of m.message).version; custom = metadata_of m.custom_metadata }

-- the metadata of the message in a block, behind its prefix
unfoldable pub message_metadata : List ℕ → FileBlock → Reading (List ℕ)
message_metadata b block = do
  range ← only_if (nat_le (block.offset + block.metadata + block.body) (length b)) kinds.BlockRange
  prefix ← prefix_of (block_metadata b block)
  Ok (take prefix.1 (drop (block.offset + prefix.0) b))

-- the message of a record batch in a block
unfoldable pub block_record : List ℕ → FileBlock → Reading PairedMessage
block_record b block = message_metadata b block >>= λ bytes. paired_message bytes

-- the same but for its pairs, which are not looked at
unfoldable pub block_header : List ℕ → FileBlock → Reading RecordMessage
block_header b block = message_metadata b block >>= λ bytes. record_message bytes

-- ── a source's bytes, where they are told ──

-- so many bytes from a place on lie inside
abbrev pub Lies : Option (List ℕ) → ℕ → ℕ → Type 0
Lies None at n = ⊤
Lies (Some b) at n = at + n ≤ length b

-- these are so many bytes from a place on
abbrev pub Fetched : Option (List ℕ) → ℕ → ℕ → List ℕ → Type 0
Fetched None at n out = ⊤
Fetched (Some b) at n out = out ≡ take n (drop at b)

-- the refusal is the device's or for want of memory
abbrev pub Faulted : Option (List ℕ) → IpcError → Type 0
Faulted None e = ⊤
Faulted (Some b) e = (e ≡ errors.Memory) ⊎ (e ≡ errors.ReadFault)

-- the prefix of the message in so many bytes from a place on
abbrev pub PrefixIn : Option (List ℕ) → ℕ → ℕ → Result (ℕ × ℕ) IpcError → Type 0
PrefixIn None at size r = ⊤
PrefixIn (Some b) at size r = Gives (λ p. p) r (prefix_of (take size (drop at b)))

-- the record batch's message of a block that is given
abbrev pub BlockIn : Option (List ℕ) → Block → Result BlockMessage IpcError → Type 0
BlockIn None x r = ⊤
BlockIn (Some b) x r = Gives paired_of r (given x (block_record b))

-- a call gives what a reading says of the bytes
abbrev pub GivesIn : {X Y : Type 0} → Option (List ℕ) → (X → Y) → Result X IpcError → (List ℕ → Reading Y) → Type 0
GivesIn None view r reading = ⊤
GivesIn (Some b) view r reading = Gives view r (reading b)
