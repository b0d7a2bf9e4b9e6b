-- What holds of files that are sent. Each statement is the contract of a public function without a body (src/lib.rt).
use Rattle.std.specs.Prelude.{◌≡◌, ◌⊎◌, ℕ, suc, List, [], ◌∷◌, ◌++◌, length, map, take, Option, Some, None, Ok, Err, true, false}
use Rattle.arrow_spec.specs.declared.error.IpcError.{IpcError}
use Rattle.arrow_spec.specs.declared.error.IpcError.TheVariants.{TooLarge}
use Rattle.arrow_spec.specs.declared.message.MetadataVersion.{MetadataVersion}
use Rattle.arrow_spec.specs.Readings.{◌>>=◌, meaning}
use Rattle.arrow_spec.specs.Flat.{Table}
use Rattle.arrow_spec.specs.Arrays.{Dictionaries}
use Rattle.arrow_spec.specs.Kinds.{Metadata, numbered, width}
use Rattle.arrow_spec.specs.Features.{chosen_floats}
use Rattle.arrow_spec.specs.Schema.{Schema, schema_of}
use Rattle.arrow_spec.specs.Messages.{BatchHeader}
use Rattle.arrow_spec.specs.Sent.{all_may_be_sent, dictionary_messages, may_be_sent}
use Rattle.arrow_spec.specs.Files.{ArrowTable, Asked, FileBlock, Meta, Request, TableBatch, batch_of, batch_of_tables, columns_right, dictionaries_of, dictionaries_read, fields_as_asked, file_reading, if_sent, record_batch_of, to_read, to_send}
use Rattle.arrow_spec.specs.WrittenSchemas.{AreSizes, CustomMayBeWritten, SchemaMayBeWritten, sizes_in}
use Rattle.ipc_write_laws.specs.Streams.{WrittenBatch, bare_table, table_batch, written_batch}
use Rattle.ipc_write_laws.specs.Messages.{BatchMayBeWritten, Known, WrittenValues, ended_stream, stream_so_far, values}
use Rattle.laws_transcode.specs.Sending.{AllAreKnown, AllHaveColumns, Columns, NoneReplaced, dictionary_values}
use Rattle.arrow_spec.specs.Meaning.{file_table}
use Rattle.laws_transcode.specs.Files.{BatchesSent, HasRead, HeaderFits, IsReadBatch, IsSendable, IsSentFile, asked_fields, asked_of, asked_schema, left_of, stream_fields, table_asked}

-- A batch that was read may be written where its message may be sent, behind the values of its dictionaries, and there it is sent.
abbrev pub BatchIsSendable : Type 0
BatchIsSendable = (a : Asked) (c : Known) (v : MetadataVersion) (tables : BatchHeader) (body : List ℕ) (left : Option ℕ) (x : WrittenBatch) → HeaderFits tables
    → CustomMayBeWritten x.custom → IsReadBatch a (record_batch_of a.order v tables body) x → AllAreKnown a.dictionaries (asked_fields a) 0 c
    → batch_of_tables to_read a v x.custom tables body left ≡ Ok (table_batch x)
    → (may_be_sent (written_batch x) ≡ true → BatchMayBeWritten (stream_fields a) c x) × (batch_of_tables to_send a v x.custom tables body left
    ≡ (if_sent to_send (may_be_sent (written_batch x)) >>= λ size. Ok (table_batch x)))

-- Of the dictionaries that are read of a file none replaces another.
abbrev pub FileReplacesNone : Type 0
FileReplacesNone = (b : List ℕ) (meta : Meta) (blocks : List FileBlock) (d : Dictionaries) → dictionaries_of b meta [] blocks ≡ Ok d → NoneReplaced d

-- A file of which all blocks were sent means the table of the batches: in it unions state their ids.
abbrev pub WholeFileMeansItsTable : Type 0
WholeFileMeansItsTable = (b : List ℕ) (r : Request) (meta : Meta) (custom : Metadata) (d : Dictionaries) (xs : List TableBatch) → IsSentFile b r meta custom → HasRead b meta d
    → BatchesSent b (asked_of b meta r d) meta.blocks r.limit xs → meaning (file_reading to_read b r None) ≡ Some (table_asked custom meta r xs)

-- Where its first blocks were sent, they mean the table of their batches.
abbrev pub PartOfFileMeansItsTable : Type 0
PartOfFileMeansItsTable = (b : List ℕ) (r : Request) (meta : Meta) (custom : Metadata) (d : Dictionaries) (n : ℕ) (xs : List TableBatch) → IsSentFile b r meta custom → HasRead b meta d
    → BatchesSent b (asked_of b meta r d) (take n meta.blocks) r.limit xs → meaning (file_reading to_read b r (Some n)) ≡ Some (table_asked custom meta r xs)

-- A block behind those that were sent is refused, and so are the file, and the file up to that block, where they are to be sent.
abbrev pub BlockRefusesItsFile : Type 0
BlockRefusesItsFile = (b : List ℕ) (r : Request) (meta : Meta) (custom : Metadata) (d : Dictionaries) (blocks : List FileBlock) (block : FileBlock) (rest : List FileBlock) (xs : List TableBatch) (es : List IpcError)
    → IsSentFile b r meta custom → HasRead b meta d → meta.blocks ≡ blocks ++ block ∷ rest → BatchesSent b (asked_of b meta r d) blocks r.limit xs
    → batch_of to_send b (asked_of b meta r d) block (left_of r.limit xs) ≡ Err es
    → (file_reading to_send b r None ≡ Err es) × (file_reading to_send b r (Some (suc (length blocks))) ≡ Err es)

-- Dictionaries that are refused refuse the file, and the file up to its first block.
abbrev pub DictionariesRefuseTheirFile : Type 0
DictionariesRefuseTheirFile = (b : List ℕ) (r : Request) (meta : Meta) (custom : Metadata) (es : List IpcError) → IsSentFile b r meta custom
    → dictionaries_of b meta [] (dictionaries_read meta.blocks meta.dictionaries) ≡ Err es
    → (file_reading to_send b r None ≡ Err es) × (file_reading to_send b r (Some 1) ≡ Err es)

-- So do dictionaries of which a message is too large, where the first block is not refused.
abbrev pub LargeDictionariesRefuseTheirFile : Type 0
LargeDictionariesRefuseTheirFile = (b : List ℕ) (r : Request) (meta : Meta) (custom : Metadata) (d : Dictionaries) (block : FileBlock) (rest : List FileBlock)
    (x : TableBatch) → IsSentFile b r meta custom → HasRead b meta d → meta.blocks ≡ block ∷ rest
    → batch_of to_send b (asked_of b meta r d) block r.limit ≡ Ok x
    → all_may_be_sent (dictionary_messages d (fields_as_asked r.columns meta.schema.fields)) ≡ false
    → (file_reading to_send b r None ≡ Err (TooLarge ∷ [])) × (file_reading to_send b r (Some 1) ≡ Err (TooLarge ∷ []))

-- A schema that may be written is sendable also in some of its fields, each once, in any order, where these can be read.
abbrev pub AskedSchemaIsSendable : Type 0
AskedSchemaIsSendable = (s : Schema) (columns : Option (List ℕ)) → SchemaMayBeWritten s.fields s.metadata → columns_right columns (width s.fields) ≡ Ok tt
    → chosen_floats columns s.fields 0 ≡ [] → IsSendable (asked_schema s columns)

-- ── what is sent ──

-- A file that means a table can be sent, or a message of it is too large.
abbrev pub SentOrTooLarge : Type 0
SentOrTooLarge = (b : List ℕ) (r : Request) (t : ArrowTable) → file_table b r ≡ Some t → (file_reading to_send b r None ≡ Ok t)
    ⊎ (file_reading to_send b r None ≡ Err (TooLarge ∷ []))

-- What is sent is what the file means.
abbrev pub SentMeans : Type 0
SentMeans = (b : List ℕ) (r : Request) (t : ArrowTable) → file_reading to_send b r None ≡ Ok t → file_table b r ≡ Some t
