-- What holds of columns that are written. Each statement is the contract of a public function without a body (src/lib.rt).
use Rattle.std.specs.Prelude.{◌≡◌, ℕ, List, [], ◌∷◌, ◌++◌, length, map, Some, None, Ok, true}
use Rattle.std.specs.List.{AllByRecursion}
use Rattle.arrow_spec.specs.declared.message.MetadataVersion.TheVariants.{V5}
use Rattle.arrow_spec.specs.Flat.{little}
use Rattle.arrow_spec.specs.Kinds.{Fields, Metadata, bare, numbered}
use Rattle.arrow_spec.specs.Counts.{RecordBatch, Place, first_place}
use Rattle.arrow_spec.specs.Arrays.{Dictionaries}
use Rattle.arrow_spec.specs.Columns.{columns_at}
use Rattle.arrow_spec.specs.Files.{batch_of_tables, to_read}
use Rattle.arrow_spec.specs.Sent.{all_written, batch_message, columns_written}
use Rattle.arrow_spec.specs.Laws.{header_of}
use Rattle.arrow_spec.specs.Streams.{closed, stream_table, unended}
use Rattle.ipc_write_laws.specs.Columns.{WrittenColumn, Means}
use Rattle.ipc_write_laws.specs.Streams.{AreOf, AreSent, ColumnsStandAt, MayBeWritten, StreamMayBeWritten, TableMayBeWritten, WrittenBatch, bare_table, batch_bytes, body_for, written_batch, written_of, written_so_far, written_stream, written_table}
use Rattle.ipc_write_laws.specs.Messages.{MessageMayBeWritten, MessagesMayBeWritten, WrittenMessage, bytes_of, ended_stream, none_known, stream_so_far, table_of_messages, with_messages}
use Rattle.ipc_write_laws.specs.Plain.{have_no_ids}

-- Columns that mean their cells, of the fields' kinds, are read as these cells where they stand one after another.
abbrev pub ColumnsReadBack : Type 0
ColumnsReadBack = (fs : Fields) (cs : List WrittenColumn) (m : RecordBatch) (d : Dictionaries) (c rows : ℕ) (p : Place) → AreOf fs cs → m.order ≡ little
    → m.version ≡ V5 → AllByRecursion (λ x. Means little d rows x) cs → ColumnsStandAt m p cs
    → columns_at m d None fs c p rows rows ≡ Ok (map (λ x. x.cells) cs)

-- A batch of them is read back from its tables and its body.
abbrev pub BatchReadsBack : Type 0
BatchReadsBack = (fs : Fields) (cs : List WrittenColumn) (d : Dictionaries) (rows : ℕ) (custom : Metadata) → AreOf fs cs
    → AllByRecursion (λ x. Means little d rows x) cs
    → batch_of_tables to_read (record { order = little; fields = fs; columns = None; dictionaries = d; most = length (body_for cs) }) V5 custom
    (header_of rows (written_of cs)) (body_for cs) None ≡ Ok (record { rows = rows; columns = map (λ x. x.cells) cs; custom = custom })

-- A stream that is framed batch by batch, and ended, is closed and means the table.
abbrev pub WrittenStreamMeansItsTable : Type 0
WrittenStreamMeansItsTable = (fs : Fields) (pairs custom : Metadata) (xs : List WrittenBatch) → TableMayBeWritten fs pairs custom xs
    → closed (written_stream fs pairs custom xs) × (stream_table (written_stream fs pairs custom xs) None ≡ Some (written_table fs pairs custom xs))

-- Before it is ended nothing stands behind its messages, and it means the table as well.
abbrev pub WrittenFrontMeansItsTable : Type 0
WrittenFrontMeansItsTable = (fs : Fields) (pairs custom : Metadata) (xs : List WrittenBatch) → TableMayBeWritten fs pairs custom xs
    → unended (written_so_far fs pairs custom xs) × (stream_table (written_so_far fs pairs custom xs) None ≡ Some (written_table fs pairs custom xs))

-- The same of fields of which some unions do not state their ids: in the table they do.
abbrev pub WrittenStreamMeansItsBareTable : Type 0
WrittenStreamMeansItsBareTable = (fs : Fields) (pairs custom : Metadata) (xs : List WrittenBatch) → StreamMayBeWritten fs pairs custom xs
    → closed (written_stream fs pairs custom xs) × (stream_table (written_stream fs pairs custom xs) None ≡ Some (bare_table fs pairs custom xs))

-- And before it is ended.
abbrev pub WrittenFrontMeansItsBareTable : Type 0
WrittenFrontMeansItsBareTable = (fs : Fields) (pairs custom : Metadata) (xs : List WrittenBatch) → StreamMayBeWritten fs pairs custom xs
    → unended (written_so_far fs pairs custom xs) × (stream_table (written_so_far fs pairs custom xs) None ≡ Some (bare_table fs pairs custom xs))

-- A batch more is its bytes more at the end, and the table or the stream may be written with it if the batch may.
abbrev pub OneMoreBatch : Type 0
OneMoreBatch = (fs : Fields) (pairs custom : Metadata) (xs : List WrittenBatch) (x : WrittenBatch)
    → (written_so_far fs pairs custom (xs ++ x ∷ []) ≡ written_so_far fs pairs custom xs ++ batch_bytes x)
    × (TableMayBeWritten fs pairs custom xs → MayBeWritten fs x → TableMayBeWritten fs pairs custom (xs ++ x ∷ []))
    × (StreamMayBeWritten fs pairs custom xs → MayBeWritten fs x → StreamMayBeWritten fs pairs custom (xs ++ x ∷ []))

-- Where what is to be written of each column that was read is what the column is written with, so is what is to be written of all.
abbrev pub ColumnsAreSent : Type 0
ColumnsAreSent = (fs : Fields) (cs : List WrittenColumn) (m : RecordBatch) (c rows : ℕ) (p : Place) → AreSent m rows fs cs p
    → all_written (columns_written m None fs c p rows) ≡ written_of cs

-- Then the batch's message is the message of which the size is asked.
abbrev pub BatchIsSent : Type 0
BatchIsSent = (fs : Fields) (m : RecordBatch) (x : WrittenBatch) → all_written (columns_written m None fs 0 first_place x.rows) ≡ written_of x.columns
    → batch_message m None fs x.rows x.custom ≡ written_batch x

-- Fields without dictionaries, whose unions state their ids, are written and read as they are.
abbrev pub PlainFieldsStay : Type 0
PlainFieldsStay = (fs : Fields) (n : ℕ) → have_no_ids fs ≡ true → (numbered fs n ≡ fs) × (bare fs ≡ fs)

-- A stream of messages that may be written, and ended, is closed and means the table of its batches.
abbrev pub StreamOfMessagesMeansItsTable : Type 0
StreamOfMessagesMeansItsTable = (fs : Fields) (pairs custom : Metadata) (xs : List WrittenMessage) → MessagesMayBeWritten fs pairs custom xs
    → closed (ended_stream fs pairs custom xs) × (stream_table (ended_stream fs pairs custom xs) None ≡ Some (table_of_messages fs pairs custom xs))

-- Before it is ended nothing stands behind its messages, and it means the table as well.
abbrev pub FrontOfMessagesMeansItsTable : Type 0
FrontOfMessagesMeansItsTable = (fs : Fields) (pairs custom : Metadata) (xs : List WrittenMessage) → MessagesMayBeWritten fs pairs custom xs
    → unended (stream_so_far fs pairs custom xs) × (stream_table (stream_so_far fs pairs custom xs) None ≡ Some (table_of_messages fs pairs custom xs))

-- A message more is its bytes more at the end, and the stream may be written with it if the message may.
abbrev pub OneMoreMessage : Type 0
OneMoreMessage = (fs : Fields) (pairs custom : Metadata) (xs : List WrittenMessage) (x : WrittenMessage)
    → (stream_so_far fs pairs custom (xs ++ x ∷ []) ≡ stream_so_far fs pairs custom xs ++ bytes_of x)
    × (MessagesMayBeWritten fs pairs custom xs → MessageMayBeWritten fs (with_messages xs none_known) x → MessagesMayBeWritten fs pairs custom (xs ++ x ∷ []))
