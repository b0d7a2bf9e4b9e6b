-- What holds of columns that were read and are written. Each statement is the contract of a public function without a body (src/lib.rt).
use Rattle.std.specs.Prelude.{◌≡◌, ℕ, List, [], ◌∷◌, length, map, Option, None, Some, Ok, Err, true}
use Rattle.arrow_spec.specs.declared.error.IpcError.{IpcError}
use Rattle.arrow_spec.specs.declared.message.MetadataVersion.{MetadataVersion}
use Rattle.arrow_spec.specs.Readings.{◌>>=◌}
use Rattle.arrow_spec.specs.Flat.{little}
use Rattle.arrow_spec.specs.Kinds.{Kind, Fields, Metadata, width}
use Rattle.arrow_spec.specs.Columns.{stands_in}
use Rattle.arrow_spec.specs.Counts.{RecordBatch, Place, first_place}
use Rattle.arrow_spec.specs.Arrays.{Dictionaries}
use Rattle.arrow_spec.specs.Faults.{array_faults}
use Rattle.arrow_spec.specs.Messages.{BatchHeader}
use Rattle.arrow_spec.specs.Sent.{may_be_sent, top_written}
use Rattle.arrow_spec.specs.Files.{Asked, batch_of_tables, columns_right, if_sent, record_batch_of, to_read, to_send}
use Rattle.arrow_spec.specs.WrittenSchemas.{CustomMayBeWritten, FieldsFit}
use Rattle.ipc_write.specs.Below.{LeafParts, leaf_fault_in, Parts, cells_in, fault_in, Batch, is_carried, are_carried, columns_read, Held, HoldsCells, HoldsFields, HoldsKinds, parts_read, leaf_lengths_in, written_in, column_in, leaf_pieces}
use Rattle.laws_transcode.specs.Below.{WrittenBatch, table_batch, written_batch, written_of, BatchMayBeWritten, Known}
use Rattle.laws_transcode.specs.Sending.{AllAreKnown}
use Rattle.arrow_spec.specs.Features.{floats_in}
use Rattle.laws_transcode.specs.Files.{ArePicked, AreAsked, HeaderFits, IsReadBatch, asked_fields, stream_fields, with_columns}
use Rattle.ipc_write.specs.Batches.{top_column, written_batch_of}
use Rattle.ipc_write.specs.Encoding.{AllMean, columns_under}

-- The lengths that are written of sound parts of an array without children are those of their buffers.
abbrev pub LengthsAreOfPieces : Type 0
LengthsAreOfPieces = (l : LeafParts) → leaf_fault_in l ≡ None → leaf_lengths_in l ≡ map length (leaf_pieces little l)

-- What is written of sound parts, with or without children, is what their column is written with.
abbrev pub WrittenAsColumn : Type 0
WrittenAsColumn = (p : Parts) → fault_in p ≡ None → written_in p ≡ written_of (column_in little p ∷ [])

-- What is to be written of a top column that is not refused is what its parts are written with.
abbrev pub TopIsSent : Type 0
TopIsSent = (m : RecordBatch) (d : Dictionaries) (h : Held) (k : Kind) (p : Place) (rows : ℕ) → HoldsCells d h → HoldsKinds h k → is_carried k ≡ true
    → array_faults m d k p rows ≡ []
    → top_written m k p rows ≡ written_of (top_column (parts_read m h k p rows) ∷ [])

-- A batch of the columns that were read is sent where its message may be: of some columns of the record batch, each once, in the order asked.
abbrev pub ReadBatchIsSent : Type 0
ReadBatchIsSent = (a : Asked) (v : MetadataVersion) (tables : BatchHeader) (body : List ℕ) (left : Option ℕ) (h : Held) (b : Batch)
    → HoldsCells a.dictionaries h → HoldsFields h a.fields → are_carried (asked_fields a) ≡ true → columns_right a.columns (width a.fields) ≡ Ok tt
    → batch_of_tables to_read a v b.custom tables body left ≡ Ok (record { rows = b.height; columns = map cells_in b.arrays; custom = b.custom })
    → AreAsked (columns_read (record_batch_of a.order v tables body) h a.fields first_place b.height) a.columns b.arrays
    → batch_of_tables to_send a v b.custom tables body left ≡
    (if_sent to_send (may_be_sent (written_batch (written_batch_of b)))
    >>= λ size. Ok (record { rows = b.height; columns = map cells_in b.arrays; custom = b.custom }))

-- a batch as it is written under the kinds of some fields
abbrev pub batch_under : Fields → Batch → WrittenBatch
batch_under fs b = record { rows = b.height; columns = columns_under fs b.arrays; custom = b.custom }

-- Where its columns mean their cells as they are written, under the kinds of the stream's fields, it may be written where its message may be sent.
abbrev pub ReadBatchIsSendable : Type 0
ReadBatchIsSendable = (a : Asked) (c : Known) (v : MetadataVersion) (tables : BatchHeader) (body : List ℕ) (left : Option ℕ) (h : Held) (b : Batch)
    → HeaderFits tables
    → HoldsCells a.dictionaries h → HoldsFields h a.fields → are_carried (asked_fields a) ≡ true → columns_right a.columns (width a.fields) ≡ Ok tt
    → AllAreKnown a.dictionaries (asked_fields a) 0 c
    → batch_of_tables to_read a v b.custom tables body left ≡ Ok (record { rows = b.height; columns = map cells_in b.arrays; custom = b.custom })
    → AreAsked (columns_read (record_batch_of a.order v tables body) h a.fields first_place b.height) a.columns b.arrays
    → AllMean b.height b.arrays → CustomMayBeWritten b.custom
    → IsReadBatch a (record_batch_of a.order v tables body) (batch_under (stream_fields a) b)
    × (batch_of_tables to_read a v b.custom tables body left ≡ Ok (table_batch (batch_under (stream_fields a) b)))
    × (written_batch (batch_under (stream_fields a) b) ≡ written_batch (written_batch_of b))
    × (may_be_sent (written_batch (written_batch_of b)) ≡ true → BatchMayBeWritten (stream_fields a) c (batch_under (stream_fields a) b))
    × (batch_of_tables to_send a v b.custom tables body left
    ≡ (if_sent to_send (may_be_sent (written_batch (written_batch_of b))) >>= λ size. Ok (table_batch (batch_under (stream_fields a) b))))

-- A batch that was read of columns by rising numbers is, in the order asked, what the columns asked for mean. The numbers are the same.
abbrev pub RisingBatchIsAsked : Type 0
RisingBatchIsAsked = (a : Asked) (rising : List ℕ) (asked : List ℕ) (v : MetadataVersion) (custom : Metadata) (tables : BatchHeader) (body : List ℕ)
    (left : Option ℕ) (h : Held) (rows : ℕ) (read given : List Parts)
    → ((c : ℕ) → stands_in rising c ≡ stands_in asked c) → columns_right (Some asked) (width a.fields) ≡ Ok tt
    → batch_of_tables to_read (with_columns (Some rising) a) v custom tables body left
    ≡ Ok (record { rows = rows; columns = map cells_in read; custom = custom })
    → ArePicked (columns_read (record_batch_of a.order v tables body) h a.fields first_place rows) rising read
    → ArePicked (columns_read (record_batch_of a.order v tables body) h a.fields first_place rows) asked given
    → batch_of_tables to_read (with_columns (Some asked) a) v custom tables body left
    ≡ Ok (record { rows = rows; columns = map cells_in given; custom = custom })

-- What refuses a batch of columns by rising numbers refuses that of the columns asked for, in whatever order.
abbrev pub RisingBatchRefuses : Type 0
RisingBatchRefuses = (a : Asked) (rising : List ℕ) (asked : List ℕ) (v : MetadataVersion) (custom : Metadata) (tables : BatchHeader) (body : List ℕ)
    (left : Option ℕ) (es : List IpcError)
    → ((c : ℕ) → stands_in rising c ≡ stands_in asked c)
    → batch_of_tables to_read (with_columns (Some rising) a) v custom tables body left ≡ Err es
    → batch_of_tables to_read (with_columns (Some asked) a) v custom tables body left ≡ Err es

-- Fields that fit, as those of a schema that may be written do, are those that arrays are read of where no float and no decimal of 256 bits stands in them.
abbrev pub FittingFieldsAreCarried : Type 0
FittingFieldsAreCarried = (levels : ℕ) (fs : Fields) → floats_in fs ≡ [] → FieldsFit levels fs → are_carried fs ≡ true
