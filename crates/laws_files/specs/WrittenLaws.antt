-- What holds of files that are written. Each statement is the contract of a public function without a body (src/lib.rt).
use Rattle.std.specs.Prelude.{◌≡◌, ℕ, List, [], ◌++◌, Some, Ok}
use Rattle.std.specs.List.{flat_map}
use Rattle.arrow_spec.specs.Kinds.{Fields, Metadata}
use Rattle.arrow_spec.specs.Arrays.{Dictionaries, found}
use Rattle.arrow_spec.specs.Files.{ArrowTable, FileBlock, TableBatch, «all», dictionaries_of}
use Rattle.arrow_spec.specs.Meaning.{file_table}
use Rattle.ipc_write_laws.specs.Messages.{AllMayBeWritten, Known, WrittenMessage, batch_in, none_known, with_messages}
use Rattle.laws_files.specs.Files.{AreDeltasOrFirst, Begun, CutMeans, FrontMeans, MayBeAdded, MayBeCut, MayBeEnded, cut_at, ended, followed_by, only_begun, read_meta, table_of, with_more}

-- A file of messages that may be put into it, and ended, means the table of its batches.
abbrev pub FileOfMessagesMeansItsTable : Type 0
FileOfMessagesMeansItsTable = (fs : Fields) (pairs custom : Metadata) (ms : List WrittenMessage) → MayBeAdded fs none_known ms
    → MayBeEnded fs pairs custom (with_more (only_begun fs) ms)
    → file_table (ended fs pairs custom (with_more (only_begun fs) ms)) «all» ≡ Some (table_of fs pairs custom (flat_map batch_in ms))

-- Behind the front of a file that means something, messages that may be put there, and the end, make a file that means it and the messages' batches.
abbrev pub MoreOfAFileMeansItsTable : Type 0
MoreOfAFileMeansItsTable = (fs : Fields) (pairs custom : Metadata) (x : Begun) (c : Known) (batches : List TableBatch) (ms : List WrittenMessage)
    → FrontMeans fs x c batches → MayBeAdded fs c ms → MayBeEnded fs pairs custom (with_more x ms)
    → file_table (ended fs pairs custom (with_more x ms)) «all» ≡ Some (table_of fs pairs custom (batches ++ flat_map batch_in ms))

-- A file in which nothing but its schema's message stands means no batches.
abbrev pub OnlyBegunMeansNothing : Type 0
OnlyBegunMeansNothing = (fs : Fields) → FrontMeans fs (only_begun fs) none_known []

-- Messages that may be put behind it add their batches to what it means.
abbrev pub FrontGoesOn : Type 0
FrontGoesOn = (fs : Fields) (x : Begun) (c : Known) (batches : List TableBatch) (ms : List WrittenMessage) → FrontMeans fs x c batches
    → MayBeAdded fs c ms → FrontMeans fs (with_more x ms) (with_messages ms c) (batches ++ flat_map batch_in ms)

-- The front of a file that means something, and is ended, is a file that means it.
abbrev pub EndedFrontMeansItsTable : Type 0
EndedFrontMeansItsTable = (fs : Fields) (pairs custom : Metadata) (x : Begun) (c : Known) (batches : List TableBatch) → FrontMeans fs x c batches
    → MayBeEnded fs pairs custom x → file_table (ended fs pairs custom x) «all» ≡ Some (table_of fs pairs custom batches)

-- Messages that may be written to a stream may be put into a file where the values among them are deltas, or the first of their ids.
abbrev pub MessagesMayBeAdded : Type 0
MessagesMayBeAdded = (fs : Fields) (c : Known) (ms : List WrittenMessage) → AllMayBeWritten fs c ms → AreDeltasOrFirst c ms → MayBeAdded fs c ms

-- A file that means a table, and is cut behind its blocks, is the front of a file that means its batches.
abbrev pub CutFileMeansItsBatches : Type 0
CutFileMeansItsBatches = (b : List ℕ) (t : ArrowTable) (fs : Fields) (pairs : Metadata) (dictionaries records : List FileBlock) (place : ℕ) (gap : List ℕ)
    → file_table b «all» ≡ Some t → MayBeCut b fs pairs dictionaries records place
    → CutMeans b t fs pairs dictionaries records (cut_at b place gap dictionaries records)

-- Gone on with there, by messages that may be put behind what the file's dictionaries say, and ended with the pairs of its footer, it means its table followed by the messages' batches.
abbrev pub AppendedFileMeansItsTable : Type 0
AppendedFileMeansItsTable = (b : List ℕ) (t : ArrowTable) (fs : Fields) (pairs : Metadata) (dictionaries records : List FileBlock) (place : ℕ) (gap : List ℕ)
    (held : Dictionaries) (ms : List WrittenMessage)
    → file_table b «all» ≡ Some t → MayBeCut b fs pairs dictionaries records place
    → dictionaries_of b (read_meta fs pairs records dictionaries) [] dictionaries ≡ Ok held → MayBeAdded fs (λ id. found held id) ms
    → MayBeEnded fs pairs t.custom (with_more (cut_at b place gap dictionaries records) ms)
    → file_table (ended fs pairs t.custom (with_more (cut_at b place gap dictionaries records) ms)) «all» ≡ Some (followed_by t (flat_map batch_in ms))
