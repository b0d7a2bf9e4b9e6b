-- A stream's record batches at the end of a file. (Arrow Columnar Format, "IPC File Format".)
use Rattle.std.specs.Prelude.{◌≡◌, ◌⊎◌, ℕ, List, ◌++◌, length, map, take, ⊤, false, Option, Some, Ok, IfSome}
use Rattle.std.specs.List.{flat_map}
use Rattle.arrow_spec.specs.declared.error.IpcError.{IpcError}
use Rattle.arrow_spec.specs.declared.error.IpcError.TheVariants as errors
use Rattle.arrow_spec.specs.Files.{ArrowTable, «all»}
use Rattle.arrow_spec.specs.Meaning.{file_table}
use Rattle.ipc_append.specs.Appends.{CutFails, GoesOnWith, IsContinued, MeansBefore, StopsBefore}
use Rattle.ipc_file_writer.specs.Below.{DictionaryTracker}
use Rattle.ipc_disk.specs.Disks.{below}
use Rattle.ipc_disk.specs.Tails.{cut_and_padded}
use Rattle.ipc_fields.specs.IpcFields.{ids_of}
use Rattle.ipc_file_writer.specs.Calls.{ending_of}
use Rattle.ipc_file_writer.specs.Written.{EndsFile}
use Rattle.ipc_file_writer.specs.declared.file.FileCore.{FileCore}
use Rattle.ipc_streams.specs.Below.{FileMetadata, table_of, WriteOptions}
use Rattle.ipc_io.specs.Outside.{Rose}
use Rattle.laws_files.specs.Files.{followed_by}
use Rattle.ipc_append.specs.declared.encode.EncodedChunk.{EncodedChunk}
use Rattle.ipc_append.specs.declared.stream.WholeStream.{WholeStream}
use Rattle.ipc_append.specs.Encoded.{AreEncoded, AreRefused}
use Rattle.ipc_append.specs.Puts.{AreGiven, NotEnded, OneNotGiven, PutCause, chunk_bytes}
use Rattle.ipc_append.specs.Targets.{DoesNotTake, HasOtherFields, HoldsDictionaries, LacksDictionaries, Takes}

-- ── before the disk is changed ──

-- a stream's batches were encoded under a file's ids, by what its blocks hold
pub record IsPrepared (content : Option (List ℕ)) (asked : WriteOptions) (s : WholeStream) (m : FileMetadata) (chunks : List EncodedChunk) : Type 0 where
  pub takes : Takes content s.metadata m
  pub held : DictionaryTracker
  pub holds : HoldsDictionaries content asked m held
  pub behind : DictionaryTracker
  pub encoded : AreEncoded asked (ids_of m.ipc_schema.fields.items) held behind s.batches.items chunks

-- the dictionaries of a file that takes the stream are refused
pub record DictionariesRefused (content : Option (List ℕ)) (e : IpcError) (s : WholeStream) (faults faults' : ℕ) : Type 0 where
  pub file : FileMetadata
  pub takes : Takes content s.metadata file
  pub lacks : LacksDictionaries content e file faults faults'

-- a batch is refused under the file's ids, by what its blocks hold
pub record BatchesRefused (content : Option (List ℕ)) (e : IpcError) (asked : WriteOptions) (s : WholeStream) : Type 0 where
  pub file : FileMetadata
  pub takes : Takes content s.metadata file
  pub held : DictionaryTracker
  pub holds : HoldsDictionaries content asked file held
  pub refused : AreRefused e asked (ids_of file.ipc_schema.fields.items) held s.batches.items

-- why nothing is prepared, step by step
abbrev pub NotPrepared : Option (List ℕ) → IpcError → WriteOptions → WholeStream → ℕ → ℕ → Type 0
NotPrepared content e asked s faults faults' = DoesNotTake content e s.metadata faults faults'
    ⊎ (DictionariesRefused content e s faults faults' ⊎ BatchesRefused content e asked s)

-- a file does not go on
pub record NotContinued (content : Option (List ℕ)) (e : IpcError) (asked : WriteOptions) (s : WholeStream) (faults faults' : ℕ) : Type 0 where
  pub file : FileMetadata
  pub chunks : List EncodedChunk
  pub prepared : IsPrepared content asked s file chunks
  pub stops : StopsBefore content e asked file faults faults'

-- ── when it is changed ──

-- the bytes below a place are as they were, where they were told
abbrev pub KeepsBelow : ℕ → Option (List ℕ) → Option (List ℕ) → Type 0
KeepsBelow place old new = IfSome old (λ b. below place new ≡ Some (take place b))

-- the disk failed, or wanted memory, where it was cut or padded
pub record NotCut (old new : Option (List ℕ)) (e : IpcError) (asked : WriteOptions) (s : WholeStream) (faults faults' : ℕ) : Type 0 where
  pub file : FileMetadata
  pub chunks : List EncodedChunk
  pub prepared : IsPrepared old asked s file chunks
  pub fails : CutFails old new e asked file faults faults'

-- the writer of a file that was cut there stops: at a batch, or at the file's end, or where the disk is cut behind that
abbrev pub Stops : IpcError → FileCore → List EncodedChunk → Type 0
Stops e core chunks = (last : FileCore) × (OneNotGiven e core last chunks
    ⊎ (NotEnded e core last chunks ⊎ ((e ≡ errors.WriteFault) × AreGiven core last chunks)))

-- the disk was cut, and what was to stand behind the cut is not all there
pub record StopsWriting (old new : Option (List ℕ)) (e : IpcError) (asked : WriteOptions) (m : FileMetadata) (chunks : List EncodedChunk)
    (faults faults' : ℕ) : Type 0 where
  pub place : ℕ
  pub core : FileCore
  pub continued : IsContinued old asked m place core
  pub stops : Stops e core chunks
  pub kept : KeepsBelow place old new
  pub cause : PutCause e faults faults'

pub record NotWritten (old new : Option (List ℕ)) (e : IpcError) (asked : WriteOptions) (s : WholeStream) (faults faults' : ℕ) : Type 0 where
  pub file : FileMetadata
  pub chunks : List EncodedChunk
  pub prepared : IsPrepared old asked s file chunks
  pub stops : StopsWriting old new e asked file chunks faults faults'

-- why a stream is not appended: before the disk is cut nothing is changed
abbrev pub IsNotAppended : Option (List ℕ) → Option (List ℕ) → IpcError → WriteOptions → WholeStream → ℕ → ℕ → Type 0
IsNotAppended old new e asked s faults faults' =
    ((NotPrepared old e asked s faults faults' ⊎ NotContinued old e asked s faults faults') × (new ≡ old))
    ⊎ (NotCut old new e asked s faults faults' ⊎ NotWritten old new e asked s faults faults')

-- What a refusal says. A fault comes only where the disk's count of them rose, and `SchemaMismatch` only where the file's fields are others than the stream's.
-- Parts of a dictionary are refused only where no deltas are written. A column that is not there, and a state of a writer, are never told.
abbrev pub RefusalSays : IpcError → Option (List ℕ) → WriteOptions → WholeStream → ℕ → ℕ → Type 0
RefusalSays errors.ReadFault content asked s faults faults' = Rose faults faults'
RefusalSays errors.WriteFault content asked s faults faults' = Rose faults faults'
RefusalSays errors.SchemaMismatch content asked s faults faults' = HasOtherFields content s.metadata
RefusalSays errors.NotRepresentable content asked s faults faults' = asked.deltas ≡ false
RefusalSays (errors.Projection index) content asked s faults faults' = ⊥
RefusalSays errors.State content asked s faults faults' = ⊥
RefusalSays e content asked s faults faults' = ⊤

-- ── when all is done ──

-- Messages stand in a file: behind the farthest of its blocks, with zeros up to a multiple of 8, as they were encoded, and behind them an end of the file with all blocks.
pub record IsWritten (old new : Option (List ℕ)) (asked : WriteOptions) (m : FileMetadata) (chunks : List EncodedChunk) : Type 0 where
  pub place : ℕ
  pub core : FileCore
  pub continued : IsContinued old asked m place core
  -- where the file means a table, what is left of it means the table's batches still
  pub goes_on : (b : List ℕ) (t : ArrowTable) → old ≡ Some b → MeansBefore b m place t → GoesOnWith core (cut_and_padded place b) t
  pub last : FileCore
  pub given : AreGiven core last chunks
  pub ending : List ℕ
  pub ends : ending_of last ≡ Ok ending
  -- where its schema may be said, whatever stands before its end means a table then
  pub means : EndsFile last ending
  pub content : IfSome old (λ b. new ≡ Some (cut_and_padded place b ++ (flat_map chunk_bytes chunks ++ ending)))

-- those of a stream's batches do
pub record IsAppended (old new : Option (List ℕ)) (asked : WriteOptions) (s : WholeStream) : Type 0 where
  pub file : FileMetadata
  pub chunks : List EncodedChunk
  pub prepared : IsPrepared old asked s file chunks
  pub written : IsWritten old new asked file chunks
  -- where the file means a table, the new file means it with the stream's batches behind its own
  pub means : (b : List ℕ) (t : ArrowTable) → old ≡ Some b → MeansBefore b file written.place t
      → IfSome new (λ y. file_table y «all» ≡ Some (followed_by t (map table_of s.batches.items)))

-- ── one call ──

-- a writer of a file at the end of a disk wrote messages and ended the file
pub record EndsDisk (old new : Option (List ℕ)) (core : FileCore) (chunks : List EncodedChunk) : Type 0 where
  pub last : FileCore
  pub given : AreGiven core last chunks
  pub ending : List ℕ
  pub ends : ending_of last ≡ Ok ending
  pub means : EndsFile last ending
  pub content : IfSome old (λ b. new ≡ Some (b ++ (flat_map chunk_bytes chunks ++ ending)))

-- it stops, and what the disk had is as it was
pub record StopsOnDisk (old new : Option (List ℕ)) (e : IpcError) (core : FileCore) (chunks : List EncodedChunk) (faults faults' : ℕ) : Type 0 where
  pub stops : Stops e core chunks
  pub kept : IfSome old (λ b. below (length b) new ≡ Some b)
  pub cause : PutCause e faults faults'

-- a file does not go on, or it could not be cut, or what was to stand behind the cut is not all there
abbrev pub WritesNot : Option (List ℕ) → Option (List ℕ) → IpcError → WriteOptions → FileMetadata → List EncodedChunk → ℕ → ℕ → Type 0
WritesNot old new e asked m chunks faults faults' =
    (StopsBefore old e asked m faults faults' × (new ≡ old))
    ⊎ (CutFails old new e asked m faults faults' ⊎ StopsWriting old new e asked m chunks faults faults')
