-- Messages that were encoded before and are written to a file. (Arrow Columnar Format, "IPC File Format".)
use Rattle.std.specs.Prelude.{◌≡◌, ◌⊎◌, ℕ, List, [], ◌∷◌, ◌++◌, Bool, true, false, map, Result, Ok, Err}
use Rattle.std.specs.List.{flat_map}
use Rattle.std.specs.Io.KnownBytes.{Appends}
use Rattle.arrow_spec.specs.declared.error.IpcError.{IpcError}
use Rattle.arrow_spec.specs.declared.error.IpcError.TheVariants.{Memory, State, TooLarge}
use Rattle.arrow_spec.specs.Files.{TableBatch}
use Rattle.arrow_spec.specs.Sent.{SentMessage}
use Rattle.laws_files.specs.Below.{WrittenBatch, batch_bytes, table_batch, written_batch, Known, WrittenMessage, WrittenValues, batch, values, values_bytes, values_message, with_messages}
use Rattle.ipc_messages.specs.Below.{Moved, NoneFalls, PutsPart, EncodedData}
use Rattle.ipc_messages.specs.Messages.{sizes_of}
use Rattle.ipc_messages.specs.Puts.{Untouched}
use Rattle.ipc_messages.specs.States.{is_started}
use Rattle.ipc_messages.specs.declared.puts.Stop.{Stop}
use Rattle.ipc_messages.specs.Framed.{AreFramed, are_short, given_sizes, given_text}
use Rattle.ipc_file_writer.specs.Blocks.{IsChunkPlaced, are_placed, behind_all, block_at, blocks_at, file_blocks}
use Rattle.ipc_file_writer.specs.Calls.{HasFailed, LeavesAll}
use Rattle.laws_files.specs.Files.{MayBeAdded}
use Rattle.ipc_file_writer.specs.Written.{IsFile, file_fields}
use Rattle.ipc_file_writer.specs.Sending.{IsHeld, IsLeft, HasRoom}
use Rattle.ipc_file_writer.specs.declared.blocks.FileBlocks.{FileBlocks}
use Rattle.ipc_file_writer.specs.declared.file.FileCore.{FileCore}
use Rattle.ipc_file_writer.specs.declared.given.FramedChunk.{FramedChunk}

-- the messages of dictionaries, and of the batch behind them
abbrev pub given_chunk : List EncodedData → EncodedData → List EncodedData
given_chunk ds b = ds ++ b ∷ []

-- they may be added to a file: none has too much metadata, and they have blocks
pub record MayAddGiven (c : FileCore) (ds : List EncodedData) (b : EncodedData) : Type 0 where
  pub short : are_short c.options.metadata_limit (given_chunk ds b) ≡ true
  pub placed : are_placed c.blocks.end (map given_sizes (given_chunk ds b)) ≡ true

-- why not
abbrev pub RefusesGiven : IpcError → FileCore → List EncodedData → EncodedData → Type 0
RefusesGiven e c ds b = (e ≡ TooLarge) × ((are_short c.options.metadata_limit (given_chunk ds b) ≡ false)
    ⊎ ((are_short c.options.metadata_limit (given_chunk ds b) ≡ true) × (are_placed c.blocks.end (map given_sizes (given_chunk ds b)) ≡ false)))

-- behind a file's blocks are those of the messages, one behind another from the place on that is behind all bytes before them
pub record HasGivenBlocks (old new : FileBlocks) (ds : List EncodedData) (b : EncodedData) : Type 0 where
  pub dictionaries : file_blocks new.dictionaries ≡ file_blocks old.dictionaries ++ blocks_at old.end (map given_sizes ds)
  pub records : file_blocks new.records ≡ file_blocks old.records ++ block_at (behind_all old.end (map given_sizes ds)) (given_sizes b) ∷ []
  pub end : new.end ≡ behind_all old.end (map given_sizes (given_chunk ds b))

-- ── framed ──

-- messages are framed, with their blocks, for which there is room
pub record IsGivenFramed (old new : FileCore) (ds : List EncodedData) (b : EncodedData) (f : FramedChunk) : Type 0 where
  pub framed : AreFramed old.options.metadata_limit (given_chunk ds b) f.messages.items
  pub blocks : IsChunkPlaced old.blocks.end (map given_sizes (given_chunk ds b)) f.blocks
  pub room : HasRoom new f.blocks
  pub left : IsLeft old new

abbrev pub FramesMore : Result FramedChunk IpcError → FileCore → FileCore → List EncodedData → EncodedData → Type 0
FramesMore (Ok f) old new ds b = IsGivenFramed old new ds b f
FramesMore (Err e) old new ds b = ((e ≡ Memory) ⊎ RefusesGiven e old ds b) × IsLeft old new

-- ── put ──

-- they were put, and the file has their blocks
pub record AreGivenPut (m : Moved) (old new : FileCore) (ds : List EncodedData) (b : EncodedData) : Type 0 where
  pub may : MayAddGiven old ds b
  pub appended : Appends m.old m.new (flat_map given_text (given_chunk ds b))
  pub counts : NoneFalls m
  pub blocks : HasGivenBlocks old.blocks new.blocks ds b
  pub written : new.has_written ≡ true
  pub held : IsHeld old new

-- or not before a byte was put, or the first put wanted memory
abbrev pub GivenStops : Bool → Moved → IpcError → FileCore → List EncodedData → EncodedData → Type 0
GivenStops true m e old ds b = MayAddGiven old ds b × PutsPart m e (flat_map given_text (given_chunk ds b))
GivenStops false m e old ds b = ((e ≡ Memory) ⊎ RefusesGiven e old ds b) × Untouched m

abbrev pub PutsGiven : Moved → Result (Unit {0}) Stop → FileCore → FileCore → List EncodedData → EncodedData → Type 0
PutsGiven m (Ok u) old new ds b = AreGivenPut m old new ds b
PutsGiven m (Err s) old new ds b = GivenStops s.has_begun m s.error old ds b × IsLeft old new

-- ── what they mean ──

-- a message was encoded so: its bytes, and how many stand before its body and in it
pub record IsEncoded (m : SentMessage) (bytes : List ℕ) (e : EncodedData) : Type 0 where
  pub text : given_text e ≡ bytes
  pub sizes : given_sizes e ≡ sizes_of m

-- the messages of some values
abbrev pub AreEncoded : List WrittenValues → List EncodedData → Type 0
AreEncoded [] [] = Unit {0}
AreEncoded [] (e ∷ es) = ⊥
AreEncoded (v ∷ vs) [] = ⊥
AreEncoded (v ∷ vs) (e ∷ es) = IsEncoded (values_message v) (values_bytes v) e × AreEncoded vs es

-- values, and a batch behind them
abbrev pub written_chunk : List WrittenValues → WrittenBatch → List WrittenMessage
written_chunk vs y = map values vs ++ batch y ∷ []

-- ── written ──

-- they were written: the messages were put one behind another, and the file has their blocks; what the writer holds of dictionaries stays
pub record HasGiven (m : Moved) (old new : FileCore) (ds : List EncodedData) (b : EncodedData) : Type 0 where
  pub started : is_started old.state ≡ true
  pub puts : AreGivenPut m old new ds b
  -- where they are those of values and of a batch that may be put there, the file means the batch behind those before it, and the values are known
  pub means : (k : Known) (x : List ℕ) (bs : List TableBatch) (vs : List WrittenValues) (y : WrittenBatch)
      → AreEncoded vs ds → IsEncoded (written_batch y) (batch_bytes y) b → MayBeAdded (file_fields old) k (written_chunk vs y) → IsFile k old x bs
      → IsFile (with_messages (written_chunk vs y) k) new (x ++ flat_map given_text (given_chunk ds b)) (bs ++ table_batch y ∷ [])

-- why none was: the file is not begun, or is ended, or a put has failed before; or memory was wanted; or a message is too large, or its place
abbrev pub GivenCause : IpcError → FileCore → List EncodedData → EncodedData → Type 0
GivenCause e c ds b = ((e ≡ State) × (is_started c.state ≡ false)) ⊎ ((is_started c.state ≡ true) × ((e ≡ Memory) ⊎ RefusesGiven e c ds b))

-- a put failed
pub record GivenFailed (m : Moved) (e : IpcError) (old new : FileCore) (ds : List EncodedData) (b : EncodedData) : Type 0 where
  pub started : is_started old.state ≡ true
  pub may : MayAddGiven old ds b
  pub failed : HasFailed m e (flat_map given_text (given_chunk ds b)) old new

abbrev pub WritesGiven : Moved → Result (Unit {0}) IpcError → FileCore → FileCore → List EncodedData → EncodedData → Type 0
WritesGiven m (Ok u) old new ds b = HasGiven m old new ds b
WritesGiven m (Err e) old new ds b = (GivenCause e old ds b × LeavesAll m old new) ⊎ GivenFailed m e old new ds b

-- ── memory that is used again ──

-- all but that memory is the same
pub record HasOtherScratch (old new : FileCore) : Type 0 where
  pub options : new.options ≡ old.options
  pub state : new.state ≡ old.state
  pub schema : new.schema ≡ old.schema
  pub ipc_schema : new.ipc_schema ≡ old.ipc_schema
  pub pairs : new.pairs ≡ old.pairs
  pub tracker : new.tracker ≡ old.tracker
  pub blocks : new.blocks ≡ old.blocks
  pub written : new.has_written ≡ old.has_written
