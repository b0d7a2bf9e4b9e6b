-- Messages that were encoded, put one batch after another. (Arrow Columnar Format, "IPC File Format".)
use Rattle.std.specs.Prelude.{◌≡◌, ◌⊎◌, ℕ, List, [], ◌∷◌, ◌++◌, ⊤, Result, Ok, Err}
use Rattle.std.specs.List.{flat_map}
use Rattle.std.specs.Io.KnownBytes.{Appends}
use Rattle.arrow_spec.specs.declared.error.IpcError.{IpcError}
use Rattle.arrow_spec.specs.declared.error.IpcError.TheVariants as errors
use Rattle.laws_sent.specs.Below.{Moved, NoneFalls}
use Rattle.ipc_file_writer.specs.Calls.{Finishes, ending_of}
use Rattle.ipc_file_writer.specs.Given.{HasGiven, WritesGiven, given_chunk}
use Rattle.ipc_file_writer.specs.Written as written
use Rattle.ipc_file_writer.specs.declared.file.FileCore.{FileCore}
use Rattle.ipc_file_writer.specs.Below.{given_text}
use Rattle.ipc_io.specs.Outside.{Rose}
use Rattle.ipc_append.specs.declared.encode.EncodedChunk.{EncodedChunk}

-- the bytes of the messages of a batch
abbrev pub chunk_bytes : EncodedChunk → List ℕ
chunk_bytes c = flat_map given_text (given_chunk c.dictionaries.items c.batch)

-- they were written
pub record IsGiven (old new : FileCore) (c : EncodedChunk) : Type 0 where
  pub moved : Moved
  pub given : HasGiven moved old new c.dictionaries.items c.batch

-- those of several batches were, one batch behind another
pub data AreGiven : FileCore → FileCore → List EncodedChunk → Type 0 where
  none_given : {c : FileCore} → AreGiven c c []
  one_given : {c d e : FileCore} {x : EncodedChunk} {xs : List EncodedChunk} → IsGiven c d x → AreGiven d e xs → AreGiven c e (x ∷ xs)

-- why a put stops: a message, the footer or a place is too large, or memory is wanted, or the sink failed, whose faults rose
abbrev pub PutCause : IpcError → ℕ → ℕ → Type 0
PutCause errors.TooLarge faults faults' = ⊤
PutCause errors.Memory faults faults' = ⊤
PutCause errors.WriteFault faults faults' = Rose faults faults'
PutCause e faults faults' = ⊥

-- all was put, each behind the one before it
pub record AllGiven (m : Moved) (old new : FileCore) (cs : List EncodedChunk) : Type 0 where
  pub given : AreGiven old new cs
  pub appended : Appends m.old m.new (flat_map chunk_bytes cs)
  pub counts : NoneFalls m

-- the messages of a batch are refused, or a put of them failed, behind others that were put
pub record OneNotGiven (e : IpcError) (old new : FileCore) (cs : List EncodedChunk) : Type 0 where
  pub before : List EncodedChunk
  pub chunk : EncodedChunk
  pub behind : List EncodedChunk
  pub are : cs ≡ before ++ chunk ∷ behind
  pub held : FileCore
  pub given : AreGiven old held before
  pub moved : Moved
  pub refused : WritesGiven moved (Err e) held new chunk.dictionaries.items chunk.batch

-- bytes were added to what was put, and why it stops
pub record StopsIn (m : Moved) (e : IpcError) : Type 0 where
  pub added : List ℕ
  pub appended : Appends m.old m.new added
  pub counts : NoneFalls m
  pub cause : PutCause e m.faults m.faults_now

abbrev pub GivesAll : Moved → Result (Unit {0}) IpcError → FileCore → FileCore → List EncodedChunk → Type 0
GivesAll m (Ok u) old new cs = AllGiven m old new cs
GivesAll m (Err e) old new cs = OneNotGiven e old new cs × StopsIn m e

-- ── and the file ended ──

-- all was put, and the file's end behind it
pub record IsEnded (m : Moved) (old : FileCore) (cs : List EncodedChunk) : Type 0 where
  pub last : FileCore
  pub given : AreGiven old last cs
  pub ending : List ℕ
  pub ends : ending_of last ≡ Ok ending
  -- where the file's schema may be said, whatever it means is a table then
  pub means : written.EndsFile last ending
  pub appended : Appends m.old m.new (flat_map chunk_bytes cs ++ ending)
  pub counts : NoneFalls m

-- the file is not ended behind them
pub record NotEnded (e : IpcError) (old new : FileCore) (cs : List EncodedChunk) : Type 0 where
  pub held : FileCore
  pub given : AreGiven old held cs
  pub moved : Moved
  pub refused : Finishes moved (Err e) held new

abbrev pub EndsFile : Moved → Result (Unit {0}) IpcError → FileCore → FileCore → List EncodedChunk → Type 0
EndsFile m (Ok u) old new cs = IsEnded m old cs
EndsFile m (Err e) old new cs = (OneNotGiven e old new cs ⊎ NotEnded e old new cs) × StopsIn m e
