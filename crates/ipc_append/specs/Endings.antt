-- A file that is ended on its disk, and what it means when batches were written behind a file that was there. (Arrow Columnar Format, "IPC File Format".)
use Rattle.std.specs.Prelude.{◌≡◌, ◌⊎◌, ◌++◌, ◌∷◌, ℕ, List, [], take, true, Option, Some, Ok, IfSome}
use Rattle.arrow_spec.specs.declared.error.IpcError.{IpcError}
use Rattle.arrow_spec.specs.declared.error.IpcError.TheVariants.{WriteFault}
use Rattle.arrow_arrays.specs.Batches.{Batch}
use Rattle.ipc_append.specs.Appended.{KeepsBelow}
use Rattle.ipc_fields.specs.IpcFields.{Ids}
use Rattle.ipc_file_writer.specs.Below.{is_started}
use Rattle.ipc_file_writer.specs.Calls.{FinishCause, HasWritten, ending_of}
use Rattle.ipc_file_writer.specs.Written.{EndsFile}
use Rattle.ipc_file_writer.specs.declared.file.FileCore.{FileCore}
use Rattle.ipc_io.specs.Outside.{Rose}
use Rattle.laws_sent.specs.Below.{Moved}

-- the file was ended behind what stood below a place, and the disk ends with it
pub record IsEndedOnDisk (old new : Option (List ℕ)) (place : ℕ) (c : FileCore) : Type 0 where
  pub started : is_started c.state ≡ true
  pub ending : List ℕ
  pub ends : ending_of c ≡ Ok ending
  -- where its schema may be said, whatever stands before its end means a table then
  pub means : EndsFile c ending
  pub content : IfSome old (λ b. new ≡ Some (take place b ++ ending))

-- why it is not: its end is refused, or the disk failed
abbrev pub EndCause : IpcError → FileCore → ℕ → ℕ → Type 0
EndCause e c faults faults' = FinishCause e c ⊎ ((is_started c.state ≡ true) × (e ≡ WriteFault) × Rose faults faults')

-- it is not, and the bytes below the place are as they were
pub record NotEndedOnDisk (old new : Option (List ℕ)) (place : ℕ) (e : IpcError) (c : FileCore) (faults faults' : ℕ) : Type 0 where
  pub cause : EndCause e c faults faults'
  pub kept : KeepsBelow place old new

-- a batch was written, behind what a disk had
pub record IsOneMore (old new : Option (List ℕ)) (c d : FileCore) (b : Batch) : Type 0 where
  pub moved : Moved
  pub from : moved.old ≡ old
  pub to : moved.new ≡ new
  pub given : Option Ids
  pub written : HasWritten moved c d b given

-- batches were, one behind another
pub data AreWritten : Option (List ℕ) → Option (List ℕ) → FileCore → FileCore → List Batch → Type 0 where
  none_written : {x : Option (List ℕ)} {c : FileCore} → AreWritten x x c c []
  one_written : {x y z : Option (List ℕ)} {c d e : FileCore} {b : Batch} {bs : List Batch} → IsOneMore x y c d b → AreWritten y z d e bs → AreWritten x z c e (b ∷ bs)
