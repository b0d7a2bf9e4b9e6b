-- The messages of a file's blocks, as a producer of a flight hands them over. (Arrow Columnar Format, "IPC File Format".)
use Rattle.std.specs.Prelude.{◌≡◌, ◌+◌, ◌≤◌, ℕ, suc, List, [], ⊤, Option, Some, None, Result, Ok, Err, IfErr, IfOk, IfSome, drop, length, slice_get, take}
use Rattle.arrow_spec.specs.declared.error.IpcError.{IpcError}
use Rattle.arrow_spec.specs.declared.error.IpcError.TheVariants.{Memory, OutOfSpec, ReadFault}
use Rattle.arrow_spec.specs.Files.{FileBlock}
use Rattle.arrow_spec.specs.Messages.{prefix_of}
use Rattle.arrow_spec.specs.Readings.{◌>>=◌, Reading, Refuses, refusals}
use Rattle.ipc_io.specs.Outside.{Rose}
use Rattle.ipc_write.specs.declared.encoded.EncodedData.{EncodedData}
use Rattle.ipc_flight.specs.Flights.{Handed, handed}

abbrev pub handed_of : EncodedData → Handed
handed_of x = record { metadata = x.ipc_message.items; body = x.arrow_data.items }

-- the metadata behind a prefix, in bytes that begin with the prefix
unfoldable pub metadata_in : List ℕ → Reading (List ℕ)
metadata_in front = prefix_of front >>= λ p. Ok (take p.1 (drop p.0 front))

-- a message without a byte
pub record IsEmptyMessage (x : EncodedData) : Type 0 where
  pub metadata : x.ipc_message.items ≡ []
  pub body : x.arrow_data.items ≡ []

-- a call hands over the message of a block as it stands, or answers a refusal of it
pub record HandsBlock (content : Option (List ℕ)) (block : FileBlock) (x : EncodedData) (result : Result (Unit {0}) IpcError) : Type 0 where
  pub ok : IfOk result (λ _. IfSome content (λ b. handed b block ≡ Ok (handed_of x)))
  pub err : IfErr result (λ e. IfSome content (λ b. Refuses e (refusals (handed b block))))

-- why no message is handed over: bytes that are damaged, want of memory, or a fault of the source
abbrev pub HandCause : IpcError → ℕ → ℕ → Type 0
HandCause (OutOfSpec kind) faults faults' = ⊤
HandCause ReadFault faults faults' = Rose faults faults'
HandCause Memory faults faults' = ⊤
HandCause e faults faults' = ⊥

-- the block that is next, which counts as taken
pub record IsNext (blocks : List FileBlock) (i i' : ℕ) (block : FileBlock) : Type 0 where
  pub stands : slice_get blocks i ≡ Some block
  pub taken : i' ≡ suc i

-- What one call hands over of the i-th of some blocks, where the bytes are told: nothing exactly past the last. A refusal leaves an empty message, and the block is taken.
pub data HandsOver (content : Option (List ℕ)) (blocks : List FileBlock) (i i' : ℕ) (x : EncodedData) : Result (Option (Unit {0})) IpcError → Type 0 where
  past_the_last : length blocks ≤ i → i' ≡ i → IsEmptyMessage x → HandsOver content blocks i i' x (Ok None)
  a_block : {block : FileBlock} → IsNext blocks i i' block → IfSome content (λ b. handed b block ≡ Ok (handed_of x)) → HandsOver content blocks i i' x (Ok (Some tt))
  refused : {block : FileBlock} {e : IpcError} → IsNext blocks i i' block → IsEmptyMessage x → IfSome content (λ b. Refuses e (refusals (handed b block)))
      → HandsOver content blocks i i' x (Err e)

-- how many bytes a block has, none where there is none
abbrev pub block_size : Option FileBlock → ℕ
block_size None = 0
block_size (Some block) = block.metadata + block.body
