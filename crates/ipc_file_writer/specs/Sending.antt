-- What of a batch is planned and put, with its blocks.
use Rattle.std.specs.Prelude.{◌≡◌, ◌⊎◌, ◌+◌, ◌<◌, ◌≤◌, List, Bool, true, false, length, Result, Ok, Err, vec_capacity}
use Rattle.std.specs.Io.KnownBytes.{Appends}
use Rattle.arrow_spec.specs.declared.error.IpcError.{IpcError}
use Rattle.arrow_spec.specs.declared.error.IpcError.TheVariants.{Memory}
use Rattle.arrow_arrays.specs.Batches.{Batch}
use Rattle.ipc_messages.specs.Below.{Moved, NoneFalls, PutsPart, ToSend}
use Rattle.ipc_messages.specs.declared.puts.Stop.{Stop}
use Rattle.ipc_messages.specs.Messages.{IsChunkPlanned, Sizes, chunk_text}
use Rattle.ipc_messages.specs.Puts.{Untouched}
use Rattle.ipc_file_writer.specs.Blocks.{HasMore, IsChunkPlaced, PlacesChunk, SameBlocks, chunk_sizes}
use Rattle.ipc_file_writer.specs.Calls.{MayBeAdded, RefusesMore, Stays}
use Rattle.ipc_file_writer.specs.declared.blocks.ChunkBlocks.{ChunkBlocks}
use Rattle.ipc_file_writer.specs.declared.calls.PlannedChunk.{PlannedChunk}
use Rattle.ipc_file_writer.specs.declared.file.FileCore.{FileCore}

-- all but the blocks stays
pub record IsHeld (old new : FileCore) : Type 0 where
  pub state : new.state ≡ old.state
  pub tracker : new.tracker ≡ old.tracker
  pub stays : Stays old new

-- and the blocks too, but for room for more
pub record IsLeft (old new : FileCore) : Type 0 where
  pub held : IsHeld old new
  pub blocks : SameBlocks old.blocks new.blocks
  pub written : new.has_written ≡ old.has_written

-- there is room for more blocks, and memory through which bodies are put
pub record HasRoom (c : FileCore) (more : ChunkBlocks) : Type 0 where
  pub dictionaries : length c.blocks.dictionaries.items + length more.dictionaries.items ≤ vec_capacity c.blocks.dictionaries
  pub records : length c.blocks.records.items < vec_capacity c.blocks.records
  pub scratch : length c.scratch.items ≡ 65536

-- messages have blocks behind those of the file, for which there is room
pub record ArePlacedMore (old new : FileCore) (xs : List Sizes) (c : ChunkBlocks) : Type 0 where
  pub placed : IsChunkPlaced old.blocks.end xs c
  pub room : HasRoom new c
  pub left : IsLeft old new

-- or a place would be too large, or memory was wanted
abbrev pub PlacesMore : Result ChunkBlocks IpcError → FileCore → FileCore → List Sizes → Type 0
PlacesMore (Ok c) old new xs = ArePlacedMore old new xs c
PlacesMore (Err e) old new xs = PlacesChunk (Err e) old.blocks.end xs × IsLeft old new

-- the messages of a batch and of what is sent before it are planned, with their blocks, for which there is room
pub record IsPlanned (old new : FileCore) (sent : List ToSend) (b : Batch) (p : PlannedChunk) : Type 0 where
  pub messages : IsChunkPlanned old.options sent b p.messages.items
  pub blocks : IsChunkPlaced old.blocks.end (chunk_sizes sent b) p.blocks
  pub room : HasRoom new p.blocks
  pub left : IsLeft old new

abbrev pub PlansMore : Result PlannedChunk IpcError → FileCore → FileCore → List ToSend → Batch → Type 0
PlansMore (Ok p) old new sent b = IsPlanned old new sent b p
PlansMore (Err e) old new sent b = ((e ≡ Memory) ⊎ RefusesMore e old sent b) × IsLeft old new

-- they were put, and the file has their blocks
pub record IsPut (m : Moved) (old new : FileCore) (sent : List ToSend) (b : Batch) : Type 0 where
  pub may : MayBeAdded old sent b
  pub appended : Appends m.old m.new (chunk_text sent b)
  pub counts : NoneFalls m
  pub blocks : HasMore old.blocks new.blocks sent b
  pub written : new.has_written ≡ true
  pub held : IsHeld old new

-- or not before a byte was put, or the first put wanted memory
abbrev pub PutStops : Bool → Moved → IpcError → FileCore → List ToSend → Batch → Type 0
PutStops true m e old sent b = MayBeAdded old sent b × PutsPart m e (chunk_text sent b)
PutStops false m e old sent b = ((e ≡ Memory) ⊎ RefusesMore e old sent b) × Untouched m

abbrev pub PutsMore : Moved → Result (Unit {0}) Stop → FileCore → FileCore → List ToSend → Batch → Type 0
PutsMore m (Ok u) old new sent b = IsPut m old new sent b
PutsMore m (Err s) old new sent b = PutStops s.has_begun m s.error old sent b × IsLeft old new
