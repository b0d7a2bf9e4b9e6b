-- What a stream that becomes a file adds to a sink, and when it is refused. (Arrow Columnar Format, "IPC Streaming Format", "IPC File Format".)
use Rattle.std.specs.Prelude.{◌≡◌, ◌⊎◌, ℕ, List, ⊤, Option, None, Some}
use Rattle.std.specs.Io.KnownBytes.{Appends, Keeps}
use Rattle.arrow_spec.specs.declared.error.IpcError.{IpcError}
use Rattle.arrow_spec.specs.declared.error.IpcError.TheVariants as errors
use Rattle.arrow_spec.specs.Features.{chosen_floats}
use Rattle.arrow_spec.specs.Files.{ArrowTable, «all»}
use Rattle.arrow_spec.specs.Meaning.{file_table}
use Rattle.arrow_spec.specs.Readings.{IsAmong}
use Rattle.arrow_spec.specs.Streams.{stream_table}
use Rattle.ipc_io.specs.Outside.{Rose}
use Rattle.ipc_append.specs.Below.{stream_schema}
use Rattle.ipc_append.specs.Wholes.{HasTooMany, IsWhole, RefusesStream}
use Rattle.ipc_append.specs.declared.stream.WholeStream.{WholeStream}
use Rattle.laws_walk.specs.Summaries.{IsSummary}
use Rattle.laws_walk.specs.declared.summary.Summary.{Summary}
use Rattle.ipc_to_file.specs.Streams.{HasLargeKey, IsMadeOf}
use Rattle.ipc_to_file.specs.Writing.{IsTooLarge}

-- The text of a whole file was added, which means the table that the stream means.
pub record MakesFile (s : Summary) (b : List ℕ) (text : List ℕ → List ℕ) (old new : Option (List ℕ)) : Type 0 where
  pub bytes : List ℕ
  pub table : ArrowTable
  pub stream : stream_table b None ≡ Some table
  pub file : file_table bytes «all» ≡ Some table
  pub added : Appends old new (text bytes)
  pub summary : IsSummary s table bytes
  -- no key that is not null passes its type
  pub read : WholeStream
  pub whole : IsWhole b read
  pub united : WholeStream
  pub made : IsMadeOf read united

-- a stream without batches has a column of a kind that is never read
pub record HasUnread (e : IpcError) (b : List ℕ) : Type 0 where
  pub stream : WholeStream
  pub whole : IsWhole b stream
  pub refused : IsAmong (chosen_floats None (stream_schema stream.metadata).fields 0) e

-- a part of the file is too large
pub record HasLargePart (b : List ℕ) : Type 0 where
  pub stream : WholeStream
  pub whole : IsWhole b stream
  pub united : WholeStream
  pub made : IsMadeOf stream united
  pub large : IsTooLarge united.metadata united.batches.items

-- Why a stream becomes no file: it is refused, as its meaning is, or for too many dictionaries, which that allows; or behind it a kind, a key, or a part of the file is refused. A device's fault and want of memory come anywhere.
pub data RefusesFile (e : IpcError) (b : List ℕ) : Type 0 where
  in_stream : RefusesStream e b → RefusesFile e b
  in_kinds : HasUnread e b → RefusesFile e b
  in_keys : e ≡ errors.NotRepresentable → HasLargeKey b → RefusesFile e b
  in_file : e ≡ errors.TooLarge → HasLargePart b → RefusesFile e b
  of_devices : (e ≡ errors.Memory) ⊎ (e ≡ errors.WriteFault) → RefusesFile e b

-- why it is refused, whatever the bytes are: a count rose, or they or memory are the cause; never for a projection, fields, a replacement or a state
abbrev pub ToFileCause : IpcError → ℕ → ℕ → ℕ → ℕ → Type 0
ToFileCause errors.ReadFault reads reads' writes writes' = Rose reads reads'
ToFileCause errors.WriteFault reads reads' writes writes' = Rose writes writes'
ToFileCause (errors.Projection index) reads reads' writes writes' = ⊥
ToFileCause errors.SchemaMismatch reads reads' writes writes' = ⊥
ToFileCause (errors.DictionaryReplaced id) reads reads' writes writes' = ⊥
ToFileCause errors.State reads reads' writes writes' = ⊥
ToFileCause e reads reads' writes writes' = ⊤

-- all is read before anything is put, so only what is refused in the file, want of memory and the sink's fault leave anything
abbrev pub LeavesNone : IpcError → Option (List ℕ) → Option (List ℕ) → Type 0
LeavesNone errors.TooLarge old new = ⊤
LeavesNone errors.Memory old new = ⊤
LeavesNone errors.WriteFault old new = ⊤
LeavesNone e old new = Keeps old new

-- what a stream that means a table may be refused for: too many dictionaries, a kind, a key, or a part of the file
abbrev pub IsFileRefusal : IpcError → List ℕ → Type 0
IsFileRefusal e b = HasTooMany e b ⊎ (HasUnread e b ⊎ (((e ≡ errors.NotRepresentable) × HasLargeKey b) ⊎ ((e ≡ errors.TooLarge) × HasLargePart b)))

-- or for want of memory, where no device failed
abbrev pub IsRareRefusal : IpcError → List ℕ → Type 0
IsRareRefusal e b = (e ≡ errors.Memory) ⊎ IsFileRefusal e b

-- why a text is not put
abbrev pub PutCause : IpcError → ℕ → ℕ → Type 0
PutCause errors.Memory faults faults' = ⊤
PutCause errors.WriteFault faults faults' = Rose faults faults'
PutCause e faults faults' = ⊥
