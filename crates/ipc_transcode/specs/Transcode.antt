-- What a transcoding adds to a sink, and when it is refused.
use Rattle.std.specs.Prelude.{◌≡◌, ◌⊎◌, ℕ, List, length, sum_by, ⊤, Option, Some, IfSome}
use Rattle.std.specs.Io.KnownBytes.{Appends, Keeps}
use Rattle.arrow_spec.specs.declared.error.IpcError.{IpcError}
use Rattle.arrow_spec.specs.declared.error.IpcError.TheVariants as errors
use Rattle.arrow_spec.specs.Files as files
use Rattle.arrow_spec.specs.Files.{Request, ArrowTable, «all»}
use Rattle.laws_transcode.specs.Files.{IsFrontOf, IsStreamOf, StopsBehind}
use Rattle.arrow_spec.specs.Meaning.{file_table, may}
use Rattle.ipc_io.specs.Outside.{AppendsPrefix, Rose}
use Rattle.laws_walk.specs.Summaries.{IsSummary}
use Rattle.laws_walk.specs.declared.summary.Summary.{Summary}

-- The text of a whole stream was added.
pub record AddsStream (b : List ℕ) (r : Request) (text : List ℕ → List ℕ) (old new : Option (List ℕ)) : Type 0 where
  pub bytes : List ℕ
  pub table : ArrowTable
  pub stream : IsStreamOf b r bytes table
  pub added : Appends old new (text bytes)

-- The text of a front was added.
pub record AddsFront (b : List ℕ) (r : Request) (text : List ℕ → List ℕ) (old new : Option (List ℕ)) : Type 0 where
  pub bytes : List ℕ
  pub table : ArrowTable
  pub stream : IsFrontOf b r bytes table
  pub added : Appends old new (text bytes)

-- A part of a stream's text was added, from its front: of a whole stream, shown in one way, or of a front, in another.
pub record AddsPiece (b : List ℕ) (r : Request) (shown text : List ℕ → List ℕ) (old new : Option (List ℕ)) : Type 0 where
  pub bytes : List ℕ
  pub table : ArrowTable
  pub piece : (IsStreamOf b r bytes table × AppendsPrefix old new (shown bytes))
      ⊎ (IsFrontOf b r bytes table × AppendsPrefix old new (text bytes))

-- Nothing was added, or the text of a front that stops at the block that was refused: its batches are those before it, each once. A device's fault and want of memory come anywhere.
abbrev pub AddsFrontOrNone : IpcError → List ℕ → Request → (List ℕ → List ℕ) → Option (List ℕ) → Option (List ℕ) → Type 0
AddsFrontOrNone e b r text old new = Keeps old new ⊎ ((front : AddsFront b r text old new) × StopsBehind b r (length front.table.batches) e)

-- A transcoding that was done. Where the whole file means a table, the stream has of it the columns asked for, each batch cut to its share of the limit.
pub record Transcodes (s : Summary) (b : List ℕ) (r : Request) (text : List ℕ → List ℕ) (old new : Option (List ℕ)) : Type 0 where
  pub stream : AddsStream b r text old new
  pub summary : IsSummary s stream.table stream.bytes
  pub cut : (t : ArrowTable) → file_table b «all» ≡ Some t → stream.table ≡ files.cut (files.project t r.columns) r.limit

-- What a refused transcoding added: nothing, or a front. After a put that failed, or that wanted memory, which a sink counts, a part of a stream.
abbrev pub AddsPart : IpcError → ℕ → ℕ → List ℕ → Request → (List ℕ → List ℕ) → Option (List ℕ) → Option (List ℕ) → Type 0
AddsPart errors.WriteFault wants wants' b r text old new = AddsPiece b r text text old new
AddsPart errors.Memory wants wants' b r text old new = AddsFrontOrNone errors.Memory b r text old new ⊎ (Rose wants wants' × AddsPiece b r text text old new)
AddsPart e wants wants' b r text old new = AddsFrontOrNone e b r text old new

-- why a transcoding is refused: by what the bytes mean where they are told, or by a count
abbrev pub TranscodeCause : IpcError → Option (List ℕ) → Request → ℕ → ℕ → ℕ → ℕ → Type 0
TranscodeCause errors.ReadFault content r reads reads' writes writes' = Rose reads reads'
TranscodeCause errors.WriteFault content r reads reads' writes writes' = Rose writes writes'
TranscodeCause errors.Memory content r reads reads' writes writes' = ⊤
TranscodeCause errors.SchemaMismatch content r reads reads' writes writes' = ⊥
TranscodeCause (errors.DictionaryReplaced id) content r reads reads' writes writes' = ⊥
TranscodeCause errors.NotRepresentable content r reads reads' writes writes' = ⊥
TranscodeCause errors.State content r reads reads' writes writes' = ⊥
TranscodeCause e content r reads reads' writes writes' = IfSome content (λ b. may b r e)

-- the only refusals of a file that means a table, where no device failed
abbrev pub IsSmallRefusal : List ℕ → Request → IpcError → Type 0
IsSmallRefusal b r e = (e ≡ errors.Memory) ⊎ ((e ≡ errors.TooLarge) × may b r errors.TooLarge)
