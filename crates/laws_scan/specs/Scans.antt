-- What a scan adds to a sink, and when it is refused.
use Rattle.std.specs.Prelude.{◌≡◌, ◌⊎◌, ℕ, suc, ◌+◌, ◌≤◌, List, ⊤, Option, Some, None, Ok, IfSome, IsSome}
use Rattle.std.specs.Io.KnownBytes.{Appends, Keeps}
use Rattle.arrow_spec.specs.declared.error.IpcError.{IpcError}
use Rattle.arrow_spec.specs.declared.error.IpcError.TheVariants as errors
use Rattle.arrow_spec.specs.Files.{ArrowTable, project, to_read, to_send, «all»}
use Rattle.arrow_spec.specs.Meaning.{file_table}
use Rattle.arrow_spec.specs.Readings.{Refuses, refusals}
use Rattle.arrow_spec.specs.Streams.{closed, stream_table, unended}
use Rattle.ipc_io.specs.Outside.{AppendsPrefix, Rose}
use Rattle.laws_walk.specs.Summaries.{IsSummary}
use Rattle.laws_walk.specs.Walks.{walk_reading}
use Rattle.laws_walk.specs.declared.summary.Summary.{Summary}
use Rattle.filter_types.specs.declared.filter.Filter.{Filter}
use Rattle.laws_scan.specs.Filtered.{filtered}
use Rattle.laws_scan.specs.Scan.{file_cost, met, scan_may, scan_table}

-- what is asked: a filter, and the columns that are kept
pub record Scanned : Type 0 where
  pub filter : Filter
  pub columns : Option (List ℕ)

abbrev pub scanned : Filter → Option (List ℕ) → Scanned
scanned f columns = record { filter = f; columns = columns }

-- one whole stream, closed, that means the table of a scan
pub record IsScan (b : List ℕ) (q : Scanned) (x : List ℕ) (table : ArrowTable) : Type 0 where
  pub is_closed : closed x
  pub stream : stream_table x None ≡ Some table
  pub file : scan_table b q.filter q.columns ≡ Some table

-- an unended stream, with nothing behind its messages, that means the rows of a file's first n blocks
pub record IsFront (b : List ℕ) (q : Scanned) (n : ℕ) (x : List ℕ) (table : ArrowTable) : Type 0 where
  pub not_ended : unended x
  pub stream : stream_table x None ≡ Some table
  pub file : walk_reading to_read b (met q.filter q.columns) (Some n) ≡ Ok table

-- the file's first n blocks and the one behind them are refused so where they are to be sent; a device's fault and want of memory come anywhere
abbrev pub StopsBehind : List ℕ → Scanned → ℕ → IpcError → Type 0
StopsBehind b q n e = Refuses e (refusals (walk_reading to_send b (met q.filter q.columns) (Some (suc n))))

-- The text of a whole stream was added.
pub record AddsStream (b : List ℕ) (q : Scanned) (text : List ℕ → List ℕ) (old new : Option (List ℕ)) : Type 0 where
  pub bytes : List ℕ
  pub table : ArrowTable
  pub stream : IsScan b q bytes table
  pub added : Appends old new (text bytes)

-- The text of a front was added, which stops at the block that was refused.
pub record AddsFront (e : IpcError) (b : List ℕ) (q : Scanned) (text : List ℕ → List ℕ) (old new : Option (List ℕ)) : Type 0 where
  pub blocks : ℕ
  pub bytes : List ℕ
  pub table : ArrowTable
  pub stream : IsFront b q blocks bytes table
  pub added : Appends old new (text bytes)
  pub stops : StopsBehind b q blocks e

-- A part of a stream's text was added, from its front: of a whole stream, shown in one way, or of a front, in another.
pub record AddsPiece (b : List ℕ) (q : Scanned) (shown text : List ℕ → List ℕ) (old new : Option (List ℕ)) : Type 0 where
  pub blocks : ℕ
  pub bytes : List ℕ
  pub table : ArrowTable
  pub piece : (IsScan b q bytes table × AppendsPrefix old new (shown bytes)) ⊎ (IsFront b q blocks bytes table × AppendsPrefix old new (text bytes))

-- nothing was added, or a front
abbrev pub AddsFrontOrNone : IpcError → List ℕ → Scanned → (List ℕ → List ℕ) → Option (List ℕ) → Option (List ℕ) → Type 0
AddsFrontOrNone e b q text old new = Keeps old new ⊎ AddsFront e b q text old new

-- A scan that was done. Where the whole file means a table, the stream has of it the rows that meet the filter, without empty batches, in the columns asked for.
pub record Scans (s : Summary) (b : List ℕ) (q : Scanned) (text : List ℕ → List ℕ) (old new : Option (List ℕ)) : Type 0 where
  pub stream : AddsStream b q text old new
  pub summary : IsSummary s stream.table stream.bytes
  pub rows : (t : ArrowTable) → file_table b «all» ≡ Some t → stream.table ≡ project (filtered q.filter t) q.columns

-- What a refused scan added: nothing, or a front. After a put that failed, or that wanted memory, which a sink counts, a part of a stream.
abbrev pub AddsPart : IpcError → ℕ → ℕ → List ℕ → Scanned → (List ℕ → List ℕ) → Option (List ℕ) → Option (List ℕ) → Type 0
AddsPart errors.WriteFault wants wants' b q text old new = AddsPiece b q text text old new
AddsPart errors.Memory wants wants' b q text old new = AddsFrontOrNone errors.Memory b q text old new ⊎ (Rose wants wants' × AddsPiece b q text text old new)
AddsPart e wants wants' b q text old new = AddsFrontOrNone e b q text old new

-- why a scan is refused: by what the bytes mean where they are told, or by a count
abbrev pub ScanCause : IpcError → Option (List ℕ) → Scanned → ℕ → ℕ → ℕ → ℕ → Type 0
ScanCause errors.ReadFault content q reads reads' writes writes' = Rose reads reads'
ScanCause errors.WriteFault content q reads reads' writes writes' = Rose writes writes'
ScanCause errors.Memory content q reads reads' writes writes' = ⊤
ScanCause errors.SchemaMismatch content q reads reads' writes writes' = ⊥
ScanCause (errors.DictionaryReplaced id) content q reads reads' writes writes' = ⊥
ScanCause errors.NotRepresentable content q reads reads' writes writes' = ⊥
ScanCause errors.State content q reads reads' writes writes' = ⊥
ScanCause e content q reads reads' writes writes' = IfSome content (λ b. scan_may b q.filter q.columns e)

-- the only refusals of a scan of a file that means a table, where no device failed
abbrev pub IsSmallRefusal : List ℕ → Scanned → IpcError → Type 0
IsSmallRefusal b q e = (e ≡ errors.Memory) ⊎ ((e ≡ errors.TooLarge) × scan_may b q.filter q.columns errors.TooLarge)

-- of a file of which a scan means a table, at most what it costs: no buffer of a column asked for in a block without a marked row
abbrev pub ScanFetched : Option (List ℕ) → Scanned → ℕ → ℕ → Type 0
ScanFetched None q fetched fetched' = ⊤
ScanFetched (Some b) q fetched fetched' = IsSome (scan_table b q.filter q.columns) → (n : ℕ) → file_cost b (met q.filter q.columns) ≡ Ok n → fetched' ≤ fetched + n
