-- What scanning a file block by block, and writing the marked rows to a stream, comes to. (Arrow Columnar Format, "IPC File Format", "IPC Streaming Format".)
use Rattle.std.specs.Prelude.{◌≡◌, ◌⊎◌, ℕ, zero, suc, ◌+◌, ◌≤◌, List, length, slice_get, take, true, Option, None, Some, Result, Ok, Err, IfSome}
use Rattle.std.specs.Rc.{rc_value}
use Rattle.arrow_spec.specs.Arrays.{Dictionaries}
use Rattle.arrow_spec.specs.declared.error.IpcError.{IpcError}
use Rattle.arrow_spec.specs.declared.error.IpcError.TheVariants.{Memory}
use Rattle.arrow_spec.specs.Files.{FileBlock, TableBatch, to_read, to_send}
use Rattle.arrow_spec.specs.Kinds.{Fields}
use Rattle.arrow_spec.specs.Readings.{IsAmong, Refuses, refusals}
use Rattle.arrow_spec.specs.Sent.{may_be_sent, stream_schema}
use Rattle.arrow_arrays.specs.Batches.{Batch}
use Rattle.ipc_bodies.specs.Encodings.{text_of}
use Rattle.ipc_bodies.specs.declared.encoding.Encoding.{Encoding}
use Rattle.ipc_files.specs.Blocks.{asked_under}
use Rattle.ipc_files.specs.Requests.{asked}
use Rattle.ipc_projection.specs.Below.{Held, HoldsCells}
use Rattle.ipc_files.specs.declared.metadata.FileMetadata.{FileMetadata}
use Rattle.ipc_files.specs.FileViews.{FileSays, WasRead, file_custom, meta_view}
use Rattle.ipc_files.specs.Below.{MayProject}
use Rattle.laws_scan.specs.Below.{HeldParts, Held as IsHeld}
use Rattle.laws_walk.specs.Below.{NotRead, StreamCore}
use Rattle.laws_scan.specs.Reads.{ReadsBlock}
use Rattle.laws_scan.specs.Scan.{met, scan_block, scan_cost, scan_right}
use Rattle.laws_scan.specs.Scans.{AddsPart, Scanned, Scans}
use Rattle.laws_transcode.specs.Files.{HasRead}
use Rattle.laws_walk.specs.Places.{IsReadBy, Place, Sending, Walking, asked_walked, fields_in_request, meta_in, meta_walked}
use Rattle.laws_walk.specs.Sends.{Refused, SendsOne, SentRows, SentSoFar}
use Rattle.laws_walk.specs.Walks.{blocks_walked, walk_cost, walk_reading}
use Rattle.laws_walk.specs.declared.summary.Summary.{Summary}
use Rattle.filter_types.specs.declared.filter.Filter.{Filter}
use Rattle.ipc_scan.specs.declared.scanner.Scanner.{Scanner}

-- what a file is read for: its reader is at the first block, and reads the columns asked for
pub record IsScanner (s : Scanner) (file : FileMetadata) (f : Filter) (columns : Option (List ℕ)) : Type 0 where
  pub metadata : s.reader.metadata ≡ file
  pub filter : s.filter ≡ f
  pub projects : MayProject (rc_value file.schema) columns s.reader.projection
  pub chosen : MayProject (rc_value file.schema) columns s.chosen
  pub right : scan_right f columns (meta_view file).schema.fields ≡ Ok tt
  pub read : WasRead file
  pub block : s.reader.block ≡ 0
  pub left : s.reader.left ≡ None
  pub dictionaries : s.reader.dictionaries ≡ NotRead

-- of some columns
abbrev pub IsReady : Scanner → Type 0
IsReady s = (columns : Option (List ℕ)) × IsScanner s s.reader.metadata s.filter columns

-- why a file is not read so
abbrev pub NotScanned : IpcError → Fields → Filter → Option (List ℕ) → Type 0
NotScanned e fs f columns = (e ≡ Memory) ⊎ IsAmong (refusals (scan_right f columns fs)) e

-- what is read of a block, under the parts that are held
abbrev pub BlockScanned : Option (List ℕ) → Scanner → Held → ℕ → Result (Option Batch) IpcError → Type 0
BlockScanned content s h n result = IfSome content (λ b. (d : Dictionaries) (block : FileBlock) (columns : Option (List ℕ)) → HoldsCells d h → slice_get (meta_view s.reader.metadata).blocks n ≡ Some block
    → MayProject (rc_value s.reader.metadata.schema) columns s.chosen → ReadsBlock s.filter b h (asked_under b (meta_view s.reader.metadata) d (asked columns None)) block result)

-- of a block that can be scanned under what is held, at most what it costs
abbrev pub BlockFetchedBy : Option (List ℕ) → Scanner → Held → ℕ → ℕ → ℕ → Type 0
BlockFetchedBy content s h n fetched fetched' = IfSome content (λ b. (d : Dictionaries) (block : FileBlock) (columns : Option (List ℕ)) (here : Option TableBatch) → HoldsCells d h → slice_get (meta_view s.reader.metadata).blocks n ≡ Some block
    → MayProject (rc_value s.reader.metadata.schema) columns s.chosen → scan_block s.filter to_read b (asked_under b (meta_view s.reader.metadata) d (asked columns None)) block ≡ Ok here
    → fetched' ≤ fetched + scan_cost s.filter b (asked_under b (meta_view s.reader.metadata) d (asked columns None)) block)

-- a file that is scanned in the columns of a request without a limit
abbrev pub scanning : Filter → Sending → Walking
scanning f x = record { bytes = x.bytes; file = x.file; walk = met f x.request.columns; encoding = x.encoding; start = x.start }

-- of the file the metadata was read, and nothing else
pub record IsUnscanned (s : Scanner) (x : Sending) : Type 0 where
  pub says : FileSays x.bytes (meta_in x) (file_custom x.file)
  pub scanner : IsScanner s x.file s.filter x.request.columns
  pub limit : x.request.limit ≡ None

-- a scan of a file, whose schema may be sent
pub record IsScannedBy (s : Scanner) (x : Sending) : Type 0 where
  pub by : IsReadBy s.reader x
  pub scanner : IsScanner s x.file s.filter x.request.columns
  pub limit : x.request.limit ≡ None
  pub small : may_be_sent (stream_schema (fields_in_request x) (meta_in x).schema.metadata (file_custom x.file)) ≡ true

-- the place before the first block
abbrev pub first_block : Place
first_block = record { block = 0; left = None; dictionaries = NotRead }

-- the place before a block, where the dictionaries are held from the first block on
abbrev pub place_at : ℕ → HeldParts → Place
place_at zero m = first_block
place_at (suc n) m = record { block = suc n; left = None; dictionaries = IsHeld m }

-- between a block and the one behind it no more is fetched than it costs; the dictionaries are counted where they are read
pub record BlocksFetched (x : Walking) (n : ℕ) (fetched fetched' : ℕ) : Type 0 where
  pub within : suc n ≤ length (meta_walked x).blocks
  pub blocks : (d : Dictionaries) (xs : List TableBatch) → HasRead x.bytes (meta_walked x) d → blocks_walked to_read x.bytes x.walk (asked_walked x d) true (meta_walked x).blocks x.walk.limit ≡ Ok xs
      → fetched' + walk_cost x.bytes (meta_walked x) x.walk d (take n (meta_walked x).blocks) x.walk.limit ≤ fetched + walk_cost x.bytes (meta_walked x) x.walk d (take (suc n) (meta_walked x).blocks) x.walk.limit

-- the rows of a block were written, or there are none, or it is refused
abbrev pub ScansNext : Result (Option ℕ) IpcError → Walking → ℕ → HeldParts → StreamCore → Option (List ℕ) → List ℕ → List TableBatch → ℕ → ℕ → Type 0
ScansNext (Ok None) x n m w' now' bytes bs wants wants' = SentSoFar x (place_at (suc n) m) w' now' bytes bs
ScansNext (Ok (Some rows)) x n m w' now' bytes bs wants wants' = SendsOne x (place_at (suc n) m) w' now' bytes bs rows
ScansNext (Err e) x n m w' now' bytes bs wants wants' = Refused e x now' wants wants'

-- all were, or one is refused
pub record ScannedAll (x : Walking) (w' : StreamCore) (now' : Option (List ℕ)) (s : Summary) : Type 0 where
  pub place : Place
  pub rows : SentRows x place w' now' s.batches s.rows
  pub ended : length (meta_walked x).blocks ≤ place.block

abbrev pub ScansAll : Result Summary IpcError → Walking → StreamCore → Option (List ℕ) → ℕ → ℕ → Type 0
ScansAll (Ok s) x w' now' wants wants' = ScannedAll x w' now' s
ScansAll (Err e) x w' now' wants wants' = Refused e x now' wants wants'

-- a stream was begun, of a file that may be sent, or not
abbrev pub BeginsScan : Result StreamCore IpcError → Sending → Scanner → Option (List ℕ) → ℕ → ℕ → Type 0
BeginsScan (Ok w) x s now' wants wants' = IsScannedBy s x × SentRows (scanning s.filter x) first_block w now' 0 0
BeginsScan (Err e) x s now' wants wants' = Refused e (scanning s.filter x) now' wants wants'

-- what a refusal says of the bytes of a file, and what was added then
pub record ScanRefused (e : IpcError) (b : List ℕ) (q : Scanned) (encoding : Encoding) (old new : Option (List ℕ)) (wants wants' : ℕ) : Type 0 where
  pub refused : Refuses e (refusals (walk_reading to_send b (met q.filter q.columns) None))
  pub part : AddsPart e wants wants' b q (text_of encoding) old new

-- a file was scanned, or a part of its stream was put
abbrev pub ScansFile : Result Summary IpcError → List ℕ → Scanned → Encoding → Option (List ℕ) → Option (List ℕ) → ℕ → ℕ → Type 0
ScansFile (Ok s) b q encoding old new wants wants' = Scans s b q (text_of encoding) old new
ScansFile (Err e) b q encoding old new wants wants' = ScanRefused e b q encoding old new wants wants'
