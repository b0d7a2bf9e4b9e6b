-- What several files in one stream add to a sink, and when they are refused.
use Rattle.std.specs.Prelude.{◌≡◌, ◌⊎◌, ◌<◌, ℕ, List, [], ◌∷◌, length, sum_by, ⊤, Option, None, Some}
use Rattle.std.specs.Io.KnownBytes.{Appends, Keeps}
use Rattle.arrow_spec.specs.declared.error.IpcError.{IpcError}
use Rattle.arrow_spec.specs.declared.error.IpcError.TheVariants as errors
use Rattle.arrow_spec.specs.Files.{ArrowTable, TableBatch}
use Rattle.arrow_spec.specs.Streams.{closed, stream_table, unended}
use Rattle.ipc_io.specs.Outside.{AppendsPrefix, Rose, SourceKept, Stands}
use Rattle.laws_walk.specs.Below.{counted}
pub use Rattle.laws_walk.specs.Sends.{IsOfPut}
use Rattle.laws_walk.specs.declared.summary.Summary.{Summary}
use Rattle.ipc_concat.specs.Tables.{MeanTables, joined}
use Rattle.ipc_concat.specs.Opening.{AreOpen, StopsOpening, StopsStart}
use Rattle.ipc_concat.specs.Stopping.{IsFront, StopsBehind}

-- ── what is added ──

-- a stream means the batches of all files, one after another
pub record AreJoined (bs : List (List ℕ)) (x : List ℕ) : Type 0 where
  pub files : MeanTables bs
  pub stream : stream_table x None ≡ Some (joined files.first files.others)

-- the numbers of a summary, each up to the greatest of 128 bits
pub record IsCountedSummary (s : Summary) (table : ArrowTable) (x : List ℕ) : Type 0 where
  pub batches : s.batches ≡ counted (length table.batches)
  pub rows : s.rows ≡ counted (sum_by (λ batch. batch.rows) table.batches)
  pub bytes : s.bytes ≡ counted (length x)

-- The text of one whole stream was added, closed, of all files.
pub record Concatenates (s : Summary) (bs : List (List ℕ)) (text : List ℕ → List ℕ) (old new : Option (List ℕ)) : Type 0 where
  pub bytes : List ℕ
  pub is_closed : closed bytes
  pub joins : AreJoined bs bytes
  pub added : Appends old new (text bytes)
  pub summary : IsCountedSummary s (joined joins.files.first joins.files.others) bytes

-- A part of a stream's text was added, from its front: of a whole stream, or of a front.
pub record AddsPiece (bs : List (List ℕ)) (text : List ℕ → List ℕ) (old new : Option (List ℕ)) : Type 0 where
  pub bytes : List ℕ
  pub piece : (closed bytes × AreJoined bs bytes) ⊎ IsFront bs bytes
  pub added : AppendsPrefix old new (text bytes)

-- What a refusal added, and why: nothing, before all metadata was read and the schema was put; behind that a front, which stops at what is refused;
-- where its end mark wanted memory the stream without it; and where a put failed, or wanted memory, a part of a stream. A device's fault and want of memory come anywhere.
pub data AddsPart (e : IpcError) (bs : List (List ℕ)) (text : List ℕ → List ℕ) (old new : Option (List ℕ)) (wants wants' : ℕ) : Type 0 where
  in_metadata : StopsOpening e bs → Keeps old new → AddsPart e bs text old new wants wants'
  in_schema : AreOpen bs → StopsStart e bs → Keeps old new → AddsPart e bs text old new wants wants'
  in_file : {x : List ℕ} → AreOpen bs → (front : IsFront bs x) → Appends old new (text x) → StopsBehind e front → AddsPart e bs text old new wants wants'
  at_end : {x : List ℕ} → e ≡ errors.Memory → unended x → AreJoined bs x → Appends old new (text x) → AddsPart e bs text old new wants wants'
  in_put : AreOpen bs → IsOfPut e wants wants' → AddsPiece bs text old new → AddsPart e bs text old new wants wants'

-- ── counts ──

-- one of several counts rose
abbrev pub OneRose : List ℕ → List ℕ → Type 0
OneRose [] [] = ⊥
OneRose [] (m ∷ ms) = ⊥
OneRose (n ∷ ns) [] = ⊥
OneRose (n ∷ ns) (m ∷ ms) = Rose n m ⊎ OneRose ns ms

-- none did
abbrev pub AllStand : List ℕ → List ℕ → Type 0
AllStand [] [] = ⊤
AllStand [] (m ∷ ms) = ⊥
AllStand (n ∷ ns) [] = ⊥
AllStand (n ∷ ns) (m ∷ ms) = Stands n m × AllStand ns ms

-- each source tells the same bytes, its faults have not fallen, and it holds the same references
abbrev pub EachKept : {S : Type 0} → (S → Option (List ℕ)) → (S → ℕ) → (S → List ℕ) → List S → List S → Type 0
EachKept content_of faults_of references_of [] [] = ⊤
EachKept content_of faults_of references_of [] (y ∷ ys) = ⊥
EachKept content_of faults_of references_of (x ∷ xs) [] = ⊥
EachKept content_of faults_of references_of (x ∷ xs) (y ∷ ys) = SourceKept content_of faults_of references_of x y × EachKept content_of faults_of references_of xs ys

-- why calls that read and put are refused, whatever the bytes are: a source's count rose, or a sink's; never for a state, or for what no file brings about
abbrev pub CauseOf : Type 0 → Type 0 → IpcError → Type 0
CauseOf reads writes errors.ReadFault = reads
CauseOf reads writes errors.WriteFault = writes
CauseOf reads writes errors.State = ⊥
CauseOf reads writes (errors.Projection index) = ⊥
CauseOf reads writes (errors.DictionaryReplaced id) = ⊥
CauseOf reads writes errors.NotRepresentable = ⊥
CauseOf reads writes e = ⊤

abbrev pub ConcatCause : IpcError → List ℕ → List ℕ → ℕ → ℕ → Type 0
ConcatCause e reads reads' writes writes' = CauseOf (OneRose reads reads') (Rose writes writes') e

-- the same of one source
abbrev pub SourceCause : IpcError → ℕ → ℕ → ℕ → ℕ → Type 0
SourceCause e reads reads' writes writes' = CauseOf (Rose reads reads') (Rose writes writes') e

-- the only refusals of files that mean tables of the same fields, where no device failed
abbrev pub IsSmallRefusal : IpcError → Type 0
IsSmallRefusal e = (e ≡ errors.Memory) ⊎ (e ≡ errors.TooLarge)
