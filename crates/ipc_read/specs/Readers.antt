-- What the readers of buffers and of columns stand on, what they take and give, and what they keep.
use Rattle.std.specs.Prelude.{◌≡◌, ℕ, suc, ◌+◌, ◌^◌, ◌<◌, ◌≤◌, Bool, List, [], Option, Result, IfOk, IfErr, ℤ}
use Rattle.arrow_spec.specs.declared.error.IpcError.{IpcError}
use Rattle.arrow_spec.specs.declared.message.FieldNode.{FieldNode}
use Rattle.arrow_spec.specs.declared.message.IpcBuffer.{IpcBuffer}
use Rattle.arrow_spec.specs.declared.message.MetadataVersion.{MetadataVersion}
use Rattle.arrow_spec.specs.Kinds.{Kind, Fields}
use Rattle.arrow_spec.specs.Counts.{RecordBatch, Place, nodes_of, buffers_of, views_of, after}
use Rattle.arrow_spec.specs.Arrays.{Dictionaries}
use Rattle.ipc_io.specs.Outside.{SourceKept, LeavesFaults}
use Rattle.ipc_read_laws.specs.Faults.{read_faults, fetched_at_most}
use Rattle.ipc_read_laws.specs.Held.{Held, HoldsCells}
use Rattle.ipc_read.specs.declared.body.Body.{Body}
use Rattle.ipc_read.specs.declared.readers.BufferReader.{BufferReader}
use Rattle.ipc_read.specs.declared.readers.ColumnReader.{ColumnReader}
use Rattle.ipc_read.specs.Queues.{Left, At, AllAt, BatchAt, Shortened, ShortenedBy}
use Rattle.ipc_read.specs.Sources.{Answers, Inside, Told, Known, BodyReadCause}

-- ── a body and its source ──

-- a body lies inside a source, below the 63rd bit
pub record Readable (content : Option (List ℕ)) (body : Body) : Type 0 where
  pub room : body.offset + body.length < 2 ^ 63
  pub inside : Inside content body

-- a refusal is what the bytes say, want of memory, or a fault of the source, whose count rose
abbrev pub HasReadCause : {X : Type 0} → ℕ → ℕ → Result X IpcError → Type 0
HasReadCause faults faults' result = IfErr result (λ e. BodyReadCause e faults faults')

-- ── one buffer ──

-- the next buffer was taken
abbrev pub BufferTaken : {X : Type 0} → List IpcBuffer → List IpcBuffer → Result X IpcError → Type 0
BufferTaken bs bs' result = IfOk result (λ _. (m : RecordBatch) (i : ℕ) → Left m.buffers i bs → Left m.buffers (suc i) bs')

-- and so many of them
abbrev pub BuffersTaken : {X : Type 0} → ℕ → List IpcBuffer → List IpcBuffer → Result X IpcError → Type 0
BuffersTaken n bs bs' result = IfOk result (λ _. (m : RecordBatch) (i : ℕ) → Left m.buffers i bs → Left m.buffers (i + n) bs')

-- the next buffer's bytes give a value or refusals, in either order of the batch's numbers
abbrev pub BytesGiven : {X Y : Type 0} → Option (List ℕ) → Body → List IpcBuffer → (X → Y) → Result X IpcError → (RecordBatch → ℕ → List IpcError)
    → (RecordBatch → ℕ → Y) → Type 0
BytesGiven content body bs view result faults value =
    (m : RecordBatch) (i : ℕ) → Left m.buffers i bs → Told content body m.body → Answers view result (faults m i) (value m i)

-- the same of numbers, which stand in an order
abbrev pub NumbersGiven : {X Y : Type 0} → Option (List ℕ) → Body → Bool → List IpcBuffer → (X → Y) → Result X IpcError
    → (RecordBatch → ℕ → List IpcError) → (RecordBatch → ℕ → Y) → Type 0
NumbersGiven content body is_little_endian bs view result faults value =
    (m : RecordBatch) (i : ℕ) → Left m.buffers i bs → Known content body is_little_endian m → Answers view result (faults m i) (value m i)

-- of the next buffer at most so many bytes are fetched
abbrev pub BufferFetched : List IpcBuffer → ℕ → ℕ → (RecordBatch → ℕ → ℕ) → Type 0
BufferFetched bs fetched fetched' bytes = (m : RecordBatch) (i : ℕ) → Left m.buffers i bs → fetched' ≤ fetched + bytes m i

-- ── one column ──

-- an array of a kind was taken of the nodes and the buffers
abbrev pub LeafTaken : {X : Type 0} → Kind → List FieldNode → List FieldNode → List IpcBuffer → List IpcBuffer → Result X IpcError → Type 0
LeafTaken k ns ns' bs bs' result = IfOk result (λ _. (m : RecordBatch) (p : Place) → At m p ns bs → At m (after m k p) ns' bs')

-- and of the view counts
abbrev pub ColumnTaken : {X : Type 0} → Kind → List FieldNode → List FieldNode → List IpcBuffer → List IpcBuffer → List ℤ → List ℤ
    → Result X IpcError → Type 0
ColumnTaken k ns ns' bs bs' vs vs' result = IfOk result (λ _. (m : RecordBatch) (p : Place) → AllAt m p ns bs vs → AllAt m (after m k p) ns' bs' vs')

-- it gives a value or refusals, as far as its first rows go
abbrev pub LeafGiven : {X Y : Type 0} → Option (List ℕ) → Body → Bool → List FieldNode → List IpcBuffer → (X → Y) → Result X IpcError → Kind → ℕ
    → (RecordBatch → Place → Y) → Type 0
LeafGiven content body is_little_endian ns bs view result k rows value =
    (m : RecordBatch) (p : Place) → At m p ns bs → Known content body is_little_endian m → Answers view result (read_faults m [] k p rows) (value m p)

abbrev pub ColumnGiven : {X Y : Type 0} → Option (List ℕ) → Body → Bool → List FieldNode → List IpcBuffer → List ℤ → (X → Y) → Result X IpcError
    → Kind → ℕ → (RecordBatch → Place → Y) → Type 0
ColumnGiven content body is_little_endian ns bs vs view result k rows value =
    (m : RecordBatch) (p : Place) → AllAt m p ns bs vs → Known content body is_little_endian m
    → Answers view result (read_faults m [] k p rows) (value m p)

-- at most the buffers that are looked at are fetched
abbrev pub LeafFetched : Kind → List FieldNode → List IpcBuffer → ℕ → ℕ → ℕ → Type 0
LeafFetched k ns bs rows fetched fetched' = (m : RecordBatch) (p : Place) → At m p ns bs → fetched' ≤ fetched + fetched_at_most m k p rows

abbrev pub ColumnFetched : Kind → List FieldNode → List IpcBuffer → List ℤ → ℕ → ℕ → ℕ → Type 0
ColumnFetched k ns bs vs rows fetched fetched' = (m : RecordBatch) (p : Place) → AllAt m p ns bs vs → fetched' ≤ fetched + fetched_at_most m k p rows

-- also a refused column has taken at most what it has
abbrev pub LeafShortened : Kind → List FieldNode → List FieldNode → List IpcBuffer → List IpcBuffer → Type 0
LeafShortened k ns ns' bs bs' = (version : MetadataVersion) (vs : List ℤ) → ShortenedBy k version ns ns' bs bs' vs vs

abbrev pub ColumnShortened : Kind → List FieldNode → List FieldNode → List IpcBuffer → List IpcBuffer → List ℤ → List ℤ → Type 0
ColumnShortened k ns ns' bs bs' vs vs' = (version : MetadataVersion) → ShortenedBy k version ns ns' bs bs' vs vs'

-- ── one column of any kind, in a batch of a version ──

-- an array of a kind was taken, with its children
abbrev pub TreeTaken : {X : Type 0} → Kind → MetadataVersion → List FieldNode → List FieldNode → List IpcBuffer → List IpcBuffer → List ℤ → List ℤ
    → Result X IpcError → Type 0
TreeTaken k version ns ns' bs bs' vs vs' result =
    IfOk result (λ _. (m : RecordBatch) (p : Place) → BatchAt version m p ns bs vs → AllAt m (after m k p) ns' bs' vs')

-- it gives a value or refusals, whatever was read of the dictionaries that are held
abbrev pub TreeGiven : {X Y : Type 0} → Option (List ℕ) → Body → Bool → MetadataVersion → List FieldNode → List IpcBuffer → List ℤ → Held → (X → Y)
    → Result X IpcError → Kind → ℕ → (RecordBatch → Dictionaries → Place → Y) → Type 0
TreeGiven content body is_little_endian version ns bs vs h view result k rows value =
    (m : RecordBatch) (d : Dictionaries) (p : Place) → BatchAt version m p ns bs vs → Known content body is_little_endian m → HoldsCells d h
    → Answers view result (read_faults m d k p rows) (value m d p)

-- the same of keys of dictionaries, which stand in nodes and buffers alone
abbrev pub KeysGiven : {X Y : Type 0} → Option (List ℕ) → Body → Bool → List FieldNode → List IpcBuffer → Held → (X → Y)
    → Result X IpcError → Kind → ℕ → (RecordBatch → Dictionaries → Place → Y) → Type 0
KeysGiven content body is_little_endian ns bs h view result k rows value =
    (m : RecordBatch) (d : Dictionaries) (p : Place) → At m p ns bs → Known content body is_little_endian m → HoldsCells d h
    → Answers view result (read_faults m d k p rows) (value m d p)

-- at most the buffers that are looked at are fetched
abbrev pub TreeFetched : Kind → MetadataVersion → List FieldNode → List IpcBuffer → List ℤ → ℕ → ℕ → ℕ → Type 0
TreeFetched k version ns bs vs rows fetched fetched' =
    (m : RecordBatch) (p : Place) → BatchAt version m p ns bs vs → fetched' ≤ fetched + fetched_at_most m k p rows

-- also refused columns of some fields, one after another, have taken at most what they have
pub record ShortenedByAll (fs : Fields) (version : MetadataVersion) (ns ns' : List FieldNode) (bs bs' : List IpcBuffer) (vs vs' : List ℤ) : Type 0 where
  pub nodes : Shortened ns (nodes_of fs) ns'
  pub buffers : Shortened bs (buffers_of version vs fs 0) bs'
  pub views : Shortened vs (views_of fs) vs'

-- the node and the validity of the next array were taken
abbrev pub HeadTaken : {X : Type 0} → List FieldNode → List FieldNode → List IpcBuffer → List IpcBuffer → Result X IpcError → Type 0
HeadTaken ns ns' bs bs' result =
    IfOk result (λ _. (m : RecordBatch) (p : Place) → At m p ns bs → Left m.nodes (suc p.node) ns' × Left m.buffers (p.buffer + 1) bs')

-- ── the same of readers ──

abbrev pub CanRead : {S : Type 0} → (S → Option (List ℕ)) → BufferReader S → Type 0
CanRead content_of r = Readable (content_of r.source.now) r.body

-- a reader reads the same body from the same source, and holds the same queue
pub record KeepsSource {S : Type 0} (content_of : S → Option (List ℕ)) (faults_of : S → ℕ) (references_of : S → List ℕ)
    (r r' : BufferReader S) : Type 0 where
  pub same : SourceKept content_of faults_of references_of r.source.now r'.source.now
  pub body : r'.body ≡ r.body
  pub order : r'.is_little_endian ≡ r.is_little_endian
  pub queue : r'.queue.ghost_name ≡ r.queue.ghost_name
  pub source : r'.source.ghost_name ≡ r.source.ghost_name

-- and a reader of columns the same queues
pub record KeepsQueues {S : Type 0} (content_of : S → Option (List ℕ)) (faults_of : S → ℕ) (references_of : S → List ℕ)
    (r r' : ColumnReader S) : Type 0 where
  pub nodes : r'.nodes.ghost_name ≡ r.nodes.ghost_name
  pub variadic : r'.variadic.ghost_name ≡ r.variadic.ghost_name
  pub version : r'.version ≡ r.version
  pub buffers : KeepsSource content_of faults_of references_of r.buffers r'.buffers

-- a reader's queues are what is left of a batch's tables at a place: its nodes and buffers, or all
abbrev pub LeafAt : {S : Type 0} → RecordBatch → Place → ColumnReader S → Type 0
LeafAt m p r = At m p r.nodes.now.items r.buffers.queue.now.items

abbrev pub QueuesAt : {S : Type 0} → RecordBatch → Place → ColumnReader S → Type 0
QueuesAt m p r = AllAt m p r.nodes.now.items r.buffers.queue.now.items r.variadic.now.items

-- a reader's source tells its bytes, and a record batch has its body there, in the reader's order
abbrev pub KnownTo : {S : Type 0} → (S → Option (List ℕ)) → BufferReader S → RecordBatch → Type 0
KnownTo content_of r m = Known (content_of r.source.now) r.body r.is_little_endian m

abbrev pub FailsToRead : {S X : Type 0} → (S → ℕ) → BufferReader S → BufferReader S → Result X IpcError → Type 0
FailsToRead faults_of r r' result = HasReadCause (faults_of r.source.now) (faults_of r'.source.now) result

abbrev pub LeavesReadFaults : {S X : Type 0} → (S → ℕ) → BufferReader S → BufferReader S → Result X IpcError → Type 0
LeavesReadFaults faults_of r r' result = LeavesFaults (faults_of r.source.now) (faults_of r'.source.now) result

abbrev pub TakesBuffer : {S X : Type 0} → BufferReader S → BufferReader S → Result X IpcError → Type 0
TakesBuffer r r' result = BufferTaken r.queue.now.items r'.queue.now.items result

abbrev pub ShortensBuffers : {S : Type 0} → ℕ → BufferReader S → BufferReader S → Type 0
ShortensBuffers n r r' = Shortened r.queue.now.items n r'.queue.now.items

abbrev pub GivesBytes : {S X Y : Type 0} → (S → Option (List ℕ)) → BufferReader S → (X → Y) → Result X IpcError → (RecordBatch → ℕ → List IpcError)
    → (RecordBatch → ℕ → Y) → Type 0
GivesBytes content_of r view result faults value = BytesGiven (content_of r.source.now) r.body r.queue.now.items view result faults value

abbrev pub GivesNumbers : {S X Y : Type 0} → (S → Option (List ℕ)) → BufferReader S → (X → Y) → Result X IpcError
    → (RecordBatch → ℕ → List IpcError) → (RecordBatch → ℕ → Y) → Type 0
GivesNumbers content_of r view result faults value =
    NumbersGiven (content_of r.source.now) r.body r.is_little_endian r.queue.now.items view result faults value

abbrev pub FetchesBuffer : {S : Type 0} → (S → ℕ) → BufferReader S → BufferReader S → (RecordBatch → ℕ → ℕ) → Type 0
FetchesBuffer fetched_of r r' bytes = BufferFetched r.queue.now.items (fetched_of r.source.now) (fetched_of r'.source.now) bytes

abbrev pub TakesHead : {S X : Type 0} → ColumnReader S → ColumnReader S → Result X IpcError → Type 0
TakesHead r r' result = HeadTaken r.nodes.now.items r'.nodes.now.items r.buffers.queue.now.items r'.buffers.queue.now.items result

abbrev pub FailsToReadColumn : {S X : Type 0} → (S → ℕ) → ColumnReader S → ColumnReader S → Result X IpcError → Type 0
FailsToReadColumn faults_of r r' result = FailsToRead faults_of r.buffers r'.buffers result

abbrev pub TakesLeaf : {S X : Type 0} → Kind → ColumnReader S → ColumnReader S → Result X IpcError → Type 0
TakesLeaf k r r' result = LeafTaken k r.nodes.now.items r'.nodes.now.items r.buffers.queue.now.items r'.buffers.queue.now.items result

abbrev pub TakesColumn : {S X : Type 0} → Kind → ColumnReader S → ColumnReader S → Result X IpcError → Type 0
TakesColumn k r r' result =
    ColumnTaken k r.nodes.now.items r'.nodes.now.items r.buffers.queue.now.items r'.buffers.queue.now.items r.variadic.now.items r'.variadic.now.items result

abbrev pub GivesLeaf : {S X Y : Type 0} → (S → Option (List ℕ)) → ColumnReader S → (X → Y) → Result X IpcError → Kind → ℕ
    → (RecordBatch → Place → Y) → Type 0
GivesLeaf content_of r view result k rows value =
    LeafGiven (content_of r.buffers.source.now) r.buffers.body r.buffers.is_little_endian r.nodes.now.items r.buffers.queue.now.items view result k rows value

abbrev pub GivesColumn : {S X Y : Type 0} → (S → Option (List ℕ)) → ColumnReader S → (X → Y) → Result X IpcError → Kind → ℕ
    → (RecordBatch → Place → Y) → Type 0
GivesColumn content_of r view result k rows value =
    ColumnGiven (content_of r.buffers.source.now) r.buffers.body r.buffers.is_little_endian r.nodes.now.items r.buffers.queue.now.items
    r.variadic.now.items view result k rows value

abbrev pub FetchesLeaf : {S : Type 0} → (S → ℕ) → Kind → ColumnReader S → ColumnReader S → ℕ → Type 0
FetchesLeaf fetched_of k r r' rows =
    LeafFetched k r.nodes.now.items r.buffers.queue.now.items rows (fetched_of r.buffers.source.now) (fetched_of r'.buffers.source.now)

abbrev pub FetchesColumn : {S : Type 0} → (S → ℕ) → Kind → ColumnReader S → ColumnReader S → ℕ → Type 0
FetchesColumn fetched_of k r r' rows =
    ColumnFetched k r.nodes.now.items r.buffers.queue.now.items r.variadic.now.items rows (fetched_of r.buffers.source.now) (fetched_of r'.buffers.source.now)

abbrev pub ShortensLeaf : {S : Type 0} → Kind → ColumnReader S → ColumnReader S → Type 0
ShortensLeaf k r r' = LeafShortened k r.nodes.now.items r'.nodes.now.items r.buffers.queue.now.items r'.buffers.queue.now.items

abbrev pub ShortensColumn : {S : Type 0} → Kind → ColumnReader S → ColumnReader S → Type 0
ShortensColumn k r r' =
    ColumnShortened k r.nodes.now.items r'.nodes.now.items r.buffers.queue.now.items r'.buffers.queue.now.items r.variadic.now.items r'.variadic.now.items

-- the same of columns of any kind, in a batch of the reader's version

abbrev pub TreeAt : {S : Type 0} → RecordBatch → Place → ColumnReader S → Type 0
TreeAt m p r = BatchAt r.version m p r.nodes.now.items r.buffers.queue.now.items r.variadic.now.items

abbrev pub TakesTree : {S X : Type 0} → Kind → ColumnReader S → ColumnReader S → Result X IpcError → Type 0
TakesTree k r r' result = TreeTaken k r.version r.nodes.now.items r'.nodes.now.items r.buffers.queue.now.items r'.buffers.queue.now.items
    r.variadic.now.items r'.variadic.now.items result

abbrev pub GivesTree : {S X Y : Type 0} → (S → Option (List ℕ)) → ColumnReader S → Held → (X → Y) → Result X IpcError → Kind → ℕ
    → (RecordBatch → Dictionaries → Place → Y) → Type 0
GivesTree content_of r h view result k rows value =
    TreeGiven (content_of r.buffers.source.now) r.buffers.body r.buffers.is_little_endian r.version r.nodes.now.items r.buffers.queue.now.items
    r.variadic.now.items h view result k rows value

abbrev pub GivesKeys : {S X Y : Type 0} → (S → Option (List ℕ)) → ColumnReader S → Held → (X → Y) → Result X IpcError → Kind → ℕ
    → (RecordBatch → Dictionaries → Place → Y) → Type 0
GivesKeys content_of r h view result k rows value =
    KeysGiven (content_of r.buffers.source.now) r.buffers.body r.buffers.is_little_endian r.nodes.now.items r.buffers.queue.now.items h view result k rows value

abbrev pub FetchesTree : {S : Type 0} → (S → ℕ) → Kind → ColumnReader S → ColumnReader S → ℕ → Type 0
FetchesTree fetched_of k r r' rows = TreeFetched k r.version r.nodes.now.items r.buffers.queue.now.items r.variadic.now.items rows
    (fetched_of r.buffers.source.now) (fetched_of r'.buffers.source.now)

abbrev pub ShortensTree : {S : Type 0} → Kind → ColumnReader S → ColumnReader S → Type 0
ShortensTree k r r' = ShortenedBy k r.version r.nodes.now.items r'.nodes.now.items r.buffers.queue.now.items r'.buffers.queue.now.items
    r.variadic.now.items r'.variadic.now.items

abbrev pub ShortensTrees : {S : Type 0} → Fields → ColumnReader S → ColumnReader S → Type 0
ShortensTrees fs r r' = ShortenedByAll fs r.version r.nodes.now.items r'.nodes.now.items r.buffers.queue.now.items r'.buffers.queue.now.items
    r.variadic.now.items r'.variadic.now.items
