-- Columns that are passed over.
use Rattle.std.specs.Prelude.{◌≡◌, ℕ, suc, ◌+◌, List, take, drop, Bool, true, false, ⊤, ℤ, Result, IfOk, IfErr}
use Rattle.arrow_spec.specs.declared.error.IpcError.{IpcError}
use Rattle.arrow_spec.specs.declared.error.IpcError.TheVariants.{OutOfSpec}
use Rattle.arrow_spec.specs.Faults.{some_negative, counts_faults, count_faults}
use Rattle.ipc_read.specs.Queues.{Left, At, AllAt, Shortened, ShortenedBy}
use Rattle.ipc_read.specs.Places.{behind, place_faults}
use Rattle.ipc_read.specs.Sources.{Answers}
use Rattle.arrow_spec.specs.Kinds.{Kind, Fields}
use Rattle.arrow_spec.specs.Counts.{RecordBatch, Place, count_at, nodes_of, buffers_of, views_of, after, inside}
use Rattle.arrow_spec.specs.declared.message.FieldNode.{FieldNode}
use Rattle.arrow_spec.specs.declared.message.IpcBuffer.{IpcBuffer}
use Rattle.arrow_spec.specs.declared.message.MetadataVersion.{MetadataVersion}
use Rattle.arrow_types.specs.Physical.{physical_of}
use Rattle.arrow_types.specs.declared.physical.PhysicalType.{PhysicalType}
use Rattle.arrow_types.specs.declared.physical.PhysicalType.TheVariants as physical

-- the place behind so many nodes, buffers and view counts
abbrev pub moved : ℕ → ℕ → ℕ → Place → Place
moved nodes buffers views p = record { node = p.node + nodes; buffer = p.buffer + buffers; view = p.view + views }

-- arrays of the layout have no children, as they stand in a record batch: a dictionary's has its keys there
abbrev pub is_childless_layout : PhysicalType → Bool
is_childless_layout physical.List = false
is_childless_layout physical.LargeList = false
is_childless_layout physical.FixedSizeList = false
is_childless_layout physical.Struct = false
is_childless_layout physical.Union = false
is_childless_layout physical.Map = false
is_childless_layout layout = true

-- a kind of such arrays
abbrev pub is_childless_kind : Kind → Bool
is_childless_kind k = is_childless_layout (physical_of k)

-- and they are not keys of a dictionary
abbrev pub is_plain_layout : PhysicalType → Bool
is_plain_layout physical.List = false
is_plain_layout physical.LargeList = false
is_plain_layout physical.FixedSizeList = false
is_plain_layout physical.Struct = false
is_plain_layout physical.Union = false
is_plain_layout physical.Map = false
is_plain_layout (physical.Dictionary i) = false
is_plain_layout layout = true

-- a kind without children that is no dictionary
abbrev pub is_plain_kind : Kind → Bool
is_plain_kind k = is_plain_layout (physical_of k)

-- the bytes are damaged
abbrev pub IsDamage : IpcError → Type 0
IsDamage (OutOfSpec kind) = ⊤
IsDamage e = ⊥

-- the i-th view count is this number, and what is left begins behind it
pub record IsNextCount (m : RecordBatch) (i n : ℕ) (rest : List ℤ) : Type 0 where
  pub is : n ≡ count_at m i
  pub natural : some_negative (take 1 (drop i m.variadic)) ≡ false
  pub left : Left m.variadic (i + 1) rest

-- a node and so many buffers were passed over, or some of them were missing
pub record PassesParts (n : ℕ) (ns ns' : List FieldNode) (bs bs' : List IpcBuffer) (result : Result (Unit {0}) IpcError) : Type 0 where
  pub queues : IfOk result (λ _. (m : RecordBatch) (p : Place) → At m p ns bs → At m (moved 1 n 0 p) ns' bs')
  pub exact : (m : RecordBatch) (p : Place) → At m p ns bs → Answers (λ u. u) result (counts_faults m (moved 1 n 0 p)) tt
  pub nodes : Shortened ns 1 ns'
  pub buffers : Shortened bs n bs'
  pub damage : IfErr result IsDamage

-- an array of a kind without children was passed over, or parts of it were missing
pub record PassesChildless (k : Kind) (ns ns' : List FieldNode) (bs bs' : List IpcBuffer) (vs vs' : List ℤ) (result : Result (Unit {0}) IpcError) : Type 0 where
  pub queues : IfOk result (λ _. (m : RecordBatch) (p : Place) → AllAt m p ns bs vs → AllAt m (after m k p) ns' bs' vs')
  pub exact : (m : RecordBatch) (p : Place) → AllAt m p ns bs vs → Answers (λ u. u) result (count_faults m k p) tt
  pub shortened : (version : MetadataVersion) → ShortenedBy k version ns ns' bs bs' vs vs'
  pub damage : IfErr result IsDamage

-- an array of a kind was passed over as messages of a version have it, or parts of it were missing
pub record PassesColumn (k : Kind) (version : MetadataVersion) (ns ns' : List FieldNode) (bs bs' : List IpcBuffer) (vs vs' : List ℤ)
    (result : Result (Unit {0}) IpcError) : Type 0 where
  pub queues : IfOk result (λ _. (m : RecordBatch) (p : Place) → m.version ≡ version → AllAt m p ns bs vs → AllAt m (after m k p) ns' bs' vs')
  pub exact : (m : RecordBatch) (p : Place) → m.version ≡ version → AllAt m p ns bs vs → Answers (λ u. u) result (count_faults m k p) tt
  pub shortened : ShortenedBy k version ns ns' bs bs' vs vs'
  pub damage : IfErr result IsDamage

-- a node, so many buffers and the arrays of some fields behind them were passed over, or parts of them were missing
pub record PassesTop (own : ℕ) (fs : Fields) (version : MetadataVersion) (ns ns' : List FieldNode) (bs bs' : List IpcBuffer) (vs vs' : List ℤ)
    (result : Result (Unit {0}) IpcError) : Type 0 where
  pub queues : IfOk result (λ _. (m : RecordBatch) (p : Place) → m.version ≡ version → AllAt m p ns bs vs → AllAt m (behind m fs (inside own p)) ns' bs' vs')
  pub exact : (m : RecordBatch) (p : Place) → m.version ≡ version → AllAt m p ns bs vs
      → Answers (λ u. u) result (place_faults m p (behind m fs (inside own p))) tt
  pub nodes : Shortened ns (suc (nodes_of fs)) ns'
  pub buffers : Shortened bs (own + buffers_of version vs fs 0) bs'
  pub views : Shortened vs (views_of fs) vs'
  pub damage : IfErr result IsDamage
