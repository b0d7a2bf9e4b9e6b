-- How the queues of a reader stand in a record batch's tables.
use Rattle.std.specs.Prelude.{◌≡◌, ℕ, suc, ◌≤◌, List, length, drop, nat_le, ℤ, Result, Ok, Err, Some, slice_get}
use Rattle.arrow_spec.specs.declared.error.IpcError.{IpcError}
use Rattle.arrow_spec.specs.declared.error.IpcError.TheVariants.{OutOfSpec}
use Rattle.arrow_spec.specs.declared.error.OutOfSpecKind.TheVariants.{ExpectedBuffer}
use Rattle.arrow_spec.specs.Faults.{cause}
use Rattle.arrow_spec.specs.declared.message.FieldNode.{FieldNode}
use Rattle.arrow_spec.specs.declared.message.IpcBuffer.{IpcBuffer}
use Rattle.arrow_spec.specs.declared.message.MetadataVersion.{MetadataVersion}
use Rattle.arrow_spec.specs.Kinds.{Kind}
use Rattle.arrow_spec.specs.Counts.{RecordBatch, Place, nodes, buffers, views}

-- a queue is what is left of a list from place i on, which lies inside it
pub record Left {A : Type 0} (all : List A) (i : ℕ) (rest : List A) : Type 0 where
  pub is : rest ≡ drop i all
  pub within : i ≤ length all

-- the first of a queue was taken, which stands at place i of a list; or there is none
abbrev pub Takes : {A : Type 0} → List A → ℕ → Result A IpcError → List A → Type 0
Takes all i (Ok x) rest = (slice_get all i ≡ Some x) × Left all (suc i) rest
Takes all i (Err e) rest = (e ≡ OutOfSpec ExpectedBuffer) × (length all ≤ i)

-- a place lies inside a batch's tables
pub record IsWithin (m : RecordBatch) (p : Place) : Type 0 where
  pub nodes : p.node ≤ length m.nodes
  pub buffers : p.buffer ≤ length m.buffers
  pub views : p.view ≤ length m.variadic

-- the queues are what is left of a batch's tables at a place: the nodes alone, nodes and buffers, or all
pub record NodesAt (m : RecordBatch) (p : Place) (ns : List FieldNode) : Type 0 where
  pub nodes : Left m.nodes p.node ns
  pub within : IsWithin m p

pub record At (m : RecordBatch) (p : Place) (ns : List FieldNode) (bs : List IpcBuffer) : Type 0 where
  pub nodes : Left m.nodes p.node ns
  pub buffers : Left m.buffers p.buffer bs
  pub within : IsWithin m p

pub record AllAt (m : RecordBatch) (p : Place) (ns : List FieldNode) (bs : List IpcBuffer) (vs : List ℤ) : Type 0 where
  pub nodes : Left m.nodes p.node ns
  pub buffers : Left m.buffers p.buffer bs
  pub views : Left m.variadic p.view vs

-- the same of a batch of a version
pub record BatchAt (v : MetadataVersion) (m : RecordBatch) (p : Place) (ns : List FieldNode) (bs : List IpcBuffer) (vs : List ℤ) : Type 0 where
  pub version : m.version ≡ v
  pub all : AllAt m p ns bs vs

-- a queue is shorter by its first ones, of which there are at most so many
pub record Shortened {A : Type 0} (old : List A) (most : ℕ) (new : List A) : Type 0 where
  pub taken : ℕ
  pub few : taken ≤ most
  pub rest : new ≡ drop taken old

-- nodes, buffers and view counts are shorter by at most what an array of a kind takes that stands first in them
pub record ShortenedBy (k : Kind) (version : MetadataVersion) (ns ns' : List FieldNode) (bs bs' : List IpcBuffer) (vs vs' : List ℤ) : Type 0 where
  pub nodes : Shortened ns (nodes k) ns'
  pub buffers : Shortened bs (buffers version vs k 0) bs'
  pub views : Shortened vs (views k) vs'

-- there is no buffer of this number
abbrev pub short_of : List IpcBuffer → ℕ → List IpcError
short_of all i = cause (nat_le (length all) i) (OutOfSpec ExpectedBuffer)
