-- What stands in the tables of a record batch and in its body from a place on. (Message.fbs, RecordBatch.)
use Rattle.std.specs.Prelude.{◌≡◌, ℕ, suc, List, [], ◌∷◌, ◌++◌, length, Some, pos, slice_get, FitsSigned}
use Rattle.std.specs.Int.{w64}
use Rattle.arrow_spec.specs.declared.message.FieldNode.{FieldNode}
use Rattle.arrow_spec.specs.declared.message.IpcBuffer.{IpcBuffer}
use Rattle.arrow_spec.specs.Held.{Stands}
use Rattle.arrow_spec.specs.Counts.{RecordBatch}

-- a node's numbers are signed and have 64 bits
abbrev pub NodeFits : FieldNode → Type 0
NodeFits x = FitsSigned w64 x.length × FitsSigned w64 x.null_count

-- a buffer's numbers are signed and have 64 bits
abbrev pub BufferFits : IpcBuffer → Type 0
BufferFits x = FitsSigned w64 x.offset × FitsSigned w64 x.length

-- a list from a place on
pub record From {A : Type 0} (l : List A) (i : ℕ) (xs : List A) : Type 0 where
  pub front : List A
  pub whole : l ≡ front ++ xs
  pub place : length front ≡ i

-- the i-th buffer is these bytes
pub record BufferHeld (m : RecordBatch) (i : ℕ) (bytes : List ℕ) : Type 0 where
  pub at : ℕ
  pub range : slice_get m.buffers i ≡ Some (record { offset = pos at; length = pos (length bytes) })
  pub stands : Stands m.body at bytes

-- the buffers from a number on are these
abbrev pub AreHeld : RecordBatch → ℕ → List (List ℕ) → Type 0
AreHeld m i [] = Unit {0}
AreHeld m i (x ∷ xs) = BufferHeld m i x × AreHeld m (suc i) xs
