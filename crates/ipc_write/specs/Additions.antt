-- An array that is added to nodes, buffers, a body and view counts: that of a dictionary is its keys, or its values. (Arrow Columnar Format, "Dictionary-encoded Layout".)
use Rattle.std.specs.Prelude.{◌≡◌, List, ◌++◌, length, map, Bool, true, false, ℕ, ℤ, pos, Result, Ok, Err}
use Rattle.arrow_spec.specs.declared.error.IpcError.{IpcError}
use Rattle.arrow_spec.specs.declared.error.IpcError.TheVariants.{Memory}
use Rattle.arrow_spec.specs.declared.message.FieldNode.{FieldNode}
use Rattle.arrow_spec.specs.declared.message.IpcBuffer.{IpcBuffer}
use Rattle.arrow_spec.specs.Flat.{Order}
use Rattle.arrow_spec.specs.Framing.{body_bytes}
use Rattle.arrow_spec.specs.Sent.{placed}
use Rattle.arrow_arrays.specs.Nodes.{counts_in}
use Rattle.arrow_arrays.specs.Parts.{Parts, Forest, leaf, nested, none, also}
use Rattle.ipc_write_arrays.specs.Pieces.{nodes_in, pieces_in}
use Rattle.ipc_write_arrays.specs.Trims.{sent}

-- one array
abbrev pub has_one : Forest → Bool
has_one none = false
has_one (also p none) = true
has_one (also p (also q ps)) = false

-- the first of some arrays, or another
abbrev pub first_or : Parts → Forest → Parts
first_or other none = other
first_or other (also p ps) = p

-- the array that is written of a dictionary: itself, of which the keys are written, or the values in its first part
abbrev pub dictionary_written : Bool → Parts → Parts
dictionary_written true p = p
dictionary_written false (leaf l) = leaf l
dictionary_written false (nested h parts) = first_or (nested h parts) parts

-- nodes, the places of buffers, the body with their bytes, view counts, and the place of the next buffer
pub record Target : Type 0 where
  pub nodes : List FieldNode
  pub buffers : List IpcBuffer
  pub body : List ℕ
  pub views : List ℤ
  pub offset : ℤ

-- these
abbrev pub target : List FieldNode → List IpcBuffer → List ℕ → List ℤ → ℤ → Target
target nodes buffers body views offset = record { nodes = nodes; buffers = buffers; body = body; views = views; offset = offset }

-- an array is added behind what was there
pub record IsAdded (order : Order) (p : Parts) (old new : Target) : Type 0 where
  pub nodes : new.nodes ≡ old.nodes ++ nodes_in p
  pub buffers : new.buffers ≡ old.buffers ++ placed (length old.body) (map length (pieces_in order p))
  pub body : new.body ≡ old.body ++ body_bytes (length old.body) (pieces_in order p)
  pub views : new.views ≡ old.views ++ map pos (counts_in (sent p))
  pub offset : new.offset ≡ pos (length new.body)

-- all is as it was
pub record IsLeft (old new : Target) : Type 0 where
  pub nodes : new.nodes ≡ old.nodes
  pub buffers : new.buffers ≡ old.buffers
  pub body : new.body ≡ old.body
  pub views : new.views ≡ old.views
  pub offset : new.offset ≡ old.offset

-- an array was added, or memory was wanted
abbrev pub Adds : {T : Type 0} → Result T IpcError → Order → Parts → Target → Target → Type 0
Adds (Ok x) order p old new = IsAdded order p old new
Adds (Err e) order p old new = (e ≡ Memory) × IsLeft old new
