-- A body of arrays that were planned. (Arrow Columnar Format, "RecordBatch message".)
use Rattle.std.specs.Prelude.{◌≡◌, ◌^◌, ◌<◌, ◌≤◌, length, map, ⊤, Result, Ok, Err}
use Rattle.arrow_spec.specs.declared.error.IpcError.{IpcError}
use Rattle.arrow_spec.specs.declared.error.IpcError.TheVariants as errors
use Rattle.arrow_spec.specs.Sent.{placed, body_of}
use Rattle.ipc_write_arrays.specs.Outputs.{Outputs}
use Rattle.ipc_write.specs.declared.body.PlannedBody.{PlannedBody}

-- a plan is that of arrays, each buffer with its place
pub record IsPlanOf (o : Outputs) (p : PlannedBody) : Type 0 where
  pub nodes : p.nodes.items ≡ o.nodes
  pub places : p.places.items ≡ placed 0 (map length o.pieces)
  pub views : p.views.items ≡ o.views
  pub pieces : p.buffers.items ≡ o.pieces
  pub length : p.length ≡ body_of 0 (map length o.pieces)
  pub short : p.length < 2 ^ 63

-- the plan of arrays, or their body passes 2^63 - 1 bytes, or memory was wanted
abbrev pub Places : Result PlannedBody IpcError → Outputs → Type 0
Places (Ok p) o = IsPlanOf o p
Places (Err errors.TooLarge) o = 2 ^ 63 ≤ body_of 0 (map length o.pieces)
Places (Err errors.Memory) o = ⊤
Places (Err e) o = ⊥
