-- The message of arrays that were planned. (Arrow Columnar Format, "Encapsulated message format".)
use Rattle.std.specs.Prelude.{◌≡◌, ◌<◌, ◌^◌, ℕ, List, length, map, min, ⊤, Bool, true, false, nat_le, ◌&&◌, Result, Ok, Err}
use Rattle.std.specs.List.{AllByRecursion}
use Rattle.arrow_spec.specs.declared.error.IpcError.{IpcError}
use Rattle.arrow_spec.specs.declared.error.IpcError.TheVariants as errors
use Rattle.arrow_spec.specs.Bodies.{NodeFits}
use Rattle.arrow_spec.specs.Counts.{Written}
use Rattle.arrow_spec.specs.Layout.{layout, size, up_to}
use Rattle.arrow_spec.specs.Sent.{SentMessage, body_of, placed}
use Rattle.ipc_write_arrays.specs.Outputs.{Outputs}
use Rattle.ipc_write.specs.Metadata.{metadata_node}
use Rattle.ipc_write.specs.declared.encoded.BodyPlan.{BodyPlan}
use Rattle.ipc_write.specs.declared.metadata.Content.{Content}

-- where the body of arrays ends
abbrev pub body_length : Outputs → ℕ
body_length o = body_of 0 (map length o.pieces)

-- the message of so many rows of them
abbrev pub planned_message : Content → ℕ → Outputs → SentMessage
planned_message content rows o = record {
  node = metadata_node content rows o.nodes (placed 0 (map length o.pieces)) o.views (body_length o);
  body = body_length o;
}

-- a message whose padded metadata is within a limit, and whose rows and body are below 2^63
abbrev pub is_short : ℕ → ℕ → SentMessage → Bool
is_short limit rows m = nat_le (up_to 8 (size m.node)) (min limit 2147483647) && nat_le m.body 9223372036854775807 && nat_le rows 9223372036854775807

-- a message and the buffers of its body, or it is too large, or memory was wanted
abbrev pub MakesMessage : Result BodyPlan IpcError → ℕ → ℕ → SentMessage → List (List ℕ) → Type 0
MakesMessage (Ok p) limit rows m pieces = (is_short limit rows m ≡ true) × (p.ipc_message.items ≡ layout m.node) × (p.buffers.items ≡ pieces)
    × (p.body_length ≡ m.body)
MakesMessage (Err errors.TooLarge) limit rows m pieces = is_short limit rows m ≡ false
MakesMessage (Err errors.Memory) limit rows m pieces = ⊤
MakesMessage (Err e) limit rows m pieces = ⊥

-- the numbers of nodes, and view counts, have 64 bits
pub record NodesFit (w : Written) : Type 0 where
  pub nodes : AllByRecursion NodeFits w.nodes
  pub views : AllByRecursion (λ n. n < 2 ^ 63) w.views

-- what a message can say: the numbers of its nodes have 64 bits, and its buffers are fewer than would pass the length of metadata
pub record OutputsFit (o : Outputs) : Type 0 where
  pub nodes : AllByRecursion NodeFits o.nodes
  pub few : length o.pieces < 2 ^ 27
