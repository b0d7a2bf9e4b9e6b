use Rattle.std.proofs.Common.{◌≡◌, ℕ, ◌^◌, ◌≤◌, List, [], ◌∷◌, ◌++◌, false, length, map, refl, ap, ◌∙◌, arith, subst, Result, Ok, Err, pos}
-- The messages of batches and of values are within their limits, or not.
use Rattle.std.specs.Prelude.{None}
use Rattle.arrow_spec.specs.declared.error.IpcError.{IpcError}
use Rattle.arrow_spec.specs.declared.error.IpcError.TheVariants as errors
use Rattle.arrow_spec.specs.declared.error.Feature.TheVariants as features
use Rattle.arrow_spec.specs.Framing.{body_bytes}
use Rattle.arrow_spec.specs.Layout.{no_more}
use Rattle.arrow_spec.specs.Sent.{placed, body_of, views_slot, batch_node}
use Rattle.arrow_spec.specs.Counts.{Written}
use Rattle.arrow_spec.proofs.Bodies.{length-body}
use Rattle.std.specs.BTreeMap.{BTreeMap}
use Rattle.std.proofs.Common.{Bor, Global, Option, String}
use Rattle.ipc_fields.specs.IpcFields.{metadata_in}
use Rattle.arrow_arrays.specs.Batches.{Batch}
use Rattle.arrow_arrays.specs.Parts.{Parts}
use Rattle.ipc_write_arrays.specs.Outputs.{Outputs}
use Rattle.ipc_write.specs.Batches.{columns_written, columns_pieces, batch_message, batch_body, is_within}
use Rattle.ipc_write.specs.Encoding.{all_outputs, Makes}
use Rattle.ipc_write.proofs.ColumnSteps.{same_pieces}
use Rattle.ipc_write.specs.Metadata.{counts_slot, header_node}
use Rattle.ipc_write.specs.Outcomes.{Encodes, Plans, Same}
use Rattle.ipc_write.specs.declared.encoded.BodyPlan.{BodyPlan}
use Rattle.ipc_write.specs.declared.encoded.EncodedData.{EncodedData}
use Rattle.ipc_write.specs.Planned.{MakesMessage, planned_message}
use Rattle.ipc_write.specs.declared.metadata.Content.TheVariants.{RecordBatch}
use Rattle.ipc_write.specs.declared.options.WriteOptions.{WriteOptions}
use Rattle.ipc_write.proofs.ColumnSteps.{same_pieces}
use Rattle.ipc_write.proofs.PlannedMessages.{long_rows}

slot_same : (ns : List ℕ) → counts_slot (map pos ns) ≡ views_slot ns no_more
slot_same [] = refl
slot_same (n ∷ ns) = refl

-- the table of a record batch of what is written
pub header_same : (rows : ℕ) (w : Written) → header_node rows w.nodes (placed 0 w.lengths) (map pos w.views) ≡ batch_node rows w
header_same rows w = rw (slot_same w.views) refl

-- ── a batch ──

-- where the body ends
body_ends : (b : Batch) → body_of 0 (map length (columns_pieces b.arrays)) ≡ length (batch_body b)
body_ends b = omega (arith, length-body (columns_pieces b.arrays) 0)

-- pairs that are lent
abbrev Lent : Type 0
Lent = Option (Bor (BTreeMap (String Global) (String Global)))

-- the message of planned columns with the batch's pairs is the batch's
message_same : (b : Batch) (m : Lent) → metadata_in m ≡ b.custom → planned_message (RecordBatch m) b.height (all_outputs b.arrays) ≡ batch_message b
unfolding batch_message
message_same b m custom =
    let w = columns_written b.arrays in
    rw (body_ends b, ap (map length) (same_pieces b.arrays), header_same b.height w, custom) refl

made_so : (r : Result BodyPlan IpcError) (limit : ℕ) (b : Batch) → MakesMessage r limit b.height (batch_message b) (columns_pieces b.arrays) → Makes r limit b
unfolding is_within batch_message
made_so (Ok p) limit b k = k
made_so (Err errors.TooLarge) limit b k = k
made_so (Err errors.Memory) limit b k = tt
made_so (Err e) limit b k = absurd k

pub batch_planned : (r : Result BodyPlan IpcError) (limit rows : ℕ) (b : Batch) (o : Outputs) (ps : List Parts) (m : Lent) → rows ≡ b.height → ps ≡ b.arrays → metadata_in m ≡ b.custom → o ≡ all_outputs ps
    → MakesMessage r limit rows (planned_message (RecordBatch m) rows o) o.pieces → Makes r limit b
batch_planned r limit rows b o ps m hr hp hm ho h =
    let all : o ≡ all_outputs b.arrays = ho ∙ ap all_outputs hp in
    let here : MakesMessage r limit b.height (planned_message (RecordBatch m) b.height (all_outputs b.arrays)) (columns_pieces b.arrays) = subst (λ x. MakesMessage r limit b.height (planned_message (RecordBatch m) b.height x) x.pieces) all (subst (λ n. MakesMessage r limit n (planned_message (RecordBatch m) n o) o.pieces) hr h) in
    made_so r limit b (subst (λ x. MakesMessage r limit b.height x (columns_pieces b.arrays)) (message_same b m hm) here)

pub many_rows : (limit : ℕ) (b : Batch) → 2 ^ 63 ≤ b.height → is_within limit b ≡ false
unfolding is_within
many_rows limit b h = long_rows limit b.height (batch_message b) h

-- ── options ──

pub plans_made : (r : Result BodyPlan IpcError) (options : WriteOptions) (b : Batch) → options.compression ≡ None → Makes r options.metadata_limit b → Plans r options b
plans_made (Ok p) options b e h = (e, h.0, h.1, h.2, h.3)
plans_made (Err errors.TooLarge) options b e h = (e, h)
plans_made (Err errors.Memory) options b e h = e
plans_made (Err f) options b e h = absurd h

-- ── in one piece ──

-- buffers that stand behind nothing
pub behind_none : (old new : List ℕ) (ps qs : List (List ℕ)) → old ≡ [] → qs ≡ ps → new ≡ old ++ body_bytes (length old) qs → new ≡ body_bytes 0 ps
behind_none old new ps qs e f h = h ∙ rw (e, f) refl

pub encodes_planned : (p : BodyPlan) (m : EncodedData) (options : WriteOptions) (b : Batch) (old : EncodedData) → Plans (Ok p) options b → m.ipc_message.items ≡ p.ipc_message.items → m.arrow_data.items ≡ body_bytes 0 p.buffers.items → Encodes (Ok tt) options b old m
encodes_planned p m options b old h hm hb = (h.0, h.1, hm ∙ h.2, hb ∙ ap (body_bytes 0) h.3)

same : (m : EncodedData) → Same m m
same m = record { message = refl; body = refl }

-- memory was wanted for the body
pub body_wanted : (p : BodyPlan) (options : WriteOptions) (b : Batch) (old : EncodedData) → Plans (Ok p) options b → Encodes (Err errors.Memory) options b old old
body_wanted p options b old h = (h.0, same old)

pub encodes_refused : (e : IpcError) (options : WriteOptions) (b : Batch) (old : EncodedData) → Plans (Err e) options b → Encodes (Err e) options b old old
encodes_refused (errors.Unsupported features.Compression) options b old h = (h, same old)
encodes_refused (errors.Unsupported feature) options b old h = absurd h
encodes_refused errors.TooLarge options b old h = (h.0, h.1, same old)
encodes_refused errors.Memory options b old h = (h, same old)
encodes_refused e options b old h = absurd h
