-- The message of a planned array is that of a dictionary's values.
use Rattle.std.proofs.Common.{◌≡◌, ℕ, Bool, None, length, map, refl, ap, ◌∙◌, arith, subst, sym, Result, Ok, Err, ℤ, append-nil}
use Rattle.std.specs.Result.{IsErrAnd}
use Rattle.arrow_spec.specs.declared.error.IpcError.{IpcError}
use Rattle.arrow_spec.specs.declared.error.IpcError.TheVariants as errors
use Rattle.arrow_spec.specs.Counts.{Written}
use Rattle.arrow_spec.specs.Flat.{little}
use Rattle.arrow_spec.specs.Framing.{body_bytes}
use Rattle.arrow_spec.specs.Sent.{node_rows}
use Rattle.arrow_arrays.specs.Nodes.{counts_in}
use Rattle.arrow_arrays.specs.Parts.{Parts, leaf, nested, rows_in, fault_in}
use Rattle.arrow_arrays.specs.Heads.{head_rows}
use Rattle.ipc_write_arrays.specs.Below.{message_of_values}
use Rattle.ipc_write_arrays.specs.Outputs.{Outputs, written_behind}
use Rattle.ipc_write_arrays.specs.Pieces.{nodes_in, pieces_in}
use Rattle.ipc_write_arrays.specs.Trims.{sent}
use Rattle.ipc_write_arrays.proofs.TreeColumns.{own_node}
use Rattle.ipc_write_arrays.proofs.TrimLaws.{all_rows-trim}
use Rattle.ipc_write.specs.Encoding.{no_outputs}
use Rattle.ipc_write.specs.Planned.{MakesMessage, planned_message}
use Rattle.ipc_write.specs.Values.{PlansValues, EncodesValues, IsOfValues, values_message}
use Rattle.ipc_write.specs.declared.encoded.BodyPlan.{BodyPlan}
use Rattle.ipc_write.specs.declared.encoded.EncodedData.{EncodedData}
use Rattle.ipc_write.specs.declared.metadata.Content.TheVariants.{DictionaryBatch}
use Rattle.ipc_write.specs.declared.options.WriteOptions.{WriteOptions}
use Rattle.ipc_write.proofs.Messages.{header_same}

sent_rows : (p : Parts) → fault_in p ≡ None → rows_in (sent p) ≡ rows_in p
sent_rows (leaf l) e = refl
sent_rows (nested h cs) e = all_rows-trim 0 (head_rows h) (nested h cs) e (omega arith)

-- the rows of an array stand in its first node
pub first_rows : (p : Parts) → fault_in p ≡ None → node_rows (nodes_in p) ≡ rows_in p
first_rows p e = ap node_rows (own_node (sent p)) ∙ sent_rows p e

-- what is written of an array
abbrev own_written : Parts → Written
own_written p = record { nodes = nodes_in p; lengths = map length (pieces_in little p); views = counts_in (sent p) }

own_message : (id : ℤ) (is_delta : Bool) (p : Parts) → fault_in p ≡ None
    → planned_message (DictionaryBatch id is_delta) (rows_in p) (written_behind little p no_outputs) ≡ message_of_values id is_delta (own_written p)
own_message id is_delta p e =
    let w = own_written p in
    rw (first_rows p e, header_same (rows_in p) w) refl

same_values : (id : ℤ) (is_delta : Bool) (p : Parts) → message_of_values id is_delta (own_written p) ≡ values_message id is_delta p
same_values id is_delta p = rw (append-nil (nodes_in p), append-nil (pieces_in little p), append-nil (counts_in (sent p))) refl

pub values_planned : (r : Result BodyPlan IpcError) (options : WriteOptions) (id : ℤ) (is_delta : Bool) (p : Parts) (rows : ℕ) (o : Outputs) → fault_in p ≡ None → rows ≡ rows_in p
    → o ≡ written_behind little p no_outputs → options.compression ≡ None
    → MakesMessage r options.metadata_limit rows (planned_message (DictionaryBatch id is_delta) rows o) o.pieces → PlansValues r options id is_delta p
values_planned r options id is_delta p rows o e hr ho hc h =
    let limit = options.metadata_limit in
    let content = DictionaryBatch id is_delta in
    let here : MakesMessage r limit (rows_in p) (planned_message content (rows_in p) (written_behind little p no_outputs)) (pieces_in little p) = subst (λ x. MakesMessage r limit (rows_in p) (planned_message content (rows_in p) x) x.pieces) ho (subst (λ n. MakesMessage r limit n (planned_message content n o) o.pieces) hr h) in
    by r (subst (λ m. MakesMessage r limit (rows_in p) m (pieces_in little p)) (own_message id is_delta p e ∙ same_values id is_delta p) here)
  where
    by : (r : Result BodyPlan IpcError) → MakesMessage r options.metadata_limit (rows_in p) (values_message id is_delta p) (pieces_in little p) → PlansValues r options id is_delta p
    by (Ok x) k = (hc, k.0, k.1, k.2, k.3)
    by (Err errors.TooLarge) k = (hc, k)
    by (Err errors.Memory) k = hc
    by (Err f) k = absurd k

-- ── in one piece ──

pub values_encoded : (p : BodyPlan) (m : EncodedData) (options : WriteOptions) (id : ℤ) (is_delta : Bool) (x : Parts) → PlansValues (Ok p) options id is_delta x
    → m.ipc_message.items ≡ p.ipc_message.items → m.arrow_data.items ≡ body_bytes 0 p.buffers.items → IsOfValues options id is_delta x m
values_encoded p m options id is_delta x h hm hb = record { uncompressed = h.0; short = h.1; message = hm ∙ h.2; body = hb ∙ ap (body_bytes 0) h.3 }

pub values_refused : (r : Result EncodedData IpcError) (e : IpcError) (options : WriteOptions) (id : ℤ) (is_delta : Bool) (x : Parts) → IsErrAnd r (λ f. f ≡ e) → PlansValues (Err e) options id is_delta x → EncodesValues r options id is_delta x
values_refused (Ok m) e options id is_delta x h k = absurd h
values_refused (Err f) e options id is_delta x h k = subst (λ g. PlansValues (Err g) options id is_delta x) (sym h) k

-- no message is made of values where compression is asked for
pub values_uncompressed : (p : BodyPlan) (options : WriteOptions) (id : ℤ) (is_delta : Bool) (x : Parts) → PlansValues (Ok p) options id is_delta x → options.compression ≡ None
values_uncompressed p options id is_delta x h = h.0
