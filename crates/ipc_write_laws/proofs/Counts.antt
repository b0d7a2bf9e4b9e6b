-- A message that is not too large has not too many nodes and buffers, of a batch or of a dictionary's values.
use Rattle.std.proofs.Common.{◌≡◌, ℕ, suc, zero, ◌+◌, ◌*◌, ◌^◌, ◌<◌, ◌≤◌, Bool, List, [], length, refl, arith, ℤ, pos, negsuc}
use Rattle.std.specs.Int.{w64}
use Rattle.std.specs.List.{flat_map}
use Rattle.arrow_spec.specs.Layout as layout
use Rattle.arrow_spec.specs.Layout.{Node, Slots, size, table_place, inline_end, end_of, end_of_children}
use Rattle.arrow_spec.specs.Counts.{Written}
use Rattle.arrow_spec.specs.Framing.{padded_size}
use Rattle.arrow_spec.specs.Sent.{unless_zero, node_bytes, buffer_bytes, nodes_node, buffers_node, placed, views_slot, batch_node, batch_slots, custom_slot, flag, message, message_slots, node_rows}
use Rattle.arrow_spec.specs.Kinds.{Metadata}
use Rattle.arrow_spec.proofs.Ends.{children_above}
use Rattle.arrow_spec.proofs.MessageTables.{length-nodes, length-buffers}
use Rattle.arrow_spec.proofs.MessagesFit.{length-placed}
use Rattle.ipc_write_laws.specs.Messages.{values_slots}

structs_end : (n : ℕ) (xs : List ℕ) (c : ℕ) → c + length xs ≤ end_of (layout.structs n xs) c
structs_end n xs c = omega arith

-- a number has no children
number_end : (x : ℤ) (s : Slots) (c : ℕ) → end_of_children (unless_zero w64 x s) c ≡ end_of_children s c
number_end (pos zero) s c = refl
number_end (pos (suc n)) s c = refl
number_end (negsuc n) s c = refl

-- a batch is longer than its nodes and buffers
batch_end : (rows : ℕ) (w : Written) (c : ℕ) → 16 * length w.nodes + 16 * length w.lengths ≤ end_of (batch_node rows w) c
batch_end rows w c =
    let ns = nodes_node w.nodes in
    let bs = buffers_node (placed 0 w.lengths) in
    let last = layout.absent (views_slot w.views layout.no_more) in
    let q = inline_end (batch_slots rows w) (table_place (batch_slots rows w) c + 4) in
    let e : end_of (batch_node rows w) c ≡ end_of_children last (end_of bs (end_of ns q)) = number_end (pos rows) (layout.child ns (layout.child bs last)) q in
    omega (arith, e, children_above last (end_of bs (end_of ns q)), structs_end (length w.nodes) (flat_map node_bytes w.nodes) q, structs_end (length (placed 0 w.lengths)) (flat_map buffer_bytes (placed 0 w.lengths)) (end_of ns q), length-nodes w.nodes, length-buffers (placed 0 w.lengths), length-placed w.lengths 0)

-- a message is longer than its header
header_end : (tag body : ℕ) (n : Node) (custom : Metadata) → (c : ℕ) × (end_of n c ≤ size (message tag n body custom).node)
unfolding size
header_end tag body n custom =
    let s = message_slots tag n body custom in
    let c = inline_end s (table_place s 4 + 4) in
    (c, children_above (unless_zero w64 (pos body) (custom_slot custom)) (end_of n c))

-- and so is a message of one
pub batch_counts : (tag rows body : ℕ) (w : Written) (custom : Metadata) → padded_size (message tag (batch_node rows w) body custom).node < 2 ^ 31 → (length w.nodes < 2 ^ 32) × (length w.lengths < 2 ^ 32)
batch_counts tag rows body w custom h =
    let whole = header_end tag body (batch_node rows w) custom in
    (omega (arith, h, whole.1, batch_end rows w whole.0), omega (arith, h, whole.1, batch_end rows w whole.0))

-- a dictionary batch is longer than its batch
values_end : (id : ℤ) (is_delta : Bool) (w : Written) (c : ℕ) → (q : ℕ) × (end_of (batch_node (node_rows w.nodes) w) q ≤ end_of (layout.table (values_slots id is_delta w)) c)
values_end id is_delta w c =
    let s = values_slots id is_delta w in
    let values = batch_node (node_rows w.nodes) w in
    let last = flag is_delta layout.no_more in
    let q = inline_end s (table_place s c + 4) in
    let e : end_of (layout.table s) c ≡ end_of_children last (end_of values q) = number_end id (layout.child values last) q in
    (q, omega (arith, e, children_above last (end_of values q)))

-- and so is a message of one
pub values_counts : (id : ℤ) (is_delta : Bool) (w : Written) (body : ℕ) → padded_size (message 2 (layout.table (values_slots id is_delta w)) body []).node < 2 ^ 31 → (length w.nodes < 2 ^ 32) × (length w.lengths < 2 ^ 32)
values_counts id is_delta w body h =
    let whole = header_end 2 body (layout.table (values_slots id is_delta w)) [] in
    let values = values_end id is_delta w whole.0 in
    let least = batch_end (node_rows w.nodes) w values.0 in
    (omega (arith, h, whole.1, values.1, least), omega (arith, h, whole.1, values.1, least))
