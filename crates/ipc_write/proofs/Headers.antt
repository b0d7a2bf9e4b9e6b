-- The metadata of a message: how large it is, and how many slots its tables have.
use Rattle.std.proofs.Common.{◌≡◌, ℕ, zero, suc, ◌+◌, ◌*◌, ◌^◌, ◌≤◌, List, [], ◌∷◌, ◌++◌, length, Result, Ok, Err, OnOk, refl, sym, ap, ◌∙◌, arith, length-append, append_assoc, Bool, true, false, ℤ, pos, negsuc, subst}
use Rattle.std.specs.List.{flat_map}
use Rattle.std.specs.Int.{Width, w64}
use Rattle.arrow_spec.specs.declared.message.FieldNode.{FieldNode}
use Rattle.arrow_spec.specs.declared.message.IpcBuffer.{IpcBuffer}
use Rattle.arrow_spec.specs.Layout.{Node, Slots, table, numbers64, tables, no_more, absent, child, end_of, end_of_children, inline_end, table_place, size, slot_count, one_more}
use Rattle.arrow_spec.specs.Kinds.{Metadata}
use Rattle.arrow_spec.specs.Sent.{unless_zero, custom_slot, flag, pair_nodes, node_bytes, buffer_bytes, nodes_node, buffers_node, message_slots}
use Rattle.arrow_spec.proofs.Ends.{end_above}
use Rattle.arrow_flat.specs.Nodes.{KeepsSlotLimit, ChildrenKeepSlotLimit}
use Rattle.ipc_write.specs.Metadata.{content_custom, content_node, content_tag, counts_slot, header_node, metadata_node}
use Rattle.ipc_write.specs.declared.metadata.Content.{Content}
use Rattle.ipc_write.specs.declared.metadata.Content.TheVariants.{RecordBatch, DictionaryBatch}

pub two_put : {T E : Type 0} → (r : Result T E) (a x y d e : List ℕ) → d ≡ a ++ x → OnOk r (e ≡ d ++ y) → OnOk r (e ≡ a ++ (x ++ y))
two_put (Ok t) a x y d e hd he = he ∙ ap (λ t. t ++ y) hd ∙ append_assoc a x y
two_put (Err t) a x y d e hd he = tt

-- ── few slots ──

count_zero : (w : Width) (z : ℤ) (s : Slots) → slot_count (unless_zero w z s) ≤ suc (suc (slot_count s))
count_zero w (pos zero) s = more (slot_count s)
  where
    more : (n : ℕ) → one_more n ≤ suc (suc n)
    more zero = omega arith
    more (suc n) = omega arith
count_zero w (pos (suc n)) s = omega arith
count_zero w (negsuc n) s = omega arith

keeps_zero : (w : Width) (z : ℤ) (s : Slots) → ChildrenKeepSlotLimit s → ChildrenKeepSlotLimit (unless_zero w z s)
keeps_zero w (pos zero) s h = h
keeps_zero w (pos (suc n)) s h = h
keeps_zero w (negsuc n) s h = h

count_counts : (zs : List ℤ) → slot_count (absent (counts_slot zs)) ≤ 2
count_counts [] = omega arith
count_counts (z ∷ zs) = omega arith

keeps_counts : (zs : List ℤ) → ChildrenKeepSlotLimit (counts_slot zs)
keeps_counts [] = tt
keeps_counts (z ∷ zs) = (tt, tt)

keeps_header : (rows : ℕ) (nodes : List FieldNode) (buffers : List IpcBuffer) (counts : List ℤ) → KeepsSlotLimit (header_node rows nodes buffers counts)
keeps_header rows nodes buffers counts =
    let rest = child (nodes_node nodes) (child (buffers_node buffers) (absent (counts_slot counts))) in
    let few : slot_count rest ≤ 4 = omega (arith, count_counts counts) in
    (omega (arith, count_zero w64 (pos rows) rest, few), keeps_zero w64 (pos rows) rest (tt, (tt, keeps_counts counts)))

count_flag : (b : Bool) → slot_count (flag b no_more) ≤ 1
count_flag true = omega arith
count_flag false = omega arith

keeps_flag : (b : Bool) → ChildrenKeepSlotLimit (flag b no_more)
keeps_flag true = tt
keeps_flag false = tt

keeps_content : (content : Content) (batch : Node) → KeepsSlotLimit batch → KeepsSlotLimit (content_node content batch)
keeps_content (RecordBatch custom) batch h = h
keeps_content (DictionaryBatch id is_delta) batch h =
    let rest = child batch (flag is_delta no_more) in
    let few : slot_count rest ≤ 2 = omega (arith, count_flag is_delta) in
    (omega (arith, count_zero w64 id rest, few), keeps_zero w64 id rest (h, keeps_flag is_delta))

pub keeps_metadata : (h batch : Node) (content : Content) (rows : ℕ) (nodes : List FieldNode) (buffers : List IpcBuffer) (counts : List ℤ) → batch ≡ header_node rows nodes buffers counts
    → h ≡ content_node content batch → KeepsSlotLimit h
keeps_metadata h batch content rows nodes buffers counts hb hh =
    let inner : KeepsSlotLimit batch = subst KeepsSlotLimit (sym hb) (keeps_header rows nodes buffers counts) in
    subst KeepsSlotLimit (sym hh) (keeps_content content batch inner)

-- ── many nodes or buffers ──

length-nodes : (xs : List FieldNode) → length (flat_map node_bytes xs) ≡ 16 * length xs
length-nodes [] = refl
length-nodes (x ∷ xs) = omega (arith, length-append (node_bytes x) (flat_map node_bytes xs), length-nodes xs)

length-buffers : (xs : List IpcBuffer) → length (flat_map buffer_bytes xs) ≡ 16 * length xs
length-buffers [] = refl
length-buffers (x ∷ xs) = omega (arith, length-append (buffer_bytes x) (flat_map buffer_bytes xs), length-buffers xs)

children_zero : (w : Width) (z : ℤ) (s : Slots) (c : ℕ) → end_of_children (unless_zero w z s) c ≡ end_of_children s c
children_zero w (pos zero) s c = refl
children_zero w (pos (suc n)) s c = refl
children_zero w (negsuc n) s c = refl

counts_above : (zs : List ℤ) (c : ℕ) → c ≤ end_of_children (counts_slot zs) c
counts_above [] c = omega arith
counts_above (z ∷ zs) c = end_above (numbers64 (z ∷ zs)) c

header_end : (rows : ℕ) (nodes : List FieldNode) (buffers : List IpcBuffer) (counts : List ℤ) (c : ℕ) → (16 * length nodes ≤ end_of (header_node rows nodes buffers counts) c) × (16 * length buffers ≤ end_of (header_node rows nodes buffers counts) c)
header_end rows nodes buffers counts c =
    let rest = child (nodes_node nodes) (child (buffers_node buffers) (absent (counts_slot counts))) in
    let slots = unless_zero w64 (pos rows) rest in
    let e = inline_end slots (table_place slots c + 4) in
    let one = end_of (nodes_node nodes) e in
    let two = end_of (buffers_node buffers) one in
    let whole : end_of (header_node rows nodes buffers counts) c ≡ end_of_children (counts_slot counts) two = children_zero w64 (pos rows) rest e in
    let last : two ≤ end_of_children (counts_slot counts) two = counts_above counts two in
    let later : one ≤ two = end_above (buffers_node buffers) one in
    let first : length (flat_map node_bytes nodes) ≤ one = omega arith in
    let second : length (flat_map buffer_bytes buffers) ≤ two = omega arith in
    (omega (arith, whole, last, later, first, length-nodes nodes), omega (arith, whole, last, second, length-buffers buffers))

content_end : (content : Content) (batch : Node) (c : ℕ) → (e : ℕ) × (end_of batch e ≤ end_of (content_node content batch) c)
content_end (RecordBatch custom) batch c = (c, omega arith)
content_end (DictionaryBatch id is_delta) batch c =
    let rest = child batch (flag is_delta no_more) in
    let s = unless_zero w64 id rest in
    let e = inline_end s (table_place s c + 4) in
    let whole : end_of (table s) c ≡ end_of batch e = children_zero w64 id rest e ∙ no_child is_delta (end_of batch e) in
    (e, omega (arith, whole))
  where
    no_child : (b : Bool) (n : ℕ) → end_of_children (flag b no_more) n ≡ n
    no_child true n = refl
    no_child false n = refl

custom_above : (custom : Metadata) (c : ℕ) → c ≤ end_of_children (custom_slot custom) c
custom_above [] c = omega arith
custom_above (x ∷ xs) c = end_above (tables (pair_nodes (x ∷ xs))) c

message_end : (tag body : ℕ) (h : Node) (custom : Metadata) → (c : ℕ) × (end_of h c ≤ size (table (message_slots tag h body custom)))
unfolding size
message_end tag body h custom =
    let s = message_slots tag h body custom in
    let e = inline_end s (table_place s 4 + 4) in
    let whole : end_of (table s) 4 ≡ end_of_children (custom_slot custom) (end_of h e) = children_zero w64 (pos body) (custom_slot custom) (end_of h e) in
    (e, omega (arith, whole, custom_above custom (end_of h e)))

-- a record batch's table ends within the message
batch_end : (content : Content) (body : ℕ) (batch : Node) → (c : ℕ) × (end_of batch c ≤ size (table (message_slots (content_tag content) (content_node content batch) body (content_custom content))))
batch_end content body batch =
    let outer = message_end (content_tag content) body (content_node content batch) (content_custom content) in
    let inner = content_end content batch outer.0 in
    (inner.0, omega (arith, inner.1, outer.1))

pub many_nodes : (content : Content) (rows body : ℕ) (nodes : List FieldNode) (buffers : List IpcBuffer) (counts : List ℤ) → 2 ^ 27 ≤ length nodes → 2 ^ 31 ≤ size (metadata_node content rows nodes buffers counts body)
many_nodes content rows body nodes buffers counts h =
    let end = batch_end content body (header_node rows nodes buffers counts) in
    omega (arith, (header_end rows nodes buffers counts end.0).0, end.1, h)

pub many_buffers : (content : Content) (rows body : ℕ) (nodes : List FieldNode) (buffers : List IpcBuffer) (counts : List ℤ) → 2 ^ 27 ≤ length buffers → 2 ^ 31 ≤ size (metadata_node content rows nodes buffers counts body)
many_buffers content rows body nodes buffers counts h =
    let end = batch_end content body (header_node rows nodes buffers counts) in
    omega (arith, (header_end rows nodes buffers counts end.0).1, end.1, h)
