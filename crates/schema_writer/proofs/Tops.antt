-- The fields of a schema, one after another.
use Rattle.std.proofs.Common.{◌≡◌, true, refl, sym, ap, ◌∙◌}
use Rattle.arrow_spec.specs.Flat.{Order, little, big}
use Rattle.arrow_spec.specs.Kinds as kind
use Rattle.arrow_spec.specs.Kinds.{Fields, Metadata}
use Rattle.arrow_spec.specs.Layout as layout
use Rattle.arrow_spec.specs.Layout.{Node, Nodes, Slots}
use Rattle.arrow_spec.specs.Regular.{representable}
use Rattle.arrow_spec.specs.Sent.{schema_node, pair_nodes, order_slot, pairs_slot}
use Rattle.arrow_flat.specs.Nodes.{in_front}
use Rattle.ipc_fields.specs.IpcFields.{Ids, fields_with}
use Rattle.schema_writer.specs.Nodes.{pairs_value}
use Rattle.schema_writer.specs.Tables.{nodes_with, all_sized}
use Rattle.schema_writer.specs.SlotValues.{order_value}
use Rattle.schema_writer.proofs.Joining.{built_is, pairs_front}
use Rattle.schema_writer.proofs.Saying.{representable_is, all_sizes}

pub sized_of : (fs : Fields) (own : Ids) → representable (fields_with fs own) ≡ true → all_sized fs ≡ true
sized_of fs own h = all_sizes fs own (sym (representable_is (fields_with fs own)) ∙ h)

-- ── the schema's table ──

order_front : (order : Order) (s : Slots) → in_front (order_value order) s ≡ order_slot order s
order_front little s = refl
order_front big s = refl

pub schema_built : (t : Node) (order : Order) (ns : Nodes) (fs : Fields) (own : Ids) (pairs : Metadata) → t ≡ layout.table (in_front (order_value order) (layout.child (layout.tables ns) (in_front (pairs_value (pair_nodes pairs)) layout.no_more)))
    → ns ≡ nodes_with fs own → t ≡ schema_node order (fields_with fs own) pairs
schema_built t order ns fs own pairs h g =
    h ∙ ap layout.table (order_front order (layout.child (layout.tables ns) (in_front (pairs_value (pair_nodes pairs)) layout.no_more)))
    ∙ ap (λ s. layout.table (order_slot order (layout.child (layout.tables ns) s))) (pairs_front (pair_nodes pairs) layout.no_more)
    ∙ ap (λ x. layout.table (order_slot order (layout.child (layout.tables x) (pairs_slot (pair_nodes pairs) layout.no_more)))) (g ∙ built_is fs own)
