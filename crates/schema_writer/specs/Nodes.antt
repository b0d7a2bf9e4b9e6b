-- The nodes of a field, with the id of its IPC field and the nodes of its children.
use Rattle.std.specs.Prelude.{ℕ, List, [], Option, None, Some, ℤ, pos, not, filter}
use Rattle.std.specs.Int.{w8, w64}
use Rattle.arrow_spec.specs.Flat.{or_default}
use Rattle.arrow_spec.specs.Kinds as kind
use Rattle.arrow_spec.specs.Kinds.{Kind, Metadata}
use Rattle.arrow_spec.specs.Layout as layout
use Rattle.arrow_spec.specs.Layout.{Node, Nodes}
use Rattle.arrow_spec.specs.Sent.{flag, unless_zero, int_node, pair_node, type_tag, type_node, field_pairs}
use Rattle.arrow_spec.specs.WrittenSchemas.{pairs_for}
use Rattle.arrow_spec.specs.Schema.{is_reserved}
use Rattle.arrow_flat.specs.Nodes.{SlotValue, nothing, leads_to, in_front}
use Rattle.arrow_types.specs.Child.{Child}

abbrev pub pair_table : List ℕ × List ℕ → Node
pair_table x = pair_node x.0 x.1

-- the pairs without reserved keys
abbrev pub unreserved : Metadata → Metadata
unreserved pairs = filter (λ x. not (is_reserved x.0)) pairs

-- the pairs of the extension of a kind alone
abbrev pub extension_pairs : Kind → Metadata
extension_pairs k = pairs_for k []

-- a list of pairs, left out where it is empty
abbrev pub pairs_value : Nodes → SlotValue
pairs_value layout.none = nothing
pairs_value (layout.also n ns) = leads_to (layout.tables (layout.also n ns))

-- the last slot of a table, where there is one
abbrev pub last_slot : Option Node → layout.Slots
last_slot None = layout.no_more
last_slot (Some n) = layout.child n layout.no_more

-- a dictionary's index type, order flag and id (Schema.fbs, DictionaryEncoding)
abbrev pub encoding_value : Kind → Option ℤ → SlotValue
encoding_value (kind.dictionary t ordered old k) id =
    leads_to (layout.table (unless_zero w64 (or_default (pos 0) id) (layout.child (int_node t) (flag ordered layout.no_more))))
encoding_value k id = nothing

-- a field's table (Schema.fbs, Field)
abbrev pub field_table : Child → Option ℤ → Nodes → Node
field_table c id children = layout.table (layout.child (layout.text c.name)
    (flag c.nullable (layout.value w8 (type_tag c.kind) (layout.child (type_node c.kind)
    (in_front (encoding_value c.kind id) (layout.child (layout.tables children) (in_front (pairs_value (field_pairs c.kind c.metadata)) layout.no_more)))))))
