-- What is built field by field are the nodes of the fields with the ids of their IPC fields.
use Rattle.std.proofs.Common.{◌≡◌, ℕ, List, Bool, Option, None, ℤ, refl, sym, ap, ◌∙◌}
use Rattle.std.specs.Int.{w8}
use Rattle.arrow_spec.specs.declared.types.UnionMode.TheVariants.{Dense, Sparse}
use Rattle.arrow_spec.specs.Kinds as kind
use Rattle.arrow_spec.specs.Kinds.{Kind, Fields, Metadata, small, large}
use Rattle.arrow_spec.specs.Layout as layout
use Rattle.arrow_spec.specs.Layout.{Node, Nodes, Slots}
use Rattle.arrow_spec.specs.Sent.{flag, type_tag, type_node, encoding_slot, field_pairs, pairs_slot, child_nodes, field_nodes}
use Rattle.arrow_flat.specs.Nodes.{in_front}
use Rattle.ipc_fields.specs.IpcFields.{Ids, no_fields, ids, kind_with, fields_with}
use Rattle.schema_writer.specs.Nodes.{pairs_value, encoding_value, field_table}
use Rattle.schema_writer.specs.Tables.{below_nodes, nodes_with}

tag_with : (k : Kind) (id : Option ℤ) (own : Ids) → type_tag (kind_with k id own) ≡ type_tag k
tag_with (kind.«list» small fs) id own = refl
tag_with (kind.«list» large fs) id own = refl
tag_with (kind.dictionary index ordered old k) id own = tag_with k None own
tag_with (kind.extension name metadata k) id own = tag_with k id own
tag_with k id own = refl

node_with : (k : Kind) (id : Option ℤ) (own : Ids) → type_node (kind_with k id own) ≡ type_node k
node_with (kind.union Dense stated types fs) id own = refl
node_with (kind.union Sparse stated types fs) id own = refl
node_with (kind.dictionary index ordered old k) id own = node_with k None own
node_with (kind.extension name metadata k) id own = node_with k id own
node_with k id own = refl

encoding_front : (k : Kind) (id : Option ℤ) (own : Ids) (s : Slots) → in_front (encoding_value k id) s ≡ encoding_slot (kind_with k id own) s
encoding_front (kind.dictionary index ordered old k) id own s = refl
encoding_front k id own s = refl

pub pairs_front : (ns : Nodes) (s : Slots) → in_front (pairs_value ns) s ≡ pairs_slot ns s
pairs_front layout.none s = refl
pairs_front (layout.also n ns) s = refl

pairs_with : (k : Kind) (id : Option ℤ) (own : Ids) (m : Metadata) → field_pairs (kind_with k id own) m ≡ field_pairs k m
pairs_with (kind.dictionary index ordered old (kind.extension name metadata k)) id own m = refl
pairs_with (kind.dictionary index ordered old k) id own m = refl
pairs_with (kind.extension name metadata k) id own m = refl
pairs_with k id own m = refl

abbrev table_by : List ℕ → Bool → ℤ → Node → Slots → Node
table_by name nullable tag type rest = layout.table (layout.child (layout.text name) (flag nullable (layout.value w8 tag (layout.child type rest))))

field_same : (name : List ℕ) (nullable : Bool) (m : Metadata) (k : Kind) (id : Option ℤ) (own : Ids) (ns : Nodes) → field_table (record { name = name; kind = k; nullable = nullable; metadata = m }) id ns
    ≡ table_by name nullable (type_tag (kind_with k id own)) (type_node (kind_with k id own)) (encoding_slot (kind_with k id own) (layout.child (layout.tables ns) (pairs_slot (field_pairs (kind_with k id own) m) layout.no_more)))
field_same name nullable m k id own ns =
    let pairs : in_front (pairs_value (field_pairs k m)) layout.no_more ≡ pairs_slot (field_pairs (kind_with k id own) m) layout.no_more = pairs_front (field_pairs k m) layout.no_more ∙ ap (λ ps. pairs_slot ps layout.no_more) (sym (pairs_with k id own m)) in
    let first = in_front (encoding_value k id) (layout.child (layout.tables ns) (in_front (pairs_value (field_pairs k m)) layout.no_more)) in
    ap (λ t. table_by name nullable t (type_node k) first) (sym (tag_with k id own))
    ∙ ap (λ n. table_by name nullable (type_tag (kind_with k id own)) n first) (sym (node_with k id own))
    ∙ ap (λ s. table_by name nullable (type_tag (kind_with k id own)) (type_node (kind_with k id own)) s) (encoding_front k id own (layout.child (layout.tables ns) (in_front (pairs_value (field_pairs k m)) layout.no_more)))
    ∙ ap (λ s. table_by name nullable (type_tag (kind_with k id own)) (type_node (kind_with k id own)) (encoding_slot (kind_with k id own) (layout.child (layout.tables ns) s))) pairs

abbrev one_by : List ℕ → Bool → Metadata → Kind → Nodes → Nodes → Nodes
one_by name nullable m k ns others = layout.also (table_by name nullable (type_tag k) (type_node k) (encoding_slot k (layout.child (layout.tables ns) (pairs_slot (field_pairs k m) layout.no_more)))) others

mutual
  below_is : (k : Kind) (id : Option ℤ) (own : Ids) → below_nodes k own ≡ child_nodes (kind_with k id own)
  below_is (kind.«list» o fs) id own = built_is fs own
  below_is (kind.fixed_size_list n fs) id own = built_is fs own
  below_is (kind.struct fs) id own = built_is fs own
  below_is (kind.map sorted fs) id own = built_is fs own
  below_is (kind.union mode stated types fs) id own = built_is fs own
  below_is (kind.dictionary index ordered old k) id own = below_is k None own
  below_is (kind.extension name metadata k) id own = below_is k id own
  below_is k id own = refl

  pub built_is : (fs : Fields) (own : Ids) → nodes_with fs own ≡ field_nodes (fields_with fs own)
  built_is kind.none own = refl
  built_is (kind.field name nullable m k fs) no_fields =
      ap (λ n. layout.also n (nodes_with fs no_fields)) (field_same name nullable m k None no_fields (below_nodes k no_fields))
      ∙ ap (λ ns. one_by name nullable m (kind_with k None no_fields) ns (nodes_with fs no_fields)) (below_is k None no_fields)
      ∙ ap (λ os. one_by name nullable m (kind_with k None no_fields) (child_nodes (kind_with k None no_fields)) os) (built_is fs no_fields)
  built_is (kind.field name nullable m k fs) (ids id below others) =
      ap (λ n. layout.also n (nodes_with fs others)) (field_same name nullable m k id below (below_nodes k below))
      ∙ ap (λ ns. one_by name nullable m (kind_with k id below) ns (nodes_with fs others)) (below_is k id below)
      ∙ ap (λ os. one_by name nullable m (kind_with k id below) (child_nodes (kind_with k id below)) os) (built_is fs others)
