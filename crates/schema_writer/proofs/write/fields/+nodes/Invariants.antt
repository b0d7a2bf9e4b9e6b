use Rattle.std.proofs.Common.{◌≡◌, true, map, drop}
use Rattle.arrow_flat.specs.Nodes.{node_of}
use Rattle.arrow_types.specs.KindOf.{fields_of}
use Rattle.ipc_fields.specs.IpcFields.{ids_of}
use Rattle.schema_writer.specs.Tables.{nodes_with, all_sized, onto}
use Rattle.schema_writer.specs.Texts.{FieldsSayTexts}
use Rattle.schema_writer.proofs.write.fields.+nodes.Given as goal

abbrev pub invariant-field_nodes-loop-i : goal.invariant-field_nodes-loop-i
invariant-field_nodes-loop-i l = record {
  fit : all_sized (fields_of (drop l.i l.fields)) ≡ true;
  nodes : onto (map node_of l.nodes.items) (nodes_with (fields_of (drop l.i l.fields)) (ids_of (drop l.i l.below))) ≡ nodes_with (fields_of l.fields) (ids_of l.below);
  texts : FieldsSayTexts (fields_of (drop l.i l.fields)) → FieldsSayTexts (fields_of l.fields);
}
