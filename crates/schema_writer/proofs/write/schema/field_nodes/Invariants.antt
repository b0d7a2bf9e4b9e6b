use Rattle.std.proofs.Common.{◌≡◌, true, map, drop}
use Rattle.arrow_flat.specs.Nodes.{node_of}
use Rattle.arrow_types.specs.Schemas.{fields_in}
use Rattle.ipc_fields.specs.IpcFields.{ids_of}
use Rattle.schema_writer.specs.Tables.{nodes_with, all_sized, onto}
use Rattle.schema_writer.specs.Texts.{FieldsSayTexts}
use Rattle.schema_writer.proofs.write.schema.field_nodes.Given as goal

abbrev pub invariant-loop-i : goal.invariant-loop-i
invariant-loop-i l = record {
  sized : all_sized (fields_in (drop l.i l.schema)) ≡ true;
  nodes : onto (map node_of l.nodes.items) (nodes_with (fields_in (drop l.i l.schema)) (ids_of (drop l.i l.ipc_fields))) ≡ nodes_with (fields_in l.schema) (ids_of l.ipc_fields);
  texts : FieldsSayTexts (fields_in (drop l.i l.schema)) → FieldsSayTexts (fields_in l.schema);
}
