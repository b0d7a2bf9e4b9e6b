use Rattle.std.proofs.Common.{rules}
use Rattle.arrow_flat.specs.Nodes.{nodes_of}
use Rattle.arrow_flat.specs.declared.node.Node.{the_lemmas}
use Rattle.arrow_types.specs.Schemas.{fields_in}
use Rattle.ipc_fields.specs.IpcFields.{ids_of, metadata_in}
use Rattle.arrow_spec.specs.Flat.{order_by}
use Rattle.schema_writer.proofs.Tops.{schema_built, sized_of}
use Rattle.schema_writer.proofs.Texts.{schema_texts}
use Rattle.schema_writer.proofs.write.schema.schema_node.Goals as goal

pub field_nodes-requires : goal.field_nodes-requires
field_nodes-requires c = sized_of (fields_in c.args.schema.now) (ids_of c.args.ipc_fields.now) c.requires

pub returns-clause-node : goal.returns-clause-node
returns-clause-node c = schema_built _ (order_by c.args.is_little_endian) (nodes_of c.in_ok-field_nodes.field-0.items) (fields_in c.args.schema.now) (ids_of c.args.ipc_fields.now) (metadata_in c.args.metadata) (search (rules, the_lemmas)) c.in_ok-field_nodes.ensures.nodes

pub returns-clause-texts : goal.returns-clause-texts
returns-clause-texts c = schema_texts (fields_in c.args.schema.now) (metadata_in c.args.metadata) c.in_ok-field_nodes.ensures.texts c.in_ok-pairs.ensures.ascend
