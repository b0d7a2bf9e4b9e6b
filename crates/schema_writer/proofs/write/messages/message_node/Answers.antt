use Rattle.arrow_flat.specs.Nodes.{node_of}
use Rattle.ipc_fields.specs.IpcFields.{metadata_in}
use Rattle.schema_writer.proofs.Limits.{given_keeps}
use Rattle.schema_writer.proofs.write.messages.message_node.Goals as goal

pub returns-clause-slot_limit : goal.returns-clause-slot_limit
returns-clause-slot_limit c = given_keeps c.args.tag (node_of c.args.header) c.args.body (metadata_in c.args.custom) c.table_of.result c.table_of.ensures.node
