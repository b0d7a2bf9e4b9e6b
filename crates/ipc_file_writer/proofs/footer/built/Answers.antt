use Rattle.std.proofs.Common.{subst, sym}
use Rattle.arrow_flat.specs.Nodes.{KeepsSlotLimit, node_of}
use Rattle.ipc_fields.specs.IpcFields.{metadata_in}
use Rattle.ipc_file_writer.specs.Blocks.{file_blocks}
use Rattle.ipc_file_writer.proofs.FooterNodes.{footer_keeps}
use Rattle.ipc_file_writer.proofs.footer.built.Goals as goal

pub finish-requires-clause-slot_limit : goal.finish-requires-clause-slot_limit
finish-requires-clause-slot_limit c =
    subst KeepsSlotLimit (sym c.in_ok-node.ensures)
    (footer_keeps (node_of c.args.schema) (metadata_in c.args.pairs) (file_blocks c.args.blocks.now.dictionaries) (file_blocks c.args.blocks.now.records) c.requires.slot_limit)
