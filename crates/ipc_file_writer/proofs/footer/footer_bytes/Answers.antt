use Rattle.std.proofs.Common.{arith}
use Rattle.std.proofs.lemmas.List.{length-map}
use Rattle.arrow_flat.specs.Nodes.{node_of}
use Rattle.ipc_fields.specs.IpcFields.{metadata_in}
use Rattle.ipc_messages.specs.Below.{file_block}
use Rattle.ipc_file_writer.specs.Blocks.{file_blocks}
use Rattle.ipc_file_writer.proofs.FooterNodes.{many_dictionaries, many_records}
use Rattle.ipc_file_writer.proofs.footer.footer_bytes.Goals as goal

pub returns-then-len-ge-TOO_MANY : goal.returns-then-len-ge-TOO_MANY
returns-then-len-ge-TOO_MANY c =
    let blocks = c.args.blocks.now in
    many_dictionaries (node_of c.args.schema) (metadata_in c.args.pairs) (file_blocks blocks.dictionaries) (file_blocks blocks.records) (omega (arith, length-map blocks.dictionaries.items file_block))

pub returns-then-len-ge-TOO_MANY-2 : goal.returns-then-len-ge-TOO_MANY-2
returns-then-len-ge-TOO_MANY-2 c =
    let blocks = c.args.blocks.now in
    many_records (node_of c.args.schema) (metadata_in c.args.pairs) (file_blocks blocks.dictionaries) (file_blocks blocks.records) (omega (arith, length-map blocks.records.items file_block))
