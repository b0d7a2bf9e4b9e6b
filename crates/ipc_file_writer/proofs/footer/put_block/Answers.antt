use Rattle.std.proofs.Common.{rules}
use Rattle.ipc_file_writer.proofs.BlockBytes.{block_put}
use Rattle.ipc_file_writer.proofs.footer.put_block.Goals as goal

pub returns : goal.returns
returns c =
    block_put c.extend_from_slice-4.result c.args.block.now c.args.out.now.items c.extend_from_slice.new.self.items c.extend_from_slice-2.new.self.items c.extend_from_slice-3.new.self.items
    c.extend_from_slice-4.new.self.items c.requires (search rules) (search rules) (search rules) (search rules)
