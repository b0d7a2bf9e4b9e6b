use Rattle.std.proofs.Common.{◌≡◌, map, take}
use Rattle.std.specs.List.{flat_map}
use Rattle.arrow_spec.specs.Footers.{block_bytes}
use Rattle.ipc_messages.specs.Below.{file_block}
use Rattle.ipc_file_writer.proofs.footer.blocks_bytes.Given as goal

abbrev pub invariant-loop-block : goal.invariant-loop-block
invariant-loop-block l = l.out.items ≡ flat_map block_bytes (map file_block (take l.block-index l.blocks))
