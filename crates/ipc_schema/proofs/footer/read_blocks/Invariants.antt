use Rattle.std.proofs.Common.{◌≡◌, ◌-◌}
use Rattle.std.specs.Prelude.{map, All}
use Rattle.arrow_spec.specs.Readings.{each}
use Rattle.ipc_schema.specs.Footers.{IsNatural, file_block, block_in, blocks_in}
use Rattle.ipc_schema.proofs.Items.{with_front}
use Rattle.ipc_schema.proofs.footer.read_blocks.Given as goal

abbrev pub invariant-loop-i : goal.invariant-loop-i
invariant-loop-i l = record {
  read : with_front (map file_block l.blocks.items) (each (block_in l.list l.vector) l.i (l.vector.vector.count - l.i)) ≡ blocks_in l.list l.vector;
  natural : All IsNatural l.blocks.items;
}
