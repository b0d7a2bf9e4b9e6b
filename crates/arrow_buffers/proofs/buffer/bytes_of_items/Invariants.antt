use Rattle.std.proofs.Common.{◌≡◌, ◌*◌, take, length}
use Rattle.arrow_spec.specs.Flat.{little}
use Rattle.arrow_buffers.specs.Items.{items_at}
use Rattle.arrow_buffers.proofs.buffer.bytes_of_items.Given as goal

abbrev pub invariant-loop-item : goal.invariant-loop-item
invariant-loop-item g l = record {
  items : items_at g.T.NativeType.read g.T.NativeType.WIDTH little l.bytes.items 0 l.item-index ≡ take l.item-index l.items;
  size : length l.bytes.items ≡ g.T.NativeType.WIDTH * l.item-index;
}
