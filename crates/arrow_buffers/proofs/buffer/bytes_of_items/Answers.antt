use Rattle.std.proofs.Common.{◌≡◌, ◌+◌, ◌++◌, ◌∷◌, [], take, length, ap, sym, ◌∙◌, arith}
use Rattle.std.proofs.lemmas.List.{take_more}
use Rattle.arrow_spec.specs.Flat.{little}
use Rattle.arrow_buffers.proofs.Items.{items_more, size_more}
use Rattle.arrow_buffers.proofs.buffer.bytes_of_items.Goals as goal

pub loop-item-preserved : goal.loop-item-preserved
loop-item-preserved g c =
    let x = c.item-item.result in
    let laws = g.met.T.NativeType in
    let i = c.loop-item.item-index in
    let more : c.as_slice.result.now ≡ g.T.NativeType.written little x = c.as_slice.ensures ∙ c.to_le_bytes-written.ensures.bytes in
    let long : length c.as_slice.result.now ≡ g.T.NativeType.WIDTH = ap length more ∙ laws.writes_width little x in
    let back = ap (g.T.NativeType.read little) more ∙ laws.reads_back little x c.to_le_bytes-written.ensures.fits in
    let xs = c.args.items.now in
    let next : take (i + 1) xs ≡ take i xs ++ x ∷ [] = take_more xs i x (omega arith) ∙ ap (λ y. take i xs ++ y ∷ []) (sym c.item-item.is) in
    record {
      items = rw c.in_ok-extend_from_slice.ensures.items (items_more g.T.NativeType.read g.T.NativeType.WIDTH little c.loop-item.bytes.items c.as_slice.result.now i c.loop-item.invariant.size long ∙ ap (λ ys. ys ++ g.T.NativeType.read little c.as_slice.result.now ∷ []) c.loop-item.invariant.items ∙ ap (λ y. take i xs ++ y ∷ []) back ∙ sym next);
      size = rw c.in_ok-extend_from_slice.ensures.items (size_more g.T.NativeType.WIDTH i c.loop-item.bytes.items c.as_slice.result.now c.loop-item.invariant.size long);
    }
