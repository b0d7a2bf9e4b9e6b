use Rattle.std.proofs.Common.{◌∙◌, sym, length-set}
use Rattle.std.proofs.lemmas.Option.{none-some}
use Rattle.ipc_projection.proofs.Inverse.{one_inverted}
use Rattle.ipc_projection.proofs.places.sources.Goals as goal

pub unreachable-requires : goal.unreachable-requires
unreachable-requires c =
    let to = c.requires.permutes.led c.loop-i.i-counter c.loop-i-test.true in
    none-some to.0 (c.in_default.ensures.value ∙ to.1)

pub loop-i-preserved : goal.loop-i-preserved
loop-i-preserved c =
    let v = c.loop-i.invariant in
    record {
      count = length-set c.loop-i.sources.items c.in-Some.place.now c.loop-i.i-counter ∙ v.count;
      each = one_inverted c.args.map.now c.args.width c.loop-i.i-counter c.loop-i.sources.items c.requires.permutes v.count v.each c.in-Some.place.now (sym c.in-Some.ensures.value);
    }
