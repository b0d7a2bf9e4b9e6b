use Rattle.std.proofs.Common.{◌+◌, drop, map, sym, ◌∙◌, ap}
use Rattle.arrow_buffers.specs.Variable.{rise_from}
use Rattle.arrow_buffers.proofs.Rising.{here, no_place, out_of_place, in_place}
use Rattle.arrow_buffers.proofs.offsets.rise_within.Goals as goal

pub returns-in_default : goal.returns-in_default
returns-in_default g c =
    let number = g.O.Offset.number in
    let xs = c.args.offsets.now in
    let i = c.loop-i.i in
    let low = c.loop-i.low in
    let limit = c.args.limit in
    let z = number c.get.result in
    let rest = map number (drop (i + 1) xs) in
    let e = ap (λ ys. rise_from low ys limit) (sym (here number xs i c.get.result c.get.ensures)) in
    sym (sym c.loop-i.invariant ∙ sym e ∙ no_place z low limit rest (sym c.to_usize.ensures.length ∙ c.in_default.is) c.ranges.limit.fits)

pub returns-then-at-low : goal.returns-then-at-low
returns-then-at-low g c =
    let number = g.O.Offset.number in
    let xs = c.args.offsets.now in
    let i = c.loop-i.i in
    let low = c.loop-i.low in
    let limit = c.args.limit in
    let z = number c.get.result in
    let rest = map number (drop (i + 1) xs) in
    let e = ap (λ ys. rise_from low ys limit) (sym (here number xs i c.get.result c.get.ensures)) in
    sym (sym c.loop-i.invariant ∙ sym e ∙ out_of_place z low c.in-Some.at limit rest (sym c.to_usize.ensures.length ∙ c.in-Some.is) c.then-at-low.either)

pub loop-i-preserved : goal.loop-i-preserved
loop-i-preserved g c =
    let number = g.O.Offset.number in
    let xs = c.args.offsets.now in
    let i = c.loop-i.i in
    let low = c.loop-i.low in
    let limit = c.args.limit in
    let z = number c.get.result in
    let rest = map number (drop (i + 1) xs) in
    let e = ap (λ ys. rise_from low ys limit) (sym (here number xs i c.get.result c.get.ensures)) in
    sym (in_place z low c.in-Some.at limit rest (sym c.to_usize.ensures.length ∙ c.in-Some.is) c.if-at-low.false c.if-limit-at.false) ∙ e ∙ c.loop-i.invariant
