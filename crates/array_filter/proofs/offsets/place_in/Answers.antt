use Rattle.std.proofs.Common.{◌≡◌, ◌∙◌, sym, Some, None, map, arith}
use Rattle.arrow_buffers.specs.Variable.{place_at}
use Rattle.arrow_buffers.proofs.Counts.{found}
use Rattle.arrow_buffers.proofs.Rising.{placed_in}
use Rattle.array_filter.proofs.offsets.place_in.Goals as goal

pub unreachable-requires : goal.unreachable-requires
unreachable-requires g c =
    let p = placed_in g.O.Offset.number c.args.offsets.now c.args.limit c.args.i c.get.result c.to_usize.result c.ranges.limit.fits c.requires.rise c.requires.below (sym ((found c.args.offsets.now c.args.i c.get.result c.get.ensures).at c.get.result)) c.to_usize.ensures.length in
    let e : None ≡ Some (place_at (map g.O.Offset.number c.args.offsets.now) c.args.i) = sym c.in-None.is ∙ p.found in
    cc

pub returns-clause-place : goal.returns-clause-place
returns-clause-place g c =
    let p = placed_in g.O.Offset.number c.args.offsets.now c.args.limit c.args.i c.get.result c.to_usize.result c.ranges.limit.fits c.requires.rise c.requires.below (sym ((found c.args.offsets.now c.args.i c.get.result c.get.ensures).at c.get.result)) c.to_usize.ensures.length in
    let e : Some c.in-Some.place ≡ Some (place_at (map g.O.Offset.number c.args.offsets.now) c.args.i) = sym c.in-Some.is ∙ p.found in
    cc

pub returns-clause-within : goal.returns-clause-within
returns-clause-within g c =
    let p = placed_in g.O.Offset.number c.args.offsets.now c.args.limit c.args.i c.get.result c.to_usize.result c.ranges.limit.fits c.requires.rise c.requires.below (sym ((found c.args.offsets.now c.args.i c.get.result c.get.ensures).at c.get.result)) c.to_usize.ensures.length in
    let e : Some c.in-Some.place ≡ Some (place_at (map g.O.Offset.number c.args.offsets.now) c.args.i) = sym c.in-Some.is ∙ p.found in
    let q : c.in-Some.place ≡ place_at (map g.O.Offset.number c.args.offsets.now) c.args.i = cc in
    omega (arith, p.within, q)
