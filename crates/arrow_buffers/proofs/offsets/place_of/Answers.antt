use Rattle.std.proofs.Common.{◌≡◌, ◌-◌, Some, length, map, rules, arith, sym}
use Rattle.std.proofs.lemmas.List.{length-map}
use Rattle.arrow_buffers.specs.Variable.{place_at}
use Rattle.arrow_buffers.proofs.Counts.{found}
use Rattle.arrow_buffers.proofs.Rising.{placed_in, offset_between}
use Rattle.arrow_buffers.proofs.offsets.place_of.Goals as goal

pub unwrap-requires : goal.unwrap-requires
unwrap-requires g c =
    let p = placed_in g.O.Offset.number c.args.offsets.now c.args.limit c.args.i c.get.result c.to_usize.result c.ranges.limit.fits c.requires.rise c.requires.below (sym ((found c.args.offsets.now c.args.i c.get.result c.get.ensures).at c.get.result)) c.to_usize.ensures.length in
    let e : c.to_usize.result ≡ Some (place_at (map g.O.Offset.number c.args.offsets.now) c.args.i) = p.found in
    rw e (search rules)

pub returns-clause-within : goal.returns-clause-within
returns-clause-within g c =
    let p = placed_in g.O.Offset.number c.args.offsets.now c.args.limit c.args.i c.get.result c.to_usize.result c.ranges.limit.fits c.requires.rise c.requires.below (sym ((found c.args.offsets.now c.args.i c.get.result c.get.ensures).at c.get.result)) c.to_usize.ensures.length in
    let e : c.to_usize.result ≡ Some (place_at (map g.O.Offset.number c.args.offsets.now) c.args.i) = p.found in
    let u = c.unwrap.ensures in
    let w : c.unwrap.result ≡ place_at (map g.O.Offset.number c.args.offsets.now) c.args.i = cc in
    rw w p.within

pub returns-clause-after : goal.returns-clause-after
returns-clause-after g c =
    let offsets = map g.O.Offset.number c.args.offsets.now in
    let p = placed_in g.O.Offset.number c.args.offsets.now c.args.limit c.args.i c.get.result c.to_usize.result c.ranges.limit.fits c.requires.rise c.requires.below (sym ((found c.args.offsets.now c.args.i c.get.result c.get.ensures).at c.get.result)) c.to_usize.ensures.length in
    let e : c.to_usize.result ≡ Some (place_at offsets c.args.i) = p.found in
    let u = c.unwrap.ensures in
    let w : c.unwrap.result ≡ place_at offsets c.args.i = cc in
    rw w (offset_between offsets c.args.limit 0 c.requires.rise c.args.i (omega arith) (omega (arith, length-map c.args.offsets.now g.O.Offset.number)))

pub returns-clause-before : goal.returns-clause-before
returns-clause-before g c =
    let offsets = map g.O.Offset.number c.args.offsets.now in
    let p = placed_in g.O.Offset.number c.args.offsets.now c.args.limit c.args.i c.get.result c.to_usize.result c.ranges.limit.fits c.requires.rise c.requires.below (sym ((found c.args.offsets.now c.args.i c.get.result c.get.ensures).at c.get.result)) c.to_usize.ensures.length in
    let e : c.to_usize.result ≡ Some (place_at offsets c.args.i) = p.found in
    let u = c.unwrap.ensures in
    let w : c.unwrap.result ≡ place_at offsets c.args.i = cc in
    rw w (offset_between offsets c.args.limit c.args.i c.requires.rise (length c.args.offsets.now - 1) (omega arith) (omega (arith, length-map c.args.offsets.now g.O.Offset.number)))
