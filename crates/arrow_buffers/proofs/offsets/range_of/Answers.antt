use Rattle.std.proofs.Common.{◌≤◌, suc, map, add-one, arith}
use Rattle.std.proofs.lemmas.List.{length-map}
use Rattle.arrow_buffers.specs.Variable.{place_at}
use Rattle.arrow_buffers.proofs.Rising.{offset_climbs}
use Rattle.arrow_buffers.proofs.offsets.range_of.Goals as goal

pub returns-clause-ordered : goal.returns-clause-ordered
returns-clause-ordered g c =
    let offsets = map g.O.Offset.number c.args.offsets.now in
    let h : place_at offsets c.args.row ≤ place_at offsets (suc c.args.row) = offset_climbs offsets c.args.limit c.args.row c.requires.rise (omega (arith, length-map c.args.offsets.now g.O.Offset.number)) in
    rw (c.place_of-from.ensures.place, c.place_of-to.ensures.place, add-one) h
