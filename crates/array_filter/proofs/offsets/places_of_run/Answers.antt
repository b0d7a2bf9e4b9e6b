use Rattle.std.proofs.Common.{◌≤◌, ◌+◌, map, arith}
use Rattle.std.proofs.lemmas.List.{length-map}
use Rattle.arrow_buffers.specs.Variable.{place_at}
use Rattle.arrow_buffers.proofs.Rising.{offset_between}
use Rattle.array_filter.proofs.offsets.places_of_run.Goals as goal

pub returns-clause-ordered : goal.returns-clause-ordered
returns-clause-ordered g c =
    let os = map g.O.Offset.number c.args.offsets.now in
    let up : place_at os c.args.run.from ≤ place_at os (c.args.run.from + c.args.run.count) = offset_between os c.args.limit c.args.run.from c.requires.rise (c.args.run.from + c.args.run.count) (omega arith) (omega (arith, length-map c.args.offsets.now g.O.Offset.number, c.requires.within)) in
    omega (arith, up, c.place_in-from.ensures.place, c.place_in-to.ensures.place)
