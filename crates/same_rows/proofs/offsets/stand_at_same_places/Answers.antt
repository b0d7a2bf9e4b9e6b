use Rattle.std.proofs.Common.{subst, map}
use Rattle.same_rows.specs.Lengths.{HaveSameLengths}
use Rattle.same_rows.proofs.SameOffsets.{same_lengths}
use Rattle.same_rows.proofs.offsets.stand_at_same_places.Goals as goal

pub returns : goal.returns
returns g c =
    let number = g.O.Offset.number in
    let from = c.args.from in
    let start = c.args.start in
    let count = c.args.count in
    λ h.
    let told : HaveSameLengths (map number c.offsets-places.result.now) from (map number c.offsets-others.result.now) start count =
    same_lengths number c.offsets-places.result.now c.offsets-others.result.now from start count (c.have_same_offsets.ensures h) in
    subst (λ os. HaveSameLengths os from c.args.b.now.offsets start count) c.offsets-places.ensures
    (subst (λ os. HaveSameLengths (map number c.offsets-places.result.now) from os start count) c.offsets-others.ensures told)
