use Rattle.std.proofs.Common.{◌≡◌, ◌+◌, length, get_or, pos, sym, ap, ◌∙◌, arith}
use Rattle.std.specs.Int.{w128}
use Rattle.std.proofs.lemmas.Int.{to_z_pos}
use Rattle.arrow_types.specs.KindOf.{ids_of}
use Rattle.arrow_types.proofs.UnionIds.{counted_length}
use Rattle.arrow_arrays.proofs.UnionPlaces.{counted_at}
use Rattle.arrow_arrays.proofs.union_types.id_at.Goals as goal

pub returns-in-None : goal.returns-in-None
returns-in-None c =
    let n = c.args.children in
    let i = c.args.i in
    let l : length (ids_of c.args.ids.now n) ≡ n = ap (λ ids. length (ids_of ids n)) c.in-None.is ∙ counted_length 0 n in
    let z : i ≡ 0 + i = omega arith in
    to_z_pos w128 i (omega (arith, c.ranges.i)) ∙ ap pos z ∙ counted_at 0 n i (omega (arith, c.requires)) ∙ sym (ap (λ ids. get_or (ids_of ids n) i (pos 0)) c.in-None.is)
