use Rattle.std.proofs.Common.{◌+◌, map, ap, ◌∙◌, arith}
use Rattle.arrow_buffers.specs.Rows.{part}
use Rattle.arrow_buffers.proofs.Parts.{map-part}
use Rattle.arrow_buffers.proofs.Rising.{are_offsets-part}
use Rattle.std.proofs.lemmas.List.{length-map}
use Rattle.ipc_write_arrays.proofs.trees.add_places.Goals as goal

pub add_offsets-requires : goal.add_offsets-requires
add_offsets-requires g c =
    let number = g.O.Offset.number in
    let all = c.args.places.now in
    let same = ap (map number) (c.sliced-part.ensures ∙ ap (part c.args.offset (c.args.rows + 1)) c.in_ok-clone.ensures) ∙ map-part number c.args.offset (c.args.rows + 1) all in
    rw same (are_offsets-part c.args.offset c.args.rows c.args.limit (map number all) c.requires.rise (omega (arith, length-map all number, c.requires.below)))

pub returns-clause-bytes : goal.returns-clause-bytes
returns-clause-bytes g c =
    let number = g.O.Offset.number in
    let same = ap (map number) (c.sliced-part.ensures ∙ ap (part c.args.offset (c.args.rows + 1)) c.in_ok-clone.ensures) ∙ map-part number c.args.offset (c.args.rows + 1) c.args.places.now in
    rw same at c.add_offsets.ensures.bytes

pub returns-clause-below : goal.returns-clause-below
returns-clause-below g c =
    let number = g.O.Offset.number in
    let same = ap (map number) (c.sliced-part.ensures ∙ ap (part c.args.offset (c.args.rows + 1)) c.in_ok-clone.ensures) ∙ map-part number c.args.offset (c.args.rows + 1) c.args.places.now in
    rw same at c.add_offsets.ensures.below
