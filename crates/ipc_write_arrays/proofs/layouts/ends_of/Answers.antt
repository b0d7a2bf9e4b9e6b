use Rattle.std.proofs.Common.{map, arith}
use Rattle.std.proofs.lemmas.List.{length-map}
use Rattle.arrow_buffers.proofs.Rising.{some_offset}
use Rattle.ipc_write_arrays.proofs.layouts.ends_of.Goals as goal

pub place_of-first-requires-clause-below : goal.place_of-first-requires-clause-below
place_of-first-requires-clause-below g c = omega (arith, some_offset (map g.O.Offset.number c.args.offsets.now) c.args.limit c.requires.rise, length-map c.args.offsets.now g.O.Offset.number)
