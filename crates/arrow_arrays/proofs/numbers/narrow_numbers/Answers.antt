use Rattle.std.proofs.Common.{ap}
use Rattle.arrow_spec.specs.Flat.{little}
use Rattle.arrow_arrays.specs.LeafParts.{numbers}
use Rattle.arrow_arrays.proofs.NumberParts.{as_bytes-part, number_cells-part}
use Rattle.arrow_arrays.proofs.numbers.narrow_numbers.Goals as goal

pub returns-clause-parts : goal.returns-clause-parts
returns-clause-parts g c = rw c.narrow.ensures.parts (ap numbers (as_bytes-part (g.T.NativeType.written little) c.args.offset c.args.rows c.args.array.now))

pub returns-clause-cells : goal.returns-clause-cells
returns-clause-cells g c = rw c.narrow.ensures.parts (number_cells-part (g.T.NativeType.written little) c.args.offset c.args.rows c.args.array.now)
