use Rattle.std.proofs.Common.{◌∙◌, sym}
use Rattle.arrow_spec.specs.Flat.{little}
use Rattle.arrow_types.specs.Physical.{physical_of}
use Rattle.arrow_buffers.specs.Layouts.{is_primitive}
use Rattle.arrow_arrays.proofs.NumberParts.{numbers_sound, number_cells-length}
use Rattle.arrow_arrays.proofs.numbers.number_rows.Goals as goal

pub returns-clause-cells : goal.returns-clause-cells
returns-clause-cells g c = c.len.ensures.values ∙ sym (number_cells-length (g.T.NativeType.written little) (is_primitive g.T.NativeType.PRIMITIVE (physical_of c.args.array.now.kind)) c.args.array.now c.len.ensures.sound)

pub returns-clause-sound : goal.returns-clause-sound
returns-clause-sound g c = numbers_sound (g.T.NativeType.written little) g.T.NativeType.PRIMITIVE g.T.NativeType.WIDTH c.args.array.now c.requires.size c.requires.above (g.met.T.NativeType.writes_width little) c.len.ensures.sound
