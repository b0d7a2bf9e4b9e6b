use Rattle.std.proofs.Common.{◌<◌, ◌∙◌, ◌∷◌, ◌++◌, [], sym, ap, length, take, arith}
use Rattle.arrow_spec.specs.Flat.{little}
use Rattle.arrow_types.specs.Physical.{physical_of}
use Rattle.arrow_buffers.specs.Layouts.{is_primitive}
use Rattle.arrow_arrays.specs.LeafParts.{as_bytes, numbers}
use Rattle.arrow_arrays.specs.Parts.{cells_in, leaf}
use Rattle.arrow_arrays.proofs.NumberParts.{number_cells-length}
use Rattle.row_filters.specs.Filters.{marks_of}
use Rattle.row_filters.proofs.Marked.{all_marks, next_mark}
use Rattle.row_filters.proofs.marks.masked_marks.Goals as goal

pub loop-row-init : goal.loop-row-init
loop-row-init g c = record {
  marks = c.in_ok-reserve.ensures.items ∙ c.new-marks.ensures.items;
  count = omega (arith, c.in_ok-reserve.ensures.len, c.new-marks.ensures.len);
  room = omega (arith, c.in_ok-reserve.ensures.ok, c.len.ensures.values);
}

pub loop-row-preserved : goal.loop-row-preserved
loop-row-preserved g c =
    let a = c.args.array.now in
    let write = g.T.NativeType.written little in
    let cells = cells_in (leaf (numbers (as_bytes write a))) in
    let row = c.loop-row.row in
    let long = number_cells-length write (is_primitive g.T.NativeType.PRIMITIVE (physical_of a.kind)) a c.len.ensures.sound in
    let there : row < length cells = omega (arith, long, c.len-row-end.ensures.values, c.loop-row-test.true) in
    record {
      marks = c.push_reserved.ensures.items
          ∙ ap (λ marks. marks ++ c.number_mark.result ∷ []) c.loop-row.invariant.marks
          ∙ ap (λ mark. take row (marks_of c.args.filter cells) ++ mark ∷ []) c.number_mark.ensures
          ∙ sym (next_mark c.args.filter cells row there);
      count = omega (arith, c.push_reserved.ensures.len, c.loop-row.invariant.count);
      room = omega (arith, c.push_reserved.ensures.capacity, c.loop-row.invariant.room);
    }

pub returns : goal.returns
returns g c =
    let a = c.args.array.now in
    let write = g.T.NativeType.written little in
    let long = number_cells-length write (is_primitive g.T.NativeType.PRIMITIVE (physical_of a.kind)) a c.len.ensures.sound in
    c.loop-row.invariant.marks ∙ all_marks c.args.filter (cells_in (leaf (numbers (as_bytes write a)))) c.loop-row.row (omega (arith, long, c.len-row-end.ensures.values, c.loop-row-test.false))
