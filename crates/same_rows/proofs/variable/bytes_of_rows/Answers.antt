use Rattle.std.proofs.Common.{rules, ◌+◌, arith}
use Rattle.arrow_types.specs.Physical.{physical_of}
use Rattle.arrow_buffers.specs.Layouts.{is_variable}
use Rattle.same_rows.proofs.SameBytes.{rows_rise}
use Rattle.same_rows.proofs.variable.bytes_of_rows.Goals as goal

pub slice_bounds-result-count : goal.slice_bounds-result-count
slice_bounds-result-count g c =
    let p = c.args.array.now in
    let up = rows_rise g.V.ViewType.IS_TEXT (is_variable g.V.ViewType.IS_TEXT g.O.Offset.IS_LARGE (physical_of p.kind)) p c.args.from (c.args.from + c.args.count) c.len-held.ensures.sound (omega arith) c.requires in
    search (rules, up)

pub slice_bounds-result-start : goal.slice_bounds-result-start
slice_bounds-result-start g c =
    let p = c.args.array.now in
    let up = rows_rise g.V.ViewType.IS_TEXT (is_variable g.V.ViewType.IS_TEXT g.O.Offset.IS_LARGE (physical_of p.kind)) p c.args.from (c.args.from + c.args.count) c.len-held.ensures.sound (omega arith) c.requires in
    search (rules, up)
