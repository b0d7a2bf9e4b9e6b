use Rattle.std.proofs.Common.{◌<◌, ◌∙◌, ◌∷◌, ◌++◌, [], sym, ap, length, take, arith}
use Rattle.arrow_arrays.specs.Parts.{cells_in}
use Rattle.arrow_arrays.specs.PartsOf.{parts_of}
use Rattle.row_filters.specs.Filters.{marks_of}
use Rattle.row_filters.proofs.Marked.{all_marks, next_mark}
use Rattle.row_filters.proofs.marks.each_mark.Goals as goal

pub loop-row-preserved : goal.loop-row-preserved
loop-row-preserved c =
    let cells = cells_in (parts_of c.args.array.now) in
    let row = c.loop-row.row in
    let there : row < length cells = omega (arith, c.len-row-end.ensures.cells) in
    c.in_ok-push.ensures.items
    ∙ ap (λ marks. marks ++ c.meets.result ∷ []) c.loop-row.invariant
    ∙ ap (λ mark. take row (marks_of c.args.filter cells) ++ mark ∷ []) c.meets.ensures
    ∙ sym (next_mark c.args.filter cells row there)

pub returns : goal.returns
returns c = c.loop-row.invariant ∙ all_marks c.args.filter (cells_in (parts_of c.args.array.now)) c.loop-row.row (omega (arith, c.len-row-end.ensures.cells))
