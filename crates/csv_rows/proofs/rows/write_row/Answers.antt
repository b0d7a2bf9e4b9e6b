use Rattle.std.proofs.Common.{◌≡◌, ◌≤◌, ◌<◌, ◌∙◌, ◌+◌, ◌-◌, ◌^◌, ◌++◌, ◌∷◌, [], length, take, get_or, OnOk, sym, ap, subst, arith}
use Rattle.std.proofs.lemmas.List.{take_all, length-take}
use Rattle.std.specs.Io.KnownBytes.{Appends}
use Rattle.arrow_arrays.specs.Parts.{rows_in}
use Rattle.arrow_arrays.specs.PartsOf.{all_parts_of, parts_of}
use Rattle.csv.specs.Writing.{default_writer, row_text}
use Rattle.csv_rows.specs.Shown.{shown_cells}
use Rattle.csv_rows.specs.Writers.{IsInRow, text_of}
use Rattle.csv_rows.proofs.RowTexts.{cells_more, length-cells, row_begun, rows_at}
use Rattle.csv_rows.proofs.rows.write_row.Goals as goal

pub loop-i-init : goal.loop-i-init
loop-i-init c = row_begun c.args.writer.now c.requires.at

pub put_cell-requires : goal.put_cell-requires
put_cell-requires c =
    let x = c.index-arrays-i.result in
    let n = rows_at c.args.height c.args.arrays.now c.loop-i.i x c.requires.rows (omega (arith, c.loop-i-test.true)) in
    let same : rows_in (parts_of x) ≡ rows_in (parts_of (get_or c.args.arrays.now c.loop-i.i x)) = ap (λ a. rows_in (parts_of a)) c.index-arrays-i.is in
    omega (arith, c.requires.below, n, same)

pub loop-i-preserved : goal.loop-i-preserved
loop-i-preserved c =
    let xs = c.args.arrays.now in
    let i = c.loop-i.i in
    let x = c.index-arrays-i.result in
    let start = text_of c.args.writer.now in
    let cells = take i (shown_cells (all_parts_of xs) c.args.row) in
    let few : length cells < 2 ^ 64 - 1 = omega (arith, length-take i (shown_cells (all_parts_of xs) c.args.row), c.loop-i-test.true) in
    subst (IsInRow start c.put_cell.new.writer) (sym (cells_more xs i c.args.row x (omega (arith, c.loop-i-test.true)) c.index-arrays-i.is)) (c.in_ok-put_cell.ensures.goes_on start cells c.loop-i.invariant few)

pub returns-clause-text : goal.returns-clause-text
returns-clause-text c =
    let xs = c.args.arrays.now in
    let row = shown_cells (all_parts_of xs) c.args.row in
    let all : take c.loop-i.i row ≡ row = take_all c.loop-i.i row (let k = length-cells xs c.args.row in omega (arith, k, c.loop-i-test.false)) in
    subst (λ z. OnOk c.end_row.result (Appends (text_of c.args.writer.now) (text_of c.end_row.new.writer) (row_text default_writer z))) all (c.end_row.ensures.text (text_of c.args.writer.now) (take c.loop-i.i row) c.loop-i.invariant)

pub returns-clause-ended : goal.returns-clause-ended
returns-clause-ended c = c.end_row.ensures.ended (text_of c.args.writer.now) (take c.loop-i.i (shown_cells (all_parts_of c.args.arrays.now) c.args.row)) c.loop-i.invariant
