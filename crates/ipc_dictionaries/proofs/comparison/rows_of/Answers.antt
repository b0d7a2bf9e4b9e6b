use Rattle.std.proofs.Common.{◌≡◌, ◌+◌, ◌∙◌, ap, take, length, arith, length-append}
use Rattle.std.proofs.lemmas.List.{take_all}
use Rattle.std.specs.List.{sum}
use Rattle.arrow_arrays.specs.Parts.{rows_in, cells_in, rows_each}
use Rattle.arrow_arrays.specs.PartsOf.{parts_of, forest_of}
use Rattle.arrow_arrays.proofs.KeyRows.{one_more_counted}
use Rattle.arrow_arrays.proofs.UnionPlaces.{length-rows_each}
use Rattle.ipc_dictionaries.specs.Standing.{all_cells}
use Rattle.ipc_dictionaries.proofs.Places.{one_more}
use Rattle.ipc_dictionaries.proofs.comparison.rows_of.Goals as goal

pub loop-part-preserved : goal.loop-part-preserved
loop-part-preserved c =
    let x = c.part-item.result in
    let i = c.loop-part.part-index in
    let xs = c.args.parts.now in
    let m : sum (take (i + 1) (rows_each (forest_of xs))) ≡ sum (take i (rows_each (forest_of xs))) + rows_in (parts_of x) = one_more_counted xs i x c.loop-part-test.true c.part-item.is in
    let n : length (all_cells (take (i + 1) xs)) ≡ length (all_cells (take i xs)) + length (cells_in (parts_of x)) =
    ap length (one_more xs i x c.loop-part-test.true c.part-item.is) ∙ length-append (all_cells (take i xs)) (cells_in (parts_of x)) in
    record {
      rows = omega (arith, c.len.ensures.rows, c.loop-part.invariant.rows);
      cells = omega (arith, c.len.ensures.cells, c.loop-part.invariant.cells);
      bound = omega (arith, c.loop-part.invariant.bound);
    }

pub returns-clause-rows : goal.returns-clause-rows
returns-clause-rows c =
    let ns = rows_each (forest_of c.args.parts.now) in
    c.loop-part.invariant.rows ∙ ap sum (take_all c.loop-part.part-index ns (omega (arith, length-rows_each c.args.parts.now)))
