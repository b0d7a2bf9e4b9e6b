use Rattle.std.proofs.Common.{◌≡◌, ◌≢◌, ℕ, ◌+◌, ◌-◌, min, ◌≤◌, ◌<◌, ◌++◌, length, take, drop, get_or, refl, sym, ap, ◌∙◌, arith, true≢false}
use Rattle.std.proofs.lemmas.List.{take_all}
use Rattle.same_rows.specs.Below.{part}
use Rattle.same_rows.proofs.Below.{length-part}
use Rattle.arrow_arrays.specs.Parts.{rows_in, cells_in, rows_each}
use Rattle.arrow_arrays.specs.PartsOf.{parts_of, forest_of}
use Rattle.arrow_arrays.proofs.UnionPlaces.{rows_under_at}
use Rattle.ipc_dictionaries.specs.Standing.{all_cells, cells_from}
use Rattle.ipc_dictionaries.proofs.Places.{run_at, behind_at, none_at}
use Rattle.ipc_dictionaries.proofs.Runs.{goes_on, begun_run, too_short}
use Rattle.ipc_dictionaries.proofs.comparison.place_behind.Goals as goal

-- a run that does not end the array's rows ends the part's
full_run : (rows row others start count : ℕ) → count ≡ min (rows - row) (others - start) → row < rows → start ≤ others → row + count ≢ rows → start + count ≡ others
full_run rows row others start count e h l n = omega arith

pub loop-i-init : goal.loop-i-init
loop-i-init c = record { left = omega (arith, c.if-rows-eq0.false); there = c.requires; front = refl }

pub overflow_sub-rows : goal.overflow_sub-rows
overflow_sub-rows c = omega (arith, c.loop-i.invariant.left)

pub overflow_sub-others : goal.overflow_sub-others
overflow_sub-others c =
    let x = c.index-parts-i.result in
    let r : rows_in (parts_of x) ≡ get_or (rows_each (forest_of c.args.parts.now)) c.loop-i.i 0 = ap (λ y. rows_in (parts_of y)) c.index-parts-i.is ∙ rows_under_at c.args.parts.now c.loop-i.i x c.loop-i-test.true in
    omega (arith, c.len-others.ensures.rows, c.loop-i.invariant.there)

pub have_same_rows-requires-clause-a : goal.have_same_rows-requires-clause-a
have_same_rows-requires-clause-a c = omega (arith, c.len-rows.ensures.rows, c.min-count.ensures, c.loop-i.invariant.left)

pub have_same_rows-requires-clause-b : goal.have_same_rows-requires-clause-b
have_same_rows-requires-clause-b c =
    let x = c.index-parts-i.result in
    let r : rows_in (parts_of x) ≡ get_or (rows_each (forest_of c.args.parts.now)) c.loop-i.i 0 = ap (λ y. rows_in (parts_of y)) c.index-parts-i.is ∙ rows_under_at c.args.parts.now c.loop-i.i x c.loop-i-test.true in
    omega (arith, c.len-others.ensures.rows, c.min-count.ensures, c.loop-i.invariant.there)

pub returns-then-not-have_same_rows-clause-other : goal.returns-then-not-have_same_rows-clause-other
returns-then-not-have_same_rows-clause-other c =
    let xs = c.args.parts.now in
    let i = c.loop-i.i in
    let x = c.index-parts-i.result in
    let cells = cells_in (parts_of c.args.array.now) in
    let ys = cells_in (parts_of x) in
    let n = c.min-count.result in
    let r : rows_in (parts_of x) ≡ get_or (rows_each (forest_of xs)) i 0 = ap (λ y. rows_in (parts_of y)) c.index-parts-i.is ∙ rows_under_at xs i x c.loop-i-test.true in
    let here : c.loop-i.start + n ≤ length ys = omega (arith, c.len-others.ensures.rows, c.len-others.ensures.cells, c.min-count.ensures, c.loop-i.invariant.there) in
    let own : c.loop-i.row + n ≤ length cells = omega (arith, c.len-rows.ensures.cells, c.min-count.ensures, c.loop-i.invariant.left) in
    let whole = c.loop-i.invariant.front ∙ ap (λ us. take c.loop-i.row cells ++ us) (run_at xs i c.loop-i.start n x c.loop-i-test.true c.index-parts-i.is here) in
    λ b. absurd (true≢false (sym (c.have_same_rows.ensures.1 (begun_run cells (part c.loop-i.start n ys) (drop (c.loop-i.start + n) (all_cells (drop i xs))) (cells_from xs c.args.from) c.loop-i.row n own (length-part ys c.loop-i.start n here) whole b)) ∙ c.if-not-have_same_rows.true))

pub returns-then-row-rows-clause-behind : goal.returns-then-row-rows-clause-behind
returns-then-row-rows-clause-behind c =
    let xs = c.args.parts.now in
    let i = c.loop-i.i in
    let x = c.index-parts-i.result in
    let cells = cells_in (parts_of c.args.array.now) in
    let ys = cells_in (parts_of x) in
    let n = c.min-count.result in
    let r : rows_in (parts_of x) ≡ get_or (rows_each (forest_of xs)) i 0 = ap (λ y. rows_in (parts_of y)) c.index-parts-i.is ∙ rows_under_at xs i x c.loop-i-test.true in
    let here : c.loop-i.start + n ≤ length ys = omega (arith, c.len-others.ensures.rows, c.len-others.ensures.cells, c.min-count.ensures, c.loop-i.invariant.there) in
    let rest = drop (c.loop-i.start + n) (all_cells (drop i xs)) in
    let on : cells_from xs c.args.from ≡ take (c.loop-i.row + n) cells ++ rest =
    goes_on cells (drop c.loop-i.start (all_cells (drop i xs))) (part c.loop-i.start n ys) rest (cells_from xs c.args.from) c.loop-i.row n c.loop-i.invariant.front
    (run_at xs i c.loop-i.start n x c.loop-i-test.true c.index-parts-i.is here) (c.have_same_rows.ensures.0 c.if-not-have_same_rows.false) in (
      on ∙ ap (λ us. us ++ rest) (take_all (c.loop-i.row + n) cells (omega (arith, c.len-rows.ensures.cells, c.if-row-rows.true))),
      omega (arith, c.len-others.ensures.rows, c.min-count.ensures, c.loop-i.invariant.there),
    )

pub loop-i-preserved : goal.loop-i-preserved
loop-i-preserved c =
    let xs = c.args.parts.now in
    let i = c.loop-i.i in
    let x = c.index-parts-i.result in
    let cells = cells_in (parts_of c.args.array.now) in
    let ys = cells_in (parts_of x) in
    let n = c.min-count.result in
    let r : rows_in (parts_of x) ≡ get_or (rows_each (forest_of xs)) i 0 = ap (λ y. rows_in (parts_of y)) c.index-parts-i.is ∙ rows_under_at xs i x c.loop-i-test.true in
    let here : c.loop-i.start + n ≤ length ys = omega (arith, c.len-others.ensures.rows, c.len-others.ensures.cells, c.min-count.ensures, c.loop-i.invariant.there) in
    let start : c.loop-i.start ≤ c.len-others.result = omega (arith, c.len-others.ensures.rows, c.loop-i.invariant.there) in
    let full : c.loop-i.start + n ≡ c.len-others.result = full_run c.len-rows.result c.loop-i.row c.len-others.result c.loop-i.start n c.min-count.ensures c.loop-i.invariant.left start c.if-row-rows.false in
    let rest = drop (c.loop-i.start + n) (all_cells (drop i xs)) in
    let on : cells_from xs c.args.from ≡ take (c.loop-i.row + n) cells ++ rest =
    goes_on cells (drop c.loop-i.start (all_cells (drop i xs))) (part c.loop-i.start n ys) rest (cells_from xs c.args.from) c.loop-i.row n c.loop-i.invariant.front
    (run_at xs i c.loop-i.start n x c.loop-i-test.true c.index-parts-i.is here) (c.have_same_rows.ensures.0 c.if-not-have_same_rows.false) in
    record {
      left = omega (arith, c.min-count.ensures, c.loop-i.invariant.left, c.if-row-rows.false);
      there = omega arith;
      front = on ∙ ap (λ us. take (c.loop-i.row + n) cells ++ us) (behind_at xs i (c.loop-i.start + n) x c.loop-i-test.true c.index-parts-i.is (full ∙ c.len-others.ensures.cells));
    }

pub returns-clause-other : goal.returns-clause-other
returns-clause-other c =
    let xs = c.args.parts.now in
    let cells = cells_in (parts_of c.args.array.now) in
    let us = drop c.loop-i.start (all_cells (drop c.loop-i.i xs)) in
    λ b. too_short cells us (cells_from xs c.args.from) c.loop-i.row (omega (arith, c.len-rows.ensures.cells, c.loop-i.invariant.left)) (none_at xs c.loop-i.i c.loop-i.start (omega (arith, c.loop-i-test.false))) c.loop-i.invariant.front b
