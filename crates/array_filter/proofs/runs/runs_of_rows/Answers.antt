use Rattle.std.proofs.Common.{◌∙◌, sym, ap, ◌+◌, ◌++◌, [], ◌∷◌, drop, get_or, arith}
use Rattle.std.proofs.lemmas.List.{take_more}
use Rattle.array_filter.proofs.Marked.{rising_below}
use Rattle.array_filter.proofs.RunLaws.{climb_higher, next_row}
use Rattle.array_filter.proofs.runs.runs_of_rows.Goals as goal

pub add_row-requires-clause-climb : goal.add_row-requires-clause-climb
add_row-requires-clause-climb c =
    let s = c.loop-row.invariant.rising in
    let n = next_row c.args.rows.now s.low c.loop-row.row-index c.args.held 0 s.left c.loop-row-test.true in
    climb_higher 0 c.loop-row.runs.items s.low (get_or c.args.rows.now c.loop-row.row-index 0) s.climb n.above

pub add_row-requires-clause-small : goal.add_row-requires-clause-small
add_row-requires-clause-small c =
    let s = c.loop-row.invariant.rising in
    omega (arith, (next_row c.args.rows.now s.low c.loop-row.row-index c.args.held 0 s.left c.loop-row-test.true).below, c.ranges.held.fits)

pub loop-row-preserved : goal.loop-row-preserved
loop-row-preserved c =
    let rows = c.args.rows.now in
    let k = c.loop-row.row-index in
    let row = get_or rows k 0 in
    let s = c.loop-row.invariant.rising in
    record {
      rows = c.in_ok-add_row.ensures.rows ∙ ap (λ ks. ks ++ row ∷ []) c.loop-row.invariant.rows ∙ sym (take_more rows k 0 c.loop-row-test.true);
      rising = record {
        low = row + 1;
        climb = c.in_ok-add_row.ensures.climb;
        left = (next_row rows s.low k c.args.held 0 s.left c.loop-row-test.true).left;
      };
    }

pub returns-clause-climb : goal.returns-clause-climb
returns-clause-climb c =
    let s = c.loop-row.invariant.rising in
    climb_higher 0 c.loop-row.runs.items s.low c.args.held s.climb (rising_below s.low (drop c.loop-row.row-index c.args.rows.now) c.args.held s.left)
