use Rattle.std.proofs.Common.{◌≡◌, ◌∙◌, ap, arith, length, map, subst, sym}
use Rattle.std.proofs.lemmas.List.{take_all}
use Rattle.arrow_arrays.specs.Parts.{rows_in}
use Rattle.arrow_arrays.specs.PartsOf.{all_parts_of, parts_of}
use Rattle.arrow_arrays.proofs.Forests.{rows_at}
use Rattle.arrow_arrays.proofs.Heights.{heights_are_rows}
use Rattle.array_filter.specs.Rows.{marked_from}
use Rattle.array_filter.specs.Runs.{Climb}
use Rattle.array_filter.specs.Taken.{rows_taken}
use Rattle.ipc_scan.proofs.keep.keep_each.Goals as goal

pub take_runs-requires : goal.take_runs-requires
take_runs-requires c =
    let x = c.array-item.result in
    let xs = c.args.arrays.now in
    let n = length c.args.marks.now in
    let rows : rows_in (parts_of x) ≡ n = ap (λ y. rows_in (parts_of y)) c.array-item.is ∙ rows_at n xs c.loop-array.array-index x (heights_are_rows n (all_parts_of xs) ∙ c.requires) c.loop-array-test.true in
    subst (λ rs. Climb 0 rs (rows_in (parts_of x))) (sym c.as_slice.ensures.value) (subst (λ k. Climb 0 c.in_ok-runs.runs.items k) (sym rows) c.in_ok-runs.ensures.climb)

pub returns : goal.returns
returns c =
    let xs = c.args.arrays.now in
    c.loop-array.invariant ∙ ap (λ ys. map (rows_taken (marked_from 0 c.args.marks.now)) (all_parts_of ys)) (take_all c.loop-array.array-index xs (omega arith))
