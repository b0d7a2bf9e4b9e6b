use Rattle.std.proofs.Common.{◌∙◌, sym, ap, ◌++◌, get_or, take, length}
use Rattle.std.specs.List.{flat_map}
use Rattle.arrow_buffers.specs.Leaf.{fixed_row}
use Rattle.array_filter.specs.Runs.{rows_in_runs}
use Rattle.array_filter.proofs.RunLaws.{bytes_next, no_run, run_here, within_at}
use Rattle.array_filter.proofs.bytes.take_bytes.Goals as goal

pub bytes_of_run-requires : goal.bytes_of_run-requires
bytes_of_run-requires c =
    let runs = c.args.runs.now in
    let k = c.loop-run.run-index in
    within_at c.args.size runs (length c.args.bytes.now) k (get_or runs k no_run) c.requires c.loop-run-test.true (run_here runs k no_run c.loop-run-test.true)

pub loop-run-preserved : goal.loop-run-preserved
loop-run-preserved c =
    let runs = c.args.runs.now in
    let k = c.loop-run.run-index in
    let r = get_or runs k no_run in
    c.in_ok-extend_from_slice.ensures.items ∙ ap (λ ys. ys ++ c.bytes_of_run.result.now) c.loop-run.invariant
    ∙ ap (λ ys. flat_map (fixed_row c.args.size c.args.bytes.now) (rows_in_runs (take k runs)) ++ ys) c.bytes_of_run.ensures ∙ sym (bytes_next c.args.size c.args.bytes.now runs k r c.loop-run-test.true (run_here runs k no_run c.loop-run-test.true))
