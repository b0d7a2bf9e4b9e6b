use Rattle.std.proofs.Common.{◌≡◌, ◌∙◌, sym, ap, ◌+◌, ◌++◌, get_or, length}
use Rattle.arrow_buffers.specs.Rows.{part}
use Rattle.array_filter.specs.Rows.{taken}
use Rattle.array_filter.specs.Runs.{rows_in_runs}
use Rattle.array_filter.proofs.Kept.{if_kept}
use Rattle.array_filter.proofs.RunLaws.{items_next, no_run, reached_next, run_here}
use Rattle.array_filter.proofs.Whole.{whole_items}
use Rattle.array_filter.proofs.bits.take_bits.Goals as goal

pub push_bits-requires : goal.push_bits-requires
push_bits-requires c =
    let runs = c.args.runs.now in
    let k = c.loop-run.run-index in
    (reached_next runs (get_or runs k no_run) k (length c.args.bits.now) c.loop-run.invariant.reached c.loop-run-test.true (run_here runs k no_run c.loop-run-test.true)).within

pub loop-run-preserved : goal.loop-run-preserved
loop-run-preserved c =
    let runs = c.args.runs.now in
    let bits = c.args.bits.now in
    let k = c.loop-run.run-index in
    let r = get_or runs k no_run in
    let here = run_here runs k no_run c.loop-run-test.true in
    let n = reached_next runs r k (length bits) c.loop-run.invariant.reached c.loop-run-test.true here in
    record {
      bits = c.in_ok-push_bits.ensures ∙ ap (λ ys. ys ++ part r.from r.count bits) c.loop-run.invariant.bits ∙ sym (items_next bits runs k r c.loop-run-test.true here n.within);
      reached = record { low = r.from + r.count; left = n.left };
    }

pub returns-then-is_one : goal.returns-then-is_one
returns-then-is_one c =
    let bits = c.args.bits.now in
    let runs = c.args.runs.now in
    if_kept c.try_clone.result (λ b. b ≡ bits) (λ b. b ≡ taken (rows_in_runs runs) bits) (λ b h. h ∙ sym (whole_items bits runs c.len.result c.len.ensures (c.is_one.ensures c.if-is_one.true))) c.try_clone.ensures
