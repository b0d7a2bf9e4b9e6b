use Rattle.std.proofs.Common.{◌≡◌, ◌<◌, ◌≤◌, Err, length, arith, rules, refl, ◌∙◌}
use Rattle.std.specs.Prelude.{ℤ}
use Rattle.ipc_io.proofs.Kept.{source_kept_on}
use Rattle.ipc_files.proofs.BlockRows.{all_counted, count_beyond, count_finished, count_of, count_refused, count_stopped, more_counted, none_counted}
use Rattle.ipc_files.proofs.BlockMessages.{handed_on}
use Rattle.ipc_files.proofs.Errors.{is_err}
use Rattle.ipc_files.proofs.row_counts.count_rows.Goals as goal

pub loop-block-init : goal.loop-block-init
loop-block-init g c = record {
  counted = none_counted (g.S.Source.content c.args.source.now) c.args.blocks.now _;
  few = search rules;
  kept = search rules;
  faults_stay = refl;
}

pub returns-in_err-rows-clause-gives : goal.returns-in_err-rows-clause-gives
returns-in_err-rows-clause-gives g c =
    let e : c.from_residual.result ≡ Err c.in_err-rows.field-0.0 = is_err _ _ _ c.from_residual.ensures.0 c.from_residual.ensures.1 (λ f h. h) in
    let within : c.loop-block.block-index < length c.args.blocks.now = omega (arith, c.loop-block-test.true, c.loop-block.auto.block-index-end) in
    handed_on (g.S.Source.content c.args.source.now) (λ (k : ℤ). k) (count_of c.args.blocks.now) c.from_residual.result c.in_err-rows.field-0.0 e
    (count_refused (g.S.Source.content c.args.source.now) _ c.args.blocks.now c.loop-block.block-index _ _ _ _ c.in_err-rows.field-0.0 within c.loop-block.invariant.kept.content c.loop-block.invariant.counted c.in_err-rows.ensures.gives)

pub returns-in_err-rows-clause-fetched : goal.returns-in_err-rows-clause-fetched
returns-in_err-rows-clause-fetched g c =
    let within : c.loop-block.block-index < length c.args.blocks.now = omega (arith, c.loop-block-test.true, c.loop-block.auto.block-index-end) in
    count_stopped (g.S.Source.content c.args.source.now) _ c.args.blocks.now c.loop-block.block-index _ _ _ _ _ within c.loop-block.invariant.kept.content c.loop-block.invariant.counted c.in_err-rows.ensures.fetched

pub returns-then-total-clause-gives : goal.returns-then-total-clause-gives
returns-then-total-clause-gives g c =
    let within : c.loop-block.block-index < length c.args.blocks.now = omega (arith, c.loop-block-test.true, c.loop-block.auto.block-index-end) in
    count_beyond (g.S.Source.content c.args.source.now) _ c.args.blocks.now c.loop-block.block-index _ c.loop-block.total c.in_ok-rows.rows _ _ _ within c.loop-block.invariant.kept.content c.loop-block.invariant.counted c.in_ok-rows.ensures.gives (omega arith) c.in_ok-rows.ensures.fetched

pub returns-then-total-clause-fetched : goal.returns-then-total-clause-fetched
returns-then-total-clause-fetched g c =
    let within : c.loop-block.block-index < length c.args.blocks.now = omega (arith, c.loop-block-test.true, c.loop-block.auto.block-index-end) in
    count_stopped (g.S.Source.content c.args.source.now) _ c.args.blocks.now c.loop-block.block-index _ _ _ _ _ within c.loop-block.invariant.kept.content c.loop-block.invariant.counted c.in_ok-rows.ensures.fetched

pub loop-block-preserved : goal.loop-block-preserved
loop-block-preserved g c =
    let within : c.loop-block.block-index < length c.args.blocks.now = omega (arith, c.loop-block-test.true, c.loop-block.auto.block-index-end) in
    record {
      counted = more_counted (g.S.Source.content c.args.source.now) _ c.args.blocks.now c.loop-block.block-index _ c.loop-block.total c.in_ok-rows.rows _ _ _ within c.loop-block.invariant.kept.content c.loop-block.invariant.counted c.in_ok-rows.ensures.gives (omega arith) c.in_ok-rows.ensures.fetched;
      few = omega arith;
      kept = source_kept_on c.loop-block.invariant.kept c.in_ok-rows.ensures.kept;
      faults_stay = c.in_ok-rows.ensures.faults_stay ∙ c.loop-block.invariant.faults_stay;
    }

pub returns-clause-gives : goal.returns-clause-gives
returns-clause-gives g c =
    let whole : length c.args.blocks.now ≤ c.loop-block.block-index = omega (arith, c.loop-block-test.false, c.loop-block.auto.block-index-end) in
    all_counted (g.S.Source.content c.args.source.now) c.args.blocks.now c.loop-block.block-index c.loop-block.total _ _ _ whole (search rules) c.loop-block.invariant.counted

pub returns-clause-fetched : goal.returns-clause-fetched
returns-clause-fetched g c = count_finished (g.S.Source.content c.args.source.now) c.args.blocks.now c.loop-block.block-index c.loop-block.total _ _ c.loop-block.invariant.counted
