use Rattle.std.proofs.Common.{◌≡◌, ◌<◌, ◌≤◌, Err, length, arith, rules, refl, ◌∙◌}
use Rattle.ipc_io.proofs.Kept.{source_kept_on}
use Rattle.ipc_files.proofs.BlockMessages.{handed_on}
use Rattle.ipc_files.proofs.Errors.{is_err}
use Rattle.ipc_reader.proofs.PassedBlocks.{all_passed, ends_here, none_passed, one_passed, pass_finished, pass_refused, pass_stopped, passing, place_in}
use Rattle.ipc_reader.proofs.reads.pass_blocks.Goals as goal

pub loop-block-init : goal.loop-block-init
loop-block-init g c = record {
  at = search rules;
  passed = none_passed (g.S.Source.content c.args.source.now) c.args.blocks.now c.args.offset _;
  kept = search rules;
  faults_stay = refl;
}

pub returns-in_err-rows-clause-gives : goal.returns-in_err-rows-clause-gives
returns-in_err-rows-clause-gives g c =
    let e : c.from_residual.result ≡ Err c.in_err-rows.field-0.0 = is_err _ _ _ c.from_residual.ensures.0 c.from_residual.ensures.1 (λ f h. h) in
    let within : c.loop-block.block-index < length c.args.blocks.now = omega (arith, c.loop-block-test.true, c.loop-block.auto.block-index-end) in
    handed_on (g.S.Source.content c.args.source.now) place_in (passing c.args.blocks.now c.args.offset) c.from_residual.result c.in_err-rows.field-0.0 e
    (pass_refused (g.S.Source.content c.args.source.now) _ c.args.blocks.now c.args.offset c.loop-block.place c.loop-block.block-index _ _ _ c.in_err-rows.field-0.0 c.loop-block.invariant.at within c.loop-block.invariant.kept.content c.loop-block.invariant.passed c.in_err-rows.ensures.gives)

pub returns-in_err-rows-clause-fetched : goal.returns-in_err-rows-clause-fetched
returns-in_err-rows-clause-fetched g c =
    let within : c.loop-block.block-index < length c.args.blocks.now = omega (arith, c.loop-block-test.true, c.loop-block.auto.block-index-end) in
    pass_stopped (g.S.Source.content c.args.source.now) _ c.args.blocks.now c.args.offset c.loop-block.place c.loop-block.block-index _ _ _ _ c.loop-block.invariant.at within c.loop-block.invariant.kept.content c.loop-block.invariant.passed c.in_err-rows.ensures.fetched

pub returns-then-rows-place-clause-gives : goal.returns-then-rows-place-clause-gives
returns-then-rows-place-clause-gives g c =
    let within : c.loop-block.block-index < length c.args.blocks.now = omega (arith, c.loop-block-test.true, c.loop-block.auto.block-index-end) in
    ends_here (g.S.Source.content c.args.source.now) _ c.args.blocks.now c.args.offset c.loop-block.place c.loop-block.block-index _ c.in_ok-rows.rows _ _ _ c.loop-block.invariant.at within c.loop-block.invariant.kept.content c.loop-block.invariant.passed c.in_ok-rows.ensures.gives c.if-rows-place.true c.in_ok-rows.ensures.fetched

pub returns-then-rows-place-clause-fetched : goal.returns-then-rows-place-clause-fetched
returns-then-rows-place-clause-fetched g c =
    let within : c.loop-block.block-index < length c.args.blocks.now = omega (arith, c.loop-block-test.true, c.loop-block.auto.block-index-end) in
    pass_stopped (g.S.Source.content c.args.source.now) _ c.args.blocks.now c.args.offset c.loop-block.place c.loop-block.block-index _ _ _ _ c.loop-block.invariant.at within c.loop-block.invariant.kept.content c.loop-block.invariant.passed c.in_ok-rows.ensures.fetched

pub loop-block-preserved : goal.loop-block-preserved
loop-block-preserved g c =
    let within : c.loop-block.block-index < length c.args.blocks.now = omega (arith, c.loop-block-test.true, c.loop-block.auto.block-index-end) in
    record {
      at = omega (arith, c.loop-block.invariant.at);
      passed = one_passed (g.S.Source.content c.args.source.now) _ c.args.blocks.now c.args.offset c.loop-block.place c.loop-block.block-index _ c.in_ok-rows.rows _ _ _ c.loop-block.invariant.at within c.loop-block.invariant.kept.content c.loop-block.invariant.passed c.in_ok-rows.ensures.gives c.if-rows-place.false c.in_ok-rows.ensures.fetched;
      kept = source_kept_on c.loop-block.invariant.kept c.in_ok-rows.ensures.kept;
      faults_stay = c.in_ok-rows.ensures.faults_stay ∙ c.loop-block.invariant.faults_stay;
    }

pub returns-clause-gives : goal.returns-clause-gives
returns-clause-gives g c =
    let whole : length c.args.blocks.now ≤ c.loop-block.place.block = omega (arith, c.loop-block-test.false, c.loop-block.auto.block-index-end, c.loop-block.invariant.at) in
    all_passed (g.S.Source.content c.args.source.now) c.args.blocks.now c.args.offset c.loop-block.place _ _ whole c.loop-block.invariant.passed

pub returns-clause-fetched : goal.returns-clause-fetched
returns-clause-fetched g c = pass_finished (g.S.Source.content c.args.source.now) c.args.blocks.now c.args.offset c.loop-block.place _ _ c.loop-block.invariant.passed
