use Rattle.std.proofs.Common.{◌≡◌, ◌+◌, [], map, refl, ap, sym, subst, ◌∙◌, arith}
use Rattle.arrow_spec.specs.Arrays.{buf, from_on}
use Rattle.arrow_spec.specs.Faults.{ranges_faults}
use Rattle.ipc_read.proofs.DataReads.{ranges_next}
use Rattle.view_types.specs.Sound.{AreRanges}
use Rattle.view_types.specs.Views.{part_in}
use Rattle.ipc_view.specs.Built.{batch_of, place_of}
use Rattle.ipc_view.proofs.Answered.{err_from}
use Rattle.ipc_view.proofs.Buffers.{all_there, one_more_lies, one_more_shown, range_refused, some_missing}
use Rattle.ipc_view.proofs.batch.BatchTables.data.Goals as goal

pub returns-then-first-count-clause-gives : goal.returns-then-first-count-clause-gives
returns-then-first-count-clause-gives c = record { ok = tt; err = some_missing (batch_of c.args.self.now) (place_of c.args.place) c.args.count (omega arith) }

pub returns-in_err-range-clause-gives : goal.returns-in_err-range-clause-gives
returns-in_err-range-clause-gives c = err_from c.from_residual.result c.in_err-range.field-0.0 _ _ c.from_residual.ensures.0 c.from_residual.ensures.1
    (range_refused (batch_of c.args.self.now) (place_of c.args.place) c.args.count c.loop-i.i c.in_err-range.field-0.0 (omega arith) c.loop-i-test.true c.in_err-range.ensures.gives.err)

pub loop-i-init : goal.loop-i-init
loop-i-init c = record {
  fine = refl;
  shown = ap (map (part_in c.args.self.now.input.now)) c.new-ranges.ensures.items;
  lie = subst (AreRanges c.args.self.now.input.now) (sym c.new-ranges.ensures.items) (λ i h. absurd (omega (arith, h)));
}

pub loop-i-preserved : goal.loop-i-preserved
loop-i-preserved c =
    let m = batch_of c.args.self.now in
    let p = place_of c.args.place in
    let input = c.args.self.now.input.now in
    let g = c.in_ok-range.ensures.gives.ok in
    let e = c.in_ok-push.ensures.items in
    record {
      fine = ranges_next m (p.buffer + 2) c.loop-i.i c.loop-i.invariant.fine g.0;
      shown = subst (λ xs. map (part_in input) xs ≡ from_on (buf m) (p.buffer + 2) (c.loop-i.i + 1)) (sym e) (one_more_shown m input c.loop-i.ranges.items c.in_ok-range.range (p.buffer + 2) c.loop-i.i c.loop-i.invariant.shown g.1.0);
      lie = subst (AreRanges input) (sym e) (one_more_lies input c.loop-i.ranges.items c.in_ok-range.range c.loop-i.invariant.lie g.1.1);
    }

pub returns-clause-gives : goal.returns-clause-gives
returns-clause-gives c =
    let m = batch_of c.args.self.now in
    let p = place_of c.args.place in
    let all : c.loop-i.i ≡ c.args.count = omega arith in
    record {
      ok = (
        all_there m p c.args.count (omega arith) ∙ subst (λ n. ranges_faults m (p.buffer + 2) n ≡ []) all c.loop-i.invariant.fine,
        (subst (λ n. map (part_in c.args.self.now.input.now) c.loop-i.ranges.items ≡ from_on (buf m) (p.buffer + 2) n) all c.loop-i.invariant.shown, c.loop-i.invariant.lie),
      );
      err = tt;
    }
