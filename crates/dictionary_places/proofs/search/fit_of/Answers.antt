use Rattle.std.proofs.Common.{◌≡◌, ◌+◌, ◌-◌, ◌<◌, length, sym, ap, subst, arith, rules}
use Rattle.dictionary_places.specs.Places.{values_in}
use Rattle.dictionary_places.specs.Shifts.{AreShifts, Survives}
use Rattle.dictionary_places.proofs.Places.{rows_count}
use Rattle.dictionary_places.proofs.Steps.{fits, fits_early, fits_nothing, none_before, none_later}
use Rattle.dictionary_places.proofs.search.fit_of.Goals as goal

pub returns-then-is_empty : goal.returns-then-is_empty
returns-then-is_empty c =
    let n = rows_count c.args.v.parts.now c.args.v.places.now c.requires.v in
    let none : length c.args.v.places.now ≡ 0 = search rules in
    fits_nothing (values_in c.args.u) (values_in c.args.v) (omega (arith, n, none))

pub loop-i-init : goal.loop-i-init
loop-i-init c =
    let some : 0 < length c.args.v.places.now = search rules in
    record {
      within = omega arith;
      short = omega (arith, some);
      survives = λ j below short. absurd (omega (arith, below));
      none = λ e from below s. absurd (omega (arith, below));
    }

pub advance-at-requires-clause-shifts : goal.advance-at-requires-clause-shifts
advance-at-requires-clause-shifts c = subst (AreShifts (values_in c.args.v)) (sym c.as_slice.ensures.value) c.in_ok-shifts.ensures.shifts

pub advance-at-requires-clause-known : goal.advance-at-requires-clause-known
advance-at-requires-clause-known c =
    let count = ap length c.as_slice.ensures.value in
    omega (arith, count, c.in_ok-shifts.ensures.count, c.loop-i.invariant.short)

pub loop-i-preserved : goal.loop-i-preserved
loop-i-preserved c =
    let u = values_in c.args.u in
    let v = values_in c.args.v in
    let inv = c.loop-i.invariant in
    let next = c.advance-at.ensures in
    record {
      within = next.within;
      short = omega (arith, inv.short, next.later, next.within, c.if-i-at.false);
      survives = next.survives;
      none = none_before u v 0 c.loop-i.at c.advance-at.result c.loop-i.i inv.none next.none;
    }

pub returns-then-i-at : goal.returns-then-i-at
returns-then-i-at c =
    let u = values_in c.args.u in
    let v = values_in c.args.v in
    let inv = c.loop-i.invariant in
    let next = c.advance-at.ensures in
    let m = rows_count c.args.u.parts.now c.args.u.places.now c.requires.u in
    let n = rows_count c.args.v.parts.now c.args.v.places.now c.requires.v in
    let i = c.loop-i.i in
    let inside : i < length u = omega (arith, m, c.loop-i-test.true) in
    let whole : i + 1 - c.advance-at.result ≡ length v = omega (arith, n, c.if-i-at.true) in
    fits_early u v c.advance-at.result i inside next.within whole next.survives (none_later u v c.advance-at.result (i + 1) (none_before u v 0 c.loop-i.at c.advance-at.result i inv.none next.none))

pub returns : goal.returns
returns c =
    let u = values_in c.args.u in
    let v = values_in c.args.v in
    let inv = c.loop-i.invariant in
    let m = rows_count c.args.u.parts.now c.args.u.places.now c.requires.u in
    let end : c.loop-i.i ≡ length u = omega (arith, m, c.loop-i-test.false) in
    let there : Survives u v c.loop-i.at (length u) = subst (Survives u v c.loop-i.at) end inv.survives in
    fits u v c.loop-i.at (omega (arith, inv.within, end)) there (λ e below s. inv.none e (omega arith) below (subst (Survives u v e) (sym end) s))
