use Rattle.std.proofs.Common.{◌≡◌, ◌++◌, ◌∷◌, [], length, sym, ap, subst, arith, rules}
use Rattle.std.proofs.lemmas.List.{length-append}
use Rattle.dictionary_places.specs.Places.{values_in}
use Rattle.dictionary_places.specs.Shifts.{AreShifts, IsShift}
use Rattle.dictionary_places.proofs.Steps.{first_shift, none_before, shift_more}
use Rattle.dictionary_places.proofs.search.shifts_of.Goals as goal

pub loop-i-init : goal.loop-i-init
loop-i-init c =
    let v = values_in c.args.v in
    let grown : c.push.new.self.items ≡ 1 ∷ [] = search (rules, c.in_ok-push.ensures.items) in
    record {
      count = ap length grown;
      shifts = subst (AreShifts v) (sym grown) (first_shift v);
      some = omega arith;
      within = omega arith;
      survives = λ j below short. absurd (omega (arith, below));
      none = λ e from below s. absurd (omega (arith, from, below));
    }

pub advance-shift-requires-clause-shifts : goal.advance-shift-requires-clause-shifts
advance-shift-requires-clause-shifts c =
    let v = values_in c.args.v in
    let inv = c.loop-i.invariant in
    let grown : c.push-in-loop-i.new.self.items ≡ c.loop-i.shifts.items ++ c.loop-i.shift ∷ [] = search (rules, c.in_ok-push-2.ensures.items) in
    let one : IsShift v c.loop-i.i c.loop-i.shift = record { some = inv.some; within = omega (arith, inv.within); survives = inv.survives; none = inv.none } in
    subst (AreShifts v) (sym c.as_slice.ensures.value) (shift_more v c.loop-i.shifts.items c.push-in-loop-i.new.self.items c.loop-i.i c.loop-i.shift inv.count inv.shifts one grown)

pub loop-i-preserved : goal.loop-i-preserved
loop-i-preserved c =
    let v = values_in c.args.v in
    let inv = c.loop-i.invariant in
    let i = c.loop-i.i in
    let old = c.loop-i.shift in
    let next = c.advance-shift.ensures in
    let grown : c.push-in-loop-i.new.self.items ≡ c.loop-i.shifts.items ++ old ∷ [] = search (rules, c.in_ok-push-2.ensures.items) in
    let one : IsShift v i old = record { some = inv.some; within = omega (arith, inv.within); survives = inv.survives; none = inv.none } in
    let count = ap length grown in
    record {
      count = omega (arith, count, length-append c.loop-i.shifts.items (old ∷ []), inv.count);
      shifts = shift_more v c.loop-i.shifts.items c.push-in-loop-i.new.self.items i old inv.count inv.shifts one grown;
      some = omega (arith, inv.some, next.later);
      within = next.within;
      survives = next.survives;
      none = none_before v v 1 old c.advance-shift.result i inv.none next.none;
    }
