use Rattle.std.proofs.Common.{◌<◌, ◌≤◌, ◌+◌, ◌-◌, ◌∙◌, sym, length, get_or, arith, true≢false}
use Rattle.dictionary_places.specs.Places.{values_in}
use Rattle.dictionary_places.proofs.Places.{rows_count}
use Rattle.dictionary_places.proofs.Steps.{none_after, shifted}
use Rattle.dictionary_places.proofs.search.advance.Goals as goal

pub loop-at-preserved : goal.loop-at-preserved
loop-at-preserved c =
    let inv = c.loop-at.invariant in
    let u = values_in c.args.u in
    let v = values_in c.args.v in
    let n = rows_count c.args.v.parts.now c.args.v.places.now c.requires.v in
    let le : c.loop-at.at ≤ c.args.i = c.loop-at-test.true in
    let few : c.args.i < c.loop-at.at + length v = omega (arith, c.requires.short, inv.later, n) in
    let known : c.args.i - c.loop-at.at < length c.args.shifts.now = omega (arith, c.requires.known, inv.later, le) in
    let shift = c.requires.shifts (c.args.i - c.loop-at.at) known in
    let d = get_or c.args.shifts.now (c.args.i - c.loop-at.at) 0 in
    record {
      later = omega (arith, inv.later);
      within = omega (arith, shift.within, le);
      survives = shifted u v c.loop-at.at c.args.i d le few inv.survives shift.survives;
      none = none_after u v c.args.from c.loop-at.at c.args.i d le few inv.survives (λ e. true≢false (sym (c.is_same_row.ensures.1 e) ∙ c.if-not-is_same_row.true)) shift inv.none;
    }
