use Rattle.std.proofs.Common.{◌≡◌, ◌∙◌, true, false, refl, sym, ap, arith, rules, SFits, w64}
use Rattle.std.proofs.lemmas.Int.{to_z-of_z}
use Rattle.arrow_spec.specs.Counts.{is_negative, magnitude}
use Rattle.ipc_read.proofs.DataReads.{count_fine, count_value}
use Rattle.ipc_view.specs.Built.{batch_of, place_of}
use Rattle.ipc_view.proofs.Ranged.{get_inside}
use Rattle.ipc_view.proofs.ViewFaults.{negative_count}
use Rattle.ipc_view.proofs.batch.BatchTables.view_count.Goals as goal

pub returns-then-is_negative-clause-gives : goal.returns-then-is_negative-clause-gives
returns-then-is_negative-clause-gives c =
    let m = batch_of c.args.self.now in
    let p = place_of c.args.place in
    let fits : SFits w64 c.in-Some.count = search rules in
    let same = to_z-of_z w64 c.in-Some.count fits in
    let sign : is_negative c.in-Some.count ≡ true = sym (ap is_negative same) ∙ sym c.is_negative.ensures ∙ c.if-is_negative.true in
    record { ok = tt; err = negative_count m p c.in-Some.count (sym c.count_at.ensures ∙ c.in-Some.is) sign }

pub returns-clause-gives : goal.returns-clause-gives
returns-clause-gives c =
    let m = batch_of c.args.self.now in
    let p = place_of c.args.place in
    let there = sym c.count_at.ensures ∙ c.in-Some.is in
    let fits : SFits w64 c.in-Some.count = search rules in
    let same = to_z-of_z w64 c.in-Some.count fits in
    let sign : is_negative c.in-Some.count ≡ false = sym (ap is_negative same) ∙ sym c.is_negative.ensures ∙ c.if-is_negative.false in
    let inside = get_inside m.variadic p.view c.in-Some.count there in
    record {
      ok = (count_fine m p c.in-Some.count (record { is = refl; within = omega (arith, inside) }) there sign, c.magnitude.ensures.value ∙ ap magnitude same ∙ sym (count_value m p c.in-Some.count there));
      err = tt;
    }

pub returns-clause-bound : goal.returns-clause-bound
returns-clause-bound c =
    let m = batch_of c.args.self.now in
    (c.magnitude.ensures.small, get_inside m.variadic c.args.place.view c.in-Some.count (sym c.count_at.ensures ∙ c.in-Some.is))
