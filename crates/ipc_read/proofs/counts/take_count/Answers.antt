use Rattle.std.proofs.Common.{◌≡◌, suc, false, sym, ap, subst, ◌∙◌, rules, SFits, w64}
use Rattle.std.proofs.lemmas.Int.{to_z-of_z}
use Rattle.arrow_spec.specs.Counts.{is_negative, magnitude}
use Rattle.ipc_read.specs.Queues.{Left}
use Rattle.ipc_read.proofs.DataReads.{count_fine, count_value}
use Rattle.ipc_read.proofs.Passing.{next_count}
use Rattle.ipc_read.proofs.Refusals.{is_left}
use Rattle.ipc_read.proofs.Shortened.{first_taken}
use Rattle.ipc_read.proofs.counts.take_count.Goals as goal

pub returns-clause-count : goal.returns-clause-count
returns-clause-count c = λ m i l.
    let fits : SFits w64 c.in-Some.count = search rules in
    let same = to_z-of_z w64 c.in-Some.count fits in
    let sign : is_negative c.in-Some.count ≡ false = sym (ap is_negative same) ∙ sym c.is_negative.ensures ∙ c.if-is_negative.false in
    next_count m i c.magnitude.result c.in-Some.count _ _ l c.in-Some.ensures.items sign (c.magnitude.ensures.value ∙ ap magnitude same)

pub returns-clause-queue : goal.returns-clause-queue
returns-clause-queue c = λ m i l. let e = c.in-Some.ensures.items in let f = l.is in (is_left m.variadic i _ _ (sym e ∙ f)).1

pub returns-clause-gives : goal.returns-clause-gives
returns-clause-gives c = λ m p l.
    let e = c.in-Some.ensures.items in
    let f = l.is in
    let q = is_left m.variadic p.view _ _ (sym e ∙ f) in
    let fits : SFits w64 c.in-Some.count = search rules in
    let same = to_z-of_z w64 c.in-Some.count fits in
    let sign : is_negative c.in-Some.count ≡ false = sym (ap is_negative same) ∙ sym c.is_negative.ensures ∙ c.if-is_negative.false in
    record { ok = (count_fine m p c.in-Some.count (subst (λ rest. Left m.variadic (suc p.view) rest) q.1.is q.1) q.0 sign, c.magnitude.ensures.value ∙ ap magnitude same ∙ sym (count_value m p c.in-Some.count q.0)); err = tt }

pub returns-clause-shortened : goal.returns-clause-shortened
returns-clause-shortened c = first_taken c.pop_front.result _ _ c.pop_front.ensures.items

pub returns-then-is_negative-clause-shortened : goal.returns-then-is_negative-clause-shortened
returns-then-is_negative-clause-shortened c = first_taken c.pop_front.result _ _ c.pop_front.ensures.items
