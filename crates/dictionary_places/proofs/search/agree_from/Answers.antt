use Rattle.std.proofs.Common.{◌∙◌, ◌-◌, get_or, drop, sym, ap, arith}
use Rattle.std.proofs.lemmas.List.{get_or-drop, length-drop}
use Rattle.arrow_spec.specs.Cells.{null}
use Rattle.dictionary_places.specs.Places.{values_in}
use Rattle.dictionary_places.proofs.Places.{rows_count}
use Rattle.dictionary_places.proofs.Steps.{all_agree, differ_within, same_on}
use Rattle.dictionary_places.proofs.search.agree_from.Goals as goal

pub loop-j-init : goal.loop-j-init
loop-j-init c = record { within = omega arith; same = λ k lt. absurd (omega (arith, lt)) }

pub returns-in-None : goal.returns-in-None
returns-in-None c =
    let u = values_in c.args.u in
    let v = values_in c.args.v in
    let j = c.loop-j.j in
    let m = rows_count c.args.u.parts.now c.args.u.places.now c.requires.u in
    let n = rows_count c.args.v.parts.now c.args.v.places.now c.requires.v in
    let few = c.min-count.ensures in
    let inv = c.loop-j.invariant.within in
    sym (differ_within u v c.args.at j (c.min-count.result - j) (omega (arith, few, inv, m, c.requires.within)) (omega (arith, few, inv, n)) c.in-None.ensures.other)

pub loop-j-preserved : goal.loop-j-preserved
loop-j-preserved c = record {
  within = omega (arith, c.in-Some.ensures.within, c.loop-j.invariant.within);
  same = same_on (values_in c.args.u) (values_in c.args.v) c.args.at c.loop-j.j c.in-Some.rows c.loop-j.invariant.same c.in-Some.ensures.same;
}

pub returns : goal.returns
returns c =
    let u = values_in c.args.u in
    let v = values_in c.args.v in
    let at = c.args.at in
    let m = rows_count c.args.u.parts.now c.args.u.places.now c.requires.u in
    let n = rows_count c.args.v.parts.now c.args.v.places.now c.requires.v in
    let end = c.loop-j-test.false in
    let few = c.min-count.ensures in
    sym (all_agree (drop at u) v (λ k below short. get_or-drop at u k null ∙ c.loop-j.invariant.same k (omega (arith, below, short, end, few, m, n, length-drop at u)) ∙ ap (λ i. get_or v i null) (omega arith)))
