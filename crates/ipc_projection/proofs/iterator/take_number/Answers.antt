use Rattle.std.proofs.Common.{◌≡◌, ◌∙◌, ◌+◌, suc, sym, ap, arith, true, get_or}
use Rattle.arrow_spec.specs.Columns.{stands_in}
use Rattle.ipc_read_laws.specs.Projection.{do_rise}
use Rattle.ipc_projection.proofs.Numbers.{rest_rises}
use Rattle.ipc_projection.proofs.Marks.{none_past, none_stands, not_first}
use Rattle.ipc_projection.proofs.iterator.take_number.Goals as goal
use Rattle.ipc_projection.proofs.iterator.take_number.Goals.{in_default-via-in-Some+else-first-number, in_default-via-in_default}

pub returns-in_default-clause-first : goal.returns-in_default-clause-first
returns-in_default-clause-first c = elim c.in_default.branch [
  | in_default-via-in-Some+else-first-number w ↦
      let is = w.in-Some.ensures.cases.0 in
      sym (ap (λ cs. stands_in cs c.args.number) is ∙ not_first c.args.number _ _ (sym (ap (do_rise c.args.number) is) ∙ c.requires.rising) w.if-first-number.false)
  | in_default-via-in_default w ↦ sym (none_stands c.args.numbers.now c.args.number w.in_default.ensures.cases)
]

pub returns-in-Some-clause-last : goal.returns-in-Some-clause-last
returns-in-Some-clause-last c =
    let is = c.in-Some.ensures.cases.0 in
    let rest : do_rise (c.args.number + 1) c.in-Some.others.now ≡ true =
    ap (λ n. do_rise n c.in-Some.others.now) (let e : c.args.number + 1 ≡ suc c.in-Some.first.now = omega (arith, c.if-first-number.true) in e) ∙ rest_rises c.args.number c.in-Some.first.now c.in-Some.others.now (sym (ap (do_rise c.args.number) is) ∙ c.requires.rising) in
    none_past (c.args.number + 1) 18446744073709551616 c.in-Some.others.now rest (λ i. let f = c.type_inv.numbers (suc i) in let e = ap (λ cs. get_or cs (suc i) 0) is in omega (arith, f, e))
