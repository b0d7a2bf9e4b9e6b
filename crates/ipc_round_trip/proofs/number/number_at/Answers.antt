use Rattle.std.proofs.Common.{◌≡◌, ◌∙◌, rules, sym, ap, Some, None, subst, FitsSigned, w64}
use Rattle.std.proofs.lemmas.Int.{to_z-of_z}
use Rattle.arrow_spec.specs.Cells.{number}
use Rattle.ipc_round_trip.proofs.Numbers.{number_there}
use Rattle.ipc_round_trip.proofs.number.number_at.Goals as goal

pub unreachable-requires : goal.unreachable-requires
unreachable-requires c =
    let t = number_there c.args.array.now c.args.row c.requires.there.0 c.requires.kind c.validity-validity.ensures.rows c.requires.there.1 in
    let e : None ≡ Some t.0 = c.in-None.ensures ∙ t.1 in
    cc

pub returns : goal.returns
returns c =
    let t = number_there c.args.array.now c.args.row c.requires.there.0 c.requires.kind c.validity-validity.ensures.rows c.requires.there.1 in
    let e : Some c.in-Some.number ≡ Some t.0 = c.in-Some.ensures ∙ t.1 in
    let same : c.in-Some.number ≡ t.0 = cc in
    let fits : FitsSigned w64 c.in-Some.number = search rules in
    t.2 (subst (FitsSigned w64) same fits) ∙ ap (λ z. Some (number z)) (sym same ∙ sym (to_z-of_z w64 c.in-Some.number fits))
