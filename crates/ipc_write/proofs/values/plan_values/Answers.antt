use Rattle.std.proofs.Common.{◌≡◌, ◌∙◌, inl, inr, true, false, refl, sym, ap, subst, to_z, of_z, w64}
use Rattle.std.proofs.lemmas.Int.{to_z-of_z}
use Rattle.arrow_arrays.specs.Parts.{kind_in}
use Rattle.arrow_arrays.specs.PartsOf.{parts_of}
use Rattle.ipc_fields.specs.Representable.{are_representable_values}
use Rattle.ipc_write.specs.Outcomes.{refuses_types}
use Rattle.ipc_write.specs.Values.{PlansValues}
use Rattle.ipc_write.proofs.values.plan_values.Goals as goal

pub returns-then-refuses_types-clause-plans : goal.returns-then-refuses_types-clause-plans
returns-then-refuses_types-clause-plans c =
    let o = c.args.options.now in
    let test : refuses_types o (are_representable_values (kind_in (parts_of c.args.array.now))) ≡ true = ap (λ k. refuses_types o (are_representable_values k)) (sym c.dtype.ensures) ∙ ap (refuses_types o) (sym c.are_representable_values.ensures) ∙ sym c.refuses_types.ensures ∙ c.if-refuses_types.true in
    inl (test, refl)

pub returns-clause-plans : goal.returns-clause-plans
returns-clause-plans c =
    let o = c.args.options.now in
    let x = parts_of c.args.array.now in
    let e : to_z w64 (of_z w64 c.args.id) ≡ c.args.id = to_z-of_z w64 c.args.id c.ranges.id in
    let test : refuses_types o (are_representable_values (kind_in x)) ≡ false = ap (λ k. refuses_types o (are_representable_values k)) (sym c.dtype.ensures) ∙ ap (refuses_types o) (sym c.are_representable_values.ensures) ∙ sym c.refuses_types.ensures ∙ c.if-refuses_types.false in
    let plans : PlansValues c.plan_any_values.result o c.args.id c.args.is_delta x = subst (λ z. PlansValues c.plan_any_values.result o z c.args.is_delta x) e c.plan_any_values.ensures.plans in
    inr (test, plans)
