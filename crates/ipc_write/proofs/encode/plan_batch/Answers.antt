use Rattle.std.proofs.Common.{◌≡◌, ◌∙◌, inl, inr, true, false, refl, sym, ap}
use Rattle.arrow_arrays.specs.Parts.{forest}
use Rattle.arrow_arrays.specs.Columns.{columns_of}
use Rattle.ipc_fields.specs.Representable.{all_representable}
use Rattle.ipc_write.specs.Outcomes.{refuses_types}
use Rattle.ipc_write.proofs.encode.plan_batch.Goals as goal

pub returns-then-refuses_types-clause-plans : goal.returns-then-refuses_types-clause-plans
returns-then-refuses_types-clause-plans c =
    let o = c.args.options.now in
    let test : refuses_types o (all_representable (columns_of (forest c.args.batch.now.arrays))) ≡ true = ap (λ ps. refuses_types o (all_representable (columns_of (forest ps)))) (sym c.arrays.ensures) ∙ ap (refuses_types o) (sym c.are_representable.ensures) ∙ sym c.refuses_types.ensures ∙ c.if-refuses_types.true in
    inl (test, refl)

pub returns-clause-plans : goal.returns-clause-plans
returns-clause-plans c =
    let o = c.args.options.now in
    let test : refuses_types o (all_representable (columns_of (forest c.args.batch.now.arrays))) ≡ false = ap (λ ps. refuses_types o (all_representable (columns_of (forest ps)))) (sym c.arrays.ensures) ∙ ap (refuses_types o) (sym c.are_representable.ensures) ∙ sym c.refuses_types.ensures ∙ c.if-refuses_types.false in
    inr (test, c.plan_any_batch.ensures.plans)
