use Rattle.std.proofs.Common.{◌≡◌, ◌∙◌, ◌||◌, ◌+◌, sym, ap, drop}
use Rattle.arrow_types.specs.KindOf.{child_of}
use Rattle.arrow_types.specs.Schemas.{fields_in}
use Rattle.arrow_types.proofs.DataTypes.{kind_of_child}
use Rattle.csv_texts.specs.Texts.{are_nested, is_nested}
use Rattle.csv_rows.proofs.KindSteps.{nested_next}
use Rattle.csv_rows.proofs.kinds.are_nested.Goals as goal

pub returns-then-is_nested : goal.returns-then-is_nested
returns-then-is_nested c =
    let f = c.field_at.result.now in
    let next = nested_next c.args.schema.now c.loop-i.i (child_of f) c.field_at.ensures in
    sym (c.loop-i.invariant ∙ next ∙ ap (λ b. b || are_nested (fields_in (drop (c.loop-i.i + 1) c.args.schema.now))) (ap is_nested (kind_of_child f) ∙ sym c.is_nested.ensures ∙ c.if-is_nested.true))

pub loop-i-preserved : goal.loop-i-preserved
loop-i-preserved c =
    let f = c.field_at.result.now in
    let next = nested_next c.args.schema.now c.loop-i.i (child_of f) c.field_at.ensures in
    c.loop-i.invariant ∙ next ∙ ap (λ b. b || are_nested (fields_in (drop (c.loop-i.i + 1) c.args.schema.now))) (ap is_nested (kind_of_child f) ∙ sym c.is_nested.ensures ∙ c.if-is_nested.false)
