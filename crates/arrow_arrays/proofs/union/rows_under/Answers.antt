use Rattle.std.proofs.Common.{◌∙◌, ap, arith}
use Rattle.arrow_arrays.specs.Parts.{rows_in}
use Rattle.arrow_arrays.specs.PartsOf.{parts_of}
use Rattle.arrow_arrays.proofs.UnionPlaces.{rows_under_at, rows_under_none}
use Rattle.arrow_arrays.proofs.union.rows_under.Goals as goal

pub returns-then-i-fields : goal.returns-then-i-fields
returns-then-i-fields c =
    c.len.ensures.rows ∙ ap (λ y. rows_in (parts_of y)) c.index-fields-i.is ∙ rows_under_at c.args.fields.now c.args.i c.index-fields-i.result (omega arith)

pub returns-else-i-fields : goal.returns-else-i-fields
returns-else-i-fields c = rows_under_none c.args.fields.now c.args.i (omega arith)
