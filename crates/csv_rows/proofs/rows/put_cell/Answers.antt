use Rattle.std.proofs.Common.{refl, ap, ◌∙◌}
use Rattle.std.proofs.lemmas.Result.{on_ok_weaker}
use Rattle.arrow_arrays.specs.PartsOf.{parts_of}
use Rattle.csv_texts.specs.Texts.{cell_text}
use Rattle.csv_rows.specs.Values.{cell_of}
use Rattle.csv_rows.specs.declared.value.Value.TheVariants.{Text}
use Rattle.csv_rows.proofs.RowTexts.{cell_put}
use Rattle.csv_rows.proofs.rows.put_cell.Goals as goal

pub returns-in-Text-clause-goes_on : goal.returns-in-Text-clause-goes_on
returns-in-Text-clause-goes_on c = λ start cells is few.
    on_ok_weaker c.put_field.result (λ h. cell_put start c.put_field.new.writer cells (parts_of c.args.array.now) c.args.row (Text c.in-Text.text) c.in-Text.text.now c.in-Text.ensures refl h) (c.put_field.ensures.goes_on start cells is few)
