use Rattle.std.proofs.Common.{◌++◌, ◌∷◌, [], OnOk, sym, subst}
use Rattle.csv_rows.specs.Writers.{IsInRow}
use Rattle.csv_rows.proofs.RowTexts.{field_more}
use Rattle.csv_rows.proofs.fields.put_field.Goals as goal
use Rattle.csv_rows.proofs.fields.put_field.Goals.{in-Ok, in-Err}

pub returns-clause-goes_on : goal.returns-clause-goes_on
returns-clause-goes_on c = λ start cells is few. elim c.match-write_field.branch [
  | in-Ok w ↦ subst (λ r. OnOk r (IsInRow start c.write_field.new.self (cells ++ c.args.field.now ∷ []))) (sym w.result-is)
      (field_more start c.args.writer.now c.write_field.new.self cells c.args.field.now is few (record { text = w.in-Ok.ensures.text; same = w.in-Ok.ensures.same; count = w.in-Ok.ensures.count; wrote = w.in-Ok.ensures.wrote; stays = w.in-Ok.ensures.stays }))
  | in-Err w ↦ subst (λ r. OnOk r (IsInRow start c.write_field.new.self (cells ++ c.args.field.now ∷ []))) (sym w.result-is) tt
]
