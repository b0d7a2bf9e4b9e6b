use Rattle.std.proofs.Common.{◌≡◌, ◌∙◌, ◌≤◌, ◌<◌, ◌+◌, ◌-◌, ◌^◌, ◌++◌, ◌∷◌, [], length, take, OnOk, sym, ap, subst, arith}
use Rattle.std.proofs.lemmas.List.{take_all, length-take}
use Rattle.std.specs.Io.KnownBytes.{Appends}
use Rattle.arrow_types.specs.Child.{Child}
use Rattle.arrow_types.specs.KindOf.{child_of}
use Rattle.arrow_types.proofs.DataTypes.{child_is}
use Rattle.csv.specs.Writing.{default_writer, row_text}
use Rattle.csv_rows.specs.Shown.{shown_names}
use Rattle.csv_rows.specs.Writers.{IsInRow, text_of}
use Rattle.csv_rows.proofs.RowTexts.{length-names, names_more, row_begun}
use Rattle.csv_rows.proofs.rows.write_names.Goals as goal

pub loop-i-init : goal.loop-i-init
loop-i-init c = row_begun c.args.writer.now c.requires

pub loop-i-preserved : goal.loop-i-preserved
loop-i-preserved c =
    let s = c.args.schema.now in
    let i = c.loop-i.i in
    let f = c.field_at.result.now in
    let start = text_of c.args.writer.now in
    let names = take i (shown_names s) in
    let few : length names < 2 ^ 64 - 1 = omega (arith, length-take i (shown_names s), c.loop-i-test.true) in
    let name : c.as_bytes.result.now ≡ (child_of f).name = c.as_bytes.ensures.value ∙ sym (ap (λ (z : Child). z.name) (child_is f)) in
    let more = names_more s i (child_of f) c.field_at.ensures in
    subst (IsInRow start c.put_field.new.writer) (sym more) (subst (λ z. IsInRow start c.put_field.new.writer (names ++ z ∷ [])) name (c.in_ok-put_field.ensures.goes_on start names c.loop-i.invariant few))

pub returns-clause-text : goal.returns-clause-text
returns-clause-text c =
    let s = c.args.schema.now in
    let all : take c.loop-i.i (shown_names s) ≡ shown_names s = take_all c.loop-i.i (shown_names s) (let k = length-names s in omega (arith, k, c.loop-i-test.false, c.len-i-end.ensures.count)) in
    subst (λ z. OnOk c.end_row.result (Appends (text_of c.args.writer.now) (text_of c.end_row.new.writer) (row_text default_writer z))) all (c.end_row.ensures.text (text_of c.args.writer.now) (take c.loop-i.i (shown_names s)) c.loop-i.invariant)

pub returns-clause-ended : goal.returns-clause-ended
returns-clause-ended c = c.end_row.ensures.ended (text_of c.args.writer.now) (take c.loop-i.i (shown_names c.args.schema.now)) c.loop-i.invariant
