use Rattle.std.proofs.Common.{◌≡◌, ◌∙◌, ◌++◌, ℕ, List, [], Err, append-nil, refl, sym, ap, subst}
use Rattle.arrow_arrays.specs.PartsOf.{all_parts_of}
use Rattle.ipc_fields.proofs.Steps.{is_err}
use Rattle.ipc_io.specs.Outside.{AppendsPrefix}
use Rattle.csv_rows.specs.Output.{HasPut, HasWritten, rows_of}
use Rattle.csv_rows.specs.Shown.{shown_rows}
use Rattle.csv_rows.proofs.OutputParts.{no_rows, put_is_written, puts_err, rows_there, some_parts}
use Rattle.csv_rows.proofs.output.TextOut.put_batch.Goals as goal

pub returns-then-is_empty-clause-puts : goal.returns-then-is_empty-clause-puts
returns-then-is_empty-clause-puts g c = λ start text h.
    let none : rows_of c.args.batch.now.arrays c.args.batch.now.height ≡ [] = no_rows c.arrays-arrays.result.now c.args.batch.now.arrays c.args.batch.now.height (sym c.is_empty.ensures ∙ c.if-is_empty.true) c.arrays-arrays.ensures in
    subst (HasPut start (g.W.Sink.written c.args.sink.now) c.args.self.now) (sym (ap (λ t. text ++ t) none ∙ append-nil text)) h

pub returns-in_err-put_rows-clause-puts : goal.returns-in_err-put_rows-clause-puts
returns-in_err-put_rows-clause-puts g c = λ start text h.
    let e : c.from_residual.result ≡ Err c.in_err-put_rows.field-0.0 = is_err _ _ _ c.from_residual.ensures.0 c.from_residual.ensures.1 (λ f h. h) in
    let old = g.W.Sink.written c.args.sink.now in
    let now = g.W.Sink.written c.put_rows.new.sink in
    let ps = all_parts_of c.arrays-arrays.result.now in
    let some = some_parts c.arrays-arrays.result.now (sym c.is_empty.ensures ∙ c.if-is_empty.false) in
    let part : AppendsPrefix start now (text ++ shown_rows ps 0 c.height.result) = c.in_err-put_rows.ensures.writes start text (put_is_written start old c.args.self.now text h) in
    let rows : shown_rows ps 0 c.height.result ≡ rows_of c.args.batch.now.arrays c.args.batch.now.height = ap (shown_rows ps 0) c.height.ensures.rows ∙ sym (rows_there ps c.args.batch.now.height some) ∙ ap (λ z. rows_of z c.args.batch.now.height) c.arrays-arrays.ensures in
    puts_err start now c.put_rows.new.self (text ++ rows_of c.args.batch.now.arrays c.args.batch.now.height) c.from_residual.result c.in_err-put_rows.field-0.0 e (subst (λ t. AppendsPrefix start now (text ++ t)) rows part)

pub returns-clause-puts : goal.returns-clause-puts
returns-clause-puts g c = λ start text h.
    let old = g.W.Sink.written c.args.sink.now in
    let mid = g.W.Sink.written c.put_rows.new.sink in
    let ps = all_parts_of c.arrays-arrays.result.now in
    let some = some_parts c.arrays-arrays.result.now (sym c.is_empty.ensures ∙ c.if-is_empty.false) in
    let written : HasWritten start mid c.put_rows.new.self (text ++ shown_rows ps 0 c.height.result) = c.in_ok-put_rows.ensures.writes start text (put_is_written start old c.args.self.now text h) in
    let rows : shown_rows ps 0 c.height.result ≡ rows_of c.args.batch.now.arrays c.args.batch.now.height = ap (shown_rows ps 0) c.height.ensures.rows ∙ sym (rows_there ps c.args.batch.now.height some) ∙ ap (λ z. rows_of z c.args.batch.now.height) c.arrays-arrays.ensures in
    c.flush.ensures.puts start (text ++ rows_of c.args.batch.now.arrays c.args.batch.now.height) (subst (λ t. HasWritten start mid c.put_rows.new.self (text ++ t)) rows written)
