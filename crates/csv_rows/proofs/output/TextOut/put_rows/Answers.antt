use Rattle.std.proofs.Common.{◌≡◌, ◌∙◌, ◌++◌, ◌+◌, Err, append_assoc, refl, sym, ap, subst, arith}
use Rattle.arrow_arrays.specs.PartsOf.{all_parts_of}
use Rattle.csv.specs.Writing.{default_writer, row_text}
use Rattle.csv_rows.specs.Shown.{shown_cells, shown_rows}
use Rattle.csv_rows.specs.Output.{HasWritten, Writes}
use Rattle.ipc_io.proofs.Kept.{sink_kept_on}
use Rattle.ipc_fields.proofs.Steps.{is_err}
use Rattle.csv_rows.proofs.OutputParts.{part_of_rows, rows_more}
use Rattle.csv_rows.proofs.output.TextOut.put_rows.Goals as goal

pub returns-in_err-put_row-clause-writes : goal.returns-in_err-put_row-clause-writes
returns-in_err-put_row-clause-writes g c = λ start text h.
    let e : c.from_residual.result ≡ Err c.in_err-put_row.field-0.0 = is_err _ _ _ c.from_residual.ensures.0 c.from_residual.ensures.1 (λ f h. h) in
    let ps = all_parts_of c.args.arrays.now in
    subst (λ r. Writes start (g.W.Sink.written c.put_row.new.sink) c.put_row.new.self (text ++ shown_rows ps 0 c.args.height) r) (sym e)
    (part_of_rows ps c.loop-row.row c.args.height start (g.W.Sink.written c.put_row.new.sink) text c.loop-row-test.true (c.in_err-put_row.ensures.writes start (text ++ shown_rows ps 0 c.loop-row.row) (c.loop-row.invariant.writes start text h)))

pub loop-row-preserved : goal.loop-row-preserved
loop-row-preserved g c = record {
  writes = λ start text h.
      let ps = all_parts_of c.args.arrays.now in
      let row = c.loop-row.row in
      let k : 0 + row ≡ row = omega arith in
      let more : (text ++ shown_rows ps 0 row) ++ row_text default_writer (shown_cells ps row) ≡ text ++ shown_rows ps 0 (row + 1) = append_assoc text (shown_rows ps 0 row) (row_text default_writer (shown_cells ps row)) ∙ ap (λ t. text ++ t) (ap (λ j. shown_rows ps 0 row ++ row_text default_writer (shown_cells ps j)) (sym k) ∙ sym (rows_more ps 0 row)) in
      subst (HasWritten start (g.W.Sink.written c.put_row.new.sink) c.put_row.new.self) more (c.in_ok-put_row.ensures.writes start (text ++ shown_rows ps 0 row) (c.loop-row.invariant.writes start text h));
  ready = c.in_ok-put_row.ensures.ready;
  longest = omega (arith, c.loop-row.invariant.longest, c.in_ok-put_row.ensures.longest);
  sink = sink_kept_on c.loop-row.invariant.sink c.in_ok-put_row.ensures.sink;
}
