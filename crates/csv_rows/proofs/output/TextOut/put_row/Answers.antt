use Rattle.std.proofs.Common.{◌≡◌, ◌++◌, Err, refl, sym, subst}
use Rattle.arrow_arrays.specs.PartsOf.{all_parts_of}
use Rattle.csv.specs.Writing.{default_writer, row_text}
use Rattle.csv_rows.specs.Shown.{shown_cells}
use Rattle.csv_rows.specs.declared.output.TextOut.{TextOut}
use Rattle.ipc_fields.proofs.Steps.{is_err}
use Rattle.ipc_io.proofs.Known.{AppendsPrefix-within}
use Rattle.csv_rows.proofs.OutputParts.{row_written, writes_err, written_part}
use Rattle.csv_rows.proofs.output.TextOut.put_row.Goals as goal

pub returns-in_err-write_row-clause-writes : goal.returns-in_err-write_row-clause-writes
returns-in_err-write_row-clause-writes g c = λ start text h.
    let e : c.from_residual.result ≡ Err c.in_err-write_row.field-0.0 = is_err _ _ _ c.from_residual.ensures.0 c.from_residual.ensures.1 (λ f h. h) in
    let o : TextOut = record { writer = c.write_row.new.writer; cell = c.write_row.new.scratch; room = c.args.self.now.room; bytes = c.args.self.now.bytes } in
    let row = row_text default_writer (shown_cells (all_parts_of c.args.arrays.now) c.args.row) in
    let old = g.W.Sink.written c.args.sink.now in
    writes_err start old o (text ++ row) c.from_residual.result c.in_err-write_row.field-0.0 e (AppendsPrefix-within start old text row (written_part start old c.args.self.now text h))

pub returns-clause-writes : goal.returns-clause-writes
returns-clause-writes g c = λ start text h.
    let o : TextOut = record { writer = c.write_row.new.writer; cell = c.write_row.new.scratch; room = c.args.self.now.room; bytes = c.args.self.now.bytes } in
    let row = row_text default_writer (shown_cells (all_parts_of c.args.arrays.now) c.args.row) in
    c.flush_if_full.ensures.writes start (text ++ row) (row_written start (g.W.Sink.written c.args.sink.now) c.args.self.now o text row h c.in_ok-write_row.ensures.text refl)
