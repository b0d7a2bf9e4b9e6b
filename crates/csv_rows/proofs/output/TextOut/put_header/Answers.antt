use Rattle.std.proofs.Common.{◌≡◌, ◌∙◌, ◌++◌, ℕ, List, [], Err, refl, sym, ap, subst}
use Rattle.csv.specs.Writing.{default_writer, row_text}
use Rattle.ipc_fields.proofs.Steps.{is_err}
use Rattle.ipc_io.specs.Outside.{AppendsPrefix}
use Rattle.ipc_io.proofs.Known.{AppendsPrefix-within}
use Rattle.csv_rows.specs.Output.{HasPut, HasWritten, header_of}
use Rattle.csv_rows.specs.Shown.{shown_names}
use Rattle.csv_rows.specs.declared.output.TextOut.{TextOut}
use Rattle.csv_rows.proofs.OutputParts.{header_there, no_header, put_is_written, puts_err, row_written, written_part}
use Rattle.csv_rows.proofs.output.TextOut.put_header.Goals as goal

pub returns-then-count-eq0-clause-puts : goal.returns-then-count-eq0-clause-puts
returns-then-count-eq0-clause-puts g c = λ start h.
    let none : header_of c.args.schema.now ≡ [] = no_header c.args.schema.now (sym c.len-count.ensures.count ∙ c.if-count-eq0.true) in
    subst (HasPut start (g.W.Sink.written c.args.sink.now) c.args.self.now) (sym none) h

pub returns-in_err-write_names-clause-puts : goal.returns-in_err-write_names-clause-puts
returns-in_err-write_names-clause-puts g c = λ start h.
    let e : c.from_residual.result ≡ Err c.in_err-write_names.field-0.0 = is_err _ _ _ c.from_residual.ensures.0 c.from_residual.ensures.1 (λ f h. h) in
    let o : TextOut = record { writer = c.write_names.new.writer; cell = c.args.self.now.cell; room = c.args.self.now.room; bytes = c.args.self.now.bytes } in
    let old = g.W.Sink.written c.args.sink.now in
    puts_err start old o (header_of c.args.schema.now) c.from_residual.result c.in_err-write_names.field-0.0 e (AppendsPrefix-within start old [] (header_of c.args.schema.now) (written_part start old c.args.self.now [] (put_is_written start old c.args.self.now [] h)))

pub returns-clause-puts : goal.returns-clause-puts
returns-clause-puts g c = λ start h.
    let o : TextOut = record { writer = c.write_names.new.writer; cell = c.args.self.now.cell; room = c.args.self.now.room; bytes = c.args.self.now.bytes } in
    let old = g.W.Sink.written c.args.sink.now in
    let row = row_text default_writer (shown_names c.args.schema.now) in
    let written : HasWritten start old o row = row_written start old c.args.self.now o [] row (put_is_written start old c.args.self.now [] h) c.in_ok-write_names.ensures.text refl in
    let header : row ≡ header_of c.args.schema.now = header_there c.args.schema.now (λ z. c.if-count-eq0.false (c.len-count.ensures.count ∙ z)) in
    c.flush.ensures.puts start (header_of c.args.schema.now) (subst (HasWritten start old o) header written)
