use Rattle.std.proofs.Common.{◌≡◌, ◌∙◌, ◌+◌, ℕ, List, [], Some, Ok, Err, length, refl, sym, ap, subst, arith}
use Rattle.std.specs.Io.KnownBytes.{Appends}
use Rattle.std.specs.Vec.{with_items}
use Rattle.ipc_bodies.specs.Puts.{Moved, PutsPart, PutsText, moved}
use Rattle.ipc_fields.proofs.Steps.{is_err}
use Rattle.ipc_io.specs.Outside.{AppendsPrefix}
use Rattle.csv_rows.specs.Writers.{text_of}
use Rattle.csv_rows.specs.declared.output.TextOut.{TextOut}
use Rattle.csv_rows.proofs.OutputParts.{fresh_text, held_part, held_put, part_put, puts_err, written_part}
use Rattle.csv_rows.proofs.output.TextOut.flush.Goals as goal

pub returns-in_err-text-clause-puts : goal.returns-in_err-text-clause-puts
returns-in_err-text-clause-puts g c = λ start text h.
    let e : c.from_residual.result ≡ Err c.in_err-text.field-0.0 = is_err _ _ _ c.from_residual.ensures.0 c.from_residual.ensures.1 (λ f h. h) in
    let o : TextOut = record { writer = c.replace-writer.new.dest; cell = c.args.self.now.cell; room = c.args.self.now.room; bytes = c.args.self.now.bytes } in
    let old = g.W.Sink.written c.args.sink.now in
    puts_err start old o text c.from_residual.result c.in_err-text.field-0.0 e (written_part start old c.args.self.now text h)

pub returns-in_err-bytes-clause-puts : goal.returns-in_err-bytes-clause-puts
returns-in_err-bytes-clause-puts g c = λ start text h.
    let e : c.from_residual-in_err-bytes.result ≡ Err c.in_err-bytes.field-0.0 = is_err _ _ _ c.from_residual-in_err-bytes.ensures.0 c.from_residual-in_err-bytes.ensures.1 (λ f h. h) in
    let o : TextOut = record { writer = c.replace-writer.new.dest; cell = c.args.self.now.cell; room = c.args.self.now.room; bytes = c.args.self.now.bytes } in
    let old = g.W.Sink.written c.args.sink.now in
    puts_err start old o text c.from_residual-in_err-bytes.result c.in_err-bytes.field-0.0 e (written_part start old c.args.self.now text h)

pub returns-in_err-put_bytes_as-clause-puts : goal.returns-in_err-put_bytes_as-clause-puts
returns-in_err-put_bytes_as-clause-puts g c = λ start text h.
    let e : c.from_residual-in_err-put_bytes_as.result ≡ Err c.in_err-put_bytes_as.field-0.0 = is_err _ _ _ c.from_residual-in_err-put_bytes_as.ensures.0 c.from_residual-in_err-put_bytes_as.ensures.1 (λ f h. h) in
    let o : TextOut = record { writer = c.replace-writer.new.dest; cell = c.args.self.now.cell; room = with_items c.args.self.now.room c.put_bytes_as.new.scratch; bytes = c.args.self.now.bytes } in
    let old = g.W.Sink.written c.args.sink.now in
    let new = g.W.Sink.written c.put_bytes_as.new.sink in
    let v = c.in_ok-text.text.items in
    let m = moved old new (g.W.Sink.faults c.args.sink.now) (g.W.Sink.faults c.put_bytes_as.new.sink) (g.W.Sink.wants c.args.sink.now) (g.W.Sink.wants c.put_bytes_as.new.sink) in
    let is : text_of c.args.self.now.writer ≡ Some v = ap text_of (sym c.replace-writer.ensures.value) ∙ c.in_ok-text.ensures.text in
    let part : PutsPart m c.in_err-put_bytes_as.field-0.0 v = subst (PutsPart m c.in_err-put_bytes_as.field-0.0) c.as_slice.ensures.value c.in_err-put_bytes_as.ensures.puts in
    puts_err start new o text c.from_residual-in_err-put_bytes_as.result c.in_err-put_bytes_as.field-0.0 e (held_part start old new c.args.self.now text v h is (part_put m c.in_err-put_bytes_as.field-0.0 v part))

pub returns-clause-puts : goal.returns-clause-puts
returns-clause-puts g c = λ start text h.
    let o : TextOut = record { writer = c.from_writer-2.result; cell = c.args.self.now.cell; room = with_items c.args.self.now.room c.put_bytes_as.new.scratch; bytes = c.in_ok-bytes.bytes } in
    let old = g.W.Sink.written c.args.sink.now in
    let new = g.W.Sink.written c.put_bytes_as.new.sink in
    let v = c.in_ok-text.text.items in
    let is : text_of c.args.self.now.writer ≡ Some v = ap text_of (sym c.replace-writer.ensures.value) ∙ c.in_ok-text.ensures.text in
    let more : Appends old new v = subst (Appends old new) c.as_slice.ensures.value c.in_ok-put_bytes_as.ensures.puts.0 in
    let count : c.in_ok-bytes.bytes ≡ c.args.self.now.bytes + length v = omega (arith, c.in_ok-bytes.ensures.sum, c.len.ensures, c.as_slice.ensures.len, ap length c.as_slice.ensures.value) in
    let empty : text_of c.from_writer-2.result ≡ Some [] = fresh_text c.from_writer-2.result c.clear.new.self c.from_writer-2.ensures.wtr c.from_writer-2.ensures.empty c.clear.ensures.items in
    held_put start old new c.args.self.now o text v h is more count empty
