use Rattle.std.proofs.Common.{◌≡◌, ◌∙◌, List, Err, IfErr, refl, sym, ap, subst}
use Rattle.arrow_types.specs.Schemas.{Keyed}
use Rattle.arrow_spec.specs.declared.error.IpcError.TheVariants.{Memory}
use Rattle.ipc_io.specs.Outside.{AppendsPrefix}
use Rattle.laws_walk.proofs.Below.{is_err}
use Rattle.laws_walk.specs.Places.{schema_of_reader}
use Rattle.csv_rows.specs.Output.{HasPut, header_of}
use Rattle.ipc_csv.specs.Printing.{CallCause}
use Rattle.ipc_csv.proofs.Refusals.{put_cause}
use Rattle.ipc_csv.proofs.Tables.{batches_refused, header_refused, none_begun, nothing_begun, nothing_put, table_fetched, table_printed}
use Rattle.ipc_csv.proofs.print.print_table.Goals as goal

pub returns-in_err-out-clause-prints : goal.returns-in_err-out-clause-prints
returns-in_err-out-clause-prints g c =
    let e : c.from_residual.result ≡ Err c.in_err-out.field-0.0 = is_err _ _ _ c.from_residual.ensures.0 c.from_residual.ensures.1 (λ f h. h) in
    nothing_begun (g.S.Source.content c.args.source.now) c.args.reader.now (g.W.Sink.written c.args.sink.now) c.from_residual.result Memory (e ∙ ap Err c.in_err-out.ensures.err) tt (λ es. tt)

pub returns-in_err-put_header-clause-prints : goal.returns-in_err-put_header-clause-prints
returns-in_err-put_header-clause-prints g c =
    let e : c.from_residual-in_err-put_header.result ≡ Err c.in_err-put_header.field-0.0 = is_err _ _ _ c.from_residual-in_err-put_header.ensures.0 c.from_residual-in_err-put_header.ensures.1 (λ f h. h) in
    let old = g.W.Sink.written c.args.sink.now in
    let part : AppendsPrefix old (g.W.Sink.written c.put_header.new.sink) (header_of c.deref.result.now) = c.in_err-put_header.ensures.puts old (nothing_put c.in_ok-out.out old c.in_ok-out.ensures.empty c.in_ok-out.ensures.none) in
    let same : c.deref.result.now ≡ schema_of_reader c.args.reader.now = c.deref.ensures ∙ c.schema.ensures in
    header_refused (g.S.Source.content c.args.source.now) c.args.reader.now old (g.W.Sink.written c.put_header.new.sink) c.from_residual-in_err-put_header.result c.in_err-put_header.field-0.0 _ _ e c.in_err-put_header.ensures.cause (subst (λ (s : List Keyed). AppendsPrefix old (g.W.Sink.written c.put_header.new.sink) (header_of s)) same part)

pub returns-in_err-put_header-clause-cause : goal.returns-in_err-put_header-clause-cause
returns-in_err-put_header-clause-cause g c =
    let e : c.from_residual-in_err-put_header.result ≡ Err c.in_err-put_header.field-0.0 = is_err _ _ _ c.from_residual-in_err-put_header.ensures.0 c.from_residual-in_err-put_header.ensures.1 (λ f h. h) in
    subst (λ z. IfErr z (λ e. CallCause e (g.S.Source.faults c.args.source.now) (g.S.Source.faults c.args.source.now) (g.W.Sink.faults c.args.sink.now) (g.W.Sink.faults c.put_header.new.sink))) (sym e) (put_cause c.in_err-put_header.field-0.0 _ _ _ _ c.in_err-put_header.ensures.cause)

pub returns-in_err-summary-clause-prints : goal.returns-in_err-summary-clause-prints
returns-in_err-summary-clause-prints g c =
    let e : c.from_residual-in_err-summary.result ≡ Err c.in_err-summary.field-0.0 = is_err _ _ _ c.from_residual-in_err-summary.ensures.0 c.from_residual-in_err-summary.ensures.1 (λ f h. h) in
    let old = g.W.Sink.written c.args.sink.now in
    let put : HasPut old (g.W.Sink.written c.put_header.new.sink) c.put_header.new.self (header_of c.deref.result.now) = c.in_ok-put_header.ensures.puts old (nothing_put c.in_ok-out.out old c.in_ok-out.ensures.empty c.in_ok-out.ensures.none) in
    let same : c.deref.result.now ≡ schema_of_reader c.args.reader.now = c.deref.ensures ∙ c.schema.ensures in
    batches_refused (g.S.Source.content c.args.source.now) c.args.reader.now c.print_batches.new.reader c.put_header.new.self c.print_batches.new.out old (g.W.Sink.written c.put_header.new.sink) (g.W.Sink.written c.print_batches.new.sink)
    (subst (λ (s : List Keyed). HasPut old (g.W.Sink.written c.put_header.new.sink) c.put_header.new.self (header_of s)) same put) c.from_residual-in_err-summary.result c.in_err-summary.field-0.0 e c.in_err-summary.ensures.prints

pub returns-clause-prints : goal.returns-clause-prints
returns-clause-prints g c =
    let old = g.W.Sink.written c.args.sink.now in
    let put : HasPut old (g.W.Sink.written c.put_header.new.sink) c.put_header.new.self (header_of c.deref.result.now) = c.in_ok-put_header.ensures.puts old (nothing_put c.in_ok-out.out old c.in_ok-out.ensures.empty c.in_ok-out.ensures.none) in
    let same : c.deref.result.now ≡ schema_of_reader c.args.reader.now = c.deref.ensures ∙ c.schema.ensures in
    table_printed (g.S.Source.content c.args.source.now) c.args.reader.now c.print_batches.new.reader c.put_header.new.self c.print_batches.new.out old (g.W.Sink.written c.put_header.new.sink) (g.W.Sink.written c.print_batches.new.sink)
    (subst (λ (s : List Keyed). HasPut old (g.W.Sink.written c.put_header.new.sink) c.put_header.new.self (header_of s)) same put) c.in_ok-summary.summary _ refl refl c.byte_count.ensures c.in_ok-summary.ensures.metadata c.in_ok-summary.ensures.projection c.in_ok-summary.ensures.prints

pub returns-in_err-out-clause-fetched : goal.returns-in_err-out-clause-fetched
returns-in_err-out-clause-fetched g c = none_begun (g.S.Source.content c.args.source.now) c.args.reader.now (g.W.Sink.written c.args.sink.now) (g.S.Source.fetched c.args.source.now)

pub returns-in_err-put_header-clause-fetched : goal.returns-in_err-put_header-clause-fetched
returns-in_err-put_header-clause-fetched g c = none_begun (g.S.Source.content c.args.source.now) c.args.reader.now (g.W.Sink.written c.args.sink.now) (g.S.Source.fetched c.args.source.now)

pub returns-in_err-summary-clause-fetched : goal.returns-in_err-summary-clause-fetched
returns-in_err-summary-clause-fetched g c =
    let old = g.W.Sink.written c.args.sink.now in
    let put : HasPut old (g.W.Sink.written c.put_header.new.sink) c.put_header.new.self (header_of c.deref.result.now) = c.in_ok-put_header.ensures.puts old (nothing_put c.in_ok-out.out old c.in_ok-out.ensures.empty c.in_ok-out.ensures.none) in
    let same : c.deref.result.now ≡ schema_of_reader c.args.reader.now = c.deref.ensures ∙ c.schema.ensures in
    table_fetched (g.S.Source.content c.args.source.now) c.args.reader.now c.print_batches.new.reader c.put_header.new.self c.print_batches.new.out old (g.W.Sink.written c.put_header.new.sink) (g.W.Sink.written c.print_batches.new.sink)
    (subst (λ (s : List Keyed). HasPut old (g.W.Sink.written c.put_header.new.sink) c.put_header.new.self (header_of s)) same put) c.print_batches.new.reader.block (g.S.Source.fetched c.args.source.now) (g.S.Source.fetched c.print_batches.new.source) c.print_batches.ensures.fetched

pub returns-clause-fetched : goal.returns-clause-fetched
returns-clause-fetched g c =
    let old = g.W.Sink.written c.args.sink.now in
    let put : HasPut old (g.W.Sink.written c.put_header.new.sink) c.put_header.new.self (header_of c.deref.result.now) = c.in_ok-put_header.ensures.puts old (nothing_put c.in_ok-out.out old c.in_ok-out.ensures.empty c.in_ok-out.ensures.none) in
    let same : c.deref.result.now ≡ schema_of_reader c.args.reader.now = c.deref.ensures ∙ c.schema.ensures in
    table_fetched (g.S.Source.content c.args.source.now) c.args.reader.now c.print_batches.new.reader c.put_header.new.self c.print_batches.new.out old (g.W.Sink.written c.put_header.new.sink) (g.W.Sink.written c.print_batches.new.sink)
    (subst (λ (s : List Keyed). HasPut old (g.W.Sink.written c.put_header.new.sink) c.put_header.new.self (header_of s)) same put) c.print_batches.new.reader.block (g.S.Source.fetched c.args.source.now) (g.S.Source.fetched c.print_batches.new.source) c.print_batches.ensures.fetched
