use Rattle.std.proofs.Common.{◌≡◌, ◌∙◌, List, Err, IfErr, true, false, sym, ap, subst}
use Rattle.arrow_types.specs.Schemas.{Keyed, fields_in}
use Rattle.laws_walk.specs.Below.{columns_of, asked}
use Rattle.csv_texts.specs.Texts.{are_nested}
use Rattle.laws_walk.proofs.Below.{is_err}
use Rattle.laws_walk.specs.Places.{schema_of_reader}
use Rattle.laws_walk.proofs.FetchedFiles.{file_by_footer}
use Rattle.ipc_csv.specs.Printing.{CallCause, Selected}
use Rattle.ipc_csv.proofs.Asked.{Reader, columns_cause, columns_refused, file_fetched, file_printed, metadata_refused, nested_refused}
use Rattle.ipc_csv.proofs.Refusals.{read_cause}
use Rattle.ipc_csv.proofs.conversion.print_file.Goals as goal

pub returns-in_err-file-clause-prints : goal.returns-in_err-file-clause-prints
returns-in_err-file-clause-prints g c =
    let e : c.from_residual.result ≡ Err c.in_err-file.field-0.0 = is_err _ _ _ c.from_residual.ensures.0 c.from_residual.ensures.1 (λ f h. h) in
    metadata_refused c.from_residual.result c.in_err-file.field-0.0 (g.S.Source.content c.args.source.now) (asked (columns_of c.args.columns) c.args.limit) (g.W.Sink.written c.args.sink.now) _ _ e c.in_err-file.ensures.cause c.in_err-file.ensures.refused

pub returns-in_err-file-clause-cause : goal.returns-in_err-file-clause-cause
returns-in_err-file-clause-cause g c =
    let e : c.from_residual.result ≡ Err c.in_err-file.field-0.0 = is_err _ _ _ c.from_residual.ensures.0 c.from_residual.ensures.1 (λ f h. h) in
    subst (λ z. IfErr z (λ e. CallCause e (g.S.Source.faults c.args.source.now) (g.S.Source.faults c.read_file_metadata.new.source) (g.W.Sink.faults c.args.sink.now) (g.W.Sink.faults c.args.sink.now))) (sym e) (read_cause c.in_err-file.field-0.0 _ _ _ _ c.in_err-file.ensures.cause)

pub returns-in_err-projection-clause-prints : goal.returns-in_err-projection-clause-prints
returns-in_err-projection-clause-prints g c =
    let e : c.from_residual-in_err-projection.result ≡ Err c.in_err-projection.field-0.0 = is_err _ _ _ c.from_residual-in_err-projection.ensures.0 c.from_residual-in_err-projection.ensures.1 (λ f h. h) in
    columns_refused c.from_residual-in_err-projection.result c.in_err-projection.field-0.0 (g.S.Source.content c.args.source.now) c.in_ok-file.file (asked (columns_of c.args.columns) c.args.limit) (g.W.Sink.written c.args.sink.now) e c.in_err-projection.ensures.refused c.in_ok-file.ensures.says

pub returns-in_err-projection-clause-cause : goal.returns-in_err-projection-clause-cause
returns-in_err-projection-clause-cause g c =
    let e : c.from_residual-in_err-projection.result ≡ Err c.in_err-projection.field-0.0 = is_err _ _ _ c.from_residual-in_err-projection.ensures.0 c.from_residual-in_err-projection.ensures.1 (λ f h. h) in
    subst (λ z. IfErr z (λ e. CallCause e (g.S.Source.faults c.args.source.now) (g.S.Source.faults c.read_file_metadata.new.source) (g.W.Sink.faults c.args.sink.now) (g.W.Sink.faults c.args.sink.now))) (sym e) (columns_cause c.in_err-projection.field-0.0 c.in_ok-file.file (columns_of c.args.columns) _ _ _ _ c.in_err-projection.ensures.refused)

pub returns-then-are_nested-clause-prints : goal.returns-then-are_nested-clause-prints
returns-then-are_nested-clause-prints g c =
    let file = c.in_ok-file.file in
    let made = c.new_with_projection_info-reader in
    let r = asked (columns_of c.args.columns) c.args.limit in
    let reader : Reader file r made.result = record {
      metadata = made.ensures.metadata;
      selected = subst (Selected file (columns_of c.args.columns)) (sym made.ensures.projection) c.in_ok-projection.ensures.selected;
      read = c.in_ok-file.ensures.read;
      block = made.ensures.block;
      dictionaries = made.ensures.dictionaries;
      left = made.ensures.left;
    } in
    let same : c.deref.result.now ≡ schema_of_reader made.result = c.deref.ensures ∙ c.schema.ensures in
    let nested : are_nested (fields_in (schema_of_reader made.result)) ≡ true = ap (λ (s : List Keyed). are_nested (fields_in s)) (sym same) ∙ sym c.are_nested.ensures ∙ c.if-are_nested.true in
    nested_refused (g.S.Source.content c.args.source.now) file r made.result (g.W.Sink.written c.args.sink.now) reader nested c.in_ok-file.ensures.says

pub returns-clause-prints : goal.returns-clause-prints
returns-clause-prints g c =
    let file = c.in_ok-file.file in
    let made = c.new_with_projection_info-reader in
    let r = asked (columns_of c.args.columns) c.args.limit in
    let reader : Reader file r made.result = record {
      metadata = made.ensures.metadata;
      selected = subst (Selected file (columns_of c.args.columns)) (sym made.ensures.projection) c.in_ok-projection.ensures.selected;
      read = c.in_ok-file.ensures.read;
      block = made.ensures.block;
      dictionaries = made.ensures.dictionaries;
      left = made.ensures.left;
    } in
    let same : c.deref.result.now ≡ schema_of_reader made.result = c.deref.ensures ∙ c.schema.ensures in
    let flat : are_nested (fields_in (schema_of_reader made.result)) ≡ false = ap (λ (s : List Keyed). are_nested (fields_in s)) (sym same) ∙ sym c.are_nested.ensures ∙ c.if-are_nested.false in
    file_printed (g.S.Source.content c.args.source.now) (g.S.Source.content c.read_file_metadata.new.source) file r made.result (g.W.Sink.written c.args.sink.now) (g.W.Sink.written c.print_table.new.sink) c.print_table.result c.in_ok-file.ensures.kept.content reader flat c.in_ok-file.ensures.says c.print_table.ensures.prints

pub returns-in_err-file-clause-fetched : goal.returns-in_err-file-clause-fetched
returns-in_err-file-clause-fetched g c = file_by_footer (g.S.Source.content c.args.source.now) (asked (columns_of c.args.columns) c.args.limit) _ _ c.in_err-file.ensures.fetched

pub returns-in_err-projection-clause-fetched : goal.returns-in_err-projection-clause-fetched
returns-in_err-projection-clause-fetched g c = file_by_footer (g.S.Source.content c.args.source.now) (asked (columns_of c.args.columns) c.args.limit) _ _ c.in_ok-file.ensures.fetched

pub returns-then-are_nested-clause-fetched : goal.returns-then-are_nested-clause-fetched
returns-then-are_nested-clause-fetched g c = file_by_footer (g.S.Source.content c.args.source.now) (asked (columns_of c.args.columns) c.args.limit) _ _ c.in_ok-file.ensures.fetched

pub returns-clause-fetched : goal.returns-clause-fetched
returns-clause-fetched g c =
    let file = c.in_ok-file.file in
    let made = c.new_with_projection_info-reader in
    let r = asked (columns_of c.args.columns) c.args.limit in
    let reader : Reader file r made.result = record {
      metadata = made.ensures.metadata;
      selected = subst (Selected file (columns_of c.args.columns)) (sym made.ensures.projection) c.in_ok-projection.ensures.selected;
      read = c.in_ok-file.ensures.read;
      block = made.ensures.block;
      dictionaries = made.ensures.dictionaries;
      left = made.ensures.left;
    } in
    let same : c.deref.result.now ≡ schema_of_reader made.result = c.deref.ensures ∙ c.schema.ensures in
    let flat : are_nested (fields_in (schema_of_reader made.result)) ≡ false = ap (λ (s : List Keyed). are_nested (fields_in s)) (sym same) ∙ sym c.are_nested.ensures ∙ c.if-are_nested.false in
    file_fetched (g.S.Source.content c.args.source.now) (g.S.Source.content c.read_file_metadata.new.source) file r made.result (g.W.Sink.written c.args.sink.now) _ _ _ c.in_ok-file.ensures.kept.content reader flat c.in_ok-file.ensures.says c.in_ok-file.ensures.fetched c.print_table.ensures.fetched

pub new_with_projection_info-reader-requires-clause-made : goal.new_with_projection_info-reader-requires-clause-made
new_with_projection_info-reader-requires-clause-made g c = ∣ (columns_of c.args.columns, c.in_ok-projection.ensures.selected.may) ∣₁
