use Rattle.std.proofs.Common.{◌≡◌, None, Err, length, refl, subst, sym}
use Rattle.std.specs.Prelude.{IfSome}
use Rattle.std.specs.Rc.{rc_value}
use Rattle.ipc_io.specs.Outside.{IsSize}
use Rattle.laws_walk.specs.Below.{FileMetadata, FileSays, WasRead, file_custom, meta_view}
use Rattle.laws_walk.proofs.Below.{is_err}
use Rattle.ipc_concat.proofs.Opened.{cursor_cause, cursor_refused, file_refused, none_projected}
use Rattle.ipc_concat.proofs.opening.open_file.Goals as goal

pub returns-in_err-file-clause-refused : goal.returns-in_err-file-clause-refused
returns-in_err-file-clause-refused g c =
    let e : c.from_residual.result ≡ Err c.in_err-file.field-0.0 = is_err _ _ _ c.from_residual.ensures.0 c.from_residual.ensures.1 (λ f h. h) in
    file_refused c.from_residual.result c.in_err-file.field-0.0 (g.S.Source.content c.args.source.now) _ _ e c.in_err-file.ensures.cause c.in_err-file.ensures.refused

pub returns-in_err-reader-clause-refused : goal.returns-in_err-reader-clause-refused
returns-in_err-reader-clause-refused g c =
    let e : c.from_residual-in_err-reader.result ≡ Err c.in_err-reader.field-0.0 = is_err _ _ _ c.from_residual-in_err-reader.ensures.0 c.from_residual-in_err-reader.ensures.1 (λ f h. h) in
    cursor_refused c.from_residual-in_err-reader.result c.in_err-reader.field-0.0 (g.S.Source.content c.args.source.now) None (length (rc_value c.in_ok-file.file.schema)) e refl c.in_err-reader.ensures.err

pub returns-in_err-reader-clause-cause : goal.returns-in_err-reader-clause-cause
returns-in_err-reader-clause-cause g c =
    let e : c.from_residual-in_err-reader.result ≡ Err c.in_err-reader.field-0.0 = is_err _ _ _ c.from_residual-in_err-reader.ensures.0 c.from_residual-in_err-reader.ensures.1 (λ f h. h) in
    cursor_cause c.from_residual-in_err-reader.result c.in_err-reader.field-0.0 None (length (rc_value c.in_ok-file.file.schema)) _ _ e refl c.in_err-reader.ensures.err

pub returns-clause-opened : goal.returns-clause-opened
returns-clause-opened g c = record {
  says = subst (λ (m : FileMetadata). IfSome (g.S.Source.content c.args.source.now) (λ b. FileSays b (meta_view m) (file_custom m))) (sym c.in_ok-reader.ensures.metadata) c.in_ok-file.ensures.says;
  size = subst (λ (m : FileMetadata). IsSize (g.S.Source.content c.args.source.now) m.size) (sym c.in_ok-reader.ensures.metadata) c.in_ok-file.ensures.size;
  read = subst WasRead (sym c.in_ok-reader.ensures.metadata) c.in_ok-file.ensures.read;
  projection = none_projected (rc_value c.in_ok-file.file.schema) c.in_ok-reader.reader.projection c.in_ok-reader.ensures.projected;
  left = c.in_ok-reader.ensures.left;
  block = c.in_ok-reader.ensures.block;
  dictionaries = c.in_ok-reader.ensures.dictionaries;
}
