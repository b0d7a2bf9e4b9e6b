use Rattle.std.proofs.Common.{◌≡◌, List, ℕ, Err}
use Rattle.ipc_files.specs.declared.metadata.FooterBytes.{FooterBytes}
use Rattle.ipc_fields.specs.IpcFields.{metadata_of}
use Rattle.ipc_files.specs.FileViews.{file_custom, meta_view}
use Rattle.ipc_files.proofs.Errors.{is_err}
use Rattle.ipc_files.proofs.FileFooters.{footer_not_fetched, footer_not_read, pairs_refused, whole_said}
use Rattle.ipc_files.proofs.ReadFiles.{of_err}
use Rattle.ipc_files.proofs.metadata.read_file_metadata.Goals as goal

abbrev view : FooterBytes → List ℕ
view f = f.bytes.items

pub returns-in_err-footer-clause-refused : goal.returns-in_err-footer-clause-refused
returns-in_err-footer-clause-refused g c =
    let e : c.from_residual.result ≡ Err c.in_err-footer.field-0.0 = is_err _ _ _ c.from_residual.ensures.0 c.from_residual.ensures.1 (λ f h. h) in
    of_err c.from_residual.result c.in_err-footer.field-0.0 _ e (footer_not_fetched (g.S.Source.content c.args.source.now) view c.in_err-footer.field-0.0 c.in_err-footer.ensures.footer)

pub returns-in_err-file-clause-refused : goal.returns-in_err-file-clause-refused
returns-in_err-file-clause-refused g c =
    let e : c.from_residual-in_err-file.result ≡ Err c.in_err-file.field-0.0 = is_err _ _ _ c.from_residual-in_err-file.ensures.0 c.from_residual-in_err-file.ensures.1 (λ f h. h) in
    of_err c.from_residual-in_err-file.result c.in_err-file.field-0.0 _ e (footer_not_read (g.S.Source.content c.args.source.now) view c.in_ok-footer.footer meta_view c.in_err-file.field-0.0 c.in_ok-footer.ensures.footer c.in_err-file.ensures.gives)

pub returns-in_err-custom_metadata-clause-refused : goal.returns-in_err-custom_metadata-clause-refused
returns-in_err-custom_metadata-clause-refused g c =
    let e : c.from_residual-in_err-custom_metadata.result ≡ Err c.in_err-custom_metadata.field-0.0 = is_err _ _ _ c.from_residual-in_err-custom_metadata.ensures.0 c.from_residual-in_err-custom_metadata.ensures.1 (λ f h. h) in
    of_err c.from_residual-in_err-custom_metadata.result c.in_err-custom_metadata.field-0.0 _ e
    (pairs_refused (g.S.Source.content c.args.source.now) view c.in_ok-footer.footer c.deref.result.now meta_view c.in_ok-file.file metadata_of c.in_err-custom_metadata.field-0.0 c.in_ok-footer.ensures.footer c.in_ok-file.ensures.gives c.deref.ensures.value c.in_err-custom_metadata.ensures.gives)

pub returns-clause-says : goal.returns-clause-says
returns-clause-says g c =
    whole_said (g.S.Source.content c.args.source.now) view c.in_ok-footer.footer c.deref.result.now meta_view c.in_ok-file.file metadata_of c.in_ok-custom_metadata.custom_metadata (meta_view c.with_pairs.result) (file_custom c.with_pairs.result) c.with_pairs.ensures.view c.with_pairs.ensures.custom c.in_ok-footer.ensures.footer c.in_ok-file.ensures.gives c.deref.ensures.value c.in_ok-custom_metadata.ensures.gives
