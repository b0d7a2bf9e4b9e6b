use Rattle.std.proofs.Common.{◌≡◌, List, ℕ, Err}
use Rattle.ipc_files.specs.declared.metadata.FooterBytes.{FooterBytes}
use Rattle.ipc_files.specs.FileViews.{meta_view}
use Rattle.ipc_files.proofs.Errors.{is_err, bytes_cause}
use Rattle.ipc_files.proofs.FileFooters.{footer_refused, meta_said}
use Rattle.ipc_files.proofs.metadata.read_file_schema.Goals as goal

abbrev view : FooterBytes → List ℕ
view f = f.bytes.items

pub returns-in_err-footer-clause-gives : goal.returns-in_err-footer-clause-gives
returns-in_err-footer-clause-gives g c =
    let e : c.from_residual.result ≡ Err c.in_err-footer.field-0.0 = is_err _ _ _ c.from_residual.ensures.0 c.from_residual.ensures.1 (λ f h. h) in
    footer_refused (g.S.Source.content c.args.source.now) view meta_view c.from_residual.result c.in_err-footer.field-0.0 e c.in_err-footer.ensures.footer

pub returns-clause-gives : goal.returns-clause-gives
returns-clause-gives g c = meta_said (g.S.Source.content c.args.source.now) view c.in_ok-footer.footer meta_view c.metadata_in.result c.in_ok-footer.ensures.footer c.metadata_in.ensures.gives

pub returns-clause-cause : goal.returns-clause-cause
returns-clause-cause g c = bytes_cause meta_view c.metadata_in.result _ _ _ c.metadata_in.ensures.gives
