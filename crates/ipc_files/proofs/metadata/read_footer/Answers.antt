use Rattle.std.proofs.Common.{◌≡◌, List, ℕ, Vec, Global, Err, refl}
use Rattle.ipc_files.specs.declared.metadata.FooterBytes.{FooterBytes}
use Rattle.ipc_files.proofs.Errors.{is_err}
use Rattle.ipc_files.proofs.FileFooters.{footer_kept, footer_lost}
use Rattle.ipc_files.proofs.metadata.read_footer.Goals as goal

abbrev items : Vec ℕ Global → List ℕ
items v = v.items

abbrev view : FooterBytes → List ℕ
view f = f.bytes.items

pub returns-in_err-bytes-clause-footer : goal.returns-in_err-bytes-clause-footer
returns-in_err-bytes-clause-footer g c =
    let e : c.from_residual-in_err-bytes.result ≡ Err c.in_err-bytes.field-0.0 = is_err _ _ _ c.from_residual-in_err-bytes.ensures.0 c.from_residual-in_err-bytes.ensures.1 (λ f h. h) in
    footer_lost (g.S.Source.content c.args.source.now) _ items view c.from_residual-in_err-bytes.result c.in_err-bytes.field-0.0 e c.in_ok-size.ensures.content c.in_err-bytes.ensures.footer

pub returns-clause-footer : goal.returns-clause-footer
returns-clause-footer g c =
    let read : FooterBytes = record { bytes = c.in_ok-bytes.bytes; size = c.in_ok-size.size } in
    footer_kept (g.S.Source.content c.args.source.now) _ items c.in_ok-bytes.bytes view read refl c.in_ok-size.ensures.content c.in_ok-bytes.ensures.footer
