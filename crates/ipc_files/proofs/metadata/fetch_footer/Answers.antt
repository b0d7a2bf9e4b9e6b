use Rattle.std.proofs.Common.{◌≡◌, ℕ, List, Vec, Global, Err, arith}
use Rattle.ipc_files.proofs.Errors.{is_err}
use Rattle.ipc_files.proofs.PlainRefusals.{end_plain, plain_handed}
use Rattle.ipc_files.proofs.FileFooters.{footer_fetched, length_refused, same_reading}
use Rattle.ipc_files.proofs.FetchedFiles.{footer_whole}
use Rattle.ipc_files.proofs.metadata.fetch_footer.Goals as goal

abbrev view : Vec ℕ Global → List ℕ
view v = v.items

pub returns-in_err-length-clause-footer : goal.returns-in_err-length-clause-footer
returns-in_err-length-clause-footer g c =
    let e : c.from_residual-in_err-length.result ≡ Err c.in_err-length.field-0.0 = is_err _ _ _ c.from_residual-in_err-length.ensures.0 c.from_residual-in_err-length.ensures.1 (λ f h. h) in
    same_reading (g.S.Source.content c.args.source.now) view c.from_residual-in_err-length.result c.in_err-length.field-0.0 e
    (length_refused (g.S.Source.content c.args.source.now) c.args.size c.in_ok-end.end.items c.deref.result.now view c.in_err-length.field-0.0 c.requires c.if-size-lt10.false c.in_ok-end.ensures.bytes c.deref.ensures.value c.in_err-length.ensures.footer)

pub returns-clause-footer : goal.returns-clause-footer
returns-clause-footer g c =
    footer_fetched (g.S.Source.content c.args.source.now) _ c.args.size c.in_ok-end.end.items c.deref.result.now view c.in_ok-length.length c.in_ok-bytes.bytes
    c.requires c.if-size-lt10.false c.in_ok-end.ensures.bytes c.deref.ensures.value c.in_ok-length.ensures.footer c.in_ok-end.ensures.kept.content c.in_ok-bytes.ensures.bytes

pub returns-in_err-bytes-clause-fetched : goal.returns-in_err-bytes-clause-fetched
returns-in_err-bytes-clause-fetched g c =
    footer_whole (g.S.Source.content c.args.source.now) c.args.size c.in_ok-end.end.items c.deref.result.now c.in_ok-length.length _ _
    c.requires c.if-size-lt10.false c.in_ok-end.ensures.bytes c.deref.ensures.value c.in_ok-length.ensures.footer c.in_ok-length.ensures.within (omega (arith, c.in_ok-end.ensures.fetched, c.in_err-bytes.ensures.fetched))

pub returns-clause-fetched : goal.returns-clause-fetched
returns-clause-fetched g c =
    footer_whole (g.S.Source.content c.args.source.now) c.args.size c.in_ok-end.end.items c.deref.result.now c.in_ok-length.length _ _
    c.requires c.if-size-lt10.false c.in_ok-end.ensures.bytes c.deref.ensures.value c.in_ok-length.ensures.footer c.in_ok-length.ensures.within (omega (arith, c.in_ok-end.ensures.fetched, c.in_ok-bytes.ensures.fetched))

pub returns-in_err-length-clause-cause : goal.returns-in_err-length-clause-cause
returns-in_err-length-clause-cause g c =
    let e : c.from_residual-in_err-length.result ≡ Err c.in_err-length.field-0.0 = is_err _ _ _ c.from_residual-in_err-length.ensures.0 c.from_residual-in_err-length.ensures.1 (λ f h. h) in
    plain_handed c.from_residual-in_err-length.result c.in_err-length.field-0.0 _ _ _ e (end_plain _ _) c.in_err-length.ensures.gives
