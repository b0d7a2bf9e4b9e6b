use Rattle.std.proofs.Common.{◌≡◌, Err}
use Rattle.ipc_files.proofs.Errors.{is_err}
use Rattle.ipc_streams.proofs.ReadStarts.{start_cut, start_not_found, start_read, start_refused}
use Rattle.ipc_streams.proofs.metadata.read_stream_metadata.Goals as goal

pub returns-in_err-bytes-clause-gives : goal.returns-in_err-bytes-clause-gives
returns-in_err-bytes-clause-gives g c =
    let x = c.in_err-bytes.field-0.0 in
    let e : c.from_residual.result ≡ Err x = is_err _ _ _ c.from_residual.ensures.0 c.from_residual.ensures.1 (λ f h. h) in
    start_not_found (g.F.Feed.rest c.args.feed.now) _ _ c.from_residual.result x e c.in_err-bytes.ensures.gives

pub returns-in_err-beginning-clause-gives : goal.returns-in_err-beginning-clause-gives
returns-in_err-beginning-clause-gives g c =
    let x = c.in_err-beginning.field-0.0 in
    let e : c.from_residual-in_err-beginning.result ≡ Err x = is_err _ _ _ c.from_residual-in_err-beginning.ensures.0 c.from_residual-in_err-beginning.ensures.1 (λ f h. h) in
    start_refused (g.F.Feed.rest c.args.feed.now) _ _ c.in_ok-bytes.bytes c.deref.result.now c.from_residual-in_err-beginning.result x e c.in_ok-bytes.ensures.gives c.deref.ensures.value c.in_err-beginning.ensures.gives

pub returns-in_err-read_body-clause-gives : goal.returns-in_err-read_body-clause-gives
returns-in_err-read_body-clause-gives g c =
    let x = c.in_err-read_body.field-0.0 in
    let e : c.from_residual-in_err-read_body.result ≡ Err x = is_err _ _ _ c.from_residual-in_err-read_body.ensures.0 c.from_residual-in_err-read_body.ensures.1 (λ f h. h) in
    start_cut (g.F.Feed.rest c.args.feed.now) _ _ c.in_ok-bytes.bytes c.deref.result.now c.in_ok-beginning.beginning c.from_residual-in_err-read_body.result x e c.in_ok-bytes.ensures.gives c.deref.ensures.value c.in_ok-beginning.ensures.gives c.in_err-read_body.ensures.gives

pub returns-clause-gives : goal.returns-clause-gives
returns-clause-gives g c =
    start_read (g.F.Feed.rest c.args.feed.now) _ _ c.in_ok-bytes.bytes c.deref.result.now c.in_ok-beginning.beginning c.in_ok-read_body.field-0 c.in_ok-bytes.ensures.gives c.deref.ensures.value c.in_ok-beginning.ensures.gives c.in_ok-read_body.ensures.gives
