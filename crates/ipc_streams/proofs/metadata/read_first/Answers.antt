use Rattle.std.proofs.Common.{◌≡◌, Err}
use Rattle.ipc_files.proofs.Errors.{is_err}
use Rattle.ipc_streams.proofs.ReadStarts.{first_awaited, first_ended, first_found, first_refused}
use Rattle.ipc_streams.proofs.metadata.read_first.Goals as goal

pub returns-in_err-frame-clause-gives : goal.returns-in_err-frame-clause-gives
returns-in_err-frame-clause-gives g c =
    let x = c.in_err-frame.field-0.0 in
    let e : c.from_residual.result ≡ Err x = is_err _ _ _ c.from_residual.ensures.0 c.from_residual.ensures.1 (λ f h. h) in
    first_refused (g.F.Feed.rest c.args.feed.now) _ c.from_residual.result x e c.in_err-frame.ensures.gives

pub returns-in-Message-clause-gives : goal.returns-in-Message-clause-gives
returns-in-Message-clause-gives g c = first_found (g.F.Feed.rest c.args.feed.now) _ c.in_ok-frame.frame c.in-Message.bytes c.in-Message.is c.in_ok-frame.ensures.gives

pub returns-in-Waiting-clause-gives : goal.returns-in-Waiting-clause-gives
returns-in-Waiting-clause-gives g c = first_awaited (g.F.Feed.rest c.args.feed.now) _ c.in_ok-frame.frame c.in-Waiting.is c.in_ok-frame.ensures.gives

pub returns-in-Ended-clause-gives : goal.returns-in-Ended-clause-gives
returns-in-Ended-clause-gives g c = first_ended (g.F.Feed.rest c.args.feed.now) _ c.in_ok-frame.frame c.in-Ended.is c.in_ok-frame.ensures.gives
