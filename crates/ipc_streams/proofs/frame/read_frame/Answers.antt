use Rattle.std.proofs.Common.{◌≡◌, ◌<◌, ◌≤◌, Err, arith, length}
use Rattle.ipc_files.proofs.Errors.{is_err}
use Rattle.ipc_streams.proofs.Fronts.{front_cut, front_ends, front_not_read, front_refused, front_waits, front_whole, not_zero}
use Rattle.ipc_streams.proofs.Pulled.{pull_refuses}
use Rattle.ipc_streams.proofs.frame.read_frame.Goals as goal

pub returns-in_err-front-clause-gives : goal.returns-in_err-front-clause-gives
returns-in_err-front-clause-gives g c =
    let x = c.in_err-front.field-0.0 in
    let e : c.from_residual.result ≡ Err x = is_err _ _ _ c.from_residual.ensures.0 c.from_residual.ensures.1 (λ f h. h) in
    front_not_read (g.F.Feed.rest c.args.feed.now) _ c.from_residual.result x e (λ es. pull_refuses x es _ _ c.in_err-front.ensures.cause)

pub returns-then-len-lt4-clause-gives : goal.returns-then-len-lt4-clause-gives
returns-then-len-lt4-clause-gives g c = front_waits (g.F.Feed.rest c.args.feed.now) _ c.in_ok-front.front.items c.in_ok-front.ensures.taken (omega arith)

pub returns-in_err-length-clause-gives : goal.returns-in_err-length-clause-gives
returns-in_err-length-clause-gives g c =
    let x = c.in_err-length.field-0.0 in
    let e : c.from_residual-in_err-length.result ≡ Err x = is_err _ _ _ c.from_residual-in_err-length.ensures.0 c.from_residual-in_err-length.ensures.1 (λ f h. h) in
    let long : 4 ≤ length c.in_ok-front.front.items = omega arith in
    front_refused (g.F.Feed.rest c.args.feed.now) _ _ c.in_ok-front.front.items c.deref.result.now c.from_residual-in_err-length.result x c.deref.ensures.value e c.in_ok-front.ensures.taken long c.in_err-length.ensures.gives

pub returns-then-length-eq0-clause-gives : goal.returns-then-length-eq0-clause-gives
returns-then-length-eq0-clause-gives g c =
    let long : 4 ≤ length c.in_ok-front.front.items = omega arith in
    front_ends (g.F.Feed.rest c.args.feed.now) _ _ c.in_ok-front.front.items c.deref.result.now c.in_ok-length.length c.deref.ensures.value c.in_ok-front.ensures.taken long c.in_ok-length.ensures.gives c.if-length-eq0.true

pub returns-in_err-metadata-clause-gives : goal.returns-in_err-metadata-clause-gives
returns-in_err-metadata-clause-gives g c =
    let x = c.in_err-metadata.field-0.0 in
    let e : c.from_residual-in_err-metadata.result ≡ Err x = is_err _ _ _ c.from_residual-in_err-metadata.ensures.0 c.from_residual-in_err-metadata.ensures.1 (λ f h. h) in
    front_not_read (g.F.Feed.rest c.args.feed.now) _ c.from_residual-in_err-metadata.result x e (λ es. pull_refuses x es _ _ c.in_err-metadata.ensures.cause)

pub returns-then-len-length-clause-gives : goal.returns-then-len-length-clause-gives
returns-then-len-length-clause-gives g c =
    let long : 4 ≤ length c.in_ok-front.front.items = omega arith in
    let short : length c.in_ok-metadata.metadata.items < c.in_ok-length.length = omega arith in
    front_cut (g.F.Feed.rest c.args.feed.now) _ _ _ c.in_ok-front.front.items c.deref.result.now c.in_ok-length.length c.in_ok-metadata.metadata.items c.deref.ensures.value c.in_ok-front.ensures.taken long c.in_ok-length.ensures.gives (not_zero c.in_ok-length.length c.if-length-eq0.false) c.in_ok-metadata.ensures.taken short

pub returns-clause-gives : goal.returns-clause-gives
returns-clause-gives g c =
    let long : 4 ≤ length c.in_ok-front.front.items = omega arith in
    let whole : c.in_ok-length.length ≤ length c.in_ok-metadata.metadata.items = omega arith in
    front_whole (g.F.Feed.rest c.args.feed.now) _ _ _ c.in_ok-front.front.items c.deref.result.now c.in_ok-length.length c.in_ok-metadata.metadata c.deref.ensures.value c.in_ok-front.ensures.taken long c.in_ok-length.ensures.gives (not_zero c.in_ok-length.length c.if-length-eq0.false) c.in_ok-metadata.ensures.taken whole
