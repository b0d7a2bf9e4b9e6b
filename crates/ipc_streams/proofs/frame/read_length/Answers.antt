use Rattle.std.proofs.Common.{◌≡◌, Err, false, rules, subst, true}
use Rattle.arrow_spec.specs.Messages.{is_mark}
use Rattle.ipc_fields.specs.Causes.{Decodes}
use Rattle.ipc_streams.specs.Frames.{stated_length}
use Rattle.ipc_files.proofs.Errors.{is_err}
use Rattle.ipc_streams.proofs.Fronts.{marked_length, no_length, plain_length}
use Rattle.ipc_streams.proofs.Pulled.{pull_refuses}
use Rattle.ipc_streams.proofs.frame.read_length.Goals as goal

pub returns-then-not-is_continuation-clause-gives : goal.returns-then-not-is_continuation-clause-gives
returns-then-not-is_continuation-clause-gives g c =
    let plain : is_mark c.args.front.now ≡ false = search rules in
    plain_length c.args.front.now (g.F.Feed.rest c.args.feed.now) c.length_in.result plain c.length_in.ensures.gives

pub returns-in_err-four-clause-gives : goal.returns-in_err-four-clause-gives
returns-in_err-four-clause-gives g c =
    let x = c.in_err-four.field-0.0 in
    let e : c.from_residual.result ≡ Err x = is_err _ _ _ c.from_residual.ensures.0 c.from_residual.ensures.1 (λ f h. h) in
    no_length c.args.front.now (g.F.Feed.rest c.args.feed.now) _ c.from_residual.result x e (λ es. pull_refuses x es _ _ c.in_err-four.ensures.cause)

pub returns-clause-gives : goal.returns-clause-gives
returns-clause-gives g c =
    let marked : is_mark c.args.front.now ≡ true = search rules in
    marked_length c.args.front.now c.in_ok-four.four.items (g.F.Feed.rest c.args.feed.now) _ _ marked c.in_ok-four.ensures.taken
    (subst (λ t. Decodes (λ n. n) c.length_in-2.result (stated_length t)) c.deref.ensures.value c.length_in-2.ensures.gives)
