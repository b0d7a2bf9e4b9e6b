use Rattle.ipc_dictionaries.proofs.PartSteps.{handed}
use Rattle.ipc_messages.specs.Framed.{FramesEach}
use Rattle.ipc_messages.proofs.Framing.{left_more, left_refused}
use Rattle.ipc_messages.proofs.framed.framed_each.Goals as goal

pub returns-in_err-framed : goal.returns-in_err-framed
returns-in_err-framed c =
    let e = c.in_err-framed.field-0.0 in
    handed (λ r. FramesEach r c.args.limit c.args.messages.now) c.from_residual.result e c.from_residual.ensures.1
    (left_refused e c.args.limit c.loop-encoded.each.items c.args.messages.now c.loop-encoded.encoded-index c.encoded-item.result c.loop-encoded-test.true c.encoded-item.is c.in_err-framed.ensures c.loop-encoded.invariant)

pub loop-encoded-preserved : goal.loop-encoded-preserved
loop-encoded-preserved c =
    left_more c.args.limit c.loop-encoded.each.items c.push.new.self.items c.args.messages.now c.loop-encoded.encoded-index c.encoded-item.result c.in_ok-framed.field-0 c.loop-encoded-test.true c.encoded-item.is
    c.in_ok-framed.ensures c.in_ok-push.ensures.items c.loop-encoded.invariant
