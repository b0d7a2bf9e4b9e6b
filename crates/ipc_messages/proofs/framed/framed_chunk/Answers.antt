use Rattle.std.proofs.Common.{◌++◌, ◌∷◌, []}
use Rattle.ipc_dictionaries.proofs.PartSteps.{handed}
use Rattle.ipc_messages.specs.Framed.{FramesEach}
use Rattle.ipc_messages.proofs.Framing.{framed_more, refused_before, refused_behind}
use Rattle.ipc_messages.proofs.framed.framed_chunk.Goals as goal

pub returns-in_err-each : goal.returns-in_err-each
returns-in_err-each c =
    let e = c.in_err-each.field-0.0 in
    handed (λ r. FramesEach r c.args.limit (c.args.dictionaries.now ++ c.args.batch.now ∷ [])) c.from_residual.result e c.from_residual.ensures.1
    (refused_before e c.args.limit c.args.dictionaries.now c.args.batch.now c.in_err-each.ensures)

pub returns-in_err-framed : goal.returns-in_err-framed
returns-in_err-framed c =
    let e = c.in_err-framed.field-0.0 in
    handed (λ r. FramesEach r c.args.limit (c.args.dictionaries.now ++ c.args.batch.now ∷ [])) c.from_residual-in_err-framed.result e c.from_residual-in_err-framed.ensures.1
    (refused_behind e c.args.limit c.args.dictionaries.now c.in_ok-each.each.items c.args.batch.now c.in_ok-each.ensures c.in_err-framed.ensures)

pub returns : goal.returns
returns c =
    framed_more c.args.limit c.args.dictionaries.now c.in_ok-each.each.items c.push.new.self.items c.args.batch.now c.in_ok-framed.field-0 c.in_ok-each.ensures c.in_ok-framed.ensures c.in_ok-push.ensures.items
