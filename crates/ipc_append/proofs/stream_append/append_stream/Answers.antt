use Rattle.std.proofs.Common.{◌∙◌, refl, rules}
use Rattle.ipc_append.proofs.AppendSteps.{appended_at, not_appended_at}
use Rattle.ipc_append.proofs.Refused.{refusal_says, says_handed, says_not_prepared}
use Rattle.ipc_append.proofs.stream_append.append_stream.Goals as goal

pub returns-in_err-prepared-clause-says : goal.returns-in_err-prepared-clause-says
returns-in_err-prepared-clause-says g c = says_handed c.from_residual.result c.in_err-prepared.field-0.0 _ _ _ _ _ _ c.from_residual.ensures.1 (search rules) (says_not_prepared _ _ _ _ _ _ c.in_err-prepared.ensures.refused)

pub returns-in-Ok-clause-appended : goal.returns-in-Ok-clause-appended
returns-in-Ok-clause-appended g c = (
  c.len.ensures ∙ c.args.stream.now.batches.ok.0,
  appended_at _ _ (g.D.Source.content c.in-Ok.field-0.now) _ c.args.options c.args.stream.now c.in_ok-prepared.prepared.file c.in_ok-prepared.prepared.chunks.items c.in_ok-prepared.ensures.kept.content c.in_ok-prepared.ensures.prepared (search rules) c.in-Ok.ensures.written,
)

pub returns-in-Err-clause-refused : goal.returns-in-Err-clause-refused
returns-in-Err-clause-refused g c =
    not_appended_at _ _ (g.D.Source.content c.in-Err.refused.object.now) _ c.args.options c.args.stream.now c.in_ok-prepared.prepared.file c.in_ok-prepared.prepared.chunks.items c.in-Err.refused.error _ _ (g.D.Source.faults c.in-Err.refused.object.now) _ c.in_ok-prepared.ensures.kept.content
    c.in_ok-prepared.ensures.prepared (search rules) (search rules) c.in_ok-prepared.ensures.kept.faults c.in-Err.ensures.stops

pub returns-in-Err-clause-says : goal.returns-in-Err-clause-says
returns-in-Err-clause-says g c =
    refusal_says _ c.args.options c.args.stream.now _ _ (g.D.Source.content c.in-Err.refused.object.now) c.in-Err.refused.error
    (not_appended_at _ _ (g.D.Source.content c.in-Err.refused.object.now) (g.D.Source.content c.in-Err.refused.object.now) c.args.options c.args.stream.now c.in_ok-prepared.prepared.file c.in_ok-prepared.prepared.chunks.items c.in-Err.refused.error _ _ (g.D.Source.faults c.in-Err.refused.object.now) _ c.in_ok-prepared.ensures.kept.content
    c.in_ok-prepared.ensures.prepared refl (search rules) c.in_ok-prepared.ensures.kept.faults c.in-Err.ensures.stops)
