use Rattle.ipc_words.specs.Views.{stream_view}
use Rattle.ipc_tool.proofs.Adding.{IfErr-at, raw_refused, hex_refused, line_feed_refused, stream_cause, stream_status}
use Rattle.ipc_tool.proofs.commands.stream.StreamPutsFile.put.Goals as goal

pub returns-in_err-transcode_asked-clause-left : goal.returns-in_err-transcode_asked-clause-left
returns-in_err-transcode_asked-clause-left g c =
    rw c.if-self.true (IfErr-at _ _ _ c.from_residual.ensures.1 (raw_refused _ _ _ (g.S.Source.content c.args.source.now) _ _ _ c.in_err-transcode_asked.ensures.part))

pub returns-in_err-transcode_asked-clause-cause : goal.returns-in_err-transcode_asked-clause-cause
returns-in_err-transcode_asked-clause-cause g c =
    IfErr-at _ _ _ c.from_residual.ensures.1 (stream_cause (stream_view c.args.self.now) _ _ _ _ _ _ c.in_err-transcode_asked.ensures.cause)

pub returns-in_err-transcode_asked-clause-statuses : goal.returns-in_err-transcode_asked-clause-statuses
returns-in_err-transcode_asked-clause-statuses g c =
    IfErr-at _ _ _ c.from_residual.ensures.1 (stream_status (stream_view c.args.self.now) _ _ _ _ _ _ c.in_err-transcode_asked.ensures.cause)

pub returns-in_err-transcode_asked-2-clause-left : goal.returns-in_err-transcode_asked-2-clause-left
returns-in_err-transcode_asked-2-clause-left g c =
    rw c.if-self.false (IfErr-at _ _ _ c.from_residual-in_err-transcode_asked-2.ensures.1 (hex_refused _ _ _ (g.S.Source.content c.args.source.now) _ _ _ c.in_err-transcode_asked-2.ensures.part))

pub returns-in_err-transcode_asked-2-clause-cause : goal.returns-in_err-transcode_asked-2-clause-cause
returns-in_err-transcode_asked-2-clause-cause g c =
    IfErr-at _ _ _ c.from_residual-in_err-transcode_asked-2.ensures.1 (stream_cause (stream_view c.args.self.now) _ _ _ _ _ _ c.in_err-transcode_asked-2.ensures.cause)

pub returns-in_err-transcode_asked-2-clause-statuses : goal.returns-in_err-transcode_asked-2-clause-statuses
returns-in_err-transcode_asked-2-clause-statuses g c =
    IfErr-at _ _ _ c.from_residual-in_err-transcode_asked-2.ensures.1 (stream_status (stream_view c.args.self.now) _ _ _ _ _ _ c.in_err-transcode_asked-2.ensures.cause)

pub returns-in_err-put-clause-left : goal.returns-in_err-put-clause-left
returns-in_err-put-clause-left g c =
    rw c.if-self.false (IfErr-at _ _ _ c.from_residual-in_err-put.ensures.1 (line_feed_refused _ _ _ _ _ _ _ (g.S.Source.content c.args.source.now) _ _ _ _ c.in_ok-transcode_asked-2.ensures.sink.wants c.in_err-put.ensures.cause c.in_ok-transcode_asked-2.ensures.whole c.in_err-put.ensures.bytes))
