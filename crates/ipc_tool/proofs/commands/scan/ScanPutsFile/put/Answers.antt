use Rattle.ipc_words.specs.Views.{scan_view}
use Rattle.ipc_tool.proofs.Adding.{IfErr-at}
use Rattle.ipc_tool.proofs.ScanPuts.{hex_refused, line_feed_refused, raw_refused, scan_cause, scan_status}
use Rattle.ipc_tool.proofs.commands.scan.ScanPutsFile.put.Goals as goal

pub returns-in_err-put_scan-clause-left : goal.returns-in_err-put_scan-clause-left
returns-in_err-put_scan-clause-left g c =
    rw c.if-self.true (IfErr-at _ _ _ c.from_residual.ensures.1 (raw_refused _ _ _ (g.S.Source.content c.args.source.now) _ _ _ c.in_err-put_scan.ensures.part))

pub returns-in_err-put_scan-clause-cause : goal.returns-in_err-put_scan-clause-cause
returns-in_err-put_scan-clause-cause g c =
    IfErr-at _ _ _ c.from_residual.ensures.1 (scan_cause (scan_view c.args.self.now) _ _ _ _ _ _ c.in_err-put_scan.ensures.cause)

pub returns-in_err-put_scan-clause-statuses : goal.returns-in_err-put_scan-clause-statuses
returns-in_err-put_scan-clause-statuses g c =
    IfErr-at _ _ _ c.from_residual.ensures.1 (scan_status (scan_view c.args.self.now) _ _ _ _ _ _ c.in_err-put_scan.ensures.cause)

pub returns-in_err-put_scan-2-clause-left : goal.returns-in_err-put_scan-2-clause-left
returns-in_err-put_scan-2-clause-left g c =
    rw c.if-self.false (IfErr-at _ _ _ c.from_residual-in_err-put_scan-2.ensures.1 (hex_refused _ _ _ (g.S.Source.content c.args.source.now) _ _ _ c.in_err-put_scan-2.ensures.part))

pub returns-in_err-put_scan-2-clause-cause : goal.returns-in_err-put_scan-2-clause-cause
returns-in_err-put_scan-2-clause-cause g c =
    IfErr-at _ _ _ c.from_residual-in_err-put_scan-2.ensures.1 (scan_cause (scan_view c.args.self.now) _ _ _ _ _ _ c.in_err-put_scan-2.ensures.cause)

pub returns-in_err-put_scan-2-clause-statuses : goal.returns-in_err-put_scan-2-clause-statuses
returns-in_err-put_scan-2-clause-statuses g c =
    IfErr-at _ _ _ c.from_residual-in_err-put_scan-2.ensures.1 (scan_status (scan_view c.args.self.now) _ _ _ _ _ _ c.in_err-put_scan-2.ensures.cause)

pub returns-in_err-put-clause-left : goal.returns-in_err-put-clause-left
returns-in_err-put-clause-left g c =
    rw c.if-self.false (IfErr-at _ _ _ c.from_residual-in_err-put.ensures.1 (line_feed_refused _ _ _ _ _ _ _ (g.S.Source.content c.args.source.now) _ _ _ _ c.in_ok-put_scan-2.ensures.sink.wants c.in_err-put.ensures.cause c.in_ok-put_scan-2.ensures.whole c.in_err-put.ensures.bytes))
