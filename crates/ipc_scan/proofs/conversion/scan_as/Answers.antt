use Rattle.laws_scan.specs.Scans.{scanned}
use Rattle.laws_walk.specs.Below.{columns_of}
use Rattle.ipc_scan.proofs.ScanCauses.{cause_of, complete_by_cause, part_of, whole_of}
use Rattle.ipc_scan.proofs.conversion.scan_as.Goals as goal

pub returns-clause-whole : goal.returns-clause-whole
returns-clause-whole g c = whole_of (scanned c.args.filter (columns_of c.args.columns)) c.args.encoding _ _ _ _ c.scan_file.result (g.S.Source.content c.args.source.now) c.scan_file.ensures.sends

pub returns-clause-cause : goal.returns-clause-cause
returns-clause-cause g c = cause_of (scanned c.args.filter (columns_of c.args.columns)) c.args.encoding _ _ _ _ c.scan_file.result (g.S.Source.content c.args.source.now) _ _ _ _ c.scan_file.ensures.sends c.scan_file.ensures.cause

pub returns-clause-part : goal.returns-clause-part
returns-clause-part g c = part_of (scanned c.args.filter (columns_of c.args.columns)) c.args.encoding _ _ _ _ c.scan_file.result (g.S.Source.content c.args.source.now) c.scan_file.ensures.sends

pub returns-clause-complete : goal.returns-clause-complete
returns-clause-complete g c =
    let q = scanned c.args.filter (columns_of c.args.columns) in
    complete_by_cause c.scan_file.result (g.S.Source.content c.args.source.now) q _ _ _ _ (cause_of q c.args.encoding _ _ _ _ c.scan_file.result (g.S.Source.content c.args.source.now) _ _ _ _ c.scan_file.ensures.sends c.scan_file.ensures.cause)
