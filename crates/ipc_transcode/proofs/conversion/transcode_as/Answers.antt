use Rattle.laws_walk.specs.Below.{columns_of}
use Rattle.ipc_reader.specs.Below.{asked}
use Rattle.ipc_transcode.proofs.Asking.{cause_of, part_of, whole_of}
use Rattle.ipc_transcode.proofs.Refusing.{complete_by_cause}
use Rattle.ipc_transcode.proofs.conversion.transcode_as.Goals as goal

pub returns-clause-whole : goal.returns-clause-whole
returns-clause-whole g c = whole_of (asked (columns_of c.args.columns) c.args.limit) c.args.encoding _ _ _ _ c.send_file.result (g.S.Source.content c.args.source.now) c.send_file.ensures.sends

pub returns-clause-cause : goal.returns-clause-cause
returns-clause-cause g c = cause_of (asked (columns_of c.args.columns) c.args.limit) c.args.encoding _ _ _ _ c.send_file.result (g.S.Source.content c.args.source.now) _ _ _ _ c.send_file.ensures.sends c.send_file.ensures.cause

pub returns-clause-part : goal.returns-clause-part
returns-clause-part g c = part_of (asked (columns_of c.args.columns) c.args.limit) c.args.encoding _ _ _ _ c.send_file.result (g.S.Source.content c.args.source.now) c.send_file.ensures.sends

pub returns-clause-complete : goal.returns-clause-complete
returns-clause-complete g c =
    let r = asked (columns_of c.args.columns) c.args.limit in
    complete_by_cause c.send_file.result (g.S.Source.content c.args.source.now) r _ _ _ _ (cause_of r c.args.encoding _ _ _ _ c.send_file.result (g.S.Source.content c.args.source.now) _ _ _ _ c.send_file.ensures.sends c.send_file.ensures.cause)
