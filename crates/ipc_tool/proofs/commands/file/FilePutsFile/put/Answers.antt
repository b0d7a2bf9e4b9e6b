use Rattle.ipc_words.specs.Views.{file_view}
use Rattle.ipc_tool.proofs.Adding.{IfErr-at}
use Rattle.ipc_tool.proofs.FileSteps.{file_put_cause, file_rare, file_status, hex_added, line_left, raw_added}
use Rattle.ipc_tool.proofs.commands.file.FilePutsFile.put.Goals as goal

pub returns-in_err-put_file-clause-left : goal.returns-in_err-put_file-clause-left
returns-in_err-put_file-clause-left g c = IfErr-at _ _ _ c.from_residual.ensures.1 c.in_err-put_file.ensures.leaves

pub returns-in_err-put_file-clause-cause : goal.returns-in_err-put_file-clause-cause
returns-in_err-put_file-clause-cause g c = IfErr-at _ _ _ c.from_residual.ensures.1 (file_put_cause (file_view c.args.self.now) _ _ _ _ _ _ c.in_err-put_file.ensures.cause c.in_err-put_file.ensures.refused)

pub returns-in_err-put_file-clause-statuses : goal.returns-in_err-put_file-clause-statuses
returns-in_err-put_file-clause-statuses g c = IfErr-at _ _ _ c.from_residual.ensures.1 (file_status (file_view c.args.self.now) _ _ _ _ _ c.in_err-put_file.ensures.cause)

pub returns-in_err-put_file-clause-complete : goal.returns-in_err-put_file-clause-complete
returns-in_err-put_file-clause-complete g c = file_rare (file_view c.args.self.now) c.from_residual.result _ (g.S.Source.content c.args.source.now) _ _ _ _ c.from_residual.ensures.1 c.in_err-put_file.ensures.complete

pub returns-then-self-clause-done : goal.returns-then-self-clause-done
returns-then-self-clause-done g c = rw c.if-self.true (raw_added c.in_ok-put_file.field-0 (g.S.Source.content c.args.source.now) _ _ c.in_ok-put_file.ensures.whole)

pub returns-in_err-put_file-2-clause-left : goal.returns-in_err-put_file-2-clause-left
returns-in_err-put_file-2-clause-left g c = IfErr-at _ _ _ c.from_residual-in_err-put_file-2.ensures.1 c.in_err-put_file-2.ensures.leaves

pub returns-in_err-put_file-2-clause-cause : goal.returns-in_err-put_file-2-clause-cause
returns-in_err-put_file-2-clause-cause g c = IfErr-at _ _ _ c.from_residual-in_err-put_file-2.ensures.1 (file_put_cause (file_view c.args.self.now) _ _ _ _ _ _ c.in_err-put_file-2.ensures.cause c.in_err-put_file-2.ensures.refused)

pub returns-in_err-put_file-2-clause-statuses : goal.returns-in_err-put_file-2-clause-statuses
returns-in_err-put_file-2-clause-statuses g c = IfErr-at _ _ _ c.from_residual-in_err-put_file-2.ensures.1 (file_status (file_view c.args.self.now) _ _ _ _ _ c.in_err-put_file-2.ensures.cause)

pub returns-in_err-put_file-2-clause-complete : goal.returns-in_err-put_file-2-clause-complete
returns-in_err-put_file-2-clause-complete g c = file_rare (file_view c.args.self.now) c.from_residual-in_err-put_file-2.result _ (g.S.Source.content c.args.source.now) _ _ _ _ c.from_residual-in_err-put_file-2.ensures.1 c.in_err-put_file-2.ensures.complete

pub returns-in_err-put-clause-left : goal.returns-in_err-put-clause-left
returns-in_err-put-clause-left g c = IfErr-at _ _ _ c.from_residual-in_err-put.ensures.1 (line_left _ _ _)

pub returns-clause-done : goal.returns-clause-done
returns-clause-done g c = rw c.if-self.false (hex_added _ (g.S.Source.content c.args.source.now) _ _ _ c.in_ok-put_file-2.ensures.whole c.in_ok-put.ensures.bytes)
