use Rattle.std.proofs.Common.{◌∙◌}
use Rattle.ipc_tool.proofs.Adding.{IfErr-at}
use Rattle.ipc_tool.proofs.FileTexts.{schema_refused, text_made}
use Rattle.ipc_tool.proofs.commands.schema.schema_text_in.Goals as goal

pub returns-in_err-file-clause-cause : goal.returns-in_err-file-clause-cause
returns-in_err-file-clause-cause g c =
    IfErr-at c.from_residual.result _ c.in_err-file.field-0.0 c.from_residual.ensures.1 (schema_refused c.in_err-file.field-0.0 (g.S.Source.content c.args.source.now) _ _ c.in_err-file.ensures.gives c.in_err-file.ensures.cause)

pub returns-clause-said : goal.returns-clause-said
returns-clause-said g c =
    text_made (g.S.Source.content c.args.source.now) c.in_ok-file.file c.deref.result.now _ _ c.in_ok-file.ensures.gives c.deref.ensures c.metadata_of.ensures c.in_ok-text.ensures
