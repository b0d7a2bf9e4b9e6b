use Rattle.arrow_spec.specs.SchemaText.{schema_text_of}
use Rattle.ipc_tool.proofs.Adding.{IfErr-at}
use Rattle.ipc_tool.proofs.FileTexts.{same_text, text_put, text_not_put}
use Rattle.ipc_tool.proofs.commands.schema.SchemaTextPutsFile.put.Goals as goal

pub returns-in_err-put-clause-left : goal.returns-in_err-put-clause-left
returns-in_err-put-clause-left g c =
    let content = g.S.Source.content c.args.source.now in
    let said = same_text schema_text_of content c.in_ok-text.text.items c.deref.result.now c.in_ok-text.ensures.said c.deref.ensures.value in
    IfErr-at c.from_residual-in_err-put.result _ _ c.from_residual-in_err-put.ensures.1 (text_not_put schema_text_of c.in_err-put.field-0.0 content (g.W.Sink.written c.args.sink.now) _ c.deref.result.now said c.in_err-put.ensures.bytes)

pub returns-clause-done : goal.returns-clause-done
returns-clause-done g c =
    let content = g.S.Source.content c.args.source.now in
    let said = same_text schema_text_of content c.in_ok-text.text.items c.deref.result.now c.in_ok-text.ensures.said c.deref.ensures.value in
    text_put schema_text_of content (g.W.Sink.written c.args.sink.now) (g.W.Sink.written c.put.new.self) c.deref.result.now said c.in_ok-put.ensures.bytes
