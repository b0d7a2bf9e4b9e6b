use Rattle.std.proofs.Common.{◌∙◌, SFits, ap, rules, w64}
use Rattle.std.proofs.lemmas.Int.{to_z-of_z}
use Rattle.ipc_tool.specs.Commands.Rows.{row_count_text}
use Rattle.ipc_tool.proofs.Adding.{IfErr-at}
use Rattle.ipc_tool.proofs.FileTexts.{rows_made, rows_refused}
use Rattle.ipc_tool.proofs.commands.rows.rows_text_in.Goals as goal

pub returns-in_err-rows-clause-cause : goal.returns-in_err-rows-clause-cause
returns-in_err-rows-clause-cause g c =
    IfErr-at c.from_residual.result _ c.in_err-rows.field-0.0 c.from_residual.ensures.1 (rows_refused c.in_err-rows.field-0.0 (g.S.Source.content c.args.source.now) _ _ c.in_err-rows.ensures.gives c.in_err-rows.ensures.cause)

pub returns-clause-said : goal.returns-clause-said
returns-clause-said g c =
    let fits : SFits w64 c.in_ok-rows.rows = search rules in
    rows_made (g.S.Source.content c.args.source.now) c.in_ok-rows.rows c.in_ok-text.text.items c.in_ok-rows.ensures.gives (c.in_ok-text.ensures ∙ ap row_count_text (to_z-of_z w64 c.in_ok-rows.rows fits))
