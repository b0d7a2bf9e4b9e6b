use Rattle.std.proofs.Common.{◌∙◌, ap, map, refl, subst, sym}
use Rattle.std.proofs.KnownBytes.{Keeps-refl}
use Rattle.ipc_words.specs.Views.{cat_view, texts}
use Rattle.ipc_tool.specs.Commands.Cat.{OneHasFailed, cat_task}
use Rattle.ipc_tool.proofs.CatNames.{some_files, some_texts, written_back}
use Rattle.ipc_tool.proofs.CatSteps.{files_joined, files_not_joined, names_refused}
use Rattle.ipc_tool.proofs.Tasks.{does_at}
use Rattle.ipc_tool.proofs.commands.cat.cat_files.Goals as goal

pub returns-in_err-files-clause-does : goal.returns-in_err-files-clause-does
returns-in_err-files-clause-does g c =
    does_at (cat_task (cat_view c.args.asked.now)) _ _ _ _ c.from_residual.ensures.1
    (names_refused (cat_view c.args.asked.now) (some_texts c.args.asked.now.names.items c.args.asked.now.some) _ _ (record { held = c.open_names.ensures.held; rest = refl }) _ (ap texts c.as_slice.ensures.value) c.in_err-files.field-0.0 (Keeps-refl (g.W.Sink.written c.args.output.now)) c.in_err-files.ensures.refused)

pub put_joined-done-requires : goal.put_joined-done-requires
put_joined-done-requires g c = record {
  some = some_files g.H.File.Source.content _ c.as_slice.result.now c.args.asked.now.names.items c.in_ok-files.files.items c.as_mut_slice.result.now c.args.asked.now.some c.as_slice.ensures.value c.as_mut_slice.ensures.value c.in_ok-files.ensures.opened;
}

pub returns-in_err-done-clause-does : goal.returns-in_err-done-clause-does
returns-in_err-done-clause-does g c =
    let whole = written_back g.H.File.Source.content g.H.File.Source.faults g.H.File.Source.references c.as_mut_slice.result.now c.put_joined-done.new.files c.in_ok-files.files.items c.in_ok-files.files.len c.in_err-done.ensures.kept c.as_mut_slice.ensures.len in
    does_at (cat_task (cat_view c.args.asked.now)) _ _ _ _ c.from_residual-in_err-done.ensures.1
    (files_not_joined (cat_view c.args.asked.now) (some_texts c.args.asked.now.names.items c.args.asked.now.some) _ _ (record { held = c.close_files.ensures.held ∙ c.open_names.ensures.held; rest = refl }) _ (ap texts c.as_slice.ensures.value)
    g.H.File.Source.content g.H.File.Source.faults g.H.File.Source.references c.in_ok-files.files.items c.as_mut_slice.result.now c.as_mut_slice.ensures.value c.in_ok-files.ensures.opened
    c.put_joined-done.new.files (g.H.Shelf.faults c.open_names.new.shelf) c.in_err-done.field-0.0 c.in_ok-files.ensures.no_faults c.open_names.ensures.later (λ failed. c.close_files.ensures.rose (subst (λ fs. OneHasFailed (map g.H.File.Source.faults fs)) (sym whole) failed))
    c.in_err-done.ensures.left c.in_err-done.ensures.cause c.in_err-done.ensures.kept c.in_err-done.ensures.complete)

pub returns-clause-does : goal.returns-clause-does
returns-clause-does g c =
    files_joined (cat_view c.args.asked.now) (some_texts c.args.asked.now.names.items c.args.asked.now.some) _ _ (record { held = c.close_files.ensures.held ∙ c.open_names.ensures.held; rest = refl }) _ (ap texts c.as_slice.ensures.value)
    g.H.File.Source.content g.H.File.Source.faults g.H.File.Source.references c.in_ok-files.files.items c.as_mut_slice.result.now c.as_mut_slice.ensures.value c.in_ok-files.ensures.opened c.in_ok-done.ensures.done
