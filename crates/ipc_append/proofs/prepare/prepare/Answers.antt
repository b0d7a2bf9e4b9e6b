use Rattle.std.proofs.Common.{inl, sym, subst}
use Rattle.ipc_io.specs.Outside.{IsSize}
use Rattle.ipc_append.proofs.Handed.{refused}
use Rattle.ipc_append.proofs.PrepareSteps.{batches_refused, dictionaries_refused, is_prepared}
use Rattle.ipc_append.proofs.prepare.prepare.Goals as goal

pub returns-in_err-file-clause-refused : goal.returns-in_err-file-clause-refused
returns-in_err-file-clause-refused g c = refused _ c.from_residual.result c.in_err-file.field-0.0 c.from_residual.ensures.1 (inl c.in_err-file.ensures.refused)

pub read_tracker-requires-clause-whole : goal.read_tracker-requires-clause-whole
read_tracker-requires-clause-whole g c = subst (λ o. IsSize o c.in_ok-file.file.size) (sym c.in_ok-file.ensures.kept.content) c.in_ok-file.ensures.takes.metadata.size

pub read_tracker-requires-clause-natural : goal.read_tracker-requires-clause-natural
read_tracker-requires-clause-natural g c = c.in_ok-file.ensures.takes.metadata.read.natural.dictionaries

pub returns-in_err-tracker-clause-refused : goal.returns-in_err-tracker-clause-refused
returns-in_err-tracker-clause-refused g c =
    refused _ c.from_residual-in_err-tracker.result c.in_err-tracker.field-0.0 c.from_residual-in_err-tracker.ensures.1
    (dictionaries_refused _ _ c.args.options.now c.args.stream.now c.in_ok-file.file c.in_ok-file.ensures.kept.content c.in_ok-file.ensures.takes _ _ _ c.in_err-tracker.field-0.0 c.in_ok-file.ensures.kept.faults c.in_err-tracker.ensures.reads)

pub returns-in_err-chunks-clause-refused : goal.returns-in_err-chunks-clause-refused
returns-in_err-chunks-clause-refused g c =
    refused _ c.from_residual-in_err-chunks.result c.in_err-chunks.field-0.0 c.from_residual-in_err-chunks.ensures.1
    (batches_refused _ _ c.args.options.now c.args.stream.now c.in_ok-file.file c.in_ok-file.ensures.kept.content c.in_ok-file.ensures.takes _ 0 0 c.in_ok-tracker.tracker c.in_ok-tracker.tracker c.in_ok-tracker.ensures.reads _ _ c.as_slice-2.ensures.value c.as_slice.ensures.value c.in_err-chunks.field-0.0 _ c.in_err-chunks.ensures)

pub returns-clause-prepared : goal.returns-clause-prepared
returns-clause-prepared g c =
    is_prepared _ _ c.args.options.now c.args.stream.now c.in_ok-file.file c.in_ok-file.ensures.kept.content c.in_ok-file.ensures.takes 0 0 0 c.in_ok-tracker.tracker _ c.in_ok-tracker.ensures.reads _ _ c.as_slice-2.ensures.value c.as_slice.ensures.value c.in_ok-chunks.chunks c.in_ok-chunks.ensures
