use Rattle.ipc_append.proofs.PrepareSteps.{tracker_handed, tracker_reads, tracker_refused}
use Rattle.ipc_append.proofs.prepare.read_tracker.Goals as goal

pub returns-in_err-dictionaries-clause-reads : goal.returns-in_err-dictionaries-clause-reads
returns-in_err-dictionaries-clause-reads g c =
    tracker_handed _ _ _ c.in_err-dictionaries.field-0.0 _ _ c.from_residual.result c.from_residual.ensures.1 (tracker_refused _ c.args.options.now c.args.file.now c.in_err-dictionaries.field-0.0 _ _ c.requires.natural c.in_err-dictionaries.ensures.reads c.in_err-dictionaries.ensures.cause)

pub returns-clause-reads : goal.returns-clause-reads
returns-clause-reads g c = tracker_reads _ c.args.options.now c.args.file.now c.in_ok-dictionaries.dictionaries 0 0 c.in_ok-dictionaries.ensures.reads c.in_ok-dictionaries.ensures.uses
