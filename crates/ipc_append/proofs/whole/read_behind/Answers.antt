use Rattle.std.proofs.Common.{ap}
use Rattle.ipc_append.proofs.WholeSteps.{all_behind, fails_of, not_refused, reads_all, wanted_of, wants_memory}
use Rattle.ipc_append.proofs.whole.read_behind.Goals as goal

pub returns-in-Ok-clause-gives : goal.returns-in-Ok-clause-gives
returns-in-Ok-clause-gives g c = all_behind _ _ c.args.metadata c.in-Ok.opened.cursor c.read_rest.result (ap g.F.Feed.rest c.in-Ok.ensures.feed) c.in-Ok.ensures.metadata c.in-Ok.ensures.projected c.in-Ok.ensures.dictionaries c.read_rest.ensures.gives

pub returns-in-Ok-clause-cause : goal.returns-in-Ok-clause-cause
returns-in-Ok-clause-cause g c = fails_of _ _ _ _ _ c.read_rest.result c.in-Ok.ensures.feed c.read_rest.ensures.kept c.read_rest.ensures.cause

pub returns-in-Err-clause-gives : goal.returns-in-Err-clause-gives
returns-in-Err-clause-gives g c = wanted_of _ _ _ _ (not_refused _ 0 c.in-Err.ensures.err)

pub returns-in-Err-clause-cause : goal.returns-in-Err-clause-cause
returns-in-Err-clause-cause g c = wants_memory _ _ _ _ (not_refused _ 0 c.in-Err.ensures.err)

pub read_rest-requires-clause-all : goal.read_rest-requires-clause-all
read_rest-requires-clause-all g c = reads_all c.args.metadata c.in-Ok.opened.cursor.columns c.in-Ok.ensures.metadata c.in-Ok.ensures.projected
