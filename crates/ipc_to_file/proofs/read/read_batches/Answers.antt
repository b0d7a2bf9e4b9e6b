use Rattle.std.proofs.Common.{ap}
use Rattle.ipc_append.proofs.WholeSteps.{all_behind, not_refused, reads_all, wanted_of}
use Rattle.ipc_to_file.proofs.read.read_batches.Goals as goal

pub read_rest-batches-requires-clause-all : goal.read_rest-batches-requires-clause-all
read_rest-batches-requires-clause-all g c = reads_all c.args.metadata c.in-Ok.opened.cursor.columns c.in-Ok.ensures.metadata c.in-Ok.ensures.projected

pub returns-in-Ok-clause-gives : goal.returns-in-Ok-clause-gives
returns-in-Ok-clause-gives g c = all_behind _ _ c.args.metadata c.in-Ok.opened.cursor c.read_rest-batches.result (ap (λ r. g.F.Feed.rest r.now) c.in-Ok.ensures.feed) c.in-Ok.ensures.metadata c.in-Ok.ensures.projected c.in-Ok.ensures.dictionaries c.read_rest-batches.ensures.gives

pub returns-in-Err-clause-gives : goal.returns-in-Err-clause-gives
returns-in-Err-clause-gives g c = wanted_of _ _ _ _ (not_refused _ 0 c.in-Err.ensures.err)
