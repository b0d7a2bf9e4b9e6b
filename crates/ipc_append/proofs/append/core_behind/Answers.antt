use Rattle.std.proofs.Common.{arith}
use Rattle.ipc_append.proofs.Cutting.{may_cut}
use Rattle.ipc_append.proofs.Places.{has_end}
use Rattle.ipc_append.proofs.append.core_behind.Goals as goal

pub next_multiple_of-requires-clause-fits : goal.next_multiple_of-requires-clause-fits
next_multiple_of-requires-clause-fits c = let m = may_cut c.args.options c.args.metadata c.args.place c.requires in omega (arith, m.below)

pub of_begun-requires-clause-dictionaries : goal.of_begun-requires-clause-dictionaries
of_begun-requires-clause-dictionaries c = (has_end c.args.metadata c.args.place (may_cut c.args.options c.args.metadata c.args.place c.requires).end).dictionaries

pub of_begun-requires-clause-records : goal.of_begun-requires-clause-records
of_begun-requires-clause-records c = (has_end c.args.metadata c.args.place (may_cut c.args.options c.args.metadata c.args.place c.requires).end).records

pub of_begun-requires-clause-few : goal.of_begun-requires-clause-few
of_begun-requires-clause-few c = (may_cut c.args.options c.args.metadata c.args.place c.requires).pairs

pub of_begun-requires-clause-place : goal.of_begun-requires-clause-place
of_begun-requires-clause-place c = let m = may_cut c.args.options c.args.metadata c.args.place c.requires in omega (arith, m.below, c.next_multiple_of.ensures.value)
