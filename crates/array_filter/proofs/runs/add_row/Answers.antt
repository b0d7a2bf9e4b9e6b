use Rattle.std.proofs.Common.{subst}
use Rattle.array_filter.specs.Runs.{Climb}
use Rattle.array_filter.proofs.RunLaws.{climb_last}
use Rattle.array_filter.proofs.runs.add_row.Goals as goal

pub add_behind-requires-clause-before : goal.add_behind-requires-clause-before
add_behind-requires-clause-before c = (climb_last 0 c.pop.new.self.items c.in-Some.last c.args.row (subst (λ qs. Climb 0 qs c.args.row) c.in-Some.ensures.items c.requires.climb)).0

pub add_behind-requires-clause-within : goal.add_behind-requires-clause-within
add_behind-requires-clause-within c = (climb_last 0 c.pop.new.self.items c.in-Some.last c.args.row (subst (λ qs. Climb 0 qs c.args.row) c.in-Some.ensures.items c.requires.climb)).1
