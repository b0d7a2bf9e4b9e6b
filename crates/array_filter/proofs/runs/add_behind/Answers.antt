use Rattle.std.proofs.Common.{sym, subst, arith}
use Rattle.array_filter.specs.Runs.{Climb}
use Rattle.array_filter.proofs.RunLaws.{begun_climb, climb_more, longer_climb, longer_rows}
use Rattle.array_filter.proofs.runs.add_behind.Goals as goal

pub returns-then-last-row-clause-rows : goal.returns-then-last-row-clause-rows
returns-then-last-row-clause-rows c = longer_rows c.args.runs.now.items c.push.new.self.items c.args.last c.args.row c.if-last-row.true c.in_ok-push.ensures.items

pub returns-then-last-row-clause-climb : goal.returns-then-last-row-clause-climb
returns-then-last-row-clause-climb c = longer_climb c.args.runs.now.items c.push.new.self.items c.args.last c.args.row c.if-last-row.true c.in_ok-push.ensures.items c.requires.before

pub returns-clause-climb : goal.returns-clause-climb
returns-clause-climb c =
    begun_climb c.push-2.new.self.items c.push-3.new.self.items c.args.row c.in_ok-push-3.ensures.items
    (subst (λ qs. Climb 0 qs c.args.row) (sym c.in_ok-push-2.ensures.items) (climb_more 0 c.args.runs.now.items c.args.last c.args.last.from c.args.row c.requires.before (omega arith) c.requires.within))
