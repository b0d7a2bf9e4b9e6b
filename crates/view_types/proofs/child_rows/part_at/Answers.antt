use Rattle.std.proofs.Common.{arith}
use Rattle.view_types.proofs.Ends.{found_by, start_below}
use Rattle.view_types.proofs.child_rows.part_at.Goals as goal

pub overflow_sub-result : goal.overflow_sub-result
overflow_sub-result c = omega (arith, start_below c.args.ends.now c.args.key c.count_up_to-part.result c.count_up_to-part.ensures.below, c.start_of-start.ensures)

pub returns-clause-part : goal.returns-clause-part
returns-clause-part c = λ ns e. (found_by c.args.ends.now ns c.args.key c.count_up_to-part.result c.start_of-start.result e c.count_up_to-part.ensures.within c.count_up_to-part.ensures.below c.count_up_to-part.ensures.above c.start_of-start.ensures).0

pub returns-clause-row : goal.returns-clause-row
returns-clause-row c = λ ns e. (found_by c.args.ends.now ns c.args.key c.count_up_to-part.result c.start_of-start.result e c.count_up_to-part.ensures.within c.count_up_to-part.ensures.below c.count_up_to-part.ensures.above c.start_of-start.ensures).1
