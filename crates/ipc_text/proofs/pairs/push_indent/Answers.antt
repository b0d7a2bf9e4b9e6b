use Rattle.ipc_text.proofs.PairSteps.{indent_more}
use Rattle.ipc_text.proofs.pairs.push_indent.Goals as goal

pub loop-i-preserved : goal.loop-i-preserved
loop-i-preserved c = indent_more c.loop-i._i c.args.out.now.items c.loop-i.out.items c.push_text.new.out.items c.in_ok-push_text.ensures c.loop-i.invariant
