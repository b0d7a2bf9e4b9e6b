use Rattle.std.proofs.Common.{sym, ◌∙◌}
use Rattle.ipc_view.proofs.UnionFaults.{rows_of_child}
use Rattle.ipc_view.proofs.unions.child_len.Goals as goal

pub returns : goal.returns
returns c = c.len.ensures ∙ sym (rows_of_child c.args.children.now c.args.i c.index-children-i.result c.requires c.index-children-i.is)
