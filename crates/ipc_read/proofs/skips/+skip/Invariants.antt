use Rattle.arrow_types.specs.KindOf.{fields_of}
use Rattle.ipc_read.proofs.Passed.{PassedTo}
use Rattle.ipc_read.proofs.skips.+skip.Given as goal

abbrev pub invariant-skip_children-loop-child : goal.invariant-skip_children-loop-child
invariant-skip_children-loop-child l = PassedTo l.own (fields_of l.children) l.version l.child-index l.fn.nodes.items l.nodes.items l.fn.buffers.items l.buffers.items l.fn.variadic.items l.variadic.items
