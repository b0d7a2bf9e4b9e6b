use Rattle.std.proofs.Common.{◌≡◌, ◌++◌}
use Rattle.arrow_spec.specs.SchemaText.{indent}
use Rattle.ipc_text.proofs.pairs.push_indent.Given as goal

abbrev pub invariant-loop-i : goal.invariant-loop-i
invariant-loop-i l = l.out.items ≡ l.fn.out.items ++ indent l._i
