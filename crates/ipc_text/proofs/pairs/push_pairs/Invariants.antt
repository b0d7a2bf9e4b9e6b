use Rattle.std.proofs.Common.{◌≡◌, ◌++◌}
use Rattle.arrow_spec.specs.SchemaText.{pair_lines}
use Rattle.arrow_types.specs.KindOf.{texts_of}
use Rattle.ipc_text.proofs.pairs.push_pairs.Given as goal

abbrev pub invariant-loop-key : goal.invariant-loop-key
invariant-loop-key l = l.out.items ++ pair_lines l.level (texts_of l.key-iterator) ≡ l.fn.out.items ++ pair_lines l.level (texts_of l.pairs.entries)
