use Rattle.std.proofs.Common.{◌≡◌, ◌+◌, ◌/◌, ◌++◌, map}
use Rattle.std.specs.Prelude.{pos}
use Rattle.arrow_spec.specs.Arrays.{from_on}
use Rattle.ipc_generate.proofs.columns.push_items.Given as goal

abbrev pub invariant-loop-j : goal.invariant-loop-j
invariant-loop-j l = l.items.items ≡ l.fn.items.items ++ map pos (from_on (λ j. l.x / 281474976710656 + j) 0 l.j)
