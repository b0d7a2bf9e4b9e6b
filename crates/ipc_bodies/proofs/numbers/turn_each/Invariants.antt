use Rattle.std.proofs.Common.{◌≡◌, ◌*◌, ◌++◌, drop}
use Rattle.arrow_types.specs.Physical.{primitive_size}
use Rattle.ipc_bodies.specs.Pieces.{turned_items}
use Rattle.ipc_bodies.proofs.numbers.turn_each.Given as goal

abbrev pub invariant-loop-i : goal.invariant-loop-i
invariant-loop-i l = l.numbers ≡ turned_items l.primitive l.i l.initial.numbers ++ drop (primitive_size l.primitive * l.i) l.initial.numbers
