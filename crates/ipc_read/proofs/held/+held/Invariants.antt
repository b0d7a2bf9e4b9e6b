use Rattle.std.proofs.Common.{◌+◌, ◌*◌}
use Rattle.arrow_types.specs.KindOf.{kind_of, fields_of}
use Rattle.ipc_read_laws.specs.Held.{HasKind}
use Rattle.ipc_read.specs.Held.{held_in, column_fields}
use Rattle.ipc_read.proofs.HeldKinds.{SeenHeld}
use Rattle.ipc_read.proofs.Nested.{kind_size, fields_size}
use Rattle.ipc_read.proofs.held.+held.Given as goal

abbrev pub decreases-is_held : goal.decreases-is_held
decreases-is_held l = 2 * kind_size (kind_of l.dtype.now)

abbrev pub decreases-are_held : goal.decreases-are_held
decreases-are_held l = 2 * fields_size (fields_of l.children.now) + 1

abbrev pub invariant-are_held-loop-i : goal.invariant-are_held-loop-i
invariant-are_held-loop-i l = SeenHeld HasKind (held_in l.dictionaries) (column_fields l.children l.fields) l.i
