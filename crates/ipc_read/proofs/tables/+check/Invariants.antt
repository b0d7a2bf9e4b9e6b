use Rattle.std.proofs.Common.{◌≡◌, ◌+◌, ◌*◌, drop}
use Rattle.arrow_spec.specs.Features.{floats_in}
use Rattle.arrow_types.specs.KindOf.{kind_of, fields_of}
use Rattle.ipc_read.proofs.Nested.{kind_size, fields_size}
use Rattle.ipc_read.proofs.tables.+check.Given as goal

abbrev pub decreases-check_kind : goal.decreases-check_kind
decreases-check_kind l = 2 * kind_size (kind_of l.dtype.now)

abbrev pub decreases-check_children : goal.decreases-check_children
decreases-check_children l = 2 * fields_size (fields_of l.children.now) + 1

abbrev pub invariant-check_children-loop-child : goal.invariant-check_children-loop-child
invariant-check_children-loop-child l = floats_in (fields_of l.children) ≡ floats_in (fields_of (drop l.child-index l.children))
