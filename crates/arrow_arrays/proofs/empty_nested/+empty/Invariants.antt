use Rattle.std.proofs.Common.{◌+◌, ◌*◌}
use Rattle.arrow_types.specs.KindOf.{kind_of, fields_of}
use Rattle.arrow_arrays.proofs.EmptyTops.{kind_size, fields_size, FirstEmpty}
use Rattle.arrow_arrays.proofs.empty_nested.+empty.Given as goal

abbrev pub decreases-new_empty_array : goal.decreases-new_empty_array
decreases-new_empty_array l = 3 * kind_size (kind_of l.dtype) + 1

abbrev pub decreases-empty_under : goal.decreases-empty_under
decreases-empty_under l = 3 * kind_size (kind_of l.dtype.now)

abbrev pub decreases-empty_children : goal.decreases-empty_children
decreases-empty_children l = 3 * fields_size (fields_of l.fields.now) + 2

abbrev pub invariant-empty_children-loop-field : goal.invariant-empty_children-loop-field
invariant-empty_children-loop-field l = FirstEmpty l.fields l.field-index l.children.items
