use Rattle.std.proofs.Common.{◌+◌, ◌*◌, ◌≤◌, length}
use Rattle.arrow_spec.specs.Arrays.{Dictionaries}
use Rattle.arrow_types.specs.KindOf.{kind_of, fields_of}
use Rattle.ipc_read.specs.Held.{column_fields}
use Rattle.ipc_read.proofs.Nested.{kind_size, fields_size}
use Rattle.ipc_view.specs.Built.{batch_of, place_of}
use Rattle.ipc_view.specs.Dictionaries.{ShowsCells, shown_in}
use Rattle.ipc_view.specs.Lent.{AreLentOf, HoldsLent}
use Rattle.view_types.specs.Views.{views}
use Rattle.ipc_view.specs.Nested.{IsPlace}
use Rattle.ipc_view.proofs.Children.{ChildrenDone}
use Rattle.ipc_view.proofs.batch.BatchTables.+views.Given as goal

abbrev pub decreases-view : goal.decreases-view
decreases-view l = 3 * kind_size (kind_of l.dtype.now) + 1

abbrev pub decreases-counted : goal.decreases-counted
decreases-counted l = 3 * fields_size (fields_of l.children.now) + 3

abbrev pub decreases-lists : goal.decreases-lists
decreases-lists l = 3 * fields_size (fields_of l.child.now) + 3

abbrev pub decreases-unions : goal.decreases-unions
decreases-unions l = 3 * fields_size (fields_of l.union.now.children.now) + 3

abbrev pub decreases-children : goal.decreases-children
decreases-children l = 3 * fields_size (fields_of l.children.now) + 2

abbrev pub invariant-children-loop-i : goal.invariant-children-loop-i
invariant-children-loop-i l = record {
  done : (d : Dictionaries) → ShowsCells d (shown_in l.self.dictionaries.now) → ChildrenDone (batch_of l.self) d (column_fields l.children l.fields) (place_of l.fn.place) l.rows l.i l.views.items (place_of l.next);
  place : IsPlace l.self l.next;
  within : l.i ≤ length l.children;
  lent : HoldsLent l.self.input.now (shown_in l.self.dictionaries.now) → AreLentOf l.self.input.now (views l.views.items);
}
