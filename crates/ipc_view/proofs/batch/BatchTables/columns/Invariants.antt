use Rattle.std.proofs.Common.{◌≡◌, ◌≤◌, length}
use Rattle.arrow_spec.specs.Arrays.{Dictionaries}
use Rattle.ipc_read.specs.Batches.{schema_fields}
use Rattle.ipc_view.specs.Built.{batch_of, place_of}
use Rattle.ipc_view.specs.Dictionaries.{ShowsCells, shown_in}
use Rattle.ipc_view.specs.Lent.{AreLentOf, HoldsLent}
use Rattle.view_types.specs.Views.{views}
use Rattle.ipc_view.specs.Nested.{IsPlace}
use Rattle.ipc_view.proofs.SeenColumns.{ColumnsDone}
use Rattle.ipc_view.proofs.batch.BatchTables.columns.Given as goal

abbrev pub invariant-loop-i : goal.invariant-loop-i
invariant-loop-i l = record {
  done : (d : Dictionaries) → ShowsCells d (shown_in l.self.dictionaries.now) → ColumnsDone (batch_of l.self) d (schema_fields l.schema l.fields) l.i l.rows l.views.items (place_of l.next);
  place : IsPlace l.self l.next;
  within : l.i ≤ length l.schema;
  count : length l.views.items ≡ l.i;
  lent : HoldsLent l.self.input.now (shown_in l.self.dictionaries.now) → AreLentOf l.self.input.now (views l.views.items);
}
