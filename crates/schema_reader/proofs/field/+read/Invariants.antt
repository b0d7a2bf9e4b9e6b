use Rattle.std.proofs.Common.{◌≡◌, ◌≤◌, ◌+◌, ◌*◌, map, length, true}
use Rattle.arrow_types.specs.KindOf.{child_of, fields_of}
use Rattle.ipc_fields.specs.IpcFields.{tree_of, ids_of, have_shapes}
use Rattle.schema_reader.specs.Parts.{entries_at}
use Rattle.schema_reader.specs.ReadViews.{before_in}
use Rattle.schema_reader.proofs.Fields.{entries_left}
use Rattle.schema_reader.proofs.field.+read.Given as goal

abbrev pub invariant-read_fields-loop-i : goal.invariant-read_fields-loop-i
invariant-read_fields-loop-i l = record {
  gives : entries_left l.levels l.fields.bytes l.fields.vector l.i (map child_of l.read.fields.items) (map tree_of l.read.ipc_fields.items) (before_in l.read.before) ≡ entries_at l.levels l.fields.bytes l.fields.vector (before_in l.fn.before);
  count : length l.read.fields.items ≡ l.i;
  both : length l.read.ipc_fields.items ≡ l.i;
  shapes : have_shapes (fields_of l.read.fields.items) (ids_of l.read.ipc_fields.items) ≡ true;
  few : l.read.before.pairs ≤ 1048576;
}

abbrev pub decreases-read_field : goal.decreases-read_field
decreases-read_field l = 3 * l.levels

abbrev pub decreases-read_fields : goal.decreases-read_fields
decreases-read_fields l = 3 * l.levels + 1

abbrev pub decreases-read_below : goal.decreases-read_below
decreases-read_below l = 3 * l.levels + 2
