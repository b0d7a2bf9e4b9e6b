use Rattle.std.proofs.Common.{◌≡◌, ◌+◌, ◌*◌, ◌≤◌, length, None}
use Rattle.arrow_spec.specs.Arrays.{Dictionaries}
use Rattle.arrow_spec.specs.Counts.{RecordBatch, Place}
use Rattle.arrow_spec.specs.Faults.{place_in}
use Rattle.arrow_types.specs.KindOf.{kind_of, fields_of}
use Rattle.arrow_arrays.specs.Parts.{forest, fault_each}
use Rattle.arrow_arrays.specs.PartsOf.{all_parts_of}
use Rattle.ipc_read.specs.ChildRows.{rows_by}
use Rattle.ipc_read.specs.Queues.{BatchAt}
use Rattle.ipc_read.specs.Sources.{Known}
use Rattle.ipc_read.specs.Readers.{KeepsQueues}
use Rattle.ipc_read.specs.Batches.{columns_fetched}
use Rattle.ipc_read_laws.specs.Held.{HoldsCells, AreValuesOf, HasKind, AllHeldIn}
use Rattle.ipc_read.specs.Held.{held_in, column_fields}
use Rattle.ipc_read.proofs.HeldKinds.{HeldDone}
use Rattle.ipc_read.proofs.LeftFields.{dropped}
use Rattle.ipc_read.proofs.Nested.{kind_size, fields_size, ChildrenDone, BytesDone, KindsDone, RowsDone, StandAt}
use Rattle.ipc_read.proofs.readers.ColumnReader.+read.Given as goal

abbrev pub decreases-read_tree : goal.decreases-read_tree
decreases-read_tree g l = 3 * kind_size (kind_of l.dtype.now) + 1

abbrev pub decreases-read_counted : goal.decreases-read_counted
decreases-read_counted g l = 3 * kind_size (kind_of l.dtype.now)

abbrev pub decreases-read_list : goal.decreases-read_list
decreases-read_list g l = 3 * kind_size (kind_of l.dtype.now)

abbrev pub decreases-read_children : goal.decreases-read_children
decreases-read_children g l = 3 * fields_size (fields_of l.children.now) + 2

abbrev pub decreases-read_union : goal.decreases-read_union
decreases-read_union g l = 3 * kind_size (kind_of l.dtype.now)

abbrev pub invariant-read_children-loop-i : goal.invariant-read_children-loop-i
invariant-read_children-loop-i g l = record {
  queues : StandAt l.fn.self.version (column_fields l.children l.fields) l.i l.fn.self.nodes.now.items l.self.nodes.now.items l.fn.self.buffers.queue.now.items l.self.buffers.queue.now.items l.fn.self.variadic.now.items l.self.variadic.now.items;
  done : (m : RecordBatch) (d : Dictionaries) (p : Place) → BatchAt l.fn.self.version m p l.fn.self.nodes.now.items l.fn.self.buffers.queue.now.items l.fn.self.variadic.now.items → Known (g.S.Source.content l.fn.self.buffers.source.now) l.fn.self.buffers.body l.fn.self.buffers.is_little_endian m → HoldsCells d (held_in l.dictionaries) → ChildrenDone m d (held_in l.dictionaries) (column_fields l.children l.fields) l.i (rows_by l.rows m) p (all_parts_of l.arrays.items);
  bytes : (m : RecordBatch) (p : Place) → BatchAt l.fn.self.version m p l.fn.self.nodes.now.items l.fn.self.buffers.queue.now.items l.fn.self.variadic.now.items → Known (g.S.Source.content l.fn.self.buffers.source.now) l.fn.self.buffers.body l.fn.self.buffers.is_little_endian m → BytesDone m (column_fields l.children l.fields) l.i (rows_by l.rows m) p;
  kinds_left : AllHeldIn HasKind (held_in l.dictionaries) (dropped l.i (column_fields l.children l.fields));
  whole : HeldDone AreValuesOf (held_in l.dictionaries) (column_fields l.children l.fields) l.i;
  kinds : KindsDone l.children l.i (all_parts_of l.arrays.items);
  rows : (m : RecordBatch) (p : Place) → BatchAt l.fn.self.version m p l.fn.self.nodes.now.items l.fn.self.buffers.queue.now.items l.fn.self.variadic.now.items → RowsDone m (column_fields l.children l.fields) l.i (rows_by l.rows m) p (all_parts_of l.arrays.items);
  sound : fault_each (forest (all_parts_of l.arrays.items)) ≡ None;
  within : l.i ≤ length l.children;
  keeps : KeepsQueues g.S.Source.content g.S.Source.faults g.S.Source.references l.fn.self l.self;
  faults_stay : g.S.Source.faults l.self.buffers.source.now ≡ g.S.Source.faults l.fn.self.buffers.source.now;
  fetched : (m : RecordBatch) (p : Place) → BatchAt l.fn.self.version m p l.fn.self.nodes.now.items l.fn.self.buffers.queue.now.items l.fn.self.variadic.now.items → g.S.Source.fetched l.self.buffers.source.now + columns_fetched m (dropped l.i (column_fields l.children l.fields)) (place_in m (column_fields l.children l.fields) l.i p) (rows_by l.rows m) ≤ g.S.Source.fetched l.fn.self.buffers.source.now + columns_fetched m (column_fields l.children l.fields) p (rows_by l.rows m);
}
