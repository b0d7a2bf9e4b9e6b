use Rattle.std.proofs.Common.{◌≡◌, ◌+◌, ◌≤◌, ◌++◌, length, drop, map, true}
use Rattle.arrow_spec.specs.Counts.{RecordBatch, first_place}
use Rattle.arrow_spec.specs.Faults.{place_in}
use Rattle.arrow_spec.specs.Arrays.{Dictionaries}
use Rattle.ipc_read_laws.specs.Held.{HoldsCells, AllHeldIn, HasKind}
use Rattle.ipc_read.specs.Held.{held_in}
use Rattle.ipc_read.proofs.LeftFields.{dropped}
use Rattle.arrow_arrays.specs.Parts.{kind_in}
use Rattle.arrow_arrays.specs.PartsOf.{all_parts_of}
use Rattle.arrow_arrays.specs.Batches.{have_rows}
use Rattle.ipc_read.specs.Queues.{AllAt, BatchAt}
use Rattle.ipc_read.specs.Sources.{Known}
use Rattle.ipc_read.specs.Readers.{KeepsQueues}
use Rattle.ipc_read.specs.Batches.{chosen_fetched, kinds_of, schema_fields}
use Rattle.ipc_read_laws.specs.Projection.{chosen, columns_of}
use Rattle.ipc_read.proofs.Columns.{AreDone}
use Rattle.ipc_read.proofs.readers.ColumnReader.read_columns.Given as goal

abbrev pub invariant-loop-i : goal.invariant-loop-i
invariant-loop-i g l = record {
  queues : (m : RecordBatch) → BatchAt l.fn.self.version m first_place l.fn.self.nodes.now.items l.fn.self.buffers.queue.now.items l.fn.self.variadic.now.items → AllAt m (place_in m (schema_fields l.schema l.fields) l.i first_place) l.self.nodes.now.items l.self.buffers.queue.now.items l.self.variadic.now.items;
  done : (m : RecordBatch) (d : Dictionaries) → BatchAt l.fn.self.version m first_place l.fn.self.nodes.now.items l.fn.self.buffers.queue.now.items l.fn.self.variadic.now.items → Known (g.S.Source.content l.fn.self.buffers.source.now) l.fn.self.buffers.body l.fn.self.buffers.is_little_endian m → HoldsCells d (held_in l.dictionaries) → AreDone m d (held_in l.dictionaries) (columns_of l.projection) (schema_fields l.schema l.fields) l.i l.rows l.few (all_parts_of l.arrays.items);
  kinds_left : AllHeldIn HasKind (held_in l.dictionaries) (dropped l.i (schema_fields l.schema l.fields));
  shape : have_rows l.few (all_parts_of l.arrays.items) ≡ true;
  count : length l.arrays.items + length (chosen (columns_of l.projection) l.i (drop l.i l.schema)) ≡ length (chosen (columns_of l.projection) 0 l.schema);
  kinds_are : map kind_in (all_parts_of l.arrays.items) ++ chosen (columns_of l.projection) l.i (kinds_of (drop l.i l.schema)) ≡ chosen (columns_of l.projection) 0 (kinds_of l.schema);
  within : l.i ≤ length l.schema;
  keeps : KeepsQueues g.S.Source.content g.S.Source.faults g.S.Source.references l.fn.self l.self;
  faults_stay : g.S.Source.faults l.self.buffers.source.now ≡ g.S.Source.faults l.fn.self.buffers.source.now;
  fetched : (m : RecordBatch) → BatchAt l.fn.self.version m first_place l.fn.self.nodes.now.items l.fn.self.buffers.queue.now.items l.fn.self.variadic.now.items → g.S.Source.fetched l.self.buffers.source.now + chosen_fetched m (columns_of l.projection) (dropped l.i (schema_fields l.schema l.fields)) l.i (place_in m (schema_fields l.schema l.fields) l.i first_place) l.few ≤ g.S.Source.fetched l.fn.self.buffers.source.now + chosen_fetched m (columns_of l.projection) (schema_fields l.schema l.fields) 0 first_place l.few;
}
