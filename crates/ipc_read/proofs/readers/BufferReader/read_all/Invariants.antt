use Rattle.std.proofs.Common.{◌≡◌, ℕ, ◌+◌, ◌≤◌, []}
use Rattle.arrow_spec.specs.Counts.{RecordBatch}
use Rattle.arrow_spec.specs.Arrays.{buf, from_on}
use Rattle.arrow_spec.specs.Faults.{ranges_faults}
use Rattle.arrow_spec.specs.Needed.{numbers_from}
use Rattle.ipc_read_laws.specs.Faults.{stated_of}
use Rattle.ipc_read.specs.Queues.{Left}
use Rattle.ipc_read.specs.Sources.{Told}
use Rattle.ipc_read.specs.Readers.{KeepsSource}
use Rattle.ipc_read.proofs.readers.BufferReader.read_all.Given as goal

abbrev pub invariant-loop-number : goal.invariant-loop-number
invariant-loop-number g l = record {
  takes : (m : RecordBatch) (i : ℕ) → Left m.buffers i l.fn.self.queue.now.items → Left m.buffers (i + l._number) l.self.queue.now.items;
  gives : (m : RecordBatch) (i : ℕ) → Left m.buffers i l.fn.self.queue.now.items → Told (g.S.Source.content l.fn.self.source.now) l.fn.self.body m.body → (ranges_faults m i l._number ≡ []) × (l.data.items ≡ from_on (buf m) i l._number);
  keeps : KeepsSource g.S.Source.content g.S.Source.faults g.S.Source.references l.fn.self l.self;
  faults_stay : g.S.Source.faults l.self.source.now ≡ g.S.Source.faults l.fn.self.source.now;
  fetched : (m : RecordBatch) (i : ℕ) → Left m.buffers i l.fn.self.queue.now.items → g.S.Source.fetched l.self.source.now ≤ g.S.Source.fetched l.fn.self.source.now + stated_of m (numbers_from i l._number);
}
