use Rattle.std.proofs.Common.{◌≡◌, ◌*◌}
use Rattle.ipc_generate.specs.Table.{first_batches, row_count, state}
use Rattle.ipc_generate.specs.Written.{HasWritten, IsReady}
use Rattle.ipc_generate.proofs.file.write_batches.Given as goal

abbrev pub invariant-loop-batch : goal.invariant-loop-batch
invariant-loop-batch l = record {
  at : l.states.at ≡ state l.seed (row_count * l.batch);
  ready : IsReady l.writer.core;
  written : HasWritten l.writer.core l.writer.sink.bytes.items (first_batches l.seed l.batch);
}
