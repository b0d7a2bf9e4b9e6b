use Rattle.std.proofs.Common.{◌∙◌, ◌∷◌, ◌++◌, ◌≤◌, [], length, ap, subst, arith}
use Rattle.ipc_generate.specs.Table.{first_batches}
use Rattle.ipc_generate.specs.Written.{HasWritten}
use Rattle.ipc_generate.proofs.Batches.{generated, next_at, no_batches, one_batch}
use Rattle.ipc_generate.proofs.Recurrence.{length-states, none_behind}
use Rattle.ipc_generate.proofs.file.write_batches.Goals as goal

pub loop-batch-init : goal.loop-batch-init
loop-batch-init c = record {
  at = c.new-states.ensures ∙ none_behind c.args.seed;
  ready = c.requires.ready;
  written = subst (λ bs. HasWritten c.args.writer.now.core c.args.writer.now.sink.bytes.items bs) (no_batches c.args.seed) c.requires.unwritten;
}

pub write_rows-requires-clause-few : goal.write_rows-requires-clause-few
write_rows-requires-clause-few c =
    let n = length-states c.loop-batch.states.at 4096 c.as_slice.result.now (c.as_slice.ensures.value ∙ c.in_ok-rows.ensures.states) in
    omega arith

pub loop-batch-preserved : goal.loop-batch-preserved
loop-batch-preserved c =
    let i = c.loop-batch.batch in
    let made = generated c.args.seed c.loop-batch.states.at i c.as_slice.result.now c.loop-batch.invariant.at (c.as_slice.ensures.value ∙ c.in_ok-rows.ensures.states) in
    record {
      at = next_at c.args.seed c.loop-batch.states.at i c.take.new.self.at c.loop-batch.invariant.at c.in_ok-rows.ensures.behind;
      ready = c.in_ok-write_rows.ensures.ready;
      written = subst (λ bs. HasWritten c.write_rows.new.writer.core c.write_rows.new.writer.sink.bytes.items bs)
          (ap (λ b. first_batches c.args.seed i ++ b ∷ []) made ∙ one_batch c.args.seed i)
          (c.in_ok-write_rows.ensures.written (first_batches c.args.seed i) c.loop-batch.invariant.written);
    }
