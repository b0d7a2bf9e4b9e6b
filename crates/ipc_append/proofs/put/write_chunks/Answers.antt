use Rattle.std.proofs.Common.{◌∙◌, ◌≤◌, arith, length, refl}
use Rattle.ipc_append.proofs.PutSteps.{all_put, handed_gives, none_put, one_put, one_stops}
use Rattle.ipc_append.proofs.put.write_chunks.Goals as goal

pub loop-chunk-init : goal.loop-chunk-init
loop-chunk-init g c = (none_put _ _ _ c.args.writer.now.core c.args.chunks.now, refl)

pub loop-chunk-preserved : goal.loop-chunk-preserved
loop-chunk-preserved g c = (
  one_put _ _ _ _ _ _ _ _ _ c.args.writer.now.core c.loop-chunk.writer.core _ c.loop-chunk.chunk-index c.args.chunks.now c.chunk-item.result c.as_slice.result.now c.loop-chunk-test.true c.chunk-item.is c.as_slice.ensures.value c.loop-chunk.invariant.0 c.in_ok-write_encoded.ensures.writes,
  c.in_ok-write_encoded.ensures.same_references ∙ c.loop-chunk.invariant.1,
)

pub returns-in_err-write_encoded-clause-gives : goal.returns-in_err-write_encoded-clause-gives
returns-in_err-write_encoded-clause-gives g c =
    let e = c.in_err-write_encoded.field-0.0 in
    handed_gives _ _ e _ _ _ c.from_residual.ensures.1
    (one_stops _ _ _ _ _ _ _ _ _ e c.args.writer.now.core c.loop-chunk.writer.core _ c.loop-chunk.chunk-index c.args.chunks.now c.chunk-item.result c.as_slice.result.now c.loop-chunk-test.true c.chunk-item.is c.as_slice.ensures.value c.requires c.loop-chunk.invariant.0 c.in_err-write_encoded.ensures.writes)

pub returns-in_err-write_encoded-clause-same_references : goal.returns-in_err-write_encoded-clause-same_references
returns-in_err-write_encoded-clause-same_references g c = c.in_err-write_encoded.ensures.same_references ∙ c.loop-chunk.invariant.1

pub returns-clause-gives : goal.returns-clause-gives
returns-clause-gives g c = let done : length c.args.chunks.now ≤ c.loop-chunk.chunk-index = omega arith in all_put _ c.args.writer.now.core c.loop-chunk.writer.core c.loop-chunk.chunk-index c.args.chunks.now done c.loop-chunk.invariant.0

pub returns-clause-same_references : goal.returns-clause-same_references
returns-clause-same_references g c = c.loop-chunk.invariant.1
