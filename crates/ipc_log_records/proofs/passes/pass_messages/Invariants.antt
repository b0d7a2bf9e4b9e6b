use Rattle.std.proofs.Common.{length}
use Rattle.ipc_log_records.proofs.Passing.{SoFar}
use Rattle.ipc_log_records.proofs.passes.pass_messages.Given as goal

abbrev pub invariant-loop-pass : goal.invariant-loop-pass
invariant-loop-pass l = SoFar l.bytes l.rest l.dictionaries

abbrev pub decreases-loop-pass : goal.decreases-loop-pass
decreases-loop-pass l = length l.rest
