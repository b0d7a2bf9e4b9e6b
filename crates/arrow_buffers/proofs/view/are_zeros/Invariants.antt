use Rattle.std.proofs.Common.{◌≡◌, drop}
use Rattle.arrow_spec.specs.Faults.{all_zero}
use Rattle.arrow_buffers.proofs.view.are_zeros.Given as goal

abbrev pub invariant-loop-byte : goal.invariant-loop-byte
invariant-loop-byte l = all_zero (drop l.byte-index l.bytes) ≡ all_zero l.bytes
