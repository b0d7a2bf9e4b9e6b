use Rattle.std.proofs.Common.{◌≡◌, ◌+◌, ◌++◌, length, replicate}
use Rattle.arrow_flat.proofs.write.put_zeros.Given as goal

abbrev pub invariant-loop-i : goal.invariant-loop-i
invariant-loop-i l = record {
  bytes : l.out.items ≡ l.initial.out.items ++ replicate l.i 0;
  len : length l.out.items ≡ length l.initial.out.items + l.i;
}
