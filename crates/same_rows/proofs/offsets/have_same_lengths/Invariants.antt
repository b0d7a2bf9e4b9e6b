use Rattle.same_rows.specs.Lengths.{HaveSameLengths}
use Rattle.same_rows.proofs.offsets.have_same_lengths.Given as goal

abbrev pub invariant-loop-i : goal.invariant-loop-i
invariant-loop-i g l = HaveSameLengths l.a.offsets l.from l.b.offsets l.start l.i
