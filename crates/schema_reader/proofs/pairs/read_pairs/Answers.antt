use Rattle.std.proofs.Common.{arith}
use Rattle.schema_reader.proofs.PairSteps.{pairs_done}
use Rattle.schema_reader.proofs.pairs.read_pairs.Goals as goal

pub returns : goal.returns
returns c = record { gives = pairs_done _ _ _ _ _ _ _ (omega arith) c.loop-i.invariant }
