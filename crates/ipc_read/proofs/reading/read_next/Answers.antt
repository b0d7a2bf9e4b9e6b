use Rattle.std.proofs.Common.{rules}
use Rattle.ipc_read.proofs.Shortened.{tree_shortened_as}
use Rattle.ipc_read.proofs.reading.read_next.Goals as goal

pub returns-clause-shortened : goal.returns-clause-shortened
returns-clause-shortened g c = tree_shortened_as _ _ _ _ _ _ _ _ _ _ _ (search rules) (search rules) (search rules) c.read_array.ensures.shortened
