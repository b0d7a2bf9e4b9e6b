use Rattle.std.proofs.Common.{rules}
use Rattle.ipc_read.proofs.Shortened.{leaf_shortened_as}
use Rattle.ipc_read.proofs.leaf.read_fixed_size_binary.Goals as goal

pub returns-clause-shortened : goal.returns-clause-shortened
returns-clause-shortened g c = leaf_shortened_as _ _ _ _ _ _ _ (search rules) (search rules) c.read_fixed_size_binary.ensures.shortened
