use Rattle.laws_walk.proofs.Walks.{walk_is_file}
use Rattle.laws_walk.proofs.walk_is_file.Goals as goal

pub returns : goal.returns
returns c = walk_is_file
