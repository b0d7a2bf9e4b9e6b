use Rattle.laws_columns.proofs.Pieces.{lengths_are}
use Rattle.laws_columns.proofs.lengths_are_of_pieces.Goals as goal

pub returns : goal.returns
returns c = lengths_are
