use Rattle.laws_sent.proofs.Right.{columns_right}
use Rattle.laws_sent.proofs.dictionary_laws.columns_are_right.Goals as goal

pub returns : goal.returns
returns c = columns_right
