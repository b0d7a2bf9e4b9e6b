use Rattle.laws_sent.proofs.Unreplaced.{none_replaced}
use Rattle.laws_sent.proofs.dictionary_laws.none_is_replaced.Goals as goal

pub returns : goal.returns
returns c = none_replaced
