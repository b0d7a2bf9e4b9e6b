use Rattle.laws_reading.proofs.Reading.{one_more_block}
use Rattle.laws_reading.proofs.one_more_block.Goals as goal

pub returns : goal.returns
returns c = one_more_block
