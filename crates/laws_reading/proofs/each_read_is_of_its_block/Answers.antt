use Rattle.laws_reading.proofs.Called.{each_read_is_of_its_block}
use Rattle.laws_reading.proofs.each_read_is_of_its_block.Goals as goal

pub returns : goal.returns
returns c = each_read_is_of_its_block
