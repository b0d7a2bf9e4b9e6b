use Rattle.laws_reading.proofs.Called.{one_more_read}
use Rattle.laws_reading.proofs.one_more_read.Goals as goal

pub returns : goal.returns
returns c = one_more_read
