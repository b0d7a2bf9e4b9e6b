use Rattle.laws_reading.proofs.Called.{table_is_read}
use Rattle.laws_reading.proofs.table_is_read.Goals as goal

pub returns : goal.returns
returns c = table_is_read
