use Rattle.laws_reading.proofs.Called.{reads_are_the_table}
use Rattle.laws_reading.proofs.reads_are_the_table.Goals as goal

pub returns : goal.returns
returns c = reads_are_the_table
