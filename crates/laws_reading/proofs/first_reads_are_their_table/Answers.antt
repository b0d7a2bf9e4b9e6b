use Rattle.laws_reading.proofs.Called.{first_reads_are_their_table}
use Rattle.laws_reading.proofs.first_reads_are_their_table.Goals as goal

pub returns : goal.returns
returns c = first_reads_are_their_table
