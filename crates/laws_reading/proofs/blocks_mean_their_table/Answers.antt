use Rattle.laws_reading.proofs.Reading.{blocks_mean_their_table}
use Rattle.laws_reading.proofs.blocks_mean_their_table.Goals as goal

pub returns : goal.returns
returns c = blocks_mean_their_table
