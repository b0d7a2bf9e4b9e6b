use Rattle.laws_reading.proofs.Reading.{refused_block_stops_reading}
use Rattle.laws_reading.proofs.refused_block_stops_reading.Goals as goal

pub returns : goal.returns
returns c = refused_block_stops_reading
