use Rattle.laws_reading.proofs.Called.{refused_read_stops_reading}
use Rattle.laws_reading.proofs.refused_read_stops_reading.Goals as goal

pub returns : goal.returns
returns c = refused_read_stops_reading
