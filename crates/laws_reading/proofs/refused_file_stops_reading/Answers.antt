use Rattle.laws_reading.proofs.Called.{refused_file_stops_reading}
use Rattle.laws_reading.proofs.refused_file_stops_reading.Goals as goal

pub returns : goal.returns
returns c = refused_file_stops_reading
