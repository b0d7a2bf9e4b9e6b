use Rattle.laws_reading.proofs.Reading.{refused_dictionaries_stop_reading}
use Rattle.laws_reading.proofs.refused_dictionaries_stop_reading.Goals as goal

pub returns : goal.returns
returns c = refused_dictionaries_stop_reading
