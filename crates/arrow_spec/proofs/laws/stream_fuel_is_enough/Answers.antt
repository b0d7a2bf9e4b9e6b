use Rattle.arrow_spec.proofs.StreamFuel.{stream_fuel_is_enough}
use Rattle.arrow_spec.proofs.laws.stream_fuel_is_enough.Goals as goal

pub returns : goal.returns
returns c = stream_fuel_is_enough
