use Rattle.ipc_flight.proofs.CallFlights.{consumed_is_the_file}
use Rattle.ipc_flight.proofs.laws.consumed_flight_is_the_file.Goals as goal

pub returns : goal.returns
returns c = consumed_is_the_file
