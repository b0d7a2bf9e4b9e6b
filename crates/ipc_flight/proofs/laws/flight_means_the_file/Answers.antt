use Rattle.ipc_flight.proofs.FileFlights.{means_the_file}
use Rattle.ipc_flight.proofs.laws.flight_means_the_file.Goals as goal

pub returns : goal.returns
returns c = means_the_file
