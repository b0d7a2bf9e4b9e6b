use Rattle.ipc_flight.proofs.Wholes.{size_told}
use Rattle.ipc_flight.proofs.producer.FlightStreamProducer.next_dict.Goals as goal

pub hand_next-requires : goal.hand_next-requires
hand_next-requires g c = size_told (g.S.Source.content c.args.self.now.source.now) c.args.self.now.metadata.size c.args.self.now.whole
