use Rattle.ipc_streams.proofs.laws.a_next_is_of_the_stream.Goals as goal
use Rattle.ipc_streams.proofs.StreamLaws as law

pub returns : goal.returns
returns c = law.next_is_of_the_stream
