use Rattle.ipc_streams.proofs.laws.nexts_are_the_stream.Goals as goal
use Rattle.ipc_streams.proofs.StreamLaws as law

pub returns : goal.returns
returns c = law.nexts_are_the_stream
