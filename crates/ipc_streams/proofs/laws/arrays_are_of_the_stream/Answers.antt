use Rattle.ipc_streams.proofs.laws.arrays_are_of_the_stream.Goals as goal
use Rattle.ipc_streams.proofs.ArraysOnce as law

pub returns : goal.returns
returns c = λ s h b xs ys one other. law.stream_once one other
