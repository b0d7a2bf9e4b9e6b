use Rattle.laws_writers.proofs.Written.{chunk_is_put}
use Rattle.laws_writers.proofs.chunk_laws.chunk_is_put.Goals as goal

pub returns : goal.returns
returns c = chunk_is_put
