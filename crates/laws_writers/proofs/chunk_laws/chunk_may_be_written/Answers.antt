use Rattle.laws_writers.proofs.Chunks.{may_follow}
use Rattle.laws_writers.proofs.chunk_laws.chunk_may_be_written.Goals as goal

pub returns : goal.returns
returns c = may_follow
