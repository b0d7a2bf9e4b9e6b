use Rattle.laws_writers.proofs.Written.{schema_is_put}
use Rattle.laws_writers.proofs.chunk_laws.schema_is_put.Goals as goal

pub returns : goal.returns
returns c = schema_is_put
