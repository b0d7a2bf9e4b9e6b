use Rattle.ipc_write_laws.proofs.Streams as law
use Rattle.ipc_write_laws.proofs.one_more_batch.Goals as goal

pub returns : goal.returns
returns c = λ fs pairs custom xs x. (law.one_more_batch fs pairs custom xs x, law.one_more_may fs pairs custom xs x, law.one_more_bare fs pairs custom xs x)
