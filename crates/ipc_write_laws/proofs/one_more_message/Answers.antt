use Rattle.ipc_write_laws.proofs.Messages as law
use Rattle.ipc_write_laws.proofs.one_more_message.Goals as goal

pub returns : goal.returns
returns c = λ fs pairs custom xs x. (law.one_more_message fs pairs custom xs x, law.one_more_may fs pairs custom xs x)
