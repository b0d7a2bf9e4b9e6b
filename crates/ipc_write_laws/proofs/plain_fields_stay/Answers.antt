use Rattle.ipc_write_laws.proofs.PlainFields.{plain_stay}
use Rattle.ipc_write_laws.proofs.plain_fields_stay.Goals as goal

pub returns : goal.returns
returns c = plain_stay
