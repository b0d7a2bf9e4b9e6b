use Rattle.ipc_schema.proofs.Customs.{given_may}
use Rattle.ipc_schema.proofs.custom.footer_metadata.Goals as goal

pub returns-clause-may : goal.returns-clause-may
returns-clause-may c = given_may _ _ c.read_custom.result c.read_custom.ensures.gives
