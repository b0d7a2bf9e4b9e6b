use Rattle.ipc_generate.proofs.EachRow.{digits_text}
use Rattle.ipc_generate.proofs.columns.digits_of.Goals as goal

pub returns-clause-text : goal.returns-clause-text
returns-clause-text c = digits_text c.args.x
