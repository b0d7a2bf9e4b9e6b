use Rattle.ipc_schema.proofs.Prefixed.{prefix_told}
use Rattle.ipc_schema.proofs.prefix.metadata_length.Goals as goal

pub returns-clause-prefix : goal.returns-clause-prefix
returns-clause-prefix c = λ b whole told. prefix_told c.args.four.now b c.args.start c.args.size c.length_in.result c.length_in.ensures.gives whole told
