use Rattle.laws_sent.proofs.PlainSchemas.{schema_plain}
use Rattle.laws_sent.proofs.schema_laws.types_have_no_ids.Goals as goal

pub returns : goal.returns
returns c = schema_plain c.args.schema.now c.iter-entries.result c.iter-entries.ensures
