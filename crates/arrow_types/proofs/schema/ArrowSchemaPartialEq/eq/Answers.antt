use Rattle.arrow_types.specs.Schemas.{schema_eq_told}
use Rattle.arrow_types.proofs.schema.ArrowSchemaPartialEq.eq.Goals as goal

pub returns-clause-eq : goal.returns-clause-eq
returns-clause-eq c = schema_eq_told c.is_same_schema.result c.args.self.now c.args.other.now c.is_same_schema.ensures
