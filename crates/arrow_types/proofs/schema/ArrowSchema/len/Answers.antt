use Rattle.std.proofs.Common.{subst}
use Rattle.std.specs.List.{IsDistinct}
use Rattle.std.specs.Str.{bytes_eq}
use Rattle.arrow_types.specs.Schemas.{keys_in}
use Rattle.arrow_types.proofs.Keyed.{distinct_by_bytes}
use Rattle.arrow_types.proofs.schema.ArrowSchema.len.Goals as goal

pub returns-clause-distinct : goal.returns-clause-distinct
returns-clause-distinct c = subst (λ s. IsDistinct bytes_eq (keys_in s)) c.self.view_is (distinct_by_bytes c.self.inside.fields.entries c.len.ensures.unique)
