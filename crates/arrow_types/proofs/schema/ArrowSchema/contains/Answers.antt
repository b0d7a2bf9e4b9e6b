use Rattle.std.proofs.Common.{◌≡◌, ap, ◌∙◌, is_some, Option, refl, Some, None}
use Rattle.std.specs.Option.{option_map}
use Rattle.std.specs.HashMap.{get_by_text}
use Rattle.arrow_types.specs.KindOf.{child_of}
use Rattle.arrow_types.specs.Schemas.{field_under}
use Rattle.arrow_types.specs.declared.data_type.Field.{Field}
use Rattle.arrow_types.proofs.Keyed.{field_under_is}
use Rattle.arrow_types.proofs.schema.ArrowSchema.contains.Goals as goal

is_some-mapped : (r : Option Field) → is_some r ≡ is_some (option_map child_of r)
is_some-mapped None = refl
is_some-mapped (Some x) = refl

pub returns : goal.returns
returns c = c.contains_key.ensures ∙ is_some-mapped (get_by_text c.self.inside.fields c.args.key.now)
    ∙ ap is_some (field_under_is c.args.key.now c.self.inside.fields.entries) ∙ ap (λ s. is_some (field_under c.args.key.now s)) c.self.view_is
