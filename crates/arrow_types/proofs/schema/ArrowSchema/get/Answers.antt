use Rattle.std.proofs.Common.{◌≡◌, ap, ◌∙◌, Option, refl, Some, None, Bor}
use Rattle.std.specs.Option.{option_map, option_copied}
use Rattle.arrow_types.specs.KindOf.{child_of}
use Rattle.arrow_types.specs.Schemas.{field_under}
use Rattle.arrow_types.specs.declared.data_type.Field.{Field}
use Rattle.arrow_types.proofs.Keyed.{field_under_is}
use Rattle.arrow_types.proofs.schema.ArrowSchema.get.Goals as goal

seen : (r : Option (Bor Field)) → option_map (λ f. child_of f.now) r ≡ option_map child_of (option_copied r)
seen None = refl
seen (Some x) = refl

pub returns : goal.returns
returns c = seen c.get.result ∙ ap (option_map child_of) c.get.ensures.value
    ∙ field_under_is c.args.key.now c.self.inside.fields.entries ∙ ap (field_under c.args.key.now) c.self.view_is
