use Rattle.std.proofs.Common.{ap, ◌∙◌, string_bytes}
use Rattle.std.specs.Option.{option_map}
use Rattle.arrow_types.specs.KindOf.{child_of}
use Rattle.arrow_types.specs.Schemas.{keyed, field_under, with_field}
use Rattle.arrow_types.proofs.Keyed.{field_under_is, with_field_is}
use Rattle.arrow_types.proofs.schema.ArrowSchema.insert.Goals as goal

pub returns-clause-held : goal.returns-clause-held
returns-clause-held c = ap (option_map child_of) c.in_ok-insert.ensures.old
    ∙ field_under_is (string_bytes c.args.key) c.self.inside.fields.entries ∙ ap (field_under (string_bytes c.args.key)) c.self.view_is

pub returns-clause-put : goal.returns-clause-put
returns-clause-put c = ap keyed c.in_ok-insert.ensures.entries
    ∙ with_field_is c.self.inside.fields.entries c.args.key c.args.field ∙ ap (with_field (string_bytes c.args.key) (child_of c.args.field)) c.self.view_is
