use Rattle.std.proofs.Common.{◌++◌, ◌∙◌, ap}
use Rattle.arrow_spec.specs.SchemaText.{field_lines}
use Rattle.arrow_types.specs.Schemas.{fields_in}
use Rattle.ipc_fields.specs.IpcFields.{ids_of, fields_with, metadata_in}
use Rattle.ipc_text.proofs.LineSteps.{whole_text}
use Rattle.ipc_text.proofs.schema_text.Goals as goal

pub returns : goal.returns
returns c =
    let own = c.args.ipc_schema.now in
    let b = c.push_schema_pairs.new.out.items in
    whole_text c.args.schema.now (ids_of own.fields.items) own.is_little_endian (metadata_in c.args.metadata) c.new-text.result.items c.push_text.new.out.items b c.push_schema_fields.new.out.items c.new-text.ensures.items
    (c.in_ok-push_text.ensures ∙ ap (λ z. c.new-text.result.items ++ z) c.order_line.ensures) c.in_ok-push_schema_pairs.ensures
    (c.in_ok-push_schema_fields.ensures ∙ ap (λ z. b ++ field_lines 0 (fields_with (fields_in c.args.schema.now) (ids_of z))) c.as_slice.ensures.value)
