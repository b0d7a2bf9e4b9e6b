use Rattle.std.proofs.Common.{◌≡◌, ◌++◌, map, Err, ap, ◌∙◌}
use Rattle.arrow_spec.specs.Kinds.{uses_in}
use Rattle.arrow_types.specs.Child.{fields_from}
use Rattle.arrow_types.specs.KindOf.{child_of}
use Rattle.ipc_fields.specs.IpcFields.{ids_of, fields_with}
use Rattle.schema_reader.specs.Keyed.{keyed_in}
use Rattle.ipc_fields.specs.Uses.{use_in}
use Rattle.ipc_fields.proofs.Steps.{refused_with, is_err}
use Rattle.schema_reader.proofs.Schemas.{checked_ok, checked_twice, checked_apart, put_named, put_shapes}
use Rattle.schema_reader.proofs.schema.check_fields.Goals as goal

pub returns-in_err-schema-clause-gives : goal.returns-in_err-schema-clause-gives
returns-in_err-schema-clause-gives c =
    let e : c.from_residual-in_err-schema.result ≡ Err c.in_err-schema.field-0.0 = is_err _ _ _ c.from_residual-in_err-schema.ensures.0 c.from_residual-in_err-schema.ensures.1 (λ f h. h) in
    refused_with keyed_in c.from_residual-in_err-schema.result _ c.in_err-schema.field-0.0 e (checked_twice (map child_of c.args.children.fields.items) (ids_of c.args.children.ipc_fields.items) c.in_err-schema.field-0.0 c.in_err-schema.ensures.gives)

pub returns-in_err-check_uses-clause-gives : goal.returns-in_err-check_uses-clause-gives
returns-in_err-check_uses-clause-gives c =
    let cs = map child_of c.args.children.fields.items in
    let below = ids_of c.args.children.ipc_fields.items in
    let us = map use_in c.push_children.new.uses.items in
    let u : us ≡ uses_in (fields_with (fields_from cs) below) = c.in_ok-push_children.ensures.ok
    ∙ ap (λ xs. map use_in xs ++ uses_in (fields_with (fields_from (map child_of c.deref.result.now)) (ids_of c.deref-2.result.now))) c.new-uses.ensures.items
    ∙ ap (λ xs. uses_in (fields_with (fields_from (map child_of xs)) (ids_of c.deref-2.result.now))) c.deref.ensures.value
    ∙ ap (λ xs. uses_in (fields_with (fields_from cs) (ids_of xs))) c.deref-2.ensures.value in
    let e : c.from_residual-in_err-check_uses.result ≡ Err c.in_err-check_uses.field-0.0 = is_err _ _ _ c.from_residual-in_err-check_uses.ensures.0 c.from_residual-in_err-check_uses.ensures.1 (λ f h. h) in
    refused_with keyed_in c.from_residual-in_err-check_uses.result _ c.in_err-check_uses.field-0.0 e (checked_apart cs below c.in_ok-schema.schema us c.in_err-check_uses.field-0.0 c.in_ok-schema.ensures.gives u c.in_err-check_uses.ensures.gives)

pub returns-clause-gives : goal.returns-clause-gives
returns-clause-gives c =
    let cs = map child_of c.args.children.fields.items in
    let below = ids_of c.args.children.ipc_fields.items in
    let us = map use_in c.push_children.new.uses.items in
    let u : us ≡ uses_in (fields_with (fields_from cs) below) = c.in_ok-push_children.ensures.ok
    ∙ ap (λ xs. map use_in xs ++ uses_in (fields_with (fields_from (map child_of c.deref.result.now)) (ids_of c.deref-2.result.now))) c.new-uses.ensures.items
    ∙ ap (λ xs. uses_in (fields_with (fields_from (map child_of xs)) (ids_of c.deref-2.result.now))) c.deref.ensures.value
    ∙ ap (λ xs. uses_in (fields_with (fields_from cs) (ids_of xs))) c.deref-2.ensures.value in
    checked_ok cs below c.in_ok-schema.schema us c.in_ok-schema.ensures.gives u c.in_ok-check_uses.ensures.gives

pub returns-clause-named : goal.returns-clause-named
returns-clause-named c = put_named (map child_of c.args.children.fields.items) c.in_ok-schema.schema c.in_ok-schema.ensures.gives

pub returns-clause-shapes : goal.returns-clause-shapes
returns-clause-shapes c = put_shapes (map child_of c.args.children.fields.items) c.in_ok-schema.schema (ids_of c.args.children.ipc_fields.items) c.in_ok-schema.ensures.gives c.requires
