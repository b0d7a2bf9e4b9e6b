use Rattle.std.proofs.Common.{◌+◌, ◌<◌, drop, length, map, sym, ◌∙◌, subst, arith}
use Rattle.std.proofs.lemmas.List.{length-map}
use Rattle.arrow_spec.specs.Features.{float_faults, floats_in}
use Rattle.arrow_types.specs.Child.{fields_from}
use Rattle.arrow_types.specs.KindOf.{child_of, fields_of}
use Rattle.ipc_messages.specs.Features.{IsOneOf}
use Rattle.ipc_messages.proofs.Columns.{field_item, kind_of_field}
use Rattle.ipc_messages.proofs.Floats.{floats_left, found_in, none_in, none_left, one_alone}
use Rattle.ipc_messages.proofs.features.+features.Goals as goal

pub field_feature-returns : goal.field_feature-returns
field_feature-returns t c =
    one_alone c.type_feature.result (float_faults (child_of c.args.field.now).kind) (subst (λ k. IsOneOf c.type_feature.result (float_faults k)) (sym (kind_of_field c.args.field.now)) c.type_feature.ensures)

pub fields_feature-returns-then-is_some : goal.fields_feature-returns-then-is_some
fields_feature-returns-then-is_some t c =
    let fs = c.args.fields.now in
    let cs = map child_of fs in
    let i = c.loop-field.field-index in
    let x = c.field-item.result in
    let within : i < length fs = omega (arith, c.loop-field-test.true) in
    found_in c.field_feature-found.result (floats_in (fields_of fs)) (floats_in (fields_from (drop i cs))) (float_faults (child_of x).kind) (floats_in (fields_from (drop (i + 1) cs)))
    c.loop-field.invariant.left (floats_left cs i (child_of x) (field_item fs i x within c.field-item.is)) c.field_feature-found.ensures (sym c.if-is_some.true ∙ c.is_some.ensures)

pub fields_feature-loop-field-preserved : goal.fields_feature-loop-field-preserved
fields_feature-loop-field-preserved t c =
    let fs = c.args.fields.now in
    let cs = map child_of fs in
    let i = c.loop-field.field-index in
    let x = c.field-item.result in
    let within : i < length fs = omega (arith, c.loop-field-test.true) in
    record {
      left = none_in c.field_feature-found.result (floats_in (fields_of fs)) (floats_in (fields_from (drop i cs))) (float_faults (child_of x).kind) (floats_in (fields_from (drop (i + 1) cs)))
          c.loop-field.invariant.left (floats_left cs i (child_of x) (field_item fs i x within c.field-item.is)) c.field_feature-found.ensures (sym c.if-is_some.false ∙ c.is_some.ensures);
    }

pub fields_feature-returns : goal.fields_feature-returns
fields_feature-returns t c =
    let cs = map child_of c.args.fields.now in
    none_left cs c.loop-field.field-index (floats_in (fields_of c.args.fields.now)) (omega (arith, length-map c.args.fields.now child_of)) c.loop-field.invariant.left
