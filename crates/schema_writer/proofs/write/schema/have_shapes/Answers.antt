use Rattle.std.proofs.Common.{◌<◌, ◌≤◌, map, length, sym, ◌∙◌, arith}
use Rattle.std.proofs.lemmas.List.{at_drop_all, length-map}
use Rattle.arrow_types.specs.KindOf.{child_of}
use Rattle.arrow_types.specs.Schemas.{Keyed}
use Rattle.ipc_fields.proofs.Steps.{mapped_found}
use Rattle.ipc_fields.proofs.ShapeSteps.{found, not_as_many, shape_next, shape_wrong, shape_done}
use Rattle.schema_writer.proofs.write.schema.have_shapes.Goals as goal

pub returns-then-not-field_has_shape : goal.returns-then-not-field_has_shape
returns-then-not-field_has_shape c =
    let x = child_of c.field_at-field.result.now in
    let here = found x.kind _ _ _ _ _ c.field_has_shape.ensures c.id_at.ensures.id c.fields_at.ensures in
    let lt : c.loop-i.i < length c.args.ipc_fields.now = omega (arith, c.loop-i-test.true) in
    sym (shape_wrong _ _ x c.args.ipc_fields.now c.loop-i.i _ (mapped_found (λ (p : Keyed). p.1) c.args.schema.now c.loop-i.i x c.field_at-field.ensures) lt c.loop-i.invariant (sym here ∙ c.if-not-field_has_shape.true))

pub loop-i-preserved : goal.loop-i-preserved
loop-i-preserved c =
    let x = child_of c.field_at-field.result.now in
    let here = found x.kind _ _ _ _ _ c.field_has_shape.ensures c.id_at.ensures.id c.fields_at.ensures in
    let lt : c.loop-i.i < length c.args.ipc_fields.now = omega (arith, c.loop-i-test.true) in
    shape_next _ _ x c.args.ipc_fields.now c.loop-i.i _ (mapped_found (λ (p : Keyed). p.1) c.args.schema.now c.loop-i.i x c.field_at-field.ensures) lt c.loop-i.invariant (sym here ∙ c.if-not-field_has_shape.false)

pub returns : goal.returns
returns c =
    let le : length c.args.schema.now ≤ c.loop-i.i = omega (arith, c.loop-i-test.false) in
    let few : length c.args.ipc_fields.now ≤ c.loop-i.i = omega (arith, c.loop-i-test.false) in
    sym (shape_done _ c.args.ipc_fields.now c.loop-i.i _ (at_drop_all (map (λ (p : Keyed). p.1)) c.args.schema.now c.loop-i.i le) few c.loop-i.invariant)

pub returns-then-len-ipc_fields : goal.returns-then-len-ipc_fields
returns-then-len-ipc_fields c = sym (not_as_many (map (λ (p : Keyed). p.1) c.args.schema.now) c.args.ipc_fields.now (λ e. c.if-len-ipc_fields.true (c.len.ensures.count ∙ sym (length-map c.args.schema.now (λ (p : Keyed). p.1)) ∙ e)))
