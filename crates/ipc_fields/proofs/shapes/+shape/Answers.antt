use Rattle.std.proofs.Common.{◌<◌, ◌≤◌, map, length, sym, ◌∙◌, arith}
use Rattle.std.proofs.lemmas.List.{at_drop_all, length-map}
use Rattle.arrow_types.specs.KindOf.{child_of}
use Rattle.ipc_fields.proofs.Steps.{mapped_item}
use Rattle.ipc_fields.proofs.ShapeSteps.{one_shape, not_one, not_as_many, shape_next, shape_wrong, shape_done, found}
use Rattle.ipc_fields.proofs.shapes.+shape.Goals as goal

pub is_one_shape-returns-then-below-ne1 : goal.is_one_shape-returns-then-below-ne1
is_one_shape-returns-then-below-ne1 t c = not_one (child_of c.args.field.now) c.args.below.now c.if-below-ne1.true

pub is_one_shape-returns : goal.is_one_shape-returns
is_one_shape-returns t c =
    found (child_of c.args.field.now).kind _ _ _ _ _ c.field_has_shape.ensures c.id_at.ensures.id c.fields_at.ensures ∙ one_shape (child_of c.args.field.now) c.args.below.now c.if-below-ne1.false

pub have_shapes-returns-then-fields-below : goal.have_shapes-returns-then-fields-below
have_shapes-returns-then-fields-below t c = sym (not_as_many (map child_of c.args.fields.now) c.args.below.now (λ e. c.if-fields-below.true (sym (length-map c.args.fields.now child_of) ∙ e)))

pub have_shapes-returns-then-not-field_has_shape : goal.have_shapes-returns-then-not-field_has_shape
have_shapes-returns-then-not-field_has_shape t c =
    let i = c.loop-i.i in
    let x = c.index-fields-i.result in
    let here = found (child_of x).kind _ _ _ _ _ c.field_has_shape.ensures c.id_at.ensures.id c.fields_at.ensures in
    let first = mapped_item child_of c.args.fields.now i x c.loop-i-test.true c.index-fields-i.is in
    let lt : i < length c.args.below.now = omega (arith, c.loop-i-test.true, c.if-fields-below.false) in
    sym (shape_wrong _ _ (child_of x) c.args.below.now i _ first lt c.loop-i.invariant (sym here ∙ c.if-not-field_has_shape.true))

pub have_shapes-loop-i-preserved : goal.have_shapes-loop-i-preserved
have_shapes-loop-i-preserved t c =
    let i = c.loop-i.i in
    let x = c.index-fields-i.result in
    let here = found (child_of x).kind _ _ _ _ _ c.field_has_shape.ensures c.id_at.ensures.id c.fields_at.ensures in
    let first = mapped_item child_of c.args.fields.now i x c.loop-i-test.true c.index-fields-i.is in
    let lt : i < length c.args.below.now = omega (arith, c.loop-i-test.true, c.if-fields-below.false) in
    shape_next _ _ (child_of x) c.args.below.now i _ first lt c.loop-i.invariant (sym here ∙ c.if-not-field_has_shape.false)

pub have_shapes-returns : goal.have_shapes-returns
have_shapes-returns t c =
    let le : length c.args.fields.now ≤ c.loop-i.i = omega (arith, c.loop-i-test.false) in
    let few : length c.args.below.now ≤ c.loop-i.i = omega (arith, c.loop-i-test.false, c.if-fields-below.false) in
    sym (shape_done _ c.args.below.now c.loop-i.i _ (at_drop_all (map child_of) c.args.fields.now c.loop-i.i le) few c.loop-i.invariant)
