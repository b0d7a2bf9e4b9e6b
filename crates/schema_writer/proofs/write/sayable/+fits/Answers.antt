use Rattle.std.proofs.Common.{◌≡◌, ◌≤◌, ◌&&◌, drop, map, length, sym, ap, ◌∙◌, arith}
use Rattle.std.proofs.lemmas.List.{at_drop_all}
use Rattle.arrow_spec.specs.Kinds as kind
use Rattle.arrow_types.specs.Child.{one_field}
use Rattle.arrow_types.specs.KindOf.{kind_of, child_of, fields_of}
use Rattle.arrow_types.specs.declared.data_type.UnionType.{out-UnionType}
use Rattle.arrow_types.proofs.DataTypes.{kind_of_Map}
use Rattle.arrow_types.proofs.Sameness.{union_kind_of_is}
use Rattle.ipc_fields.specs.IpcFields.{ids_of, kind_with, fields_with}
use Rattle.ipc_fields.proofs.Steps.{mapped_item}
use Rattle.schema_writer.specs.Tables.{kind_fits, all_fit}
use Rattle.schema_writer.proofs.Saying.{fit_next, fit_wrong, fit_done, found_fits, union_said}
use Rattle.schema_writer.proofs.write.sayable.+fits.Goals as goal

pub all_fit-returns-then-not-field_fits : goal.all_fit-returns-then-not-field_fits
all_fit-returns-then-not-field_fits t c =
    let x = c.index-fields-i.result in
    let here = found_fits (child_of x).kind _ _ _ _ _ c.field_fits.ensures c.id_at.ensures.id c.fields_at.ensures in
    let first = mapped_item child_of c.args.fields.now c.loop-i.i x c.loop-i-test.true c.index-fields-i.is in
    sym (fit_wrong _ _ (child_of x) c.args.below.now c.loop-i.i _ first c.loop-i.invariant (sym here ∙ c.if-not-field_fits.true))

pub all_fit-loop-i-preserved : goal.all_fit-loop-i-preserved
all_fit-loop-i-preserved t c =
    let x = c.index-fields-i.result in
    let here = found_fits (child_of x).kind _ _ _ _ _ c.field_fits.ensures c.id_at.ensures.id c.fields_at.ensures in
    let first = mapped_item child_of c.args.fields.now c.loop-i.i x c.loop-i-test.true c.index-fields-i.is in
    fit_next _ _ (child_of x) c.args.below.now c.loop-i.i _ first c.loop-i.invariant (sym here ∙ c.if-not-field_fits.false)

pub all_fit-returns : goal.all_fit-returns
all_fit-returns t c =
    let le : length c.args.fields.now ≤ c.loop-i.i = omega (arith, c.loop-i-test.false) in
    sym (fit_done _ (ids_of (drop c.loop-i.i c.args.below.now)) _ (at_drop_all (map child_of) c.args.fields.now c.loop-i.i le) c.loop-i.invariant)

pub fits-returns-in-Map : goal.fits-returns-in-Map
fits-returns-in-Map t c =
    let own = ids_of c.args.below.now in
    let x : kind_of c.args.t.now ≡ kind.map c.in-Map.field-1 (one_field (child_of c.in-Map.f.value)) = ap kind_of c.in-Map.is ∙ kind_of_Map c.in-Map.f c.in-Map.field-1 in
    c.one_fits-in-Map.ensures ∙ ap (λ f. all_fit (fields_with (one_field (child_of f)) own)) c.deref-in-Map.ensures ∙ ap (λ k. kind_fits (kind_with k c.args.id own)) (sym x)

pub union_fits-returns-then-has_right_ids : goal.union_fits-returns-then-has_right_ids
union_fits-returns-then-has_right_ids t c =
    let own = ids_of c.args.below.now in
    let u = out-UnionType c.args.u.now in
    let v = u.fields in
    let count : c.len.result ≡ length v.items = omega (arith, c.len.ensures) in
    let e = union_said u.mode u.ids v.items c.len.result own c.args.id c.has_right_ids.result count c.has_right_ids.ensures in
    c.all_fit.ensures ∙ ap (λ fs. all_fit (fields_with (fields_of fs) own)) c.as_slice.ensures.value ∙ sym (ap (λ b. b && all_fit (fields_with (fields_of v.items) own)) c.if-has_right_ids.true) ∙ sym e ∙ ap (λ k. kind_fits (kind_with k c.args.id own)) (sym (union_kind_of_is c.args.u.now))

pub union_fits-returns-else-has_right_ids : goal.union_fits-returns-else-has_right_ids
union_fits-returns-else-has_right_ids t c =
    let own = ids_of c.args.below.now in
    let u = out-UnionType c.args.u.now in
    let v = u.fields in
    let count : c.len.result ≡ length v.items = omega (arith, c.len.ensures) in
    let e = union_said u.mode u.ids v.items c.len.result own c.args.id c.has_right_ids.result count c.has_right_ids.ensures in
    c.if-has_right_ids.false ∙ sym (ap (λ b. b && all_fit (fields_with (fields_of v.items) own)) c.if-has_right_ids.false) ∙ sym e ∙ ap (λ k. kind_fits (kind_with k c.args.id own)) (sym (union_kind_of_is c.args.u.now))
