use Rattle.std.proofs.Common.{◌≤◌, drop, map, length, sym, ◌∙◌, arith}
use Rattle.std.proofs.lemmas.List.{at_drop_all}
use Rattle.arrow_types.specs.KindOf.{child_of}
use Rattle.arrow_types.specs.Schemas.{Keyed, fields_in}
use Rattle.ipc_fields.specs.IpcFields.{ids_of, fields_with}
use Rattle.ipc_fields.proofs.Steps.{mapped_found}
use Rattle.schema_writer.proofs.Saying.{fit_next, fit_wrong, fit_done, found_fits, representable_is}
use Rattle.schema_writer.proofs.write.schema.is_sayable.Goals as goal

pub returns-then-not-field_fits : goal.returns-then-not-field_fits
returns-then-not-field_fits c =
    let x = child_of c.field_at-field.result.now in
    let here = found_fits x.kind _ _ _ _ _ c.field_fits.ensures c.id_at.ensures.id c.fields_at.ensures in
    sym (representable_is (fields_with (fields_in c.args.schema.now) (ids_of c.args.ipc_fields.now)) ∙ fit_wrong _ _ x c.args.ipc_fields.now c.loop-i.i _ (mapped_found (λ (p : Keyed). p.1) c.args.schema.now c.loop-i.i x c.field_at-field.ensures) c.loop-i.invariant (sym here ∙ c.if-not-field_fits.true))

pub loop-i-preserved : goal.loop-i-preserved
loop-i-preserved c =
    let x = child_of c.field_at-field.result.now in
    let here = found_fits x.kind _ _ _ _ _ c.field_fits.ensures c.id_at.ensures.id c.fields_at.ensures in
    fit_next _ _ x c.args.ipc_fields.now c.loop-i.i _ (mapped_found (λ (p : Keyed). p.1) c.args.schema.now c.loop-i.i x c.field_at-field.ensures) c.loop-i.invariant (sym here ∙ c.if-not-field_fits.false)

pub returns : goal.returns
returns c =
    let le : length c.args.schema.now ≤ c.loop-i.i = omega (arith, c.loop-i-test.false) in
    sym (representable_is (fields_with (fields_in c.args.schema.now) (ids_of c.args.ipc_fields.now)) ∙ fit_done _ (ids_of (drop c.loop-i.i c.args.ipc_fields.now)) _ (at_drop_all (map (λ (p : Keyed). p.1)) c.args.schema.now c.loop-i.i le) c.loop-i.invariant)
