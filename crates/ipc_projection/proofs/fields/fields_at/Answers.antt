use Rattle.std.proofs.Common.{◌≡◌, ◌∙◌, sym, ap, arith, get_or, string_bytes}
use Rattle.std.proofs.lemmas.Option.{slice_get-get_or}
use Rattle.arrow_types.specs.KindOf.{child_of}
use Rattle.arrow_types.specs.Schemas.{Keyed, with_field}
use Rattle.ipc_projection.proofs.Stood.{all_stood}
use Rattle.ipc_projection.proofs.Keys.{field_stood}
use Rattle.ipc_projection.proofs.fields.fields_at.Goals as goal

pub loop-i-preserved : goal.loop-i-preserved
loop-i-preserved c =
    let p : Keyed = (string_bytes c.in-Some.key.now, child_of c.in-Some.field.now) in
    let put : c.insert.new.self ≡ with_field p.0 p.1 c.loop-i.fields = c.in_ok-insert.ensures.put ∙ ap (λ k. with_field k (child_of c.in_ok-field.field) c.loop-i.fields) c.in_ok-key.ensures.cases ∙ ap (λ f. with_field p.0 f c.loop-i.fields) c.in_ok-field.ensures in
    field_stood c.args.schema.now c.args.places.now c.loop-i.i c.loop-i.fields c.requires.keys c.requires.places c.loop-i.invariant (get_or c.args.places.now c.loop-i.i 0) p (slice_get-get_or c.args.places.now c.loop-i.i 0 c.loop-i-test.true) (sym c.in-Some.ensures) c.insert.new.self put

pub returns-clause-fields : goal.returns-clause-fields
returns-clause-fields c = all_stood c.args.schema.now c.args.places.now c.loop-i.i c.loop-i.fields c.loop-i.invariant (omega arith)
