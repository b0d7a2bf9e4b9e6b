use Rattle.std.proofs.Common.{◌≡◌, ◌∙◌, sym, ap, arith, string_bytes, Some}
use Rattle.std.specs.Prelude.{slice_get}
use Rattle.arrow_types.specs.KindOf.{child_of}
use Rattle.arrow_types.specs.Schemas.{Keyed, with_field}
use Rattle.ipc_read_laws.specs.Projection.{columns_of}
use Rattle.ipc_read.proofs.Chosen.{field_added, field_left}
use Rattle.ipc_read.proofs.projection.chosen_fields.Goals as goal

pub loop-i-preserved-then-not-is_chosen : goal.loop-i-preserved-then-not-is_chosen
loop-i-preserved-then-not-is_chosen c = record {
  copied = field_left (columns_of c.args.projection) c.args.schema.now c.loop-i.columns c.loop-i.i (sym c.is_chosen.ensures ∙ c.if-not-is_chosen.true) c.loop-i.invariant.copied;
  within = omega arith;
}

pub loop-i-preserved : goal.loop-i-preserved
loop-i-preserved c =
    let p : Keyed = (string_bytes c.in-Some.key.now, child_of c.in-Some.field.now) in
    let at : slice_get c.args.schema.now c.loop-i.i ≡ Some p = sym c.in-Some.ensures in
    let put : c.insert.new.self ≡ with_field p.0 p.1 c.loop-i.columns = c.in_ok-insert.ensures.put ∙ ap (λ k. with_field k (child_of c.in_ok-field.field) c.loop-i.columns) c.in_ok-key.ensures.cases ∙ ap (λ f. with_field p.0 f c.loop-i.columns) c.in_ok-field.ensures in
    record {
      copied = field_added (columns_of c.args.projection) c.args.schema.now c.loop-i.columns c.insert.new.self c.loop-i.i p c.len-i-end.ensures.distinct at (sym c.is_chosen.ensures ∙ c.if-not-is_chosen.false) c.loop-i.invariant.copied put;
      within = omega arith;
    }
