use Rattle.std.proofs.Common.{◌+◌, [], ◌∷◌, length, sym, ap, subst, ◌∙◌, arith}
use Rattle.arrow_spec.specs.Counts.{first_place}
use Rattle.ipc_read.specs.Batches.{schema_fields}
use Rattle.ipc_read.specs.Held.{column_kind}
use Rattle.ipc_read.proofs.Columns.{column_stands}
use Rattle.ipc_read.proofs.LeftFields.{child_as, width_by}
use Rattle.std.proofs.lemmas.List.{length-append}
use Rattle.view_types.specs.Views.{views}
use Rattle.ipc_view.specs.Built.{batch_of, place_of}
use Rattle.ipc_view.specs.Lent.{AreLentOf}
use Rattle.ipc_view.proofs.Answered.{gives_from}
use Rattle.ipc_view.proofs.LentViews.{lent_more}
use Rattle.ipc_view.proofs.SeenColumns.{ColumnsDone, all_seen, next_column, none_seen, one_seen, shown_field}
use Rattle.ipc_view.proofs.batch.BatchTables.columns.Goals as goal

pub loop-i-init : goal.loop-i-init
loop-i-init c = record {
  done = λ d shows. subst (λ vs. ColumnsDone (batch_of c.args.self.now) d (schema_fields c.args.schema.now c.args.fields.now) 0 c.args.rows vs first_place) (sym c.new-views.ensures.items) (none_seen (batch_of c.args.self.now) d (schema_fields c.args.schema.now c.args.fields.now) c.args.rows);
  place = record { bound = omega arith; views = omega arith };
  within = omega arith;
  count = ap length c.new-views.ensures.items;
  lent = λ holds. subst (λ vs. AreLentOf c.args.self.now.input.now (views vs)) (sym c.new-views.ensures.items) tt;
}

pub column-requires-clause-shown : goal.column-requires-clause-shown
column-requires-clause-shown c = shown_field c.args.schema.now c.loop-i.i c.field_at-field.result.now c.field_at-field.ensures c.requires.shown

pub returns-in_err-view-clause-seen : goal.returns-in_err-view-clause-seen
returns-in_err-view-clause-seen c = λ d shows.
    let f = c.field_at-field.result.now in
    let fs = schema_fields c.args.schema.now c.args.fields.now in
    let x = child_as f (column_kind f.dtype c.id_at.result c.fields_at.result.now) in
    let e = column_stands c.args.schema.now c.args.fields.now c.loop-i.i f c.id_at.result c.fields_at.result.now c.field_at-field.ensures c.id_at.ensures.id c.fields_at.ensures in
    gives_from _ c.from_residual.result c.in_err-view.field-0.0 _ c.from_residual.ensures.0 c.from_residual.ensures.1
    (next_column (batch_of c.args.self.now) d fs c.loop-i.i c.args.rows c.loop-i.views.items (place_of c.loop-i.next) x c.in_err-view.field-0.0 e (c.loop-i.invariant.done d shows) (c.in_err-view.ensures.seen d shows).err)

pub loop-i-preserved : goal.loop-i-preserved
loop-i-preserved c =
    let m = batch_of c.args.self.now in
    let f = c.field_at-field.result.now in
    let fs = schema_fields c.args.schema.now c.args.fields.now in
    let x = child_as f (column_kind f.dtype c.id_at.result c.fields_at.result.now) in
    let e = column_stands c.args.schema.now c.args.fields.now c.loop-i.i f c.id_at.result c.fields_at.result.now c.field_at-field.ensures c.id_at.ensures.id c.fields_at.ensures in
    record {
      done = λ d shows.
          let s = (c.in_ok-view.ensures.seen d shows).ok in
          subst (λ vs. ColumnsDone m d fs (c.loop-i.i + 1) c.args.rows vs (place_of c.in_ok-view.behind)) (sym c.in_ok-push.ensures.items)
          (one_seen m d fs c.loop-i.i c.args.rows c.loop-i.views.items (place_of c.loop-i.next) (place_of c.in_ok-view.behind) x c.in_ok-view.view e (c.loop-i.invariant.done d shows) s.0 s.1);
      place = c.in_ok-view.ensures.place;
      within = omega (arith, c.loop-i-test.true);
      count = ap length c.in_ok-push.ensures.items ∙ length-append c.loop-i.views.items (c.in_ok-view.view ∷ []) ∙ ap (λ n. n + 1) c.loop-i.invariant.count;
      lent = λ holds. subst (λ vs. AreLentOf c.args.self.now.input.now (views vs)) (sym c.in_ok-push.ensures.items) (lent_more c.args.self.now.input.now c.loop-i.views.items c.in_ok-view.view (c.loop-i.invariant.lent holds) (c.in_ok-view.ensures.lent holds));
    }

pub returns-clause-seen : goal.returns-clause-seen
returns-clause-seen c = λ d shows.
    let w = width_by (λ p. p.1) c.args.schema.now c.args.fields.now in
    all_seen (batch_of c.args.self.now) d (schema_fields c.args.schema.now c.args.fields.now) c.loop-i.i c.args.rows c.loop-i.views.items (place_of c.loop-i.next) (omega (arith, w)) (c.loop-i.invariant.done d shows)
