use Rattle.std.proofs.Common.{◌∙◌, sym, subst}
use Rattle.arrow_spec.specs.Readings.{Refuses}
use Rattle.view_types.specs.Tops.{top_in}
use Rattle.view_types.specs.declared.layout.Layout.TheVariants.{Views as Viewed}
use Rattle.ipc_view.specs.Built.{batch_of, place_of}
use Rattle.ipc_view.proofs.Answered.{err_from}
use Rattle.ipc_view.proofs.LeafParts.{viewed_leaf, viewed_refused, viewed_told}
use Rattle.ipc_view.proofs.batch.BatchTables.viewed.Goals as goal

pub returns-in_err-parts-clause-gives : goal.returns-in_err-parts-clause-gives
returns-in_err-parts-clause-gives c =
    err_from c.from_residual.result c.in_err-parts.field-0.0 _ _ c.from_residual.ensures.0 c.from_residual.ensures.1
    (viewed_refused (batch_of c.args.self.now) c.args.is_text (place_of c.args.place) c.args.rows c.in_err-parts.field-0.0 c.in_err-parts.ensures.gives.err)

pub returns-in_err-check_views-clause-gives : goal.returns-in_err-check_views-clause-gives
returns-in_err-check_views-clause-gives c =
    let s = c.in_ok-parts.ensures.gives.ok in
    let told = viewed_told (batch_of c.args.self.now) (Viewed c.args.is_text) c.args.is_text (place_of c.args.place) c.args.rows (top_in c.in_ok-parts.parts) s.1 s.0 in
    err_from c.from_residual-in_err-check_views.result c.in_err-check_views.field-0.0 _ _ c.from_residual-in_err-check_views.ensures.0 c.from_residual-in_err-check_views.ensures.1
    (subst (λ es. Refuses c.in_err-check_views.field-0.0 es) (sym told) c.in_err-check_views.ensures.gives.err)

pub returns-clause-gives : goal.returns-clause-gives
returns-clause-gives c =
    let s = c.in_ok-parts.ensures.gives.ok in
    let told = viewed_told (batch_of c.args.self.now) (Viewed c.args.is_text) c.args.is_text (place_of c.args.place) c.args.rows (top_in c.in_ok-parts.parts) s.1 s.0 in
    let g = c.in_ok-check_views.ensures.gives.ok in
    record { ok = (told ∙ g.0, viewed_leaf (batch_of c.args.self.now) c.args.is_text (place_of c.args.place) c.args.rows (top_in c.in_ok-parts.parts) s.1 g.1); err = tt }
