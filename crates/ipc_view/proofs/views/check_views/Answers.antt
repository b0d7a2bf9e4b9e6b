use Rattle.std.proofs.Common.{◌≡◌, true, false, sym, ◌∙◌}
use Rattle.view_types.specs.Tops.{top_in}
use Rattle.ipc_view.specs.Layouts.{AreGood}
use Rattle.arrow_buffers.proofs.TextViews.{neither}
use Rattle.ipc_view.proofs.Answered.{is_bad, is_good}
use Rattle.ipc_view.proofs.LeafParts.{view_texts_refused, views_fine, views_refused}
use Rattle.ipc_view.proofs.views.check_views.Goals as goal

pub returns-then-are_text_views-clause-gives : goal.returns-then-are_text_views-clause-gives
returns-then-are_text_views-clause-gives c =
    let both = neither _ _ (sym c.if-are_text_views.true ∙ c.are_text_views.ensures) in
    let g : AreGood (top_in c.args.parts.now) c.args.is_text = record { views = both.0; texts = λ x. both.1 } in
    record { ok = (views_fine (top_in c.args.parts.now) c.args.is_text g, g); err = tt }

pub returns-then-not-are_good_views-clause-gives : goal.returns-then-not-are_good_views-clause-gives
returns-then-not-are_good_views-clause-gives c = record { ok = tt; err = views_refused (top_in c.args.parts.now) c.args.is_text (is_bad _ _ c.are_good_views.ensures c.if-not-are_good_views.true) }

pub returns-then-not-is_text-clause-gives : goal.returns-then-not-is_text-clause-gives
returns-then-not-is_text-clause-gives c =
    let g : AreGood (top_in c.args.parts.now) c.args.is_text = record { views = is_good _ _ c.are_good_views.ensures c.if-not-are_good_views.false; texts = λ x. let e : true ≡ false = sym x ∙ c.if-not-is_text.true in cc } in
    record { ok = (views_fine (top_in c.args.parts.now) c.args.is_text g, g); err = tt }

pub returns-then-not-are_view_texts-clause-gives : goal.returns-then-not-are_view_texts-clause-gives
returns-then-not-are_view_texts-clause-gives c = record { ok = tt; err = view_texts_refused (top_in c.args.parts.now) c.args.is_text (is_good _ _ c.are_good_views.ensures c.if-not-are_good_views.false) c.if-not-is_text.false (is_bad _ _ c.are_view_texts.ensures c.if-not-are_view_texts.true) }

pub returns-clause-gives : goal.returns-clause-gives
returns-clause-gives c =
    let g : AreGood (top_in c.args.parts.now) c.args.is_text = record { views = is_good _ _ c.are_good_views.ensures c.if-not-are_good_views.false; texts = λ x. is_good _ _ c.are_view_texts.ensures c.if-not-are_view_texts.false } in
    record { ok = (views_fine (top_in c.args.parts.now) c.args.is_text g, g); err = tt }
