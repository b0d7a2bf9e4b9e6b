use Rattle.std.proofs.Common.{◌≡◌, ◌+◌, ◌≤◌, ◌<◌, true, sym, subst}
use Rattle.view_types.specs.Spans.{Span, has_spans, span_of}
use Rattle.view_types.specs.Tops.{top_in}
use Rattle.view_types.specs.Views.{View, children_of, is_valid, layout_of, rows_at, rows_of, views}
use Rattle.view_types.proofs.Fits.{set_of, span_there, span_within, spans_fit}
use Rattle.view_types.proofs.view.ArrayView.child_rows.Goals as goal

pub returns-clause-within : goal.returns-clause-within
returns-clause-within c =
    let layout = c.self.inside.parts.layout in
    let t = top_in c.self.inside.parts in
    let below = subst (λ (v : View). c.args.row < rows_of v) (sym c.self.view_is) c.requires.row.below in
    let set = subst (λ (v : View). is_valid v c.args.row ≡ true) (sym c.self.view_is) c.requires.row.valid in
    let has = subst (λ (v : View). has_spans (layout_of v) ≡ true) (sym c.self.view_is) c.requires.layout in
    let now = subst (λ (v : View). (span_of v c.args.row).first + (span_of v c.args.row).count ≤ rows_at (children_of v) (span_of v c.args.row).child) c.self.view_is
    (spans_fit layout t (views c.self.inside.children.items) c.args.row c.self.invariant.sound.stands below (set_of layout t c.args.row set) has) in
    let fit = subst (λ (s : Span). s.first + s.count ≤ rows_at (children_of c.args.self.now) s.child) c.span.ensures now in
    λ v e. span_within (children_of c.args.self.now) c.span.result.0 c.span.result.1 c.span.result.2 fit v e

pub returns-clause-there : goal.returns-clause-there
returns-clause-there c =
    let layout = c.self.inside.parts.layout in
    let t = top_in c.self.inside.parts in
    let below = subst (λ (v : View). c.args.row < rows_of v) (sym c.self.view_is) c.requires.row.below in
    let set = subst (λ (v : View). is_valid v c.args.row ≡ true) (sym c.self.view_is) c.requires.row.valid in
    let has = subst (λ (v : View). has_spans (layout_of v) ≡ true) (sym c.self.view_is) c.requires.layout in
    let now = subst (λ (v : View). (span_of v c.args.row).first + (span_of v c.args.row).count ≤ rows_at (children_of v) (span_of v c.args.row).child) c.self.view_is
    (spans_fit layout t (views c.self.inside.children.items) c.args.row c.self.invariant.sound.stands below (set_of layout t c.args.row set) has) in
    let fit = subst (λ (s : Span). s.first + s.count ≤ rows_at (children_of c.args.self.now) s.child) c.span.ensures now in
    λ some. span_there (children_of c.args.self.now) c.span.result.0 c.span.result.1 c.span.result.2 fit some
