use Rattle.std.proofs.Common.{◌≡◌, ◌∙◌, ap, arith}
use Rattle.std.proofs.lemmas.Bool.{lt-leb}
use Rattle.std.proofs.lemmas.List.{get_or_read}
use Rattle.arrow_spec.specs.Arrays.{u32_of}
use Rattle.view_types.specs.Tops.{top_in}
use Rattle.view_types.specs.Views.{range_at, view_in}
use Rattle.view_types.proofs.Pieces.{long_stands, short_stands}
use Rattle.view_types.proofs.parts.ViewParts.viewed.Goals as goal

pub returns-then-length-le12-clause-bytes : goal.returns-then-length-le12-clause-bytes
returns-then-length-le12-clause-bytes c =
    short_stands (top_in c.args.self.now) c.args.row c.u32_at-length.result c.requires.views c.requires.row (c.u32_at-length.ensures ∙ ap (λ v. u32_of v 0) c.view-view.ensures.view) c.if-length-le12.true

pub returns-clause-bytes : goal.returns-clause-bytes
returns-clause-bytes c =
    let t = top_in c.args.self.now in
    let e : c.u32_at-length.result ≡ u32_of (view_in t c.args.row) 0 = c.u32_at-length.ensures ∙ ap (λ v. u32_of v 0) c.view-view.ensures.view in
    let n : c.u32_at.result ≡ u32_of (view_in t c.args.row) 8 = c.u32_at.ensures ∙ ap (λ v. u32_of v 8) c.view-view.ensures.view in
    let f : c.u32_at-2.result ≡ u32_of (view_in t c.args.row) 12 = c.u32_at-2.ensures ∙ ap (λ v. u32_of v 12) c.view-view.ensures.view in
    let l = c.requires.leads (lt-leb (u32_of (view_in t c.args.row) 0) 12 (omega (arith, e, c.if-length-le12.false))) in
    long_stands t c.args.row c.u32_at-length.result c.u32_at-2.result c.index-buffer.result.now e c.if-length-le12.false f
    (get_or_read t.buffers c.u32_at.result c.index-buffer.result.now (omega (arith, n, l.there)) c.index-buffer.ensures (record { at = 0; length = 0 }) ∙ ap (range_at t.buffers) n) l
