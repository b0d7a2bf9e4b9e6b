use Rattle.std.proofs.Common.{◌≤◌, ◌<◌, sym, ap, ◌∙◌, arith, ◌+◌, drop}
use Rattle.std.proofs.lemmas.List.{take_rest}
use Rattle.arrow_spec.specs.Arrays.{u32_of}
use Rattle.arrow_spec.specs.Faults.{all_zero}
use Rattle.arrow_buffers.proofs.Views.{short_good, long_good}
use Rattle.view_types.specs.Tops.{top_in}
use Rattle.ipc_view.specs.Layouts.{buffers_in}
use Rattle.ipc_view.proofs.views.is_good_view.Goals as goal

pub returns-then-length-le-SHORT : goal.returns-then-length-le-SHORT
returns-then-length-le-SHORT c =
    let short : u32_of c.args.view.now 0 ≤ 12 = omega (arith, c.number_at-length.ensures.number) in
    c.are_zeros.ensures ∙ ap all_zero (take_rest c.args.view.now (4 + c.number_at-length.result)) ∙ ap (λ n. all_zero (drop (4 + n) c.args.view.now)) c.number_at-length.ensures.number ∙ sym (short_good (buffers_in (top_in c.args.parts.now)) c.args.view.now short)

pub returns-else-length-le-SHORT : goal.returns-else-length-le-SHORT
returns-else-length-le-SHORT c =
    let long : 12 < u32_of c.args.view.now 0 = omega (arith, c.number_at-length.ensures.number) in
    c.leads_right.ensures ∙ sym (long_good (buffers_in (top_in c.args.parts.now)) c.args.view.now long)
