use Rattle.std.proofs.Common.{◌≡◌, length, take, ap, ◌∙◌, subst, arith}
use Rattle.std.proofs.lemmas.List.{take_all}
use Rattle.std.specs.Str.{IsAscii}
use Rattle.arrow_buffers.proofs.TextViews.{ascii_from_mask}
use Rattle.ipc_view.proofs.text_views.is_ascii.Goals as goal

pub returns : goal.returns
returns c = λ t.
    let whole : take 16 c.args.view.now ≡ c.args.view.now = take_all 16 c.args.view.now (omega (arith, c.requires)) in
    subst IsAscii whole (ascii_from_mask (take 16 c.args.view.now) (ap length whole ∙ c.requires) t)
