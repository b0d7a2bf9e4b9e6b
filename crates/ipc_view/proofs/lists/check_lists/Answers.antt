use Rattle.std.proofs.Common.{◌≡◌, true, false, sym, ap, ◌∙◌}
use Rattle.arrow_spec.specs.declared.error.IpcError.TheVariants.{OutOfSpec}
use Rattle.arrow_spec.specs.declared.error.OutOfSpecKind.TheVariants.{InvalidOffsets}
use Rattle.arrow_spec.proofs.Fewer.{cause-false}
use Rattle.ipc_read.proofs.Refusals.{among_cause}
use Rattle.view_types.specs.Tops.{top_in}
use Rattle.view_types.specs.Views.{order_of}
use Rattle.ipc_view.specs.Lists.{are_bad}
use Rattle.ipc_view.specs.Tests.{has_bad_offsets}
use Rattle.ipc_view.proofs.Answered.{is_bad, is_good}
use Rattle.ipc_view.proofs.lists.check_lists.Goals as goal

pub returns-then-not-offsets_fit-clause-gives : goal.returns-then-not-offsets_fit-clause-gives
returns-then-not-offsets_fit-clause-gives c =
    let t = top_in c.args.parts.now in
    let bad : are_bad t c.args.is_large c.args.most ≡ true = ap (λ b. has_bad_offsets b c.args.is_large (order_of t.is_big) t.rows c.args.most) (sym c.part_of-offsets.ensures.part) ∙ is_bad _ _ c.offsets_fit.ensures c.if-not-offsets_fit.true in
    record { ok = tt; err = among_cause (are_bad t c.args.is_large c.args.most) (OutOfSpec InvalidOffsets) bad }

pub returns-clause-gives : goal.returns-clause-gives
returns-clause-gives c =
    let t = top_in c.args.parts.now in
    let fine : are_bad t c.args.is_large c.args.most ≡ false = ap (λ b. has_bad_offsets b c.args.is_large (order_of t.is_big) t.rows c.args.most) (sym c.part_of-offsets.ensures.part) ∙ is_good _ _ c.offsets_fit.ensures c.if-not-offsets_fit.false in
    record { ok = (cause-false (are_bad t c.args.is_large c.args.most) (OutOfSpec InvalidOffsets) fine, fine); err = tt }
