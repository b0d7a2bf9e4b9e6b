use Rattle.std.proofs.Common.{◌≡◌, false, refl, subst, arith}
use Rattle.arrow_spec.specs.Faults.{some_row}
use Rattle.arrow_buffers.proofs.Rows.{none_more}
use Rattle.view_types.specs.Tops.{top_in}
use Rattle.view_types.specs.Views.{rows_each, views}
use Rattle.ipc_view.specs.Unions.{AreTyped, is_misplaced, is_untyped}
use Rattle.ipc_view.proofs.Answered.{err_from}
use Rattle.ipc_view.proofs.UnionFaults.{row_refused, rows_fine}
use Rattle.ipc_view.proofs.unions.check_unions.Goals as goal

pub loop-row-init : goal.loop-row-init
loop-row-init c = record { typed = refl; placed = refl }

pub loop-row-preserved : goal.loop-row-preserved
loop-row-preserved c =
    let t = top_in c.args.parts.now in
    let ns = rows_each (views c.args.children.now) in
    let h = c.in_ok-check_row.ensures.gives.ok.1 in
    record { typed = none_more (is_untyped t) c.loop-row.row c.loop-row.invariant.typed h.typed; placed = none_more (is_misplaced t c.args.mode ns) c.loop-row.row c.loop-row.invariant.placed h.placed }

pub returns-in_err-check_row-clause-gives : goal.returns-in_err-check_row-clause-gives
returns-in_err-check_row-clause-gives c = err_from c.from_residual.result c.in_err-check_row.field-0.0 _ _ c.from_residual.ensures.0 c.from_residual.ensures.1
    (row_refused (top_in c.args.parts.now) c.args.mode (rows_each (views c.args.children.now)) c.loop-row.row c.in_err-check_row.field-0.0 c.loop-row-test.true c.in_err-check_row.ensures.gives.err)

pub returns-clause-gives : goal.returns-clause-gives
returns-clause-gives c =
    let t = top_in c.args.parts.now in
    let ns = rows_each (views c.args.children.now) in
    let all : c.loop-row.row ≡ t.rows = omega arith in
    let h : AreTyped t c.args.mode ns = record { typed = subst (λ n. some_row (is_untyped t) n ≡ false) all c.loop-row.invariant.typed; placed = subst (λ n. some_row (is_misplaced t c.args.mode ns) n ≡ false) all c.loop-row.invariant.placed } in
    record { ok = (rows_fine t c.args.mode ns h, h); err = tt }
