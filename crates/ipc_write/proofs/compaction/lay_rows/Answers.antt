use Rattle.std.proofs.Common.{◌≡◌, ◌-◌, ◌+◌, suc, length, ap, sym, ◌∙◌, arith}
use Rattle.arrow_buffers.specs.Views.{view_rows}
use Rattle.ipc_write.specs.Laying.{all_laid}
use Rattle.ipc_write.proofs.Laying.{none_laid, ends_laid, few_ended}
use Rattle.ipc_write.proofs.compaction.lay_rows.Goals as goal

pub loop-row-init : goal.loop-row-init
loop-row-init g c = record {
  laid = none_laid c.args.array.now _ _ _ c.new.ensures.items c.new-2.ensures.items c.new-3.ensures.items;
  few = omega (arith, ap length c.new-2.ensures.items);
}

pub loop-row-preserved : goal.loop-row-preserved
loop-row-preserved g c =
    let p = c.args.array.now in
    let left : view_rows p.views - c.loop-row.row ≡ suc (view_rows p.views - (c.loop-row.row + 1)) = omega arith in
    record {
      laid = c.in_ok-lay_row.ensures.rest (view_rows p.views - (c.loop-row.row + 1)) ∙ ap (λ n. all_laid p c.loop-row.row n c.loop-row.laying.views.items c.loop-row.laying.buffers.items c.loop-row.laying.begun.items) (sym left) ∙ c.loop-row.invariant.laid;
      few = c.in_ok-lay_row.ensures.few c.loop-row.invariant.few;
    }

pub returns-clause-laid : goal.returns-clause-laid
returns-clause-laid g c = ends_laid c.end_laying.result c.args.array.now c.loop-row.row _ _ _ (omega arith) c.loop-row.invariant.laid c.end_laying.ensures.views c.end_laying.ensures.buffers

pub returns-clause-few : goal.returns-clause-few
returns-clause-few g c = few_ended c.end_laying.result c.loop-row.laying.begun.items c.loop-row.laying.buffers.items c.loop-row.invariant.few c.end_laying.ensures.buffers
