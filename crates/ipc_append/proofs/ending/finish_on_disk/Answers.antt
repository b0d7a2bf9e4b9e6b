use Rattle.std.proofs.Common.{refl}
use Rattle.ipc_append.proofs.AppendSteps.{faults_since}
use Rattle.ipc_append.proofs.EndingSteps.{counts_at_end, ended_there, not_cut_there, not_ended_there}
use Rattle.ipc_append.proofs.ending.finish_on_disk.Goals as goal

pub returns-in-Ok-clause-ends : goal.returns-in-Ok-clause-ends
returns-in-Ok-clause-ends g c = ended_there _ _ _ _ _ _ _ _ _ _ c.cut_behind.result g.D.Source.content c.finish-finished.result _ c.in-Ok.is c.finish-finished.ensures.finishes (rw c.into_inner-tail.ensures refl) c.cut_behind.ensures.content

pub returns-in-Ok-clause-stops : goal.returns-in-Ok-clause-stops
returns-in-Ok-clause-stops g c =
    not_cut_there _ _ _ _ _ _ _ _ _ _ c.cut_behind.result (λ e. g.D.Source.content e.object) (λ e. g.D.Source.faults e.object) (λ e. e.error) c.finish-finished.result _ _ c.args.writer.sink.within c.in-Ok.is c.finish-finished.ensures.finishes (rw c.into_inner-tail.ensures refl) (rw c.into_inner-tail.ensures refl)
    c.cut_behind.ensures.kept c.cut_behind.ensures.error c.cut_behind.ensures.rose

pub returns-in-Ok-clause-faults : goal.returns-in-Ok-clause-faults
returns-in-Ok-clause-faults g c =
    faults_since c.cut_behind.result g.D.Source.faults (λ e. g.D.Source.faults e.object) _ _ _ (counts_at_end _ _ _ _ _ _ _ _ _ _ c.finish-finished.result c.finish-finished.ensures.finishes) (rw c.into_inner-tail.ensures refl) c.cut_behind.ensures.faults

pub returns-in-Err-clause-stops : goal.returns-in-Err-clause-stops
returns-in-Err-clause-stops g c =
    not_ended_there _ _ _ _ _ _ _ _ _ _ c.in-Err.error c.finish-finished.result _ _ c.args.writer.sink.within c.in-Err.is c.finish-finished.ensures.finishes (rw (c.into_inner.ensures, c.into_inner-tail.ensures) refl) (rw (c.into_inner.ensures, c.into_inner-tail.ensures) refl)
