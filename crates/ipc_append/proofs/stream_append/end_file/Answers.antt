use Rattle.std.proofs.Common.{refl}
use Rattle.ipc_append.proofs.AppendSteps.{counts_of, ends_disk, faults_since, not_cut_off, stops_on_disk}
use Rattle.ipc_append.proofs.stream_append.end_file.Goals as goal

pub returns-in-Ok-clause-ends : goal.returns-in-Ok-clause-ends
returns-in-Ok-clause-ends g c =
    ends_disk _ _ _ _ _ _ _ _ _ _ c.args.chunks.now c.requires.whole c.cut_behind.result g.D.Source.content c.write_file-written.result _ c.in-Ok.is c.write_file-written.ensures.ends (rw c.into_inner-tail.ensures refl) c.cut_behind.ensures.content

pub returns-in-Ok-clause-stops : goal.returns-in-Ok-clause-stops
returns-in-Ok-clause-stops g c =
    not_cut_off _ _ _ _ _ _ _ _ _ _ c.args.chunks.now c.requires.whole c.cut_behind.result (λ e. g.D.Source.content e.object) (λ e. g.D.Source.faults e.object) (λ e. e.error) c.write_file-written.result _ _ c.in-Ok.is c.write_file-written.ensures.ends
    (rw c.into_inner-tail.ensures refl) (rw c.into_inner-tail.ensures refl) c.cut_behind.ensures.kept c.cut_behind.ensures.error c.cut_behind.ensures.rose

pub returns-in-Ok-clause-faults : goal.returns-in-Ok-clause-faults
returns-in-Ok-clause-faults g c =
    faults_since c.cut_behind.result g.D.Source.faults (λ e. g.D.Source.faults e.object) _ _ _ (counts_of _ c.write_file-written.result _ _ c.args.chunks.now c.write_file-written.ensures.ends) (rw c.into_inner-tail.ensures refl) c.cut_behind.ensures.faults

pub returns-in-Err-clause-stops : goal.returns-in-Err-clause-stops
returns-in-Err-clause-stops g c =
    stops_on_disk _ _ _ _ _ _ _ _ _ _ c.args.chunks.now c.requires.whole c.in-Err.error c.write_file-written.result _ _ c.in-Err.is c.write_file-written.ensures.ends (rw (c.into_inner.ensures, c.into_inner-tail.ensures) refl) (rw (c.into_inner.ensures, c.into_inner-tail.ensures) refl)
