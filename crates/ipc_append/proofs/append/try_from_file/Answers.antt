use Rattle.std.proofs.Common.{inl, subst, sym}
use Rattle.ipc_disk.specs.Disks.{IsWithin}
use Rattle.ipc_append.specs.Places.{HaveWidths}
use Rattle.ipc_append.proofs.Appending.{all_fail, lies_within}
use Rattle.ipc_append.proofs.GoingOn.{all_go_on}
use Rattle.ipc_append.proofs.append.try_from_file.Goals as goal

pub cut_behind-requires : goal.cut_behind-requires
cut_behind-requires g c =
    subst (λ o. IsWithin o c.in-Ok.file.place) (sym c.in-Ok.ensures.kept.content)
    (lies_within (g.D.Source.content c.args.disk) c.args.options c.args.metadata c.in-Ok.file.place c.requires.whole c.in-Ok.ensures.continued.is_cut)

pub returns-in-Ok-clause-err : goal.returns-in-Ok-clause-err
returns-in-Ok-clause-err g c =
    all_fail c.cut_behind.result (λ e. g.D.Source.content e.object) (λ e. g.D.Source.faults e.object) (λ e. e.error) (g.D.Source.content c.args.disk) _ c.args.options c.args.metadata (g.D.Source.faults c.args.disk) _ c.in-Ok.file.place c.in-Ok.file.core
    c.in-Ok.ensures.continued c.in-Ok.ensures.kept.content c.in-Ok.ensures.kept.faults c.cut_behind.ensures.kept c.cut_behind.ensures.error

pub returns-in-Err-clause-err : goal.returns-in-Err-clause-err
returns-in-Err-clause-err g c = inl (c.in-Err.ensures.err, c.in-Err.ensures.kept.content)

pub returns-in-Ok-clause-ok : goal.returns-in-Ok-clause-ok
returns-in-Ok-clause-ok g c =
    all_go_on c.cut_behind.result (λ w. g.D.Source.content w.sink.disk) (λ w. w.sink.end) (λ w. w.core) (g.D.Source.content c.args.disk) _ c.args.options c.args.metadata c.in-Ok.file.place c.in-Ok.file.core
    c.in-Ok.ensures.continued c.in-Ok.ensures.kept.content c.requires.whole (subst HaveWidths c.as_slice.ensures.value c.have_widths.ensures) (subst HaveWidths c.as_slice-2.ensures.value c.have_widths-2.ensures)
    c.cut_behind.ensures.core c.cut_behind.ensures.content c.cut_behind.ensures.end
