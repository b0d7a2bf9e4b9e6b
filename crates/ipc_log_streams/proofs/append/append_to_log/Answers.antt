use Rattle.std.proofs.Common.{◌∙◌, inl, inr, subst, sym, ⊎_elim}
use Rattle.std.specs.Prelude.{IfErr, IfSome, OnOk}
use Rattle.ipc_tablelog.specs.Below.{WasSaid}
use Rattle.ipc_log_streams.specs.Appends.{HasAppended, LogRefused, StopsAppend, batches_of, fields_of}
use Rattle.ipc_log_streams.proofs.Logs.{done_if, front_so, not_begun, stops_if}
use Rattle.ipc_log_streams.proofs.append.append_to_log.Goals as goal

pub log_of-requires : goal.log_of-requires
log_of-requires g c = record { said = subst WasSaid (sym c.deref.ensures) c.requires.said }

pub returns-in-Ok-clause-done : goal.returns-in-Ok-clause-done
returns-in-Ok-clause-done g c =
    let d = g.D.LogDisk in
    let s = c.args.stream.now in
    let l = c.in-Ok.log in
    let r = c.append_each-done.result in
    let old = d.content c.args.disk in
    subst (λ x. OnOk r (IfSome old (λ b. HasAppended b (fields_of s) (batches_of s) (d.content x) (d.images x)))) (sym c.into_inner.ensures)
    (done_if r old (d.content l.log.disk) _ (d.images l.log.disk) _ l.schema s c.in-Ok.ensures.begun c.append_each-done.ensures.done)

pub returns-in-Ok-clause-any_moment : goal.returns-in-Ok-clause-any_moment
returns-in-Ok-clause-any_moment g c = λ b x t told m since.
    let d = g.D.LogDisk in
    let s = c.args.stream.now in
    let l = c.in-Ok.log in
    let here = subst (λ z. d.images_since z (d.moment c.args.disk) x) c.into_inner.ensures since in
    ⊎_elim
    (λ before. inl (c.in-Ok.ensures.since b t told m x before))
    (λ now. inr (front_so (d.content c.args.disk) (d.content l.log.disk) (d.content c.args.disk) (d.images l.log.disk) (d.images l.log.disk) l.schema s c.in-Ok.ensures.begun b t x told m (λ u h. c.append_each-done.ensures.any_moment x u h now)))
    ((c.append_each-done.ensures.time.exact (d.moment c.args.disk) x c.in-Ok.ensures.time.later).0 here)

pub returns-in-Ok-clause-refused : goal.returns-in-Ok-clause-refused
returns-in-Ok-clause-refused g c =
    let d = g.D.LogDisk in
    let s = c.args.stream.now in
    let l = c.in-Ok.log in
    let r = c.append_each-done.result in
    let old = d.content c.args.disk in
    subst (λ x. IfErr r (λ e. StopsAppend e s old (d.content x) (d.faults c.args.disk) (d.faults x))) (sym c.into_inner.ensures)
    (stops_if r old (d.content l.log.disk) _ (d.images l.log.disk) l.schema s c.in-Ok.ensures.begun (d.faults c.args.disk) _ _ c.in-Ok.ensures.later c.requires.said (⊎_elim (λ own. inl (own ∙ c.deref.ensures)) (λ kept. inr kept) c.in-Ok.ensures.kept) c.append_each-done.ensures.refused)

pub returns-in-Err-clause-any_moment : goal.returns-in-Err-clause-any_moment
returns-in-Err-clause-any_moment g c = λ b x t told m since. inl (c.in-Err.ensures.since b t told m x since)

pub returns-in-Err-clause-refused : goal.returns-in-Err-clause-refused
returns-in-Err-clause-refused g c =
    let d = g.D.LogDisk in
    not_begun c.in-Err.refused.error c.args.stream.now (d.content c.args.disk) (d.content c.in-Err.refused.object) _ _ (subst (λ s. LogRefused c.in-Err.refused.error s (d.content c.args.disk) (d.content c.in-Err.refused.object) (d.faults c.args.disk) (d.faults c.in-Err.refused.object)) c.deref.ensures c.in-Err.ensures.refused)
