use Rattle.std.proofs.Common.{◌∙◌, sym, subst}
use Rattle.arrow_spec.specs.Readings.{Refuses}
use Rattle.arrow_spec.specs.Faults.{array_faults, view_count_faults}
use Rattle.ipc_read.proofs.Refusals.{refuses_left, refuses_right}
use Rattle.ipc_view.specs.Built.{batch_of, place_of}
use Rattle.ipc_view.proofs.Answered.{err_from}
use Rattle.ipc_view.proofs.NestedSeen.{flat_done, leaf_behind, leaf_counts}
use Rattle.ipc_view.proofs.batch.BatchTables.flat.Goals as goal

pub returns-in_err-view-clause-seen : goal.returns-in_err-view-clause-seen
returns-in_err-view-clause-seen c = λ k f is d shows. err_from c.from_residual.result c.in_err-view.field-0.0 _ _ c.from_residual.ensures.0 c.from_residual.ensures.1
    (refuses_left (array_faults (batch_of c.args.self.now) d k (place_of c.args.place) c.args.rows) (view_count_faults (batch_of c.args.self.now) k (place_of c.args.place)) c.in_err-view.field-0.0 (c.in_err-view.ensures.gives d k f is).err)

pub returns-in_err-buffers-clause-seen : goal.returns-in_err-buffers-clause-seen
returns-in_err-buffers-clause-seen c = λ k f is d shows.
    let m = batch_of c.args.self.now in
    let p = place_of c.args.place in
    err_from c.from_residual-in_err-buffers.result c.in_err-buffers.field-0.0 _ _ c.from_residual-in_err-buffers.ensures.0 c.from_residual-in_err-buffers.ensures.1
    (refuses_right (array_faults m d k p c.args.rows) (view_count_faults m k p) c.in_err-buffers.field-0.0
    (subst (λ es. Refuses c.in_err-buffers.field-0.0 es) (sym (leaf_counts m k c.args.layout p f is c.requires.place.views)) c.in_err-buffers.ensures.gives.err))

pub returns-clause-seen : goal.returns-clause-seen
returns-clause-seen c = λ k f is d shows.
    let m = batch_of c.args.self.now in
    let p = place_of c.args.place in
    let v = (c.in_ok-view.ensures.gives d k f is).ok in
    let n = c.in_ok-buffers.ensures.gives.ok in
    let done = flat_done m d k p _ c.args.rows c.in_ok-view.view v.0 (leaf_counts m k c.args.layout p f is c.requires.place.views ∙ n.0) v.1 (leaf_behind m k c.args.layout p _ _ f is n.1.0 n.1.1) in
    record { ok = done; err = tt }
