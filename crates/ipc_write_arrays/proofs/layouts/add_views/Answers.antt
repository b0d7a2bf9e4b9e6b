use Rattle.ipc_bodies.proofs.Adding.{appends_as, appends_then}
use Rattle.ipc_write_arrays.proofs.LayoutKinds.{views_same}
use Rattle.ipc_write_arrays.proofs.layouts.add_views.Goals as goal

pub returns : goal.returns
returns g c =
    let a = c.args.array.now in
    let r = c.add_held.result in
    appends_as r _ _ _ _ (views_same _ _ _ a.views _ a.buffers c.validity.ensures.bits c.views.ensures c.data_buffers.ensures)
    (appends_then r _ _ _ _ _ c.in_ok-add_validity.ensures (appends_then r _ _ _ _ _ c.in_ok-add_bytes.ensures c.add_held.ensures))
